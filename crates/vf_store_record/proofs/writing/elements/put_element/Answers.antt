use Rattle.std.proofs.Common.{refl}
use Rattle.vf_store_record.specs.Entries.{descriptor_of, element}
use Rattle.vf_base.specs.declared.element.Element.TheVariants.{Binary, Text}
use Rattle.vf_store_record.proofs.Again.{tagged}
use Rattle.vf_store_record.proofs.Ranges.{binary_short, text_after, text_short_in}
use Rattle.vf_store_record.proofs.writing.elements.put_element.Goals as goal

pub returns-in_ok-put_descriptor-in-Descriptor : goal.returns-in_ok-put_descriptor-in-Descriptor
unfolding element
returns-in_ok-put_descriptor-in-Descriptor c = rw c.in-Descriptor.is (tagged element 0 descriptor_of (λ q. tt) refl (λ q octets. refl) c.in_ok-put_octet-in-Descriptor.ensures c.in_ok-put_descriptor-in-Descriptor.ensures)

pub returns-in_ok-put_octet-in-Enter : goal.returns-in_ok-put_octet-in-Enter
unfolding element
returns-in_ok-put_octet-in-Enter c = rw c.in-Enter.is (record { octets = c.in_ok-put_octet-in-Enter.ensures.octets; again = λ q rest. refl })

pub returns-in_ok-put_octet-in-Exit : goal.returns-in_ok-put_octet-in-Exit
unfolding element
returns-in_ok-put_octet-in-Exit c = rw c.in-Exit.is (record { octets = c.in_ok-put_octet-in-Exit.ensures.octets; again = λ q rest. refl })

pub returns-in_ok-put_string-in-Text : goal.returns-in_ok-put_string-in-Text
unfolding element
returns-in_ok-put_string-in-Text c =
    rw c.in-Text.is (tagged element c.in-Text.class (Text c.in-Text.class) (text_short_in c.in-Text.class c.in-Text.octets) refl (λ q octets. text_after c.in-Text.class q.in_range octets) c.in_ok-put_octet-in-Text.ensures c.in_ok-put_string-in-Text.ensures)

pub returns-in_ok-put_string-in-Binary : goal.returns-in_ok-put_string-in-Binary
unfolding element
returns-in_ok-put_string-in-Binary c =
    rw c.in-Binary.is (tagged element 4 Binary (binary_short c.in-Binary.octets) refl (λ q octets. refl) c.in_ok-put_octet-in-Binary.ensures c.in_ok-put_string-in-Binary.ensures)
