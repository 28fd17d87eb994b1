use Rattle.std.proofs.Common.{Some, ap}
use Rattle.vf_base.specs.declared.element.Element.{Element}
use Rattle.vf_store_record.specs.Entries.{octets_of, string_in, string_of}
use Rattle.vf_store_record.proofs.Again.{made_writes}
use Rattle.vf_store_record.proofs.writing.contents.put_string_of.Goals as goal

pub returns : goal.returns
unfolding string_in
returns c =
    made_writes (λ octets. Some (string_of c.args.contents.now octets)) octets_of c.args.element.now (λ q. q.short) (λ q. ap (λ (element : Element). Some element) q.made_again) c.in_ok-put_octets_of.ensures
