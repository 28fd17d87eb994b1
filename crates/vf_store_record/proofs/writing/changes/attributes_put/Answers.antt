use Rattle.std.proofs.Common.{refl}
use Rattle.vf_store_record.specs.Records.{change, renaming}
use Rattle.vf_store_record.proofs.Again.{tagged, both_writes}
use Rattle.vf_tables.specs.declared.change.Change.TheVariants.{PutAttributes}
use Rattle.std.proofs.Common.{ℕ, List}
use Rattle.vf_attr.specs.declared.attributes.Attributes.{Attributes}
use Rattle.vf_store_record.proofs.Changed.{attributes_taken}
use Rattle.vf_store_record.proofs.writing.changes.attributes_put.Goals as goal

pub returns : goal.returns
unfolding change renaming
returns c = tagged change 3 (λ (found : List ℕ × (List ℕ × Attributes)). PutAttributes found.0 found.1.0 found.1.1) (λ q. (tt, (tt, attributes_taken c.args.old.now c.args.name.now c.args.attributes.now q))) refl (λ q octets. refl) c.in_ok-put_octet.ensures (both_writes c.in_ok-put_name.ensures (both_writes c.in_ok-put_name-2.ensures c.in_ok-put_attributes.ensures))
