use Rattle.std.proofs.Common.{Some, refl}
use Rattle.vf_store_record.specs.Entries.{attributes, attributes_from, attributes_parts}
use Rattle.vf_store_record.proofs.Again.{both_writes, made_writes}
use Rattle.vf_attr.specs.Attributes.{attributes_of}
use Rattle.vf_store_record.proofs.writing.files.put_attributes_of.Goals as goal

pub returns : goal.returns
unfolding attributes
returns c = made_writes (λ row. Some (attributes_from row)) attributes_parts (attributes_of c.args.file.now) (λ q. (q, (tt, tt))) (λ q. refl) (both_writes c.in_ok-put_settings.ensures (both_writes c.in_ok-put_stamps.ensures c.in_ok-put_u32.ensures))
