use Rattle.std.proofs.Common.{Some, refl}
use Rattle.vf_store_record.specs.Entries.{stamps, stamps_from, stamps_parts}
use Rattle.vf_store_record.proofs.Again.{both_writes, made_writes}
use Rattle.vf_store_record.proofs.writing.files.put_stamps.Goals as goal

pub returns : goal.returns
unfolding stamps
returns c = made_writes (λ row. Some (stamps_from row)) stamps_parts (record { created = c.args.created.now; modified = c.args.modified.now; read = c.args.read.now; changed = c.args.changed.now }) (λ q. (tt, (tt, (tt, tt)))) (λ q. refl) (both_writes c.in_ok-put_stamp.ensures (both_writes c.in_ok-put_optional_stamp.ensures (both_writes c.in_ok-put_optional_stamp-2.ensures c.in_ok-put_optional_stamp-3.ensures)))
