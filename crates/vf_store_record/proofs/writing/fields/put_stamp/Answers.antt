use Rattle.std.proofs.Common.{Some, refl}
use Rattle.vf_store_record.specs.Fields.{stamp, stamp_from, stamp_parts}
use Rattle.vf_store_record.proofs.Again.{both_writes, made_writes}
use Rattle.vf_store_record.proofs.writing.fields.put_stamp.Goals as goal

pub returns : goal.returns
unfolding stamp
returns c = made_writes (λ row. Some (stamp_from row)) stamp_parts c.args.stamp.now (λ q. (tt, tt)) (λ q. refl) (both_writes c.in_ok-put_moment.ensures c.in_ok-put_name.ensures)
