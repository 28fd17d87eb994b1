use Rattle.std.proofs.Common.{refl}
use Rattle.vf_store_record.proofs.Again.{count_put}
use Rattle.vf_store_record.proofs.writing.fields.put_count.Goals as goal

pub returns : goal.returns
returns c = count_put _ _ _ _ c.args.count c.to_be_bytes.ensures refl c.in_ok-extend_from_slice.ensures.items
