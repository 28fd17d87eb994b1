use Rattle.std.proofs.Math.Facts.{Fits-lt-pow}
use Rattle.vf_store_record.specs.Fields.{number64}
use Rattle.vf_store_record.proofs.Again.{number64_writes}
use Rattle.vf_store_record.proofs.writing.fields.put_u64.Goals as goal

pub returns : goal.returns
unfolding number64
returns c = number64_writes c.args.number (Fits-lt-pow c.ranges.number) c.to_be_bytes.ensures c.in_ok-extend_from_slice.ensures.items
