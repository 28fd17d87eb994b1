use Rattle.std.proofs.Math.Facts.{Fits-lt-pow}
use Rattle.vf_store_record.specs.Fields.{number32}
use Rattle.vf_store_record.proofs.Again.{number32_writes}
use Rattle.vf_store_record.proofs.writing.fields.put_u32.Goals as goal

pub returns : goal.returns
unfolding number32
returns c = number32_writes c.args.number (Fits-lt-pow c.ranges.number) c.to_be_bytes.ensures c.in_ok-extend_from_slice.ensures.items
