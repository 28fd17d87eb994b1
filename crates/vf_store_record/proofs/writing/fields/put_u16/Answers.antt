use Rattle.std.proofs.Math.Facts.{Fits-lt-pow}
use Rattle.vf_store_record.specs.Fields.{number16}
use Rattle.vf_store_record.proofs.Again.{number16_writes}
use Rattle.vf_store_record.proofs.writing.fields.put_u16.Goals as goal

pub returns : goal.returns
unfolding number16
returns c = number16_writes c.args.number (Fits-lt-pow c.ranges.number) c.to_be_bytes.ensures c.in_ok-extend_from_slice.ensures.items
