use Rattle.std.proofs.Common.{arith, length}
use Rattle.vf_disk.proofs.Joins.{first_short, next_short}
use Rattle.vf_disk.proofs.file_rows.write_rows.Goals as goal

pub loop-part-init : goal.loop-part-init
loop-part-init c = first_short _ _ _ _ _ _ c.octets.invariant.0 c.as_slice-strings.ensures.value c.as_slice-rest.ensures.value

pub split_at-requires : goal.split_at-requires
split_at-requires c = omega (arith, next_short c.as_slice-strings.result.now c.loop-part.part-index c.part-item.result (length c.loop-part.rest.now) (omega arith) c.part-item.is c.loop-part.invariant)

pub loop-part-preserved : goal.loop-part-preserved
loop-part-preserved c = omega (arith, next_short c.as_slice-strings.result.now c.loop-part.part-index c.part-item.result (length c.loop-part.rest.now) (omega arith) c.part-item.is c.loop-part.invariant, c.split_at.ensures.back_len)
