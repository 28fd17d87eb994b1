use Rattle.std.proofs.Common.{arith}
use Rattle.vf_store_record.specs.Entries.{units_in}
use Rattle.vf_store_record.proofs.Again.{all_of_them, listed_writes, none_of_them, one_further, moved, weaker}
use Rattle.vf_store_record.specs.Writing.{AreStrings}
use Rattle.vf_store_record.proofs.writing.contents.put_units.Goals as goal

pub loop-unit-init : goal.loop-unit-init
loop-unit-init c = none_of_them _ _ _

pub loop-unit-preserved : goal.loop-unit-preserved
loop-unit-preserved c = one_further c.args.units.now c.loop-unit.unit-index c.unit-item.result (omega arith) c.unit-item.is c.loop-unit.invariant (moved (AreStrings c.args.contents.now) c.as_slice.ensures c.in_ok-put_unit.ensures)

pub returns : goal.returns
unfolding units_in
returns c = weaker (λ q. (q.each, q.few)) (listed_writes c.in_ok-put_count.ensures (all_of_them c.args.units.now c.loop-unit.unit-index (omega arith) c.loop-unit.invariant))
