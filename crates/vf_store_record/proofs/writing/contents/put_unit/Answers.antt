use Rattle.std.proofs.Common.{arith}
use Rattle.vf_store_record.specs.Entries.{unit_in}
use Rattle.vf_store_record.proofs.Again.{all_of_them, listed_writes, none_of_them, one_further, weaker}
use Rattle.vf_store_record.proofs.writing.contents.put_unit.Goals as goal

pub loop-element-init : goal.loop-element-init
loop-element-init c = none_of_them _ _ _

pub loop-element-preserved : goal.loop-element-preserved
loop-element-preserved c = one_further c.args.unit.now c.loop-element.element-index c.element-item.result (omega arith) c.element-item.is c.loop-element.invariant c.in_ok-put_string_of.ensures

pub returns : goal.returns
unfolding unit_in
returns c = weaker (λ q. (q.each, q.few)) (listed_writes c.in_ok-put_count.ensures (all_of_them c.args.unit.now c.loop-element.element-index (omega arith) c.loop-element.invariant))
