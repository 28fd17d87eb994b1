use Rattle.std.proofs.Common.{arith}
use Rattle.vf_store_record.proofs.Again.{all_of_them, listed_writes, none_of_them, one_further, weaker}
use Rattle.vf_store_record.specs.Entries.{element, element_spelled, elements}
use Rattle.vf_tables.specs.Fitting.{is_sayable}
use Rattle.vf_store_record.proofs.Ranges.{element_octet, taken_list}
use Rattle.vf_store_record.proofs.writing.elements.put_elements.Goals as goal

pub loop-element-init : goal.loop-element-init
loop-element-init c = none_of_them _ _ _

pub loop-element-preserved : goal.loop-element-preserved
loop-element-preserved c = one_further c.args.elements.now c.loop-element.element-index c.element-item.result (omega arith) c.element-item.is c.loop-element.invariant c.in_ok-put_element.ensures

pub returns : goal.returns
unfolding elements element
returns c = weaker (taken_list is_sayable element_spelled element_octet c.args.elements.now) (listed_writes c.in_ok-put_count.ensures (all_of_them c.args.elements.now c.loop-element.element-index (omega arith) c.loop-element.invariant))
