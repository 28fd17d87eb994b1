use Rattle.std.proofs.Common.{arith}
use Rattle.vf_store_record.proofs.Again.{all_of_them, listed_writes, none_of_them, one_further, weaker}
use Rattle.vf_store_record.specs.Records.{change, change_spelled, changes}
use Rattle.vf_tables.specs.Fitting.{is_in_range}
use Rattle.vf_store_record.proofs.Ranges.{change_octet, taken_list}
use Rattle.vf_store_record.proofs.writing.changes.put_changes.Goals as goal

pub loop-change-init : goal.loop-change-init
loop-change-init c = none_of_them _ _ _

pub loop-change-preserved : goal.loop-change-preserved
loop-change-preserved c = one_further c.args.changes.now c.loop-change.change-index c.change-item.result (omega arith) c.change-item.is c.loop-change.invariant c.in_ok-put_change.ensures

pub returns : goal.returns
unfolding changes change
returns c = weaker (taken_list is_in_range change_spelled change_octet c.args.changes.now) (listed_writes c.in_ok-put_count.ensures (all_of_them c.args.changes.now c.loop-change.change-index (omega arith) c.loop-change.invariant))
