use Rattle.std.proofs.Common.{arith}
use Rattle.vf_base.specs.declared.action.Control.TheVariants.{NotRequired}
use Rattle.vf_store_record.proofs.Again.{all_of_them, always_all, none_of_them, one_at, repeated_writes, weaker}
use Rattle.vf_store_record.proofs.writing.regimes.put_each.Goals as goal

pub loop-control-init : goal.loop-control-init
loop-control-init c = none_of_them _ _ _

pub loop-control-preserved : goal.loop-control-preserved
loop-control-preserved c = one_at c.args.each.now c.loop-control.control-index NotRequired (omega arith) c.loop-control.invariant c.in_ok-put_control.ensures

pub returns : goal.returns
returns c = weaker (λ q. always_all c.args.each.now) (repeated_writes 8 c.requires (all_of_them c.args.each.now c.loop-control.control-index (omega arith) c.loop-control.invariant))
