use Rattle.std.proofs.Common.{take}
use Rattle.vf_base.specs.declared.action.Control.{Control}
use Rattle.vf_store_record.specs.Fields.{control}
use Rattle.vf_store_record.specs.Writing.{Always}
use Rattle.vf_store_record.proofs.Again.{WritesEach}
use Rattle.vf_store_record.proofs.writing.regimes.put_each.Given as goal

-- those so far are written
abbrev pub invariant-loop-control : goal.invariant-loop-control
invariant-loop-control l = WritesEach control (λ (item : Control). Always) (take l.control-index l.each) l.initial.out.items l.out.items
