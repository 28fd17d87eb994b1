use Rattle.std.proofs.Common.{take}
use Rattle.vf_filestore.specs.HoldersOfRows.{HoldsRows}
use Rattle.vf_filestore.specs.Sound.{Begins}
use Rattle.vf_filestore.specs.State.{State}
use Rattle.vf_responder.proofs.opening.holders_of.Given as goal

-- those of the rows so far
abbrev pub invariant-loop-docket : goal.invariant-loop-docket
invariant-loop-docket l = (state : State) → Begins l.tables state → HoldsRows l.locks (take l.docket-index l.docket-items)
