use Rattle.std.proofs.Common.{[], take}
use Rattle.vf_party_steps.specs.Recoveries.{IsFilled}
use Rattle.vf_party_steps.proofs.recovered_write.refilled.Given as goal

-- the pieces so far are taken
abbrev pub invariant-loop-piece : goal.invariant-loop-piece
invariant-loop-piece l = IsFilled l.received (take l.piece-index l.pieces) []
