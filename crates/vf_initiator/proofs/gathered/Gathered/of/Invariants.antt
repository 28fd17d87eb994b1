use Rattle.std.proofs.Common.{◌≡◌, [], take}
use Rattle.vf_initiator.proofs.gathered.Gathered.of.Given as goal

abbrev pub invariant-loop-piece : goal.invariant-loop-piece
invariant-loop-piece l = l.made ≡ record { pieces = take l.piece-index l.pieces; fresh = []; kept = [] }
