use Rattle.std.proofs.Common.{◌≡◌, take}
use Rattle.vf_initiator.proofs.gathered.kept_pieces.Given as goal

-- the pieces so far are copied
abbrev pub invariant-loop-piece : goal.invariant-loop-piece
invariant-loop-piece l = l.made.items ≡ take l.piece-index l.aside
