use Rattle.std.proofs.Common.{◌≡◌, take}
use Rattle.vf_initiator.specs.Gathering.{by_marks}
use Rattle.vf_initiator.proofs.gathered.first_pieces.Given as goal

-- the pieces so far are copied
abbrev pub invariant-loop-place : goal.invariant-loop-place
invariant-loop-place l = l.made.items ≡ take l.place (by_marks 0 l.marks l.elements)
