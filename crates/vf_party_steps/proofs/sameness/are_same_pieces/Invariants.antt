use Rattle.std.proofs.Common.{◌≡◌, drop}
use Rattle.std.specs.Cmp.Lexicographic.{pointwise}
use Rattle.vf_party_steps.proofs.sameness.are_same_pieces.Given as goal
use Rattle.vf_tree.specs.Same.{is_same_unit}

-- the pieces so far are equal
abbrev pub invariant-loop-place : goal.invariant-loop-place
invariant-loop-place l = pointwise is_same_unit l.pieces l.others ≡ pointwise is_same_unit (drop l.place l.pieces) (drop l.place l.others)
