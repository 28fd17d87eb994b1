use Rattle.std.proofs.Common.{◌≡◌, drop}
use Rattle.std.specs.Cmp.Lexicographic.{pointwise}
use Rattle.vf_tree.specs.Same.{is_same_unit}
use Rattle.vf_tree.proofs.same.are_same.Given as goal

-- the units so far are equal
abbrev pub invariant-loop-place : goal.invariant-loop-place
invariant-loop-place l = pointwise is_same_unit l.units l.others ≡ pointwise is_same_unit (drop l.place l.units) (drop l.place l.others)
