use Rattle.std.proofs.Common.{◌≡◌, drop}
use Rattle.std.specs.Cmp.Lexicographic.{pointwise}
use Rattle.vf_tree.specs.Same.{is_same_element}
use Rattle.vf_tree.proofs.same.is_same_unit.Given as goal

-- the elements so far are equal
abbrev pub invariant-loop-place : goal.invariant-loop-place
invariant-loop-place l = pointwise is_same_element l.unit l.other ≡ pointwise is_same_element (drop l.place l.unit) (drop l.place l.other)
