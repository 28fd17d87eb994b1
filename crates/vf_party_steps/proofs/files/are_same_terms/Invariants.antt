use Rattle.std.proofs.Common.{◌≡◌, drop}
use Rattle.std.specs.Cmp.Lexicographic.{pointwise}
use Rattle.vf_attr.specs.Attributes.{is_same_term}
use Rattle.vf_party_steps.proofs.files.are_same_terms.Given as goal

-- the terms so far are equal
abbrev pub invariant-loop-place : goal.invariant-loop-place
invariant-loop-place l = pointwise is_same_term l.terms l.others ≡ pointwise is_same_term (drop l.place l.terms) (drop l.place l.others)
