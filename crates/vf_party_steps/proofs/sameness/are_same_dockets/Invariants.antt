use Rattle.std.proofs.Common.{◌≡◌, drop}
use Rattle.std.specs.Cmp.Lexicographic.{pointwise}
use Rattle.vf_party_steps.proofs.sameness.are_same_dockets.Given as goal
use Rattle.vf_party_steps.specs.Sameness.{is_same_docket}

-- the dockets so far are equal
abbrev pub invariant-loop-place : goal.invariant-loop-place
invariant-loop-place l = pointwise is_same_docket l.dockets l.others ≡ pointwise is_same_docket (drop l.place l.dockets) (drop l.place l.others)
