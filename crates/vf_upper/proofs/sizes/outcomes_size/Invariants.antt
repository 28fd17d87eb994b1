use Rattle.std.proofs.Common.{◌≡◌, drop, map}
use Rattle.std.specs.Prelude.{Some}
use Rattle.vf_upper.specs.Sizes.{all, outcome_size}
use Rattle.vf_upper.proofs.sizes.outcomes_size.Given as goal

abbrev pub invariant-loop-accepted : goal.invariant-loop-accepted
invariant-loop-accepted l = all l.total (map outcome_size (drop l.accepted-index l.fn.results)) ≡ all (Some 0) (map outcome_size l.fn.results)
