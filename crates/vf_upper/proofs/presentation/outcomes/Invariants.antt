use Rattle.std.proofs.Common.{◌≡◌, map, take}
use Rattle.vf_upper.specs.Written.{outcome, trees}
use Rattle.vf_upper.proofs.presentation.outcomes.Given as goal

abbrev pub invariant-loop-accepted : goal.invariant-loop-accepted
invariant-loop-accepted l = l.parts ≡ trees (map outcome (take l.accepted-index l.results))
