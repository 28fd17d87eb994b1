use Rattle.std.proofs.Common.{◌≡◌, map, take}
use Rattle.vf_upper.specs.Written.{proposal, trees}
use Rattle.vf_upper.proofs.presentation.proposals.Given as goal

abbrev pub invariant-loop-offer : goal.invariant-loop-offer
invariant-loop-offer l = l.parts ≡ trees (map proposal (take l.offer-index l.offers))
