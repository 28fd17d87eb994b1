use Rattle.std.proofs.Common.{◌≡◌, drop, map}
use Rattle.std.specs.Prelude.{Some}
use Rattle.vf_upper.specs.Sizes.{all, proposal_size}
use Rattle.vf_upper.proofs.sizes.proposals_size.Given as goal

abbrev pub invariant-loop-offer : goal.invariant-loop-offer
invariant-loop-offer l = all l.total (map proposal_size (drop l.offer-index l.fn.offers)) ≡ all (Some 0) (map proposal_size l.fn.offers)
