use Rattle.std.proofs.Common.{◌≡◌, ◌++◌, drop}
use Rattle.vf_stack.specs.Requests.{results_of}
use Rattle.vf_stack.proofs.placing.results_of.Given as goal

abbrev pub invariant-loop-offer : goal.invariant-loop-offer
invariant-loop-offer l = results_of l.fn.offers ≡ l.made ++ results_of (drop l.offer-index l.fn.offers)
