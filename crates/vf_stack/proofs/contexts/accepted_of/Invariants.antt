use Rattle.std.proofs.Common.{◌≡◌, ◌++◌, drop}
use Rattle.vf_stack.specs.Contexts.{accepted_of}
use Rattle.vf_stack.proofs.contexts.accepted_of.Given as goal

abbrev pub invariant-loop-offer : goal.invariant-loop-offer
invariant-loop-offer l = accepted_of l.fn.offers ≡ l.made ++ accepted_of (drop l.offer-index l.fn.offers)
