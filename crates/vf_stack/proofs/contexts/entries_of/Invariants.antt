use Rattle.std.proofs.Common.{◌≡◌, ◌++◌, drop}
use Rattle.vf_stack.specs.Contexts.{entries}
use Rattle.vf_stack.proofs.contexts.entries_of.Given as goal

abbrev pub invariant-loop-offer : goal.invariant-loop-offer
invariant-loop-offer l = entries l.fn.offers ≡ l.made ++ entries (drop l.offer-index l.fn.offers)
