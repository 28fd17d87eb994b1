use Rattle.std.proofs.Common.{◌≡◌, ◌++◌, [], drop, take}
use Rattle.vf_stack.specs.Contexts.{counted_after}
use Rattle.vf_stack.specs.Represents.{AreMet}
use Rattle.vf_stack.proofs.ContextLemmas.{ids_of}
use Rattle.vf_stack.proofs.contexts.all_counted.Given as goal

abbrev pub invariant-loop-offer : goal.invariant-loop-offer
invariant-loop-offer l =
    AreMet l.ids (ids_of (take l.offer-index l.fn.offers))
    × (counted_after [] l.fn.offers ≡ l.made ++ counted_after (ids_of (take l.offer-index l.fn.offers)) (drop l.offer-index l.fn.offers))
