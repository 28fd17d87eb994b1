use Rattle.std.proofs.Common.{◌≡◌, drop, map}
use Rattle.vf_upper.specs.Primitives.{offered, syntax_of}
use Rattle.vf_upper.proofs.negotiated.offered_syntax.Given as goal

abbrev pub invariant-loop-offer : goal.invariant-loop-offer
invariant-loop-offer l = syntax_of l.fn.id (map offered (drop l.offer-index l.fn.offers)) ≡ syntax_of l.fn.id (map offered l.fn.offers)
