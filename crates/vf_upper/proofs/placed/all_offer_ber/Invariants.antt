use Rattle.std.proofs.Common.{◌≡◌, drop}
use Rattle.std.specs.List.{list_all}
use Rattle.vf_upper.proofs.placed.all_offer_ber.Given as goal

abbrev pub invariant-loop-offer : goal.invariant-loop-offer
invariant-loop-offer l = list_all (λ offer. offer.ber) l.fn.offers ≡ list_all (λ offer. offer.ber) (drop l.offer-index l.fn.offers)
