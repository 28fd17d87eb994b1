use Rattle.std.proofs.Common.{FitsSigned, rules, w64, ◌<◌, [], ◌∷◌, ◌++◌, length, take, ap, ◌∙◌, arith}
use Rattle.std.proofs.lemmas.Grind.{common_steps}
use Rattle.std.proofs.lemmas.Int.{to_z-of_z}
use Rattle.vf_stack.proofs.ContextLemmas.{counted-onward, ids_of}
use Rattle.vf_stack.proofs.contexts.all_counted.Goals as goal
use Rattle.vf_upper.specs.declared.contexts.Offer.{Offer}

pub loop-offer-preserved : goal.loop-offer-preserved
loop-offer-preserved c =
    let all = c.args.offers.now in
    let i = c.loop-offer.offer-index in
    let within : i < length all = grind (arith, common_steps) in
    let fits : FitsSigned w64 c.offer-item.result.id = search rules in
    let met = simp to_z-of_z at (c.in_ok-is_first.ensures (ids_of (take i all)) c.loop-offer.invariant.0) in
    counted-onward all i c.offer-item.result c.meet.new.ids c.loop-offer.made c.push.new.self c.in_ok-is_first.is_first within c.offer-item.is met.0 met.1 c.loop-offer.invariant.1
    (c.in_ok-push.ensures.ok ∙ ap (λ (o : Offer). c.loop-offer.made ++ o ∷ []) c.in_ok-proposal.ensures)
