use Rattle.vf_upper.specs.Written.{proposal}
use Rattle.vf_upper.proofs.Lists.{trees-take}
use Rattle.vf_upper.proofs.presentation.proposals.Goals as goal

pub loop-offer-preserved : goal.loop-offer-preserved
loop-offer-preserved c =
    let one = trees-take proposal c.args.offers.now c.loop-offer.offer-index c.offer-item.result c.offer-item.is c.loop-offer-test.true in
    let made = c.in_ok-part.ensures in
    let pushed = c.in_ok-push.ensures.ok in
    cc (c.loop-offer.invariant)
