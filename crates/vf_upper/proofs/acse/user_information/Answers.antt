use Rattle.vf_upper.specs.Carried.{carried_of}
use Rattle.vf_upper.specs.Written.{external}
use Rattle.vf_upper.proofs.Lists.{trees-take_seen}
use Rattle.vf_upper.proofs.acse.user_information.Goals as goal

pub loop-value-preserved : goal.loop-value-preserved
loop-value-preserved c =
    let one = trees-take_seen carried_of external c.as_slice-value-items.result.now c.loop-value.value-index c.value-item.result c.value-item.is c.loop-value-test.true in
    let made = c.in_ok-part.ensures in
    let pushed = c.in_ok-push.ensures.ok in
    cc (c.loop-value.invariant)
