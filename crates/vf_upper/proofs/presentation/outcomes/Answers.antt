use Rattle.std.proofs.Common.{false, true}
use Rattle.vf_upper.specs.Written.{outcome}
use Rattle.vf_upper.proofs.Lists.{trees-take_or}
use Rattle.vf_upper.proofs.presentation.outcomes.Goals as goal

pub loop-accepted-preserved : goal.loop-accepted-preserved
loop-accepted-preserved c =
    let no = trees-take_or outcome c.args.results.now c.loop-accepted.accepted-index false c.loop-accepted-test.true in
    let yes = trees-take_or outcome c.args.results.now c.loop-accepted.accepted-index true c.loop-accepted-test.true in
    let made = c.in_ok-part.ensures in
    let pushed = c.in_ok-push.ensures.ok in
    cc (c.loop-accepted.invariant)
