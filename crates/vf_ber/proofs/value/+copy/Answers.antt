use Rattle.std.proofs.Common.{ap, arith}
use Rattle.vf_ber.specs.Tree.{nodes_in}
use Rattle.vf_ber.proofs.Lists.{fewer, take_one}
use Rattle.vf_ber.proofs.value.+copy.Goals as goal

pub Values::copy-copy-requires : goal.Values::copy-copy-requires
Values::copy-copy-requires t c =
    let less = fewer c.as_slice-value-items.result.now c.loop-value.value-index c.value-item.result c.value-item.is c.loop-value-test.true in
    let same = ap nodes_in c.as_slice-value-items.ensures.values in
    (omega arith, tt)

pub Values::copy-loop-value-preserved : goal.Values::copy-loop-value-preserved
Values::copy-loop-value-preserved t c =
    let one = take_one c.as_slice-value-items.result.now c.loop-value.value-index c.value-item.result c.value-item.is c.loop-value-test.true in
    let copied = c.in_ok-value.ensures in
    let pushed = c.in_ok-push.ensures.ok in
    cc (c.loop-value.invariant)
