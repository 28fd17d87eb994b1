use Rattle.std.proofs.Common.{arith}
use Rattle.vf_ber.proofs.Lists.{fewer}
use Rattle.vf_ber.proofs.segments.+append.Goals as goal

pub append_segments-append_segment-requires : goal.append_segments-append_segment-requires
append_segments-append_segment-requires t c =
    let less = fewer c.args.segments.now c.loop-segment.segment-index c.segment-item.result c.segment-item.is c.loop-segment-test.true in
    (omega arith, tt)
