use Rattle.std.proofs.Common.{arith}
use Rattle.vf_ber.proofs.Lists.{fewer}
use Rattle.vf_ber.proofs.segments.+len.Goals as goal

pub total_len-segment_len-requires : goal.total_len-segment_len-requires
total_len-segment_len-requires t c =
    let less = fewer c.args.segments.now c.loop-segment.segment-index c.segment-item.result c.segment-item.is c.loop-segment-test.true in
    (omega arith, tt)
