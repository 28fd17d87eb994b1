use Rattle.std.proofs.Common.{arith, ◌-◌, ap, length}
use Rattle.vf_ber.proofs.Lists.{fewer, spells-one}
use Rattle.vf_ber.proofs.writing.+put.Goals as goal

pub put_values-put_value-start-requires : goal.put_values-put_value-start-requires
put_values-put_value-start-requires t c =
    let less = fewer c.args.parts.now (c.loop-i.i - 1) c.index-parts-i.result c.index-parts-i.is (omega arith) in
    let long = spells-one c.args.parts.now c.loop-i.i c.index-parts-i.result c.index-parts-i.is (omega arith) (omega arith) in
    (omega arith, (omega (arith, long), (omega (arith, long), omega (arith, ap length c.loop-i.invariant.1))))
