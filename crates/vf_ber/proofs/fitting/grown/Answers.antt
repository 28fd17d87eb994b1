use Rattle.std.proofs.Common.{◌*◌, ◌-◌, arith, sym, ◌∙◌}
use Rattle.vf_ber.proofs.Digits.{grown_step, grown_le}
use Rattle.vf_ber.proofs.fitting.grown.Goals as goal

pub overflow_mul-all : goal.overflow_mul-all
overflow_mul-all c =
    let step = grown_step c.loop-others.others c.loop-others.all (omega arith) in
    let le = grown_le (c.loop-others.others - 1) (256 * c.loop-others.all) in
    omega (arith, step, le, c.loop-others.invariant, c.requires)

pub loop-others-preserved : goal.loop-others-preserved
loop-others-preserved c = sym (grown_step c.loop-others.others c.loop-others.all (omega arith)) ∙ c.loop-others.invariant
