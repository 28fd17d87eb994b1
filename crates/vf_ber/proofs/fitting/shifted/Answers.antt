use Rattle.std.proofs.Common.{◌≡◌, ◌/◌, ap, arith, sym, ◌∙◌}
use Rattle.vf_ber.specs.Steps.{shifted as shifted_of}
use Rattle.vf_ber.proofs.Digits.{shifted_step}
use Rattle.vf_ber.proofs.fitting.shifted.Goals as goal

pub loop-done-preserved : goal.loop-done-preserved
loop-done-preserved c = (omega arith, ap (λ n. n / 256) c.loop-done.invariant.1 ∙ sym (shifted_step c.loop-done.done c.args.n))

pub returns : goal.returns
returns c = let done : c.loop-done.done ≡ c.args.more = omega arith in c.loop-done.invariant.1 ∙ ap (λ k. shifted_of k c.args.n) done
