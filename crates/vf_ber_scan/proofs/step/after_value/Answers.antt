use Rattle.std.proofs.Common.{◌∙◌, sym}
use Rattle.vf_ber_scan.proofs.StepLemmas.{none_left, all_ended}
use Rattle.vf_ber_scan.proofs.step.after_value.Goals as goal

pub loop-frame-preserved : goal.loop-frame-preserved
loop-frame-preserved c = λ more.
    c.loop-frame.invariant more
    ∙ none_left c.loop-frame.frames c.pop.new.self c.in-Some.frame c.in-Definite.left more (sym c.top.ensures ∙ c.in-Some.is) c.in-Definite.is c.if-left-gt0.false c.pop.ensures

pub returns : goal.returns
returns c = record { goes = λ more. c.loop-frame.invariant more ∙ all_ended c.loop-frame.frames more (sym c.top.ensures ∙ c.in_default.is); is_open = tt }
