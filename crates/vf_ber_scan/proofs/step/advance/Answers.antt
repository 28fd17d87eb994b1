use Rattle.std.proofs.Common.{◌≡◌, ◌∙◌, ap, take, arith}
use Rattle.vf_ber_scan.specs.Continuation.{progress_at}
use Rattle.vf_ber_scan.proofs.StepLemmas.{contents_go_on, none_wants, one_octet}
use Rattle.vf_ber_scan.proofs.step.advance.Goals as goal

pub returns-in_default : goal.returns-in_default
returns-in_default c = record {
  some = omega arith;
  within = omega (arith, c.requires.some);
  short = λ m lt. let none : m ≡ 0 = omega arith in ap (λ k. progress_at c.args.place c.args.frames.now (take k c.args.rest.now)) none ∙ none_wants c.args.place c.args.frames.now c.requires.is_open;
  leads = one_octet c.args.place c.args.frames.now c.after_octet.new.frames c.args.rest.now c.after_octet.result c.requires.some c.after_octet.ensures;
}

pub returns-then-rest-left-clause-leads : goal.returns-then-rest-left-clause-leads
returns-then-rest-left-clause-leads c = contents_go_on c.args.place c.in-Contents.left c.args.frames.now c.args.rest.now c.in-Contents.is c.if-rest-left.true
