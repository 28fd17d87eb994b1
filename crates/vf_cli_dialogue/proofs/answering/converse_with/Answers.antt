use Rattle.std.proofs.Common.{ℕ, Option, subst, arith}
use Rattle.vf_filestore.specs.State.{State}
use Rattle.vf_cli_dialogue.specs.Conversation.{Goes, Stands, Steps, left_of, octets_in}
use Rattle.vf_cli_dialogue.specs.Reader.{will_say}
use Rattle.vf_cli_dialogue.proofs.LineLemmas.{on_err}
use Rattle.vf_cli_dialogue.proofs.TopLemmas.{prints_all, prints_prefix, so_far_begins, so_far_ends, so_far_goes, so_far_stops}
use Rattle.vf_cli_dialogue.proofs.answering.converse_with.Goals as goal

pub steps-init : goal.steps-init
steps-init g c = record {
  input_falls = omega arith;
  out_falls = omega arith;
  goes = so_far_begins c.args.conversation.now _ _ c.requires.stands;
}

pub steps-preserved : goal.steps-preserved
steps-preserved g c =
    let now = will_say c.steps.reader (g.I.Source.left c.steps.input) in
    let later = will_say c.take_step.new.reader (g.I.Source.left c.take_step.new.input) in
    let between = g.O.Sink.taken c.steps.out in
    let new = g.O.Sink.taken c.take_step.new.out in
    let takes = subst (λ (step : Option ℕ). (state : State) → Stands c.steps.conversation state
    → Steps state (octets_in c.steps.conversation.stream) now later between new c.take_step.new.conversation step) c.in_default.is c.in_ok-step.ensures.takes in
    record {
      input_falls = omega (arith, c.steps.invariant.input_falls, c.in_ok-step.ensures.input_falls);
      out_falls = omega (arith, c.steps.invariant.out_falls, c.in_ok-step.ensures.out_falls);
      goes = so_far_goes _ _ now _ between new c.steps.conversation c.steps.invariant.goes later c.take_step.new.conversation takes;
    }

pub returns-in-Some-clause-ends : goal.returns-in-Some-clause-ends
returns-in-Some-clause-ends g c =
    let now = will_say c.steps.reader (g.I.Source.left c.steps.input) in
    let later = will_say c.take_step.new.reader (g.I.Source.left c.take_step.new.input) in
    let between = g.O.Sink.taken c.steps.out in
    let new = g.O.Sink.taken c.take_step.new.out in
    let takes = subst (λ (step : Option ℕ). (state : State) → Stands c.steps.conversation state
    → Steps state (octets_in c.steps.conversation.stream) now later between new c.take_step.new.conversation step) c.in-Some.is c.in_ok-step.ensures.takes in
    let ends = so_far_ends _ _ now _ between new c.steps.conversation c.steps.invariant.goes later c.take_step.new.conversation c.in-Some.status takes in
    (ends.3, prints_all _ _ c.requires.reader c.requires.none _ new (g.I.Source.left c.args.input.now) ends.0 c.in-Some.status ends.1 ends.2)

pub returns-in_err-step-clause-interrupted : goal.returns-in_err-step-clause-interrupted
returns-in_err-step-clause-interrupted g c =
    on_err c.from_residual.result _
    (prints_prefix _ _ c.requires.reader c.requires.none _ _ (g.I.Source.left c.args.input.now)
    (so_far_stops _ _ _ _ _ _ c.steps.conversation c.steps.invariant.goes c.in_err-step.ensures.interrupted))

pub steps-smaller : goal.steps-smaller
steps-smaller g c =
    subst (λ (step : Option ℕ). Goes (left_of c.steps.reader c.steps.conversation) (left_of c.take_step.new.reader c.take_step.new.conversation) step)
    c.in_default.is c.in_ok-step.ensures.goes
