use Rattle.std.proofs.Common.{Bool, List, ℕ, [], true, false, subst}
use Rattle.vf_cli_dialogue.specs.Conversation.{TakesReady}
use Rattle.vf_cli_printing.specs.Printed.{Wrote, WrotePrefix}
use Rattle.vf_cli_dialogue.proofs.LineLemmas.{interrupted_before, on_err, ready_interrupted, steps_ready}
use Rattle.vf_cli_dialogue.proofs.answering.take_ready.Goals as goal

pub returns-in_err-aborted-clause-interrupted : goal.returns-in_err-aborted-clause-interrupted
returns-in_err-aborted-clause-interrupted g c = on_err c.from_residual.result _ (λ state stands input. interrupted_before state _ input _)

pub returns-in_err-write_lines-clause-interrupted : goal.returns-in_err-write_lines-clause-interrupted
returns-in_err-write_lines-clause-interrupted g c = on_err c.from_residual-in_err-write_lines.result _ (λ state stands input.
    let old = g.O.Sink.taken c.args.out.now in
    let new = g.O.Sink.taken c.write_lines.new.out in
    let lines = c.take.new.replies.lines.items in
    let takes = subst (λ (l : List ℕ). TakesReady state c.args.conversation.now l lines c.take.new.self c.in_ok-aborted.aborted) c.clear.ensures.items
    (c.in_ok-aborted.ensures.takes state stands) in
    ready_interrupted state c.args.conversation.now old new c.in_ok-aborted.aborted lines c.take.new.self takes
    (subst (λ (l : List ℕ). WrotePrefix l old new) c.as_slice.ensures.value c.in_err-write_lines.ensures.prefix) input)

pub returns-then-aborted-clause-takes : goal.returns-then-aborted-clause-takes
returns-then-aborted-clause-takes g c = λ state stands input.
    let old = g.O.Sink.taken c.args.out.now in
    let new = g.O.Sink.taken c.write_lines.new.out in
    let lines = c.take.new.replies.lines.items in
    let takes = subst (λ (b : Bool). TakesReady state c.args.conversation.now [] lines c.take.new.self b) c.if-aborted.true
    (subst (λ (l : List ℕ). TakesReady state c.args.conversation.now l lines c.take.new.self c.in_ok-aborted.aborted) c.clear.ensures.items
    (c.in_ok-aborted.ensures.takes state stands)) in
    steps_ready state c.args.conversation.now old new true lines c.take.new.self takes
    (subst (λ (l : List ℕ). Wrote l old new) c.as_slice.ensures.value c.in_ok-write_lines.ensures.ok) input

pub returns-else-aborted-clause-takes : goal.returns-else-aborted-clause-takes
returns-else-aborted-clause-takes g c = λ state stands input.
    let old = g.O.Sink.taken c.args.out.now in
    let new = g.O.Sink.taken c.write_lines.new.out in
    let lines = c.take.new.replies.lines.items in
    let takes = subst (λ (b : Bool). TakesReady state c.args.conversation.now [] lines c.take.new.self b) c.if-aborted.false
    (subst (λ (l : List ℕ). TakesReady state c.args.conversation.now l lines c.take.new.self c.in_ok-aborted.aborted) c.clear.ensures.items
    (c.in_ok-aborted.ensures.takes state stands)) in
    steps_ready state c.args.conversation.now old new false lines c.take.new.self takes
    (subst (λ (l : List ℕ). Wrote l old new) c.as_slice.ensures.value c.in_ok-write_lines.ensures.ok) input
