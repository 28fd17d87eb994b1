use Rattle.std.proofs.Common.{Ok, arith, subst}
use Rattle.vf_cli_dialogue.specs.declared.lines.NextLine.{NextLine}
use Rattle.vf_cli_dialogue.specs.Reader.{Answers, Progresses, will_say}
use Rattle.vf_cli_dialogue.proofs.LineLemmas.{bad_interrupted, interrupted_before, on_err, steps_bad, steps_end, steps_piece}
use Rattle.vf_cli_dialogue.proofs.answering.take_line.Goals as goal

pub returns-in_err-next_line-clause-interrupted : goal.returns-in_err-next_line-clause-interrupted
returns-in_err-next_line-clause-interrupted g c = on_err c.from_residual.result _ (λ state stands. interrupted_before state _ _ _)

pub returns-in_err-add-in-Piece-clause-interrupted : goal.returns-in_err-add-in-Piece-clause-interrupted
returns-in_err-add-in-Piece-clause-interrupted g c = on_err c.from_residual-in_err-add-in-Piece.result _ (λ state stands. interrupted_before state _ _ _)

pub returns-in_err-write_bad_line-in-Bad-clause-interrupted : goal.returns-in_err-write_bad_line-in-Bad-clause-interrupted
returns-in_err-write_bad_line-in-Bad-clause-interrupted g c = on_err c.from_residual-in_err-write_bad_line-in-Bad.result _ (λ state stands.
    let old_input = will_say c.args.reader.now (g.I.Source.left c.args.input.now) in
    let new_input = will_say c.next_line.new.reader (g.I.Source.left c.next_line.new.input) in
    let piece = c.next_line.new.piece.items in
    let answers = subst (λ (next : NextLine). Answers old_input new_input piece (Ok next)) c.in-Bad.is c.in_ok-next_line.ensures.answers in
    bad_interrupted state c.args.conversation.now (g.O.Sink.taken c.args.out.now) old_input new_input c.requires stands c.in-Bad.number piece _ answers
    c.in_err-write_bad_line-in-Bad.ensures.prefix)

pub returns-in_ok-add-in-Piece-clause-takes : goal.returns-in_ok-add-in-Piece-clause-takes
returns-in_ok-add-in-Piece-clause-takes g c = λ state stands.
    let old_input = will_say c.args.reader.now (g.I.Source.left c.args.input.now) in
    let new_input = will_say c.next_line.new.reader (g.I.Source.left c.next_line.new.input) in
    let piece = c.next_line.new.piece.items in
    let answers = subst (λ (next : NextLine). Answers old_input new_input piece (Ok next)) c.in-Piece.is c.in_ok-next_line.ensures.answers in
    steps_piece state c.args.conversation.now (g.O.Sink.taken c.args.out.now) old_input new_input piece c.add.new.self answers
    (c.in_ok-add-in-Piece.ensures.adds state stands)

pub returns-in_ok-add-in-Piece-clause-goes : goal.returns-in_ok-add-in-Piece-clause-goes
returns-in_ok-add-in-Piece-clause-goes g c =
    let progress = subst (λ (next : NextLine). Progresses c.args.reader.now.count c.next_line.new.reader.count c.next_line.new.piece.items next)
    c.in-Piece.is c.in_ok-next_line.ensures.progresses in
    let above = progress.0 in
    let within = progress.1 in
    omega (arith, above, within, c.in_ok-add-in-Piece.ensures.size)

pub returns-in_ok-write_bad_line-in-Bad-clause-takes : goal.returns-in_ok-write_bad_line-in-Bad-clause-takes
returns-in_ok-write_bad_line-in-Bad-clause-takes g c = λ state stands.
    let old_input = will_say c.args.reader.now (g.I.Source.left c.args.input.now) in
    let new_input = will_say c.next_line.new.reader (g.I.Source.left c.next_line.new.input) in
    let piece = c.next_line.new.piece.items in
    let answers = subst (λ (next : NextLine). Answers old_input new_input piece (Ok next)) c.in-Bad.is c.in_ok-next_line.ensures.answers in
    steps_bad state c.args.conversation.now (g.O.Sink.taken c.args.out.now) old_input new_input c.requires stands c.in-Bad.number piece c.args.conversation.now _ answers
    c.in_ok-write_bad_line-in-Bad.ensures.ok

pub returns-in-End-clause-takes : goal.returns-in-End-clause-takes
returns-in-End-clause-takes g c = λ state stands.
    let old_input = will_say c.args.reader.now (g.I.Source.left c.args.input.now) in
    let new_input = will_say c.next_line.new.reader (g.I.Source.left c.next_line.new.input) in
    let piece = c.next_line.new.piece.items in
    let answers = subst (λ (next : NextLine). Answers old_input new_input piece (Ok next)) c.in-End.is c.in_ok-next_line.ensures.answers in
    steps_end state c.args.conversation.now (g.O.Sink.taken c.args.out.now) old_input new_input c.requires stands piece c.args.conversation.now answers
