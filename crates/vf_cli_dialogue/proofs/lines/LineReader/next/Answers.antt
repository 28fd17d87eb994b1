use Rattle.std.proofs.Common.{◌≡◌, arith, ◌+◌, ◌-◌, ◌++◌, sym, length, subst, Ok, List, ℕ}
use Rattle.std.specs.Prelude.{true, false}
use Rattle.vf_cli_dialogue.specs.Hex.{Spells}
use Rattle.vf_cli_dialogue.specs.Lines.{input_limit}
use Rattle.vf_cli_dialogue.specs.Reader.{Answers, Finds, will_say}
use Rattle.vf_cli_dialogue.specs.declared.lines.NextLine.TheVariants.{Bad}
use Rattle.vf_cli_dialogue.specs.declared.lines.Found.TheVariants as found
use Rattle.vf_cli_dialogue.proofs.InputLemmas.{long_is_bad, piece_of-none, piece_of-spelled}
use Rattle.vf_cli_dialogue.proofs.ReaderLemmas.{answers_as, answers_bad, answers_found, answers_piece_of}
use Rattle.vf_cli_dialogue.proofs.lines.LineReader.next.Goals as goal

pub returns-in-Bad-clause-answers : goal.returns-in-Bad-clause-answers
returns-in-Bad-clause-answers g c =
    let is : Finds (input_limit - c.self.inside.count) c.find_end.new.digits c.find_end.new.block (g.S.Source.left c.find_end.new.input) found.Bad =
    rw c.in-Bad.is at c.in_ok-find_end.ensures.found in
    answers_as _ _ _ (c.self.inside.digits ++ c.self.inside.block) _ _ _ _ _ _ c.self.view_is c.find_end.ensures.octets
    (answers_found _ _ (input_limit - c.self.inside.count) _ _ _ _ c.find_end.ensures.line (omega (arith, c.self.invariant.0)) is)

pub overflow_add-count : goal.overflow_add-count
overflow_add-count g c =
    let is : Finds (input_limit - c.self.inside.count) c.find_end.new.digits c.find_end.new.block (g.S.Source.left c.find_end.new.input) found.Feed =
    rw c.in-Feed.is at c.in_ok-find_end.ensures.found in
    let within = is.1 in
    let few = c.self.invariant.0 in
    omega (arith, c.len.ensures, within, few)

pub overflow_add-count-2 : goal.overflow_add-count-2
overflow_add-count-2 g c =
    let is : Finds (input_limit - c.self.inside.count) c.find_end.new.digits c.find_end.new.block (g.S.Source.left c.find_end.new.input) found.Feed =
    rw c.in-Feed.is at c.in_ok-find_end.ensures.found in
    let within = is.1 in
    let few = c.self.invariant.0 in
    omega (arith, c.len.ensures, within, few)

pub returns-then-count-gt-INPUT_LIMIT-clause-answers : goal.returns-then-count-gt-INPUT_LIMIT-clause-answers
returns-then-count-gt-INPUT_LIMIT-clause-answers g c =
    let is : Finds (input_limit - c.self.inside.count) c.find_end.new.digits c.find_end.new.block (g.S.Source.left c.find_end.new.input) found.Feed =
    rw c.in-Feed.is at c.in_ok-find_end.ensures.found in
    let digits = c.find_end.new.digits in
    let long = c.if-count-gt-INPUT_LIMIT.true in
    let len : c.len.result ≡ length digits = c.len.ensures in
    answers_as _ _ _ (c.self.inside.digits ++ c.self.inside.block) _ _ _ _ _ _ c.self.view_is c.find_end.ensures.octets
    (answers_bad _ _ digits _ _ _ c.find_end.ensures.line is.0 (long_is_bad (c.self.inside.count + length digits + 1) digits (omega (arith, long, len))))

pub returns-then-not-finish-clause-answers : goal.returns-then-not-finish-clause-answers
returns-then-not-finish-clause-answers g c =
    let is : Finds (input_limit - c.self.inside.count) c.find_end.new.digits c.find_end.new.block (g.S.Source.left c.find_end.new.input) found.Feed =
    rw c.in-Feed.is at c.in_ok-find_end.ensures.found in
    let digits = c.find_end.new.digits in
    let reader = c.self.inside in
    let none : Spells digits c.finish.new.self c.args.piece.now.items c.finish.new.octets.items false =
    subst (λ b. Spells digits c.finish.new.self c.args.piece.now.items c.finish.new.octets.items b) c.if-not-finish.true c.finish.ensures in
    subst (λ (l : List ℕ). Answers (will_say c.args.self.now (g.S.Source.left c.args.input.now))
    (will_say (record { count = reader.count; number = reader.number; ahead = l ++ c.find_end.new.block }) (g.S.Source.left c.find_end.new.input))
    c.finish.new.octets.items (Ok (Bad reader.number))) (sym none.1)
    (answers_as _ _ _ (reader.digits ++ reader.block) _ _ _ _ _ _ c.self.view_is c.find_end.ensures.octets
    (answers_bad _ _ digits _ _ _ c.find_end.ensures.line is.0 (piece_of-none (reader.count + length digits + 1) digits none.0)))

pub returns-clause-answers : goal.returns-clause-answers
returns-clause-answers g c =
    let is : Finds (input_limit - c.self.inside.count) c.find_end.new.digits c.find_end.new.block (g.S.Source.left c.find_end.new.input) found.Feed =
    rw c.in-Feed.is at c.in_ok-find_end.ensures.found in
    let digits = c.find_end.new.digits in
    let reader = c.self.inside in
    let len : c.len.result ≡ length digits = c.len.ensures in
    let within = c.if-count-gt-INPUT_LIMIT.false in
    let spells : Spells digits c.finish.new.self c.args.piece.now.items c.finish.new.octets.items true =
    subst (λ b. Spells digits c.finish.new.self c.args.piece.now.items c.finish.new.octets.items b) c.if-not-finish.false c.finish.ensures in
    let good = piece_of-spelled (reader.count + length digits + 1) digits c.finish.new.octets.items (omega (arith, within, len)) spells.2 spells.1 in
    answers_as _ _ _ (reader.digits ++ reader.block) _ _ _ _ _ _ c.self.view_is c.find_end.ensures.octets
    (answers_piece_of _ _ c.len.result digits _ _ _ _ _ c.find_end.ensures.line is.0 len good spells.0 c.skip.ensures)
