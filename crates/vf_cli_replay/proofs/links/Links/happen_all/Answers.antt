use Rattle.std.proofs.Common.{◌≡◌, ◌∙◌, ◌+◌, ◌<◌, ◌++◌, ℕ, List, [], ◌∷◌, Option, append_assoc, drop, get_or, length, take, ap, subst, sym}
use Rattle.std.proofs.lemmas.List.{take-append-drop, take_all, take_more}
use Rattle.vf_cli_script.specs.declared.line.LinkLine.{LinkLine}
use Rattle.vf_cli_replay.proofs.Going.{line_ended, line_gone, none_gone}
use Rattle.vf_cli_replay.specs.Running.{events_by, events_of}
use Rattle.vf_cli_replay.specs.Standing.{HasEnded, HasGone, HasHappened}
use Rattle.vf_cli_replay.specs.declared.halt.Halt.{Halt}
use Rattle.vf_cli_replay.proofs.links.Links.happen_all.Goals as goal

-- one line more, as the loop counts them
next_is : (lines : List LinkLine) (place : ℕ) (line : LinkLine) → place < length lines → line ≡ get_or lines place line → take (place + 1) lines ≡ take place lines ++ line ∷ []
next_is lines place line within is = take_more lines place line within ∙ ap (λ (l : LinkLine). take place lines ++ l ∷ []) (sym is)

-- that line among all of them
among : (lines : List LinkLine) (place : ℕ) (line : LinkLine) → place < length lines → line ≡ get_or lines place line → take place lines ++ line ∷ drop (place + 1) lines ≡ lines
among lines place line within is =
    sym (append_assoc (take place lines) (line ∷ []) (drop (place + 1) lines)) ∙ ap (λ (l : List LinkLine). l ++ drop (place + 1) lines) (sym (next_is lines place line within is))
    ∙ take-append-drop (place + 1) lines

pub loop-line-init : goal.loop-line-init
loop-line-init c = λ running stands. none_gone running c.args.text.now.items c.args.self.now stands

pub loop-line-preserved : goal.loop-line-preserved
loop-line-preserved c = λ running stands.
    let lines : List LinkLine = c.args.lines.now in
    let place : ℕ = c.loop-line.line-index in
    let line = c.line-item.result in
    let text = c.args.text.now.items in
    let store = c.args.self.now.responder.store in
    let between = c.loop-line.self in
    let gone = c.loop-line.invariant running stands in
    let happened = subst (λ (h : Option Halt). HasHappened gone.course.after (events_by line.link line.act) c.loop-line.text.items between.responder.store c.happens.new.self c.happens.new.text.items h)
    c.in_default.is (c.in_ok-halted.ensures.happens gone.course.after gone.stands) in
    subst (λ (l : List LinkLine). HasGone running (events_of l) text store c.happens.new.self c.happens.new.text.items) (sym (next_is lines place line c.loop-line-test.true c.line-item.is))
    (line_gone running (take place lines) line text store between c.happens.new.self c.loop-line.text.items c.happens.new.text.items gone happened)

pub returns-in-Some : goal.returns-in-Some
returns-in-Some c = λ running stands.
    let lines : List LinkLine = c.args.lines.now in
    let place : ℕ = c.loop-line.line-index in
    let line = c.line-item.result in
    let text = c.args.text.now.items in
    let store = c.args.self.now.responder.store in
    let between = c.loop-line.self in
    let links = c.happens.new.self in
    let gone = c.loop-line.invariant running stands in
    let happened = subst (λ (h : Option Halt). HasHappened gone.course.after (events_by line.link line.act) c.loop-line.text.items between.responder.store links c.happens.new.text.items h)
    c.in-Some.is (c.in_ok-halted.ensures.happens gone.course.after gone.stands) in
    subst (λ (l : List LinkLine). HasEnded running (events_of l) text store c.in-Some.halt links.responder.store c.happens.new.text.items) (among lines place line c.loop-line-test.true c.line-item.is)
    (line_ended running (take place lines) line (drop (place + 1) lines) text store between links c.loop-line.text.items c.happens.new.text.items c.in-Some.halt gone happened)

pub returns : goal.returns
returns c = λ running stands.
    let lines : List LinkLine = c.args.lines.now in
    subst (λ (l : List LinkLine). HasGone running (events_of l) c.args.text.now.items c.args.self.now.responder.store c.loop-line.self c.loop-line.text.items)
    (take_all c.loop-line.line-index lines c.loop-line-test.false) (c.loop-line.invariant running stands)
