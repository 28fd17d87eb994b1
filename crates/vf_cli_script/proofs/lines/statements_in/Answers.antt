use Rattle.std.specs.Prelude.{nat_lt}
use Rattle.std.proofs.Common.{◌≡◌, ◌∙◌, ◌++◌, ℕ, List, Option, ap, drop, length, min, sym, take}
use Rattle.vf_cli_script.specs.Scripts.{statements_within}
use Rattle.vf_cli_script.specs.declared.input.TheConstants.{INPUT_LIMIT}
use Rattle.vf_cli_script.specs.declared.line.Statement.{Statement}
use Rattle.vf_cli_script.proofs.Feeds.{lines_all, lines_bad, lines_begin, lines_more, said_in}
use Rattle.vf_cli_script.proofs.lines.statements_in.Goals as goal

pub loop-place-init : goal.loop-place-init
loop-place-init c =
    let octets = c.args.octets.now in
    let within : c.split_at.result.0.now ≡ take (min (length octets) INPUT_LIMIT) octets = c.split_at.ensures.front ∙ ap (λ (n : ℕ). take n octets) c.count_within.ensures in
    lines_begin INPUT_LIMIT octets c.split_at.result.0.now within
    ∙ ap (λ (l : List (Option Statement)). l ++ said_in (nat_lt INPUT_LIMIT (length octets)) c.split_at.result.0.now) (sym c.new-statements.ensures.items)

pub loop-place-preserved : goal.loop-place-preserved
loop-place-preserved c =
    let octets = c.args.octets.now in
    lines_more (nat_lt INPUT_LIMIT (length octets)) (statements_within INPUT_LIMIT octets) c.loop-place.statements.items c.push.new.self.items c.loop-place.rest.now
    c.split_at-in-Some.result.1.now c.split_at-in-Some-2.result.1.now c.split_at-in-Some.result.0.now c.in-Some.place c.in_ok-statement.statement
    c.loop-place.invariant c.in-Some.ensures c.split_at-in-Some.ensures.front c.split_at-in-Some.ensures.back c.split_at-in-Some-2.ensures.back
    c.in_ok-statement.ensures c.in_ok-push.ensures.items

pub returns-then-are_empty : goal.returns-then-are_empty
returns-then-are_empty c =
    let octets = c.args.octets.now in
    let beyond : c.split_at.result.1.now ≡ drop (min (length octets) INPUT_LIMIT) octets = c.split_at.ensures.back ∙ ap (λ (n : ℕ). drop n octets) c.count_within.ensures in
    lines_all INPUT_LIMIT octets c.split_at.result.1.now c.loop-place.statements.items c.loop-place.rest.now c.loop-place.invariant (sym c.place_of_feed.ensures ∙ c.in_default.is) beyond
    (sym c.are_empty.ensures ∙ c.if-are_empty.true)

pub returns : goal.returns
returns c =
    let octets = c.args.octets.now in
    let beyond : c.split_at.result.1.now ≡ drop (min (length octets) INPUT_LIMIT) octets = c.split_at.ensures.back ∙ ap (λ (n : ℕ). drop n octets) c.count_within.ensures in
    lines_bad INPUT_LIMIT octets c.split_at.result.1.now c.loop-place.statements.items c.push-2.new.self.items c.loop-place.rest.now c.loop-place.invariant
    (sym c.place_of_feed.ensures ∙ c.in_default.is) beyond (sym c.are_empty.ensures ∙ c.if-are_empty.false) c.in_ok-push-2.ensures.items
