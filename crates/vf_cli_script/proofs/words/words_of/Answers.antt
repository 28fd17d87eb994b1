use Rattle.std.proofs.Common.{◌∙◌, ◌+◌, ◌≤◌, arith, length, sym}
use Rattle.vf_cli_script.proofs.Split.{last_word, more_words, too_many}
use Rattle.vf_cli_script.proofs.words.words_of.Goals as goal

pub returns-then-len-ge-MOST_WORDS-clause-none : goal.returns-then-len-ge-MOST_WORDS-clause-none
returns-then-len-ge-MOST_WORDS-clause-none c = λ none.
    let many : 4 ≤ length c.loop-place.words.items + 1 = omega (arith, c.len.ensures, c.if-len-ge-MOST_WORDS.true) in
    too_many c.args.line.now c.loop-place.rest.now c.loop-place.words.items c.in-Some.place c.loop-place.invariant c.in-Some.ensures many

pub loop-place-preserved : goal.loop-place-preserved
loop-place-preserved c =
    more_words c.args.line.now c.loop-place.rest.now c.loop-place.words.items c.push.new.self.items c.split_at.result.0 c.in-Some.place c.split_at.result.1.now c.split_at-in-Some.result.1.now
    c.loop-place.invariant c.in-Some.ensures c.in_ok-push.ensures.items c.split_at.ensures.front c.split_at.ensures.back c.split_at-in-Some.ensures.back

pub returns-clause-some : goal.returns-clause-some
returns-clause-some c =
    last_word c.args.line.now c.loop-place.rest c.loop-place.words.items c.push-2.new.self.items c.loop-place.invariant (sym c.place_of_space.ensures ∙ c.in_default.is) c.in_ok-push-2.ensures.items
