use Rattle.std.proofs.Common.{◌∙◌, ◌-◌, ◌∷◌, ℕ, List, drop, length, map, string_bytes, take, ap, refl, sym}
use Rattle.vf_cli_words.proofs.GivenAfter.{option_more, option_none, rest_is}
use Rattle.vf_cli_words.specs.Given.{Parts, given_of}
use Rattle.vf_cli_words.specs.Words.{given_after}
use Rattle.vf_cli_words.proofs.options.options_in.Goals as goal

pub loop-rest-preserved : goal.loop-rest-preserved
loop-rest-preserved c =
    let rest = c.loop-rest.rest.now in
    let given = given_of c.loop-rest.options in
    let parts : Parts = record { name = c.in_ok-first.first.name.now; value = c.in_ok-first.first.value.now; later = map string_bytes c.in_ok-first.first.later.now } in
    let later : List (List ℕ) = map string_bytes (take (length rest - 1) (drop 1 rest)) in
    let words = ap (map string_bytes) (rest_is rest c.word-item.result c.in-len1-up.len_at_least c.word-item.is) in
    let bytes = c.as_bytes.ensures.value in
    sym (option_more given c.as_bytes.result.now parts later (given_of c.in_ok-options.options) c.in_ok-first.ensures.some c.in_ok-options.ensures.some)
    ∙ ap (λ (word : List ℕ). given_after given (word ∷ later)) bytes ∙ ap (given_after given) (sym words) ∙ c.loop-rest.invariant

pub returns-in_err-options-clause-none : goal.returns-in_err-options-clause-none
returns-in_err-options-clause-none c = λ is.
    let rest = c.loop-rest.rest.now in
    let given = given_of c.loop-rest.options in
    let parts : Parts = record { name = c.in_ok-first.first.name.now; value = c.in_ok-first.first.value.now; later = map string_bytes c.in_ok-first.first.later.now } in
    let later : List (List ℕ) = map string_bytes (take (length rest - 1) (drop 1 rest)) in
    let words = ap (map string_bytes) (rest_is rest c.word-item.result c.in-len1-up.len_at_least c.word-item.is) in
    sym c.loop-rest.invariant ∙ ap (given_after given) words ∙ ap (λ (word : List ℕ). given_after given (word ∷ later)) (sym c.as_bytes.ensures.value)
    ∙ option_none given c.as_bytes.result.now parts later c.in_ok-first.ensures.some (c.in_err-options.ensures.none refl)
