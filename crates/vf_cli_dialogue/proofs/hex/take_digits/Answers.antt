use Rattle.std.proofs.Common.{ℕ, List, Option, None, Some, ◌+◌, ◌<◌, drop, sym, subst, ◌∙◌}
use Rattle.std.specs.Prelude.{IfSome}
use Rattle.vf_cli_dialogue.specs.Hex.{TakesOctets}
use Rattle.vf_cli_dialogue.proofs.HexLemmas.{none_taken, one_taken}
use Rattle.vf_cli_dialogue.proofs.hex.take_digits.Goals as goal

pub returns-in_default : goal.returns-in_default
returns-in_default c =
    subst (λ (h : Option ℕ). TakesOctets c.args.octets.now.items h c.take_pairs.new.octets.items c.take_pairs.result.1 c.args.text.now c.take_pairs.result.0)
    (sym c.in_default.is) c.take_pairs.ensures

pub returns-in_default-first_half : goal.returns-in_default-first_half
returns-in_default-first_half c =
    let high = c.in-Some.high in
    let small : high < 16 = subst (λ (h : Option ℕ). IfSome h (λ half. half < 16)) c.in-Some.is c.requires.small in
    subst (λ (h : Option ℕ). TakesOctets c.args.octets.now.items h c.args.octets.now.items (Some high) c.args.text.now 0) (sym c.in-Some.is)
    (none_taken c.args.octets.now.items c.args.text.now high small (sym c.first_half.ensures.value ∙ c.in_default-first_half.is))

pub returns : goal.returns
returns c =
    let high = c.in-Some.high in
    let low = c.in-Some-first_half.low in
    let old = c.args.octets.now.items in
    let new = c.take_pairs-count.new.octets.items in
    let last = c.take_pairs-count.result.1 in
    let count = c.take_pairs-count.result.0 in
    let small : high < 16 = subst (λ (h : Option ℕ). IfSome h (λ half. half < 16)) c.in-Some.is c.requires.small in
    let later = subst (λ (l : List ℕ). TakesOctets l None new last (drop 1 c.args.text.now) count) c.push_reserved.ensures.items
    (subst (λ (l : List ℕ). TakesOctets c.push_reserved.new.self.items None new last l count) c.split_at.ensures.back c.take_pairs-count.ensures) in
    subst (λ (h : Option ℕ). TakesOctets old h new last c.args.text.now (1 + count)) (sym c.in-Some.is)
    (one_taken old new c.args.text.now high low last count small (sym c.first_half.ensures.value ∙ c.in-Some-first_half.is) c.in-Some-first_half.ensures.digit later)
