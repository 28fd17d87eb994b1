use Rattle.std.proofs.Common.{◌≡◌, ℕ, ◌+◌, ◌*◌, List, ◌∷◌, ap, ◌∙◌, arith}
use Rattle.vf_cli_dialogue.proofs.HeaderLemmas.{reads_octets}
use Rattle.vf_cli_dialogue.proofs.conversation.number_alone.Goals as goal

pub returns : goal.returns
returns c =
    let number = c.from.result in
    let first = c.in_ok-first.first.now in
    let rest = c.in_ok-second.field-0-1.now in
    let same : first ≡ 64 * 2 + (32 + number) = omega (arith, c.from.ensures, c.if-first-lt160.false) in
    reads_octets c.args.octets.now number (omega (arith, c.from.ensures, c.if-first-gt190.false))
    (rest, c.in_ok-first.ensures.cases.0 ∙ ap (λ (octets : List ℕ). first ∷ octets) c.in_ok-second.ensures.cases.0 ∙ (λ i. same i ∷ c.if-second-ne0.false i ∷ rest))
