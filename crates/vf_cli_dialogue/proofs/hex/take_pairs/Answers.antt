use Rattle.std.proofs.Common.{ℕ, List, get_or, ap, sym, subst, ◌∙◌}
use Rattle.vf_cli_dialogue.specs.Hex.{IsHalfOf, first_half_of}
use Rattle.vf_cli_dialogue.proofs.HexLemmas.{pairs_alone, pairs_half}
use Rattle.vf_cli_dialogue.proofs.hex.take_pairs.Goals as goal

pub returns-in-Some : goal.returns-in-Some
returns-in-Some c =
    let rest = c.split_at.ensures.back in
    pairs_half c.args.octets.now.items c.append_pairs-count.new.octets.items c.args.text.now c.append_pairs-count.result c.append_pairs-count.ensures
    c.in-Some.high (ap first_half_of (sym rest) ∙ sym c.first_half.ensures.value ∙ c.in-Some.is)
    (subst (λ (l : List ℕ). IsHalfOf c.in-Some.high (get_or l 0 0)) rest c.in-Some.ensures.digit)

pub returns-in-None : goal.returns-in-None
returns-in-None c =
    pairs_alone c.args.octets.now.items c.append_pairs-count.new.octets.items c.args.text.now c.append_pairs-count.result c.append_pairs-count.ensures
    (ap first_half_of (sym c.split_at.ensures.back) ∙ sym c.first_half.ensures.value ∙ c.in-None.is)
