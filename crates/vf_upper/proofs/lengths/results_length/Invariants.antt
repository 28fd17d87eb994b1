use Rattle.std.proofs.Common.{◌≡◌, drop, map}
use Rattle.std.specs.Prelude.{◌&&◌, Some}
use Rattle.vf_upper.specs.Sizes.{all, outcome_size}
use Rattle.vf_upper_grammar.specs.Syntaxes.{is_ours}
use Rattle.vf_upper.proofs.lengths.results_length.Given as goal

abbrev pub invariant-loop-offer : goal.invariant-loop-offer
invariant-loop-offer l =
    all l.total (map outcome_size (map (λ offer. offer.ber && is_ours offer.syntax) (drop l.offer-index l.fn.offers)))
    ≡ all (Some 0) (map outcome_size (map (λ offer. offer.ber && is_ours offer.syntax) l.fn.offers))
