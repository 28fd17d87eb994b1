use Rattle.std.proofs.Common.{◌≡◌, ◌++◌, List, ℕ, [], ap, ◌∙◌, append-nil, arith}
use Rattle.std.proofs.lemmas.Bool.Decides.{nat_tests}
use Rattle.vf_upper_grammar.proofs.SegmentTurns.{no_octets}
use Rattle.vf_upper_grammar.proofs.held.segments_held.Goals as goal

pub returns-then-is_empty-clause-octets : goal.returns-then-is_empty-clause-octets
returns-then-is_empty-clause-octets c =
    let none : c.leading-2.result.0.octets.now ≡ [] = no_octets c.leading-2.result.0.octets.now (grind (arith, nat_tests)) in
    λ end. c.leading.ensures.first end ∙ ap (λ (o : List ℕ). c.leading.result.0.octets.now ++ o) (c.leading-2.ensures.none none end) ∙ append-nil c.leading.result.0.octets.now
