use Rattle.std.proofs.Common.{◌≡◌, ◌++◌, List, ℕ, [], ap, ◌∙◌, arith}
use Rattle.std.proofs.lemmas.Bool.Decides.{nat_tests}
use Rattle.vf_upper_grammar.specs.Texts.{segments}
use Rattle.vf_upper_grammar.specs.Views.{text_of}
use Rattle.vf_upper_grammar.proofs.SegmentTurns.{no_octets, none_held-octets, segments-next, segments-none}
use Rattle.vf_upper_grammar.proofs.segments.leading.Goals as goal

pub returns-then-not-is_empty-clause-first : goal.returns-then-not-is_empty-clause-first
returns-then-not-is_empty-clause-first c =
    let rest = text_of c.loop-contents.rest in
    λ end. c.loop-contents.invariant.0 end ∙ ap (λ h. h.octets) (segments-next end rest (text_of c.in-Some.contents) (text_of c.in-Some.after) c.in-Some.ensures.piece)

pub loop-contents-preserved : goal.loop-contents-preserved
loop-contents-preserved c =
    let rest = text_of c.loop-contents.rest in
    let after = text_of c.in-Some.after in
    let none : c.in-Some.contents.octets.now ≡ [] = no_octets c.in-Some.contents.octets.now (grind (arith, nat_tests)) in (
      (λ end. c.loop-contents.invariant.0 end ∙ ap (λ h. h.octets) (segments-next end rest (text_of c.in-Some.contents) after c.in-Some.ensures.piece)
          ∙ ap (λ (o : List ℕ). o ++ (segments end after).octets) none),
      (λ all s. (c.in-Some.ensures.stands all (c.loop-contents.invariant.1 all s)).1),
    )

pub returns-clause-none : goal.returns-clause-none
returns-clause-none c =
    let rest = text_of c.loop-contents.rest in
    λ none end. c.loop-contents.invariant.0 end ∙ ap (λ h. h.octets) (segments-none end rest c.in_default.ensures.piece) ∙ none_held-octets rest end
