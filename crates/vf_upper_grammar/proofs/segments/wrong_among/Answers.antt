use Rattle.std.proofs.Common.{ap, sym, ◌∙◌}
use Rattle.vf_upper_grammar.specs.HeldViews.{broken_at}
use Rattle.vf_upper_grammar.specs.Views.{text_of}
use Rattle.vf_upper_grammar.proofs.SegmentTurns.{none_held-broken, place_if, segments-next, segments-none}
use Rattle.vf_upper_grammar.proofs.segments.wrong_among.Goals as goal

pub loop-contents-preserved : goal.loop-contents-preserved
loop-contents-preserved c =
    let rest = text_of c.loop-contents.rest in
    λ end. c.loop-contents.invariant end ∙ ap broken_at (segments-next end rest (text_of c.in-Some._contents) (text_of c.in-Some.after) c.in-Some.ensures.piece)

pub returns-then-is_wrong : goal.returns-then-is_wrong
returns-then-is_wrong c =
    let rest = text_of c.loop-contents.rest in
    λ end. c.loop-contents.invariant end ∙ ap broken_at (segments-none end rest c.in_default.ensures.piece) ∙ none_held-broken rest end
    ∙ ap (λ b. place_if b rest.at) (sym c.is_wrong.ensures ∙ c.if-is_wrong.true)

pub returns-else-is_wrong : goal.returns-else-is_wrong
returns-else-is_wrong c =
    let rest = text_of c.loop-contents.rest in
    λ end. c.loop-contents.invariant end ∙ ap broken_at (segments-none end rest c.in_default.ensures.piece) ∙ none_held-broken rest end
    ∙ ap (λ b. place_if b rest.at) (sym c.is_wrong.ensures ∙ c.if-is_wrong.false)
