use Rattle.std.proofs.Common.{◌≡◌, ap, sym, ◌∙◌}
use Rattle.vf_upper_grammar.specs.Texts.{place_of, segments, then_held}
use Rattle.vf_upper_grammar.specs.Views.{text_of}
use Rattle.vf_upper_grammar.proofs.SegmentTurns.{if_nat, none_held-place, place-first, place-next, segments-next, segments-none}
use Rattle.vf_upper_grammar.proofs.segments.place_among.Goals as goal

pub returns-then-left-contents : goal.returns-then-left-contents
returns-then-left-contents c =
    let end = c.args.end in
    let contents = text_of c.in-Some.contents in
    let after = text_of c.in-Some.after in
    let step : segments end (text_of c.loop-contents.rest) ≡ then_held contents (segments end after) = segments-next end (text_of c.loop-contents.rest) contents after c.in-Some.ensures.piece in
    sym (c.loop-contents.invariant ∙ ap (λ h. place_of h c.loop-contents.left) step ∙ place-first contents (segments end after) c.loop-contents.left c.if-left-contents.true)

pub loop-contents-preserved : goal.loop-contents-preserved
loop-contents-preserved c =
    let end = c.args.end in
    let contents = text_of c.in-Some.contents in
    let after = text_of c.in-Some.after in
    let step : segments end (text_of c.loop-contents.rest) ≡ then_held contents (segments end after) = segments-next end (text_of c.loop-contents.rest) contents after c.in-Some.ensures.piece in
    c.loop-contents.invariant ∙ ap (λ h. place_of h c.loop-contents.left) step ∙ place-next contents (segments end after) c.loop-contents.left c.if-left-contents.false

pub returns-then-is_wrong : goal.returns-then-is_wrong
returns-then-is_wrong c =
    let end = c.args.end in
    let rest = text_of c.loop-contents.rest in
    sym (c.loop-contents.invariant ∙ ap (λ h. place_of h c.loop-contents.left) (segments-none end rest c.in_default.ensures.piece) ∙ none_held-place rest end c.loop-contents.left
    ∙ ap (λ b. if_nat b rest.at end) (sym c.is_wrong.ensures ∙ c.if-is_wrong.true))

pub returns-else-is_wrong : goal.returns-else-is_wrong
returns-else-is_wrong c =
    let end = c.args.end in
    let rest = text_of c.loop-contents.rest in
    sym (c.loop-contents.invariant ∙ ap (λ h. place_of h c.loop-contents.left) (segments-none end rest c.in_default.ensures.piece) ∙ none_held-place rest end c.loop-contents.left
    ∙ ap (λ b. if_nat b rest.at end) (sym c.is_wrong.ensures ∙ c.if-is_wrong.false))
