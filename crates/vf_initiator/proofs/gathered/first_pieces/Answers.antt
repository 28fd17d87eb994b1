use Rattle.std.proofs.Common.{◌∙◌, sym, ap, List, ◌++◌, ◌∷◌, []}
use Rattle.vf_base.specs.declared.element.Element.{Element}
use Rattle.vf_initiator.specs.Gathering.{by_marks}
use Rattle.vf_initiator.proofs.Kept.{take_more}
use Rattle.vf_initiator.proofs.gathered.first_pieces.Goals as goal

pub loop-place-preserved : goal.loop-place-preserved
loop-place-preserved c =
    let pieces = by_marks 0 c.args.marks.now c.args.elements.now in
    let piece = c.in_ok-piece_of.field-0 in
    c.in_ok-push.ensures.items
    ∙ (ap (λ (l : List (List Element)). l ++ piece ∷ []) c.loop-place.invariant ∙ sym (take_more c.loop-place.place pieces piece c.in_ok-piece_of.ensures))
