use Rattle.std.proofs.Common.{◌≡◌, ◌∙◌, ap, sym, arith, length}
use Rattle.vf_initiator.specs.Gathering.{Gathering, by_marks}
use Rattle.vf_initiator.proofs.Kept.{none_cut}
use Rattle.vf_initiator.proofs.Marks.{pieces_are_marks}
use Rattle.vf_initiator.proofs.gathered.Gathered.mark.Goals as goal

pub invariant_of-self : goal.invariant_of-self
invariant_of-self c =
    let i = c.self.inside in
    let pieces = by_marks 0 i.marks.items i.elements in
    let count : c.pieces-self-inside.result ≡ length pieces = c.pieces-self-inside.ensures.count ∙ ap (λ (g : Gathering). length g.pieces) (sym c.self.view_is) in (
      c.self.invariant.0,
      c.self.invariant.1,
      omega (arith, count, pieces_are_marks 0 i.marks.items i.elements),
      none_cut c.clear.new.self.items c.pieces-self-inside.result pieces c.clear.ensures.items count,
      c.self.invariant.4,
    )
