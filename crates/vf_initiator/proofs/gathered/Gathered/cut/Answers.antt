use Rattle.std.proofs.Common.{◌≡◌, ◌≤◌, ◌∙◌, ap, sym, arith, ℕ, List, length, length-take, min, take}
use Rattle.vf_base.specs.declared.element.Element.{Element}
use Rattle.vf_initiator.specs.Gathering.{Gathering, by_marks, end_of, kept_by, left_of}
use Rattle.vf_initiator.proofs.Cuts.{marks_left}
use Rattle.vf_initiator.proofs.Kept.{same_left, seen_left}
use Rattle.vf_initiator.proofs.Marks.{pieces_are_marks}
use Rattle.vf_tree.specs.FileTree.{octets_of_unit}
use Rattle.vf_initiator.proofs.gathered.Gathered.cut.Goals as goal

pub invariant_of-self : goal.invariant_of-self
invariant_of-self c =
    let i = c.self.inside in
    let n = c.min-pieces.result in
    let within : n ≤ length i.marks.items = omega (arith, c.min-pieces.ensures, c.pieces.ensures.count, ap (λ (g : Gathering). length g.pieces) (sym c.self.view_is), pieces_are_marks 0 i.marks.items i.elements) in
    let elements : c.in_ok-elements.elements ≡ take (end_of 0 n i.marks.items) i.elements = grind (arith, c.in_ok-elements.ensures, c.as_slice-all.ensures, c.as_slice-marks.ensures.value) in
    let before : c.in_ok-before.before.items ≡ kept_by i.before.items i.standing (by_marks 0 i.marks.items i.elements) = grind (arith, c.in_ok-before.ensures, c.as_slice-all.ensures, c.as_slice-marks.ensures.value, c.as_slice.ensures.value) in
    let marks : c.truncate.new.self.items ≡ take n i.marks.items = c.truncate.ensures.items in
    let size : length c.truncate.new.self.items ≡ n = ap (λ (l : List ℕ). length l) marks ∙ omega (arith, length-take n i.marks.items, within) in (
      rw (marks, elements) (marks_left n i.marks.items i.elements c.self.invariant.0),
      omega (arith, size, within, c.self.invariant.1),
      omega (arith, size, c.min-self-inside.ensures),
      same_left i.marks.items c.truncate.new.self.items i.elements c.in_ok-elements.elements i.before.items c.in_ok-before.before.items i.standing c.min-self-inside.result n c.self.invariant.0 within marks elements before c.min-self-inside.ensures c.self.invariant.3,
      c.octets_of_all-self-inside.ensures ∙ ap (λ (l : List Element). min (octets_of_unit l) 18446744073709551615) c.as_slice-2.ensures,
    )

pub returns : goal.returns
returns c =
    let i = c.self.inside in
    let n = c.min-pieces.result in
    let within : n ≤ length i.marks.items = omega (arith, c.min-pieces.ensures, c.pieces.ensures.count, ap (λ (g : Gathering). length g.pieces) (sym c.self.view_is), pieces_are_marks 0 i.marks.items i.elements) in
    let elements : c.in_ok-elements.elements ≡ take (end_of 0 n i.marks.items) i.elements = grind (arith, c.in_ok-elements.ensures, c.as_slice-all.ensures, c.as_slice-marks.ensures.value) in
    let before : c.in_ok-before.before.items ≡ kept_by i.before.items i.standing (by_marks 0 i.marks.items i.elements) = grind (arith, c.in_ok-before.ensures, c.as_slice-all.ensures, c.as_slice-marks.ensures.value, c.as_slice.ensures.value) in
    seen_left i.marks.items c.truncate.new.self.items i.elements c.in_ok-elements.elements i.before.items c.in_ok-before.before.items i.standing c.min-self-inside.result n c.self.invariant.0 within c.truncate.ensures.items elements before c.min-self-inside.ensures
    ∙ (ap (λ (g : Gathering). left_of n g) c.self.view_is ∙ ap (λ (k : ℕ). left_of k c.args.self.now) (c.min-pieces.ensures ∙ ap (λ (k : ℕ). min c.args.pieces k) c.pieces.ensures.count))
