use Rattle.std.proofs.Common.{List, drop, length, ap, ◌∙◌}
use Rattle.vf_base.specs.declared.element.Element.{Element}
use Rattle.vf_tree.specs.FileTree.{octets_of_unit}
use Rattle.vf_tables.specs.Sums.{elements_staged, octets_staged}
use Rattle.vf_tables.proofs.Sizes.{parts_of}
use Rattle.vf_tables.proofs.pieces.Pieces.truncate.Goals as goal

pub octets_left-self-inside-requires : goal.octets_left-self-inside-requires
octets_left-self-inside-requires c = (
  octets_staged c.self.inside.pieces,
  octets_staged c.after-gone.result.now,
  c.self.invariant.0,
  c.octets_of_pieces-octets.ensures,
  parts_of octets_of_unit c.self.inside.pieces c.as_slice-2.result.now c.after-gone.result.now c.args.count (c.as_slice-2.ensures ∙ c.truncate.ensures)
      (c.after-gone.ensures ∙ ap (λ (l : List (List Element)). drop c.args.count l) c.as_slice.ensures),
)

pub elements_left-self-inside-requires : goal.elements_left-self-inside-requires
elements_left-self-inside-requires c = (
  elements_staged c.self.inside.pieces,
  elements_staged c.after-gone.result.now,
  c.self.invariant.1,
  c.elements_of_pieces-elements.ensures,
  parts_of (λ (piece : List Element). length piece) c.self.inside.pieces c.as_slice-3.result.now c.after-gone.result.now c.args.count (c.as_slice-3.ensures ∙ c.truncate.ensures)
      (c.after-gone.ensures ∙ ap (λ (l : List (List Element)). drop c.args.count l) c.as_slice.ensures),
)
