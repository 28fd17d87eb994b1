use Rattle.std.proofs.Common.{ap}
use Rattle.vf_ber.specs.Views.{tag_of, tree_of, trees_in}
use Rattle.vf_elements.proofs.Segments.{some_wrong}
use Rattle.vf_elements.proofs.elements.wrong_in.Goals as goal

pub unreachable-requires-in_default-2 : goal.unreachable-requires-in_default-2
unreachable-requires-in_default-2 c =
    some_wrong (tree_of c.args.value.now) (tag_of c.in-Built.tag) c.in-Built.parts (trees_in c.as_slice.result.now) c.in_ok-place.field-0
    (ap tree_of c.in-Built.is) c.as_slice.ensures.values c.requires.none c.in_ok-place.ensures c.in_default-2.is
