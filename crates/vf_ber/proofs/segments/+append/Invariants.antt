use Rattle.std.proofs.Common.{◌≡◌, ◌*◌, ◌+◌, drop}
use Rattle.vf_ber.specs.Primitive.{in_prefix, octets_in}
use Rattle.vf_ber.specs.Tree.{nodes, nodes_in}
use Rattle.vf_ber.specs.Views.{tree_of, trees_in}
use Rattle.vf_ber.proofs.segments.+append.Given as goal

abbrev pub decreases-append_segment : goal.decreases-append_segment
decreases-append_segment l = 2 * nodes (tree_of l.segment.now)

abbrev pub decreases-append_segments : goal.decreases-append_segments
decreases-append_segments l = 2 * nodes_in (trees_in l.segments.now) + 1

abbrev pub invariant-append_segments-loop-segment : goal.invariant-append_segments-loop-segment
invariant-append_segments-loop-segment l =
    in_prefix l.out.items (octets_in (trees_in (drop l.segment-index l.segments))) ≡ in_prefix l.fn.out.items (octets_in (trees_in l.segments))
