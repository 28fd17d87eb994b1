use Rattle.std.proofs.Common.{◌*◌, ◌+◌}
use Rattle.vf_ber.specs.Tree.{nodes, nodes_in}
use Rattle.vf_ber.specs.Views.{tree_of, trees_in}
use Rattle.vf_ber.proofs.segments.+len.Given as goal

abbrev pub decreases-segment_len : goal.decreases-segment_len
decreases-segment_len l = 2 * nodes (tree_of l.segment.now)

abbrev pub decreases-total_len : goal.decreases-total_len
decreases-total_len l = 2 * nodes_in (trees_in l.segments.now) + 1
