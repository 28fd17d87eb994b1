use Rattle.std.proofs.Common.{◌≡◌, ◌*◌, ◌+◌, length, drop}
use Rattle.vf_ber.specs.Placed.{ending_at}
use Rattle.vf_ber.specs.Spelling.{spells}
use Rattle.vf_ber.specs.Tree.{nodes, nodes_in}
use Rattle.vf_ber.specs.Views.{tree_of, trees_in}
use Rattle.vf_ber.proofs.writing.+put.Given as goal

abbrev pub decreases-put_value : goal.decreases-put_value
decreases-put_value l = 2 * nodes (tree_of l.value.now)

abbrev pub decreases-put_values : goal.decreases-put_values
decreases-put_values l = 2 * nodes_in (trees_in l.parts.now) + 1

abbrev pub invariant-put_values-loop-i : goal.invariant-put_values-loop-i
invariant-put_values-loop-i l =
    (l.start + length (spells (trees_in (drop l.i l.parts))) ≡ l.fn.end) × (l.out ≡ ending_at l.fn.end (spells (trees_in (drop l.i l.parts))) l.fn.out)
