use Rattle.std.proofs.Common.{◌≡◌, ◌*◌, ◌+◌, take}
use Rattle.vf_ber.specs.Tree.{nodes, nodes_in}
use Rattle.vf_ber.specs.Views.{tree_of, trees_in}
use Rattle.vf_ber.proofs.value.+copy.Given as goal

abbrev pub decreases-Value::copy : goal.decreases-Value::copy
decreases-Value::copy l = 2 * nodes (tree_of l.self.now)

abbrev pub decreases-Values::copy : goal.decreases-Values::copy
decreases-Values::copy l = 2 * nodes_in l.self.now + 1

abbrev pub invariant-Values::copy-loop-value : goal.invariant-Values::copy-loop-value
invariant-Values::copy-loop-value l = l.made ≡ trees_in (take l.value-index l.value-items)
