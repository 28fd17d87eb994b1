use Rattle.std.proofs.Common.{◌≡◌, min, take}
use Rattle.vf_tree.specs.FileTree.{octets_of_unit}
use Rattle.vf_transact.proofs.starting.octets_of_all.Given as goal

abbrev pub invariant-loop-element : goal.invariant-loop-element
invariant-loop-element l = l.octets ≡ min (octets_of_unit (take l.element-index l.elements)) 18446744073709551615
