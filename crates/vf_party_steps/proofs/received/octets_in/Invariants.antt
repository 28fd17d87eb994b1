use Rattle.std.proofs.Common.{◌≡◌, take}
use Rattle.std.specs.List.{sum_by}
use Rattle.vf_tree.specs.FileTree.{octets_of}
use Rattle.vf_party_steps.proofs.received.octets_in.Given as goal

abbrev pub invariant-loop-element : goal.invariant-loop-element
invariant-loop-element l = l.octets ≡ sum_by octets_of (take l.element-index l.values)
