use Rattle.std.proofs.Common.{◌≡◌, take}
use Rattle.std.specs.List.{sum_by}
use Rattle.vf_tree.specs.FileTree.{octets_of_unit}
use Rattle.vf_tree.proofs.units.octets_of_units.Given as goal

abbrev pub invariant-loop-unit : goal.invariant-loop-unit
invariant-loop-unit l = l.octets ≡ sum_by octets_of_unit (take l.unit-index l.units)
