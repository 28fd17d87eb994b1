use Rattle.std.proofs.Common.{◌≡◌, take}
use Rattle.std.specs.List.{sum_by}
use Rattle.vf_tree.specs.FileTree.{parts_of_unit}
use Rattle.vf_tree.proofs.units.parts_of_units.Given as goal

abbrev pub invariant-loop-unit : goal.invariant-loop-unit
invariant-loop-unit l = l.parts ≡ sum_by parts_of_unit (take l.unit-index l.units)
