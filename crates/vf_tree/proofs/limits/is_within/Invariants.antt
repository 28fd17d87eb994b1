use Rattle.std.proofs.Common.{◌≡◌, ◌+◌, take}
use Rattle.std.specs.List.{sum_by}
use Rattle.vf_tree.specs.declared.limits.TheConstants.{MOST_FILE_OCTETS, MOST_FILE_PARTS}
use Rattle.vf_tree.specs.FileTree.{octets_of_unit, parts_of_unit}
use Rattle.vf_tree.proofs.limits.is_within.Given as goal

-- what is left, and what the file and the units so far take
abbrev pub invariant-loop-unit : goal.invariant-loop-unit
invariant-loop-unit l =
    (l.octets_left + (l.octets + sum_by octets_of_unit (take l.unit-index l.more)) ≡ MOST_FILE_OCTETS)
    × (l.parts_left + (l.parts + sum_by parts_of_unit (take l.unit-index l.more)) ≡ MOST_FILE_PARTS)
