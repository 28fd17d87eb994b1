use Rattle.std.proofs.Common.{◌≡◌, ◌+◌, take}
use Rattle.std.specs.List.{sum_by}
use Rattle.vf_tree.specs.declared.limits.TheConstants.{MOST_FILE_OCTETS, MOST_FILE_PARTS}
use Rattle.vf_tree.specs.FileTree.{octets_of_unit, parts_of_unit}
use Rattle.vf_store_record.proofs.contents.are_within.Given as goal

-- what is left, and what the units so far take
abbrev pub invariant-loop-unit : goal.invariant-loop-unit
invariant-loop-unit l =
    (l.octets_left + sum_by octets_of_unit (take l.unit-index l.units) ≡ MOST_FILE_OCTETS)
    × (l.parts_left + sum_by parts_of_unit (take l.unit-index l.units) ≡ MOST_FILE_PARTS)
