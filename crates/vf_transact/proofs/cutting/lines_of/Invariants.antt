use Rattle.std.proofs.Common.{◌≡◌, ◌≤◌, ◌-◌, ◌++◌, length, drop}
use Rattle.std.specs.List.{flat_map}
use Rattle.vf_initiator.specs.Cutting.{lines}
use Rattle.vf_transact.specs.Cutting.{elements_of_line}
use Rattle.vf_transact.proofs.cutting.lines_of.Given as goal

-- The elements so far are followed by those of the lines from here on.
abbrev pub invariant-loop-start : goal.invariant-loop-start
invariant-loop-start l =
    (l.elements ++ flat_map (elements_of_line l.are_records) (lines (drop l.start l.input)) ≡ flat_map (elements_of_line l.are_records) (lines l.input))
    × (l.start ≤ length l.input)

abbrev pub decreases-loop-start : goal.decreases-loop-start
decreases-loop-start l = length l.input - l.start
