use Rattle.std.proofs.Common.{◌≡◌, ◌≤◌, ◌-◌, length, drop}
use Rattle.vf_initiator.specs.Cutting.{elements_a_line, fault_of_lines, lines}
use Rattle.vf_transact.proofs.cutting.fault_of_lines.Given as goal

-- Of the lines from here on what is left of the limits decides.
abbrev pub invariant-loop-start : goal.invariant-loop-start
invariant-loop-start l =
    (fault_of_lines l.kind l.octets l.elements (lines (drop l.start l.input)) ≡ fault_of_lines l.kind 0 0 (lines l.input))
    × (l.each ≡ elements_a_line l.kind) × (l.start ≤ length l.input) × (l.octets ≤ 16777216) × (l.elements ≤ 262144)

abbrev pub decreases-loop-start : goal.decreases-loop-start
decreases-loop-start l = length l.input - l.start
