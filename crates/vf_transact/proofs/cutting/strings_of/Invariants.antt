use Rattle.std.proofs.Common.{◌≡◌, ◌≤◌, ◌-◌, ◌++◌, length, drop, map}
use Rattle.vf_initiator.specs.Cutting.{binary_of, strings_of}
use Rattle.vf_transact.proofs.cutting.strings_of.Given as goal

-- The elements so far are followed by the strings from here on.
abbrev pub invariant-loop-start : goal.invariant-loop-start
invariant-loop-start l =
    (l.elements ++ map binary_of (strings_of 4096 (drop l.start l.input)) ≡ map binary_of (strings_of 4096 l.input))
    × (l.start ≤ length l.input)

abbrev pub decreases-loop-start : goal.decreases-loop-start
decreases-loop-start l = length l.input - l.start
