use Rattle.std.proofs.Common.{◌+◌, ◌≤◌, drop, length}
use Rattle.vf_initiator.specs.Values.{Onward, values}
use Rattle.vf_initiator.proofs.sending.send_values.Given as goal

-- what is said, and the values that are left
abbrev pub invariant-loop-place : goal.invariant-loop-place
invariant-loop-place l =
    Onward l.initial.said.items (values l.pace l.initial.now.serial l.initial.now.sent l.rest) l.said.items (values l.pace l.now.serial l.now.sent (drop l.place l.rest))
    × (l.now.sent.values + length (drop l.place l.rest) ≤ 18446744073709551615)
