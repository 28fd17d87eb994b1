use Rattle.std.proofs.Common.{◌≡◌, ◌+◌, ◌*◌, ◌≤◌, length}
use Rattle.vf_upper_grammar.specs.Parts.{after_end as ended_after}
use Rattle.vf_upper_grammar.proofs.parts.+end.Given as goal

abbrev pub decreases-after_end : goal.decreases-after_end
decreases-after_end l = 2 * length l.octets.now + 1

abbrev pub decreases-after_value : goal.decreases-after_value
decreases-after_value l = 2 * length l.octets.now

abbrev pub invariant-after_end-loop-first : goal.invariant-after_end-loop-first
invariant-after_end-loop-first l = (ended_after l.rest ≡ ended_after l.fn.octets) × (length l.rest ≤ length l.fn.octets)

abbrev pub decreases-after_end-loop-first : goal.decreases-after_end-loop-first
decreases-after_end-loop-first l = length l.rest
