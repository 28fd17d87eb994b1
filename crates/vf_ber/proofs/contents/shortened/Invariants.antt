use Rattle.std.proofs.Common.{◌≡◌, ◌≤◌, length}
use Rattle.vf_ber.specs.Contents.{shortened}
use Rattle.vf_ber.proofs.contents.shortened.Given as goal

abbrev pub invariant-loop-rest : goal.invariant-loop-rest
invariant-loop-rest l = (shortened l.rest ≡ shortened l.octets) × (length l.rest ≤ length l.octets)

abbrev pub decreases-loop-rest : goal.decreases-loop-rest
decreases-loop-rest l = length l.rest
