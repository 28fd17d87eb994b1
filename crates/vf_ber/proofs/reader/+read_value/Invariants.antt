use Rattle.std.proofs.Common.{◌*◌, ◌+◌, length}
use Rattle.std.specs.Prelude.{IfSome}
use Rattle.vf_ber.specs.Steps.{Ends}
use Rattle.vf_ber.proofs.ReaderSteps.{PartsSoFar, EndedSoFar}
use Rattle.vf_ber.proofs.reader.+read_value.Given as goal

abbrev pub decreases-value_of : goal.decreases-value_of
decreases-value_of l = 3 * l.depth + 1

abbrev pub decreases-contents_of : goal.decreases-contents_of
decreases-contents_of l = 3 * l.around.depth

abbrev pub decreases-parts_of : goal.decreases-parts_of
decreases-parts_of l = 3 * l.depth + 2

abbrev pub decreases-ended_of : goal.decreases-ended_of
decreases-ended_of l = 3 * l.depth + 2

abbrev pub invariant-parts_of-loop-left : goal.invariant-parts_of-loop-left
invariant-parts_of-loop-left l = PartsSoFar l.depth l.fn.len l.left l.octets l.rest l.parts × IfSome l.kept (λ all. Ends all.now l.rest)

abbrev pub decreases-parts_of-loop-left : goal.decreases-parts_of-loop-left
decreases-parts_of-loop-left l = l.left

abbrev pub invariant-ended_of-loop-first : goal.invariant-ended_of-loop-first
invariant-ended_of-loop-first l = EndedSoFar l.depth l.fn.room l.room l.octets l.rest l.parts × IfSome l.kept (λ all. Ends all.now l.rest)

abbrev pub decreases-ended_of-loop-first : goal.decreases-ended_of-loop-first
decreases-ended_of-loop-first l = length l.rest
