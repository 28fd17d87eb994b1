use Rattle.std.proofs.Common.{length}
use Rattle.vf_stack.specs.Represents.{FeedsOnward}
use Rattle.vf_stack.proofs.stack.Stack.feed.Given as goal

abbrev pub invariant-loop-rest : goal.invariant-loop-rest
invariant-loop-rest l = FeedsOnward l.fn.self l.fn.out.items l.fn.answers.items l.fn.piece l.self l.out.items l.answers.items l.rest

abbrev pub decreases-loop-rest : goal.decreases-loop-rest
decreases-loop-rest l = length l.rest
