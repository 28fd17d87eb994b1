use Rattle.std.proofs.Common.{length}
use Rattle.vf_initiator.specs.Few.{OwesOnward}
use Rattle.vf_initiator.specs.Represents.{Represents}
use Rattle.vf_initiator.specs.Talking.{Talk}
use Rattle.vf_initiator.proofs.initiator.Initiator.take_all.Given as goal

-- what is left does the rest
abbrev pub invariant-loop-rest : goal.invariant-loop-rest
invariant-loop-rest l = (talk : Talk) → Represents l.fn.self talk → OwesOnward l.fn.self talk l.fn.piece l.fn.out.items l.self l.out.items l.rest

abbrev pub decreases-loop-rest : goal.decreases-loop-rest
decreases-loop-rest l = length l.rest
