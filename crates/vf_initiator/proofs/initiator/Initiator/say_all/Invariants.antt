use Rattle.std.proofs.Common.{ℕ, List, length}
use Rattle.vf_initiator.specs.Owed.{SaysOn}
use Rattle.vf_initiator.specs.Represents.{Lags}
use Rattle.vf_initiator.specs.Talking.{Talk}
use Rattle.vf_initiator.proofs.initiator.Initiator.say_all.Given as goal

-- a front of what waited is spelled
abbrev pub invariant-loop-alloc : goal.invariant-loop-alloc
invariant-loop-alloc l = (talk : Talk) (rest : List ℕ) → Lags l.fn.self talk rest → SaysOn l.fn.self talk rest l.fn.out.items l.self l.out.items

abbrev pub decreases-loop-alloc : goal.decreases-loop-alloc
decreases-loop-alloc l = length l.self.waiting.items
