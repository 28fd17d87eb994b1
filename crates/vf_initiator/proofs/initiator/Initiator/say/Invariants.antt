use Rattle.std.proofs.Common.{◌≡◌, ◌<◌, ◌⊎◌, ℕ, List, length}
use Rattle.vf_initiator.specs.Owed.{SaysOn}
use Rattle.vf_initiator.specs.Represents.{Lags}
use Rattle.vf_initiator.specs.Talking.{Talk}
use Rattle.vf_initiator.proofs.initiator.Initiator.say.Given as goal

-- A front of what waited is spelled; there are fewer requests, or nothing is done yet.
abbrev pub invariant-loop-alloc : goal.invariant-loop-alloc
invariant-loop-alloc l =
    ((talk : Talk) (rest : List ℕ) → Lags l.fn.self talk rest → SaysOn l.fn.self talk rest l.fn.out.items l.self l.out.items)
    × (((l.out.items ≡ l.fn.out.items) × (l.self.waiting.items ≡ l.fn.self.waiting.items)) ⊎ (length l.self.waiting.items < length l.fn.self.waiting.items))

abbrev pub decreases-loop-alloc : goal.decreases-loop-alloc
decreases-loop-alloc l = length l.self.waiting.items
