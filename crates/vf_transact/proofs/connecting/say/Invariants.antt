use Rattle.std.specs.Prelude.{if◌then◌else◌}
use Rattle.std.proofs.Common.{◌≡◌, ◌+◌, ◌++◌, ℕ, List, true, length}
use Rattle.vf_base.specs.Dial.{Call}
use Rattle.vf_initiator.specs.Represents.{Owes}
use Rattle.vf_initiator.specs.Talking.{Talk}
use Rattle.vf_transact.specs.Connecting.{IsOn}
use Rattle.vf_transact.proofs.Blocks.{IsPending, Spells}
use Rattle.vf_transact.proofs.connecting.say.Given as goal

-- What was spelled was said, and the rest waits.
abbrev pub invariant-loop-more : goal.invariant-loop-more
invariant-loop-more g l =
    record {
      stands : g.C.Dial.stands l.dial ≡ true;
      lost : g.C.Dial.lost_count l.dial ≡ g.C.Dial.lost_count l.fn.dial;
      faults : g.C.Dial.fault_count l.dial ≡ g.C.Dial.fault_count l.fn.dial;
      saying : (talk : Talk) (rest : List ℕ) → Owes l.fn.initiator talk rest
          → (later : List ℕ) × (Spells l.fn.initiator talk l.initiator later l.more
          × ((before : List Call) (said heard : List ℕ) → IsOn before said heard (g.C.Dial.told l.fn.dial) → IsPending before said heard (l.fn.said.items ++ rest) later (g.C.Dial.told l.dial)));
    }

abbrev pub decreases-loop-more : goal.decreases-loop-more
decreases-loop-more g l = length l.initiator.waiting.items + (if l.more then 1 else 0)
