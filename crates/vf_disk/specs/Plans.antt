-- Which calls of a disk in memory are to fail (profile): those of certain numbers, counted from 1 over `len`, `read`,
-- `write_at`, `write_parts`, `cut` and `sync` together; a stopped write, cut or sync; and every call after that one. A disk over
-- the real world tells no plan.
use Rattle.std.specs.Prelude.{◌≡◌, ℕ, ◌-◌, min, Bool, true, false, ◌||◌, nat_eq, nat_le, List, [], Option, None, Some}
use Rattle.vf_base.specs.Plans.{FailurePlan, after_call, is_planned}

-- the calls that are to fail by their numbers, and the number of writes, cuts and syncs up to and with the stopped
-- one, where a stop is planned
pub record StopPlan : Type 0 where
  pub numbers : FailurePlan
  pub until_stop : Option ℕ

-- before the first call, with no stop
abbrev pub planned : List ℕ → StopPlan
planned failing = record { numbers = record { failing = failing; calls = 0 }; until_stop = None }

-- after so many calls, with a stop at such a write, cut or sync from now on, and no other failure
abbrev pub stopping : ℕ → ℕ → StopPlan
stopping calls stop = record { numbers = record { failing = []; calls = calls }; until_stop = Some stop }

-- the stopped call was made
abbrev pub is_after_stop : Option ℕ → Bool
is_after_stop None = false
is_after_stop (Some left) = nat_eq left 0

-- the write, cut or sync at hand is the stopped one, or comes after it
abbrev pub is_stopped : Option ℕ → Bool
is_stopped None = false
is_stopped (Some left) = nat_le left 1

-- a stop at such a write, cut or sync from now on; one that is planned already may come sooner
abbrev pub sooner : ℕ → Option ℕ → ℕ
sooner call None = call
sooner call (Some left) = min call left

abbrev pub counted_down : Option ℕ → Option ℕ
counted_down None = None
counted_down (Some left) = Some (left - 1)

-- a `len` or a `read` at hand is to fail
abbrev pub look_fails : StopPlan → Bool
look_fails plan = is_after_stop plan.until_stop || is_planned plan.numbers

abbrev pub after_look : StopPlan → StopPlan
after_look plan = record plan { numbers = after_call plan.numbers }

-- a write, a cut or a sync at hand is to fail
abbrev pub change_fails : StopPlan → Bool
change_fails plan = is_stopped plan.until_stop || is_planned plan.numbers

abbrev pub after_change : StopPlan → StopPlan
after_change plan = record { numbers = after_call plan.numbers; until_stop = counted_down plan.until_stop }

-- A `len` or a `read` fails exactly where that is planned.
abbrev pub LooksAsPlanned : Option StopPlan → Option StopPlan → Bool → Type 0
LooksAsPlanned None new failed = new ≡ None
LooksAsPlanned (Some old) new failed = (failed ≡ look_fails old) × (new ≡ Some (after_look old))

-- So does a sync.
abbrev pub SyncsAsPlanned : Option StopPlan → Option StopPlan → Bool → Type 0
SyncsAsPlanned None new failed = new ≡ None
SyncsAsPlanned (Some old) new failed = (failed ≡ change_fails old) × (new ≡ Some (after_change old))

-- A write or a cut fails where that is planned, and may fail where it finds no memory.
abbrev pub ChangesWherePlanned : Option StopPlan → Option StopPlan → Bool → Type 0
ChangesWherePlanned None new failed = new ≡ None
ChangesWherePlanned (Some old) new failed = (change_fails old ≡ true → failed ≡ true) × (new ≡ Some (after_change old))
