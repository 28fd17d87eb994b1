-- Planned failures (profile). An object in memory is told which of its calls are to fail, by their numbers from 1
-- over the calls that can fail; one over the real world tells no plan.
use Rattle.std.specs.Prelude.{◌≡◌, ℕ, Bool, true, false, nat_eq, List, Option, None, Some, Result, Ok, Err}
use Rattle.std.specs.List.{list_any}
use Rattle.vf_base.specs.Faults.{counted}
use Rattle.vf_base.specs.declared.events.LinkEvent.{LinkEvent}
use Rattle.vf_base.specs.declared.events.LinkFault.{LinkFault}
use Rattle.vf_base.specs.declared.events.LinkFault.TheVariants as fault

-- the numbers of the calls that are to fail, and the number of calls made
pub record FailurePlan : Type 0 where
  pub failing : List ℕ
  pub calls : ℕ

-- the next call is to fail
abbrev pub is_planned : FailurePlan → Bool
is_planned plan = list_any (λ number. nat_eq number (counted plan.calls)) plan.failing

abbrev pub after_call : FailurePlan → FailurePlan
after_call plan = record plan { calls = counted plan.calls }

-- A call that takes no memory fails exactly where that is planned.
abbrev pub FailsAsPlanned : Option FailurePlan → Option FailurePlan → Bool → Type 0
FailsAsPlanned None new failed = new ≡ None
FailsAsPlanned (Some old) new failed = (failed ≡ is_planned old) × (new ≡ Some (after_call old))

-- A call that takes memory fails where that is planned, and may fail where it finds none.
abbrev pub FailsWherePlanned : Option FailurePlan → Option FailurePlan → Bool → Type 0
FailsWherePlanned None new failed = new ≡ None
FailsWherePlanned (Some old) new failed = (is_planned old ≡ true → failed ≡ true) × (new ≡ Some (after_call old))

-- the answer of a call of `next` that failed; want of memory is no failure
abbrev pub has_failed : Result LinkEvent LinkFault → Bool
has_failed (Ok event) = false
has_failed (Err fault.Failed) = true
has_failed (Err fault.NoMemory) = false
