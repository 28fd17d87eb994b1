-- How a row of writes, cuts and syncs goes on a disk that tells which calls are to fail and what it holds (profile):
-- one after the other, up to the first that fails. So what is made when a certain call is stopped can be computed.
use Rattle.std.specs.Prelude.{◌≡◌, ◌⊎◌, ℕ, suc, ◌+◌, ◌<◌, nat_lt, Bool, true, false, ◌||◌, List, [], ◌∷◌, ◌++◌, length, take, fold, Option, None, Some, if◌then◌else◌}
use Rattle.vf_base.specs.Faults.{HasRisen}
use Rattle.vf_disk.specs.Calls.{after_changes, no_change_fails}
use Rattle.vf_disk.specs.Disk.{greatest_length}
use Rattle.vf_disk.specs.Plans.{StopPlan, after_change, change_fails, is_after_stop}
use Rattle.vf_disk.specs.State.{State, after}
use Rattle.vf_disk.specs.declared.step.Step.{Step}
use Rattle.vf_disk.specs.declared.step.Step.TheVariants.{Wrote, CutTo, Synced}

-- a write that would pass the greatest length
abbrev pub is_long : Step → Bool
is_long (Wrote at octets good) = nat_lt greatest_length (at + length octets)
is_long (CutTo to good) = false
is_long Synced = false

-- the call at hand fails, where memory isn't wanting
abbrev pub step_fails : StopPlan → Step → Bool
step_fails plan step = change_fails plan || is_long step

-- a write or a cut that fails counts for a crash as one that was made, and a sync that fails changes nothing
abbrev pub as_failed : Step → List Step
as_failed (Wrote at octets good) = Wrote at octets false ∷ []
as_failed (CutTo to good) = CutTo to false ∷ []
as_failed Synced = []

-- what the call leaves on the disk: nothing after a stop, nor of a write that would pass the greatest length
abbrev pub noted : StopPlan → Step → List Step
noted plan step = if is_after_stop plan.until_stop || is_long step then [] else if change_fails plan then as_failed step else step ∷ []

-- a call is noted after others as its plan has it, and fails where it is to
pub record IsNoted (plan : StopPlan) (step : Step) (old new : List Step) (failed : Bool) : Type 0 where
  pub fails : failed ≡ step_fails plan step
  pub keeps : new ≡ old ++ noted plan step

-- how a row of calls ends
pub record Ending : Type 0 where
  pub plan : StopPlan
  pub state : State
  pub failed : Bool

-- each call is made after the one before it succeeded
abbrev pub ending_of : List Step → StopPlan → State → Ending
ending_of [] plan state = record { plan = plan; state = state; failed = false }
ending_of (step ∷ steps) plan state =
    if step_fails plan step then record { plan = after_change plan; state = fold after state (noted plan step); failed = true }
    else ending_of steps (after_change plan) (after state step)

-- a row of calls that goes as planned, with the count of calls that found no memory
pub record GoesAsPlanned (steps : List Step) (plan : StopPlan) (planned : Option StopPlan) (state : State) (left : Option State) (failed : Bool) (old new : ℕ) : Type 0 where
  pub next : planned ≡ Some (ending_of steps plan state).plan
  pub leaves : left ≡ Some (ending_of steps plan state).state
  pub fails : failed ≡ (ending_of steps plan state).failed
  pub memory : new ≡ old

-- a row of calls of which some are made, and the next finds no memory, fails, and leaves nothing
pub record LacksMemory (steps : List Step) (plan : StopPlan) (planned : Option StopPlan) (state : State) (left : Option State) (failed : Bool) (old new : ℕ) : Type 0 where
  pub made : ℕ
  pub less : made < length steps
  pub none : no_change_fails made plan ≡ true
  pub next : planned ≡ Some (after_changes (suc made) plan)
  pub leaves : left ≡ Some (fold after state (take made steps))
  pub fails : failed ≡ true
  pub memory : HasRisen old new

-- How a row of calls goes on a disk that tells its plan and its state; of others it says that they tell no state. The
-- two numbers count the calls that found no memory.
abbrev pub MakesSteps : List Step → Option StopPlan → Option StopPlan → Option State → Option State → Bool → ℕ → ℕ → Type 0
MakesSteps steps None planned state left failed old new = left ≡ None
MakesSteps steps (Some plan) planned None left failed old new = left ≡ None
MakesSteps steps (Some plan) planned (Some state) left failed old new =
    GoesAsPlanned steps plan planned state left failed old new ⊎ LacksMemory steps plan planned state left failed old new

-- what a row of calls that take no memory leaves, on such a disk
abbrev pub LeavesState : List Step → Option StopPlan → Option State → Option State → Type 0
LeavesState steps None state left = left ≡ None
LeavesState steps (Some plan) None left = left ≡ None
LeavesState steps (Some plan) (Some state) left = left ≡ Some (ending_of steps plan state).state
