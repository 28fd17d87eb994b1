-- A disk in memory (profile): what it held at first and the calls since, from which follows, for each moment, what
-- a read gives and what a crash may leave.
use Rattle.std.specs.Prelude.{◌≡◌, ◌⊎◌, ℕ, ◌<◌, ◌≤◌, Bool, true, false, not, List, [], ◌∷◌, ◌++◌, length, take, fold, if◌then◌else◌}
use Rattle.vf_base.specs.Faults.{HasRisen}
use Rattle.vf_disk.specs.Plans.{StopPlan, planned}
use Rattle.vf_disk.specs.State.{State, IsImage, state_of}
use Rattle.vf_disk.specs.Steps.{IsNoted}
use Rattle.vf_disk.specs.declared.step.Step.{Step}
use Rattle.vf_disk.specs.declared.step.Step.TheVariants.{Wrote, CutTo, Synced}

pub record Memory : Type 0 where
  pub first : List ℕ
  pub steps : List Step
  pub plan : StopPlan
  pub faults : ℕ
  pub lacks : ℕ  -- the number of calls that found no memory

-- a disk that holds these octets as synced, before its first call
abbrev pub fresh : List ℕ → List ℕ → Memory
fresh octets failing = record { first = octets; steps = []; plan = planned failing; faults = 0; lacks = 0 }

abbrev pub state : Memory → State
state disk = state_of disk.first disk.steps

-- what a crash at some moment from one on might have left; the moment is the number of calls until then
abbrev pub LeftSince : Memory → ℕ → List ℕ → Type 0
LeftSince disk moment image =
    (count : ℕ) × (moment ≤ count) × (count ≤ length disk.steps) × IsImage (state_of disk.first (take count disk.steps)) image

-- a write or a cut found no memory: it fails, and isn't kept
pub record KeepsNothing (old new : Memory) (failed : Bool) : Type 0 where
  pub fails : failed ≡ true
  pub steps : new.steps ≡ old.steps
  pub memory : HasRisen old.lacks new.lacks

-- A write or a cut is kept as its plan has it, or finds no memory in this call.
abbrev pub Keeps : Memory → Memory → Step → Bool → Type 0
Keeps old new step failed =
    (new.first ≡ old.first) × ((IsNoted old.plan step old.steps new.steps failed × (new.lacks ≡ old.lacks)) ⊎ KeepsNothing old new failed)

abbrev pub is_change : Step → Bool
is_change (Wrote at octets good) = true
is_change (CutTo to good) = true
is_change Synced = false

-- nothing was written or cut since the last sync
abbrev pub is_settled : List Step → Bool
is_settled steps = fold (λ settled step. not (is_change step)) true steps

-- after a sync that succeeds, which is kept where something has changed since the last one
abbrev pub with_sync : List Step → List Step
with_sync steps = if is_settled steps then steps else steps ++ Synced ∷ []

-- A call that finds no want of memory and isn't a write or a cut: what it leaves of the calls that are kept.
pub record Leaves (old new : Memory) (kept : List Step) : Type 0 where
  pub first : new.first ≡ old.first
  pub steps : new.steps ≡ kept
  pub memory : new.lacks ≡ old.lacks

-- what a read gives is that of these calls
abbrev pub IsShown : List ℕ → List ℕ → List Step → Type 0
IsShown octets first steps = octets ≡ (state_of first steps).shown

-- there is room for a sync, where one would be kept
abbrev pub HasRoom : List Step → ℕ → Type 0
HasRoom steps capacity = is_settled steps ≡ false → length steps < capacity
