-- A disk that is only looked at (profile).
use Rattle.std.specs.Prelude.{◌≡◌, ℕ, Bool, List, [], ◌∷◌, Option}
use Rattle.vf_disk.specs.Disk.{LeavesOnly, Within}
use Rattle.vf_disk.specs.Plans.{StopPlan}
use Rattle.vf_disk.specs.State.{State}
use Rattle.vf_disk.specs.Steps.{LeavesState}
use Rattle.vf_disk.specs.declared.step.Step.TheVariants.{Synced}
use Rattle.vf_disk.specs.Calls.{MakesLooks, SyncsAndLooks}

-- What a read gives and the length stay, a crash at any moment leaves what one before might have left, and only calls
-- of `len` and `read` are made, each as planned, which leave the state of the disk.
pub record IsLookedAt {D : Type 0} (shown : D → Option (List ℕ)) (size : D → ℕ) (may_leave : D → List ℕ → Type 0) (moment : D → ℕ) (left_since : D → ℕ → List ℕ → Type 0)
    (plan : D → Option StopPlan) (state : D → Option State) (lack_count : D → ℕ) (failed : Bool) (old new : D) : Type 0 where
  pub same : shown new ≡ shown old
  pub as_long : size new ≡ size old
  pub now : Within (may_leave old) (may_leave new)
  pub since : LeavesOnly moment left_since old new (may_leave old)
  pub calls : MakesLooks (plan old) (plan new) failed
  pub kept : state new ≡ state old
  pub memory : lack_count new ≡ lack_count old

-- The same of a disk that is synced first: nothing of what a read gives changes, and no image comes that a crash before
-- might not have left. One sync is made, and after it calls of `len` and `read`.
pub record IsSyncedAndLookedAt {D : Type 0} (shown : D → Option (List ℕ)) (size : D → ℕ) (may_leave : D → List ℕ → Type 0) (moment : D → ℕ)
    (left_since : D → ℕ → List ℕ → Type 0) (plan : D → Option StopPlan) (state : D → Option State) (lack_count : D → ℕ) (failed : Bool) (old new : D) : Type 0 where
  pub same : shown new ≡ shown old
  pub as_long : size new ≡ size old
  pub now : Within (may_leave old) (may_leave new)
  pub since : LeavesOnly moment left_since old new (may_leave old)
  pub calls : SyncsAndLooks (plan old) (plan new) failed
  pub made : LeavesState (Synced ∷ []) (plan old) (state old) (state new)
  pub memory : lack_count new ≡ lack_count old
