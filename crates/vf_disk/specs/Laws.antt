-- Laws of runs of calls: what a crash leaves of a run that goes on, and how its calls are counted. The
-- functions of the crate give them for predicates of types; for any predicates they are lemmas of `proofs/Runs`.
use Rattle.std.specs.Prelude.{◌≡◌, ℕ, ◌+◌, ◌≤◌, Bool, true, false, List, [], ◌∷◌, ◌++◌, length, fold, Option}
use Rattle.std.specs.List.{list_any}
use Rattle.vf_disk.specs.Calls.{MakesChanges}
use Rattle.vf_disk.specs.Disk.{Elapses, LeavesOnly}
use Rattle.vf_disk.specs.Plans.{StopPlan, stopping}
use Rattle.vf_disk.specs.State.{State, after}
use Rattle.vf_disk.specs.Steps.{MakesSteps, as_failed, ending_of, is_long}
use Rattle.vf_disk.specs.declared.step.Step.{Step}

module _ {D : Type 0} (moment : D → ℕ) (left_since : D → ℕ → List ℕ → Type 0) where
  -- before the first call a crash leaves what the disk may leave now
  abbrev pub Starts : (D → List ℕ → Type 0) → (List ℕ → Type 0) → Type 0
  Starts may_leave P = (disk : D) → ((image : List ℕ) → may_leave disk image → P image) → LeavesOnly moment left_since disk disk P

  -- a run leaves only such images with one call more, after which the disk may leave only such
  abbrev pub GoesOn : (D → List ℕ → Type 0) → (List ℕ → Type 0) → Type 0
  GoesOn may_leave P =
      (old mid new : D) → LeavesOnly moment left_since old mid P → Elapses (moment mid) (moment new) (left_since mid) (left_since new) (may_leave new)
      → ((image : List ℕ) → may_leave new image → P image) → LeavesOnly moment left_since old new P

  -- a run after another, where both leave only images that are allowed
  abbrev pub Joins : (List ℕ → Type 0) → (List ℕ → Type 0) → (List ℕ → Type 0) → Type 0
  Joins P Q R =
      (old mid new : D) → LeavesOnly moment left_since old mid P → LeavesOnly moment left_since mid new Q
      → ((image : List ℕ) → P image → R image) → ((image : List ℕ) → Q image → R image) → LeavesOnly moment left_since old new R

  -- a run that leaves only some of the images that are allowed
  abbrev pub Weakens : (List ℕ → Type 0) → (List ℕ → Type 0) → Type 0
  Weakens P R = (old new : D) → LeavesOnly moment left_since old new P → ((image : List ℕ) → P image → R image) → LeavesOnly moment left_since old new R

-- calls after calls that all succeeded, counted together
abbrev pub CallsJoin : Type 0
CallsJoin = (a b : ℕ) (old mid new : Option StopPlan) (failed : Bool) → MakesChanges a old mid false → MakesChanges b mid new failed → MakesChanges (a + b) old new failed

-- a run that ends early is an early end of a longer one
abbrev pub FewerCalls : Type 0
FewerCalls = (a b : ℕ) (old new : Option StopPlan) → a ≤ b → MakesChanges a old new true → MakesChanges b old new true

-- a row of calls after another of which all succeeded
abbrev pub StepsJoin : Type 0
StepsJoin =
    (a b : List Step) (p q r : Option StopPlan) (s t u : Option State) (failed : Bool) (l m n : ℕ)
    → MakesSteps a p q s t false l m → MakesSteps b q r t u failed m n → MakesSteps (a ++ b) p r s u failed l n

-- What a stop at a call of a row leaves, where no other call is planned to fail and no write is too long: the calls
-- before it as they are, and that one as one that failed, but none after it.
abbrev pub StopLeaves : Type 0
StopLeaves =
    (before rest : List Step) (step : Step) (calls : ℕ) (state : State) → list_any is_long (before ++ step ∷ []) ≡ false
    → ((ending_of (before ++ step ∷ rest) (stopping calls (length before + 1)) state).failed ≡ true)
    × ((ending_of (before ++ step ∷ rest) (stopping calls (length before + 1)) state).state ≡ fold after state (before ++ as_failed step))
