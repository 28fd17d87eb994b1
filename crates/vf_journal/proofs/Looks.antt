-- A disk that is looked at once more.
use Rattle.std.proofs.Common.{◌≡◌, ℕ, Bool, true, false, List, [], ◌∷◌, Option, sym, ◌∙◌, subst}
use Rattle.vf_disk.specs.Disk.{Elapses, LeavesOnly, LeavesShown, Within}
use Rattle.vf_disk.proofs.Runs.{joined, leaves_after, leaves_at_first}
use Rattle.vf_disk.specs.Plans.{StopPlan, SyncsAsPlanned}
use Rattle.vf_disk.specs.State.{State}
use Rattle.vf_disk.specs.Steps.{LeavesState}
use Rattle.vf_disk.specs.declared.step.Step.TheVariants.{Synced}
use Rattle.vf_journal.specs.Looking.{IsLookedAt, IsSyncedAndLookedAt}
use Rattle.vf_disk.proofs.CallCounts.{looks_joined, sync_fails, sync_looks, syncs_joined}

pub looked_then : {D : Type 0} (shown : D → Option (List ℕ)) (size : D → ℕ) (may_leave : D → List ℕ → Type 0) (moment : D → ℕ) (left_since : D → ℕ → List ℕ → Type 0) (plan : D → Option StopPlan) (state : D → Option State) (lack_count : D → ℕ)
    (old mid new : D) (failed : Bool) → IsLookedAt shown size may_leave moment left_since plan state lack_count false old mid → IsLookedAt shown size may_leave moment left_since plan state lack_count failed mid new
    → IsLookedAt shown size may_leave moment left_since plan state lack_count failed old new
looked_then shown size may_leave moment left_since plan state lack_count old mid new failed first second = record {
  same = second.same ∙ first.same;
  as_long = second.as_long ∙ first.as_long;
  now = λ image left. first.now image (second.now image left);
  since = joined moment left_since old mid new (may_leave old) (may_leave mid) (may_leave old) first.since second.since (λ image left. left) (λ image left. first.now image left);
  calls = looks_joined (plan old) (plan mid) (plan new) failed first.calls second.calls;
  kept = second.kept ∙ first.kept;
  memory = second.memory ∙ first.memory;
}

-- a disk that is synced, and then looked at
module _ {D : Type 0} (shown : D → Option (List ℕ)) (size : D → ℕ) (may_leave : D → List ℕ → Type 0) (moment : D → ℕ) (left_since : D → ℕ → List ℕ → Type 0) (plan : D → Option StopPlan) (state : D → Option State) (lack_count : D → ℕ)
    (only_now : (disk : D) (image : List ℕ) → left_since disk (moment disk) image → may_leave disk image) where
  module _ (old mid : D) (same : shown mid ≡ shown old) (long : size mid ≡ size old) (within : Within (may_leave old) (may_leave mid)) (time : Elapses (moment old) (moment mid) (left_since old) (left_since mid) (may_leave mid))
      (made : LeavesState (Synced ∷ []) (plan old) (state old) (state mid)) (memory : lack_count mid ≡ lack_count old) where
    sync_run : LeavesOnly moment left_since old mid (may_leave old)
    sync_run = leaves_after moment left_since old old mid (may_leave old) (may_leave mid) (leaves_at_first moment left_since old (may_leave old) (only_now old)) time within

    pub sync_failed : SyncsAsPlanned (plan old) (plan mid) true → IsSyncedAndLookedAt shown size may_leave moment left_since plan state lack_count true old mid
    sync_failed planned = record { same = same; as_long = long; now = within; since = sync_run; calls = sync_fails (plan old) (plan mid) planned; made = made; memory = memory }

    pub synced_then : (new : D) (failed : Bool) → SyncsAsPlanned (plan old) (plan mid) false → IsLookedAt shown size may_leave moment left_since plan state lack_count failed mid new → IsSyncedAndLookedAt shown size may_leave moment left_since plan state lack_count failed old new
    synced_then new failed planned looks = record {
      same = looks.same ∙ same;
      as_long = looks.as_long ∙ long;
      now = λ image left. within image (looks.now image left);
      since = joined moment left_since old mid new (may_leave old) (may_leave mid) (may_leave old) sync_run looks.since (λ image left. left) (λ image left. within image left);
      calls = sync_looks (plan old) (plan mid) (plan new) failed planned looks.calls;
      made = subst (λ (s : Option State). LeavesState (Synced ∷ []) (plan old) (state old) s) (sym looks.kept) made;
      memory = looks.memory ∙ memory;
    }

  pub synced_more : (old mid new : D) (failed : Bool) → IsSyncedAndLookedAt shown size may_leave moment left_since plan state lack_count false old mid → IsLookedAt shown size may_leave moment left_since plan state lack_count failed mid new
      → IsSyncedAndLookedAt shown size may_leave moment left_since plan state lack_count failed old new
  synced_more old mid new failed first second = record {
    same = second.same ∙ first.same;
    as_long = second.as_long ∙ first.as_long;
    now = λ image left. first.now image (second.now image left);
    since = joined moment left_since old mid new (may_leave old) (may_leave mid) (may_leave old) first.since second.since (λ image left. left) (λ image left. first.now image left);
    calls = syncs_joined (plan old) (plan mid) (plan new) failed first.calls second.calls;
    made = subst (λ (s : Option State). LeavesState (Synced ∷ []) (plan old) (state old) s) (sym second.kept) first.made;
    memory = second.memory ∙ first.memory;
  }

  -- it leaves then what a read gives
  pub leaves_still : (mid new : D) (failed : Bool) → LeavesShown (shown mid) (may_leave mid) → IsLookedAt shown size may_leave moment left_since plan state lack_count failed mid new → LeavesShown (shown new) (may_leave new)
  leaves_still mid new failed synced looks = λ image left. looks.same ∙ synced image (looks.now image left)
