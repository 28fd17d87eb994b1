-- What a crash leaves of a write and a sync, and of two writes and a sync.
use Rattle.std.proofs.Common.{◌≡◌, ℕ, ◌≤◌, List, length, Option, None, Some, Result, Ok, Err, refl, ap, ◌∙◌, subst, arith}
use Rattle.vf_base.specs.declared.errors.Failed.{Failed}
use Rattle.vf_disk.specs.Disk.{Elapses, Follows, LeavesOnly, Torn, Within, Writes, overwritten}
use Rattle.vf_disk.proofs.Runs.{joined, leaves_after, leaves_at_first, weaker}
use Rattle.vf_journal.specs.Writes.{MadeBy, Shows}
use Rattle.vf_journal.proofs.Parts.{torn_whole}

pub torn_self : (at count : ℕ) (image : List ℕ) → Torn at count image image
torn_self at count image = record { before = refl; past = refl; no_shorter = omega arith; no_longer = omega arith }

module _ {D : Type 0} (moment : D → ℕ) (left_since : D → ℕ → List ℕ → Type 0) (may_leave : D → List ℕ → Type 0) (at count : ℕ) (old mid : D)
    (only_now : (disk : D) (image : List ℕ) → left_since disk (moment disk) image → may_leave disk image)
    (follows : Follows (Torn at count) (may_leave old) (may_leave mid)) (time : Elapses (moment old) (moment mid) (left_since old) (left_since mid) (may_leave mid)) where
  abbrev Left : List ℕ → Type 0
  Left = MadeBy (Torn at count) (may_leave old)

  -- after the write
  pub write_run : LeavesOnly moment left_since old mid Left
  write_run = leaves_after moment left_since old old mid Left (may_leave mid) (leaves_at_first moment left_since old Left (λ image left. (image, only_now old image left, torn_self at count image))) time follows

  -- and after the sync
  pub synced_run : (new : D) → Elapses (moment mid) (moment new) (left_since mid) (left_since new) (may_leave new) → Within (may_leave mid) (may_leave new) → LeavesOnly moment left_since old new Left
  synced_run new later within = leaves_after moment left_since old mid new Left (may_leave new) write_run later (λ image left. follows image (within image left))

  -- after the write and another, with its sync
  pub both_run : (then_at then : ℕ) (new : D) → LeavesOnly moment left_since mid new (MadeBy (Torn then_at then) (may_leave mid)) → LeavesOnly moment left_since old new (MadeBy (Torn then_at then) Left)
  both_run then_at then new second = joined moment left_since old mid new Left (MadeBy (Torn then_at then) (may_leave mid)) (MadeBy (Torn then_at then) Left) write_run second
      (λ image left. (image, left, torn_self then_at then image))
      (λ image left. (left.0, follows left.0 left.1, left.2))

  pub first_run : (then_at then : ℕ) → LeavesOnly moment left_since old mid (MadeBy (Torn then_at then) Left)
  first_run then_at then = weaker moment left_since old mid Left (MadeBy (Torn then_at then) Left) write_run (λ image left. (image, left, torn_self then_at then image))

-- what a read gives after a write, however it went
pub written_seen : (told new : Option (List ℕ)) (old : List ℕ) (at : ℕ) (octets : List ℕ) (result : Result (Unit {0}) Failed) → at ≤ length old → told ≡ Some old → Writes told new at octets result
    → Shows new (Torn at (length octets) old)
written_seen None new old at octets result low is writes = cc
written_seen (Some shown) new old at octets (Ok done) low is writes =
    let same : shown ≡ old = cc in
    (overwritten old at octets, writes ∙ ap (λ (l : List ℕ). Some (overwritten l at octets)) same, torn_whole old at octets low)
written_seen (Some shown) new old at octets (Err failed) low is writes =
    let same : shown ≡ old = cc in
    (writes.0, writes.1, subst (λ (l : List ℕ). Torn at (length octets) l writes.0) same writes.3)

-- the same of a disk that tells another state by the same octets
pub seen_still : (mid new : Option (List ℕ)) (P : List ℕ → Type 0) → new ≡ mid → Shows mid P → Shows new P
seen_still mid new P same seen = (seen.0, same ∙ seen.1, seen.2)

-- after a first write, and after a second one
pub first_seen : (new : Option (List ℕ)) (old : List ℕ) (at count then_at then : ℕ) → Shows new (Torn at count old) → Shows new (MadeBy (Torn then_at then) (Torn at count old))
first_seen new old at count then_at then seen = (seen.0, seen.1, (seen.0, seen.2, torn_self then_at then seen.0))

pub both_seen : (new : Option (List ℕ)) (old : List ℕ) (at : ℕ) (octets : List ℕ) (then_at then : ℕ) → at ≤ length old → Shows new (Torn then_at then (overwritten old at octets)) → Shows new (MadeBy (Torn then_at then) (Torn at (length octets) old))
both_seen new old at octets then_at then low seen = (seen.0, seen.1, (overwritten old at octets, torn_whole old at octets low, seen.2))
