-- How a run of calls goes on that leaves only certain images, and how runs are joined.
use Rattle.std.specs.Prelude.{◌≡◌, ℕ, List, Option, Some}
use Rattle.std.proofs.Common.{inl, inr, ⊎_elim, sym, ◌∙◌, arith}
use Rattle.vf_disk.specs.Disk.{Elapses, LeavesOnly, LeavesShown}

module _ {D : Type 0} (moment : D → ℕ) (left_since : D → ℕ → List ℕ → Type 0) where
  -- before the first call
  pub leaves_at_first : (disk : D) (P : List ℕ → Type 0) → ((image : List ℕ) → left_since disk (moment disk) image → P image) → LeavesOnly moment left_since disk disk P
  leaves_at_first disk P here = record { later = omega arith; each = here; earlier = λ t image le left. inl left }

  -- one call more, after which a crash may leave what has P
  pub leaves_after : (old mid new : D) (P images : List ℕ → Type 0) → LeavesOnly moment left_since old mid P
      → Elapses (moment mid) (moment new) (left_since mid) (left_since new) images → ((image : List ℕ) → images image → P image) → LeavesOnly moment left_since old new P
  leaves_after old mid new P images so_far time here = record {
    later = omega (arith, so_far.later, time.later);
    each = λ image left. ⊎_elim (so_far.each image) (here image) (time.nothing_else (moment old) image so_far.later left);
    earlier = λ t image le left. ⊎_elim (so_far.earlier t image le) (λ now. inr (here image now)) (time.nothing_else t image (omega (arith, le, so_far.later)) left);
  }

  -- a run after another
  pub joined : (old mid new : D) (P Q R : List ℕ → Type 0) → LeavesOnly moment left_since old mid P → LeavesOnly moment left_since mid new Q
      → ((image : List ℕ) → P image → R image) → ((image : List ℕ) → Q image → R image) → LeavesOnly moment left_since old new R
  joined old mid new P Q R first second p q = record {
    later = omega (arith, first.later, second.later);
    each = λ image left. ⊎_elim (λ past. p image (first.each image past)) (q image) (second.earlier (moment old) image first.later left);
    earlier = λ t image le left. ⊎_elim (λ past. ⊎_elim inl (λ now. inr (p image now)) (first.earlier t image le past)) (λ now. inr (q image now)) (second.earlier t image (omega (arith, le, first.later)) left);
  }

  pub weaker : (old new : D) (P R : List ℕ → Type 0) → LeavesOnly moment left_since old new P → ((image : List ℕ) → P image → R image) → LeavesOnly moment left_since old new R
  weaker old new P R run p = record {
    later = run.later;
    each = λ image left. p image (run.each image left);
    earlier = λ t image le left. ⊎_elim inl (λ now. inr (p image now)) (run.earlier t image le left);
  }

-- a disk on which a crash leaves what a read gives leaves these octets alone
pub leaves_octets : (shown : Option (List ℕ)) (images : List ℕ → Type 0) (octets image : List ℕ) → LeavesShown shown images → shown ≡ Some octets → images image → image ≡ octets
leaves_octets shown images octets image only is left = let same : Some image ≡ Some octets = sym (only image left) ∙ is in cc
