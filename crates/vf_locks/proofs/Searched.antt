-- What a binary search finds in a list of holders in order.
use Rattle.std.proofs.Common.{◌≡◌, ◌≤◌, ◌<◌, ℕ, zero, suc, Bool, true, List, [], ◌∷◌, length, Ok, Err, Result, HoldsAt, refl, ap, sym, subst, ◌∙◌, get_or, arith}
use Rattle.std.specs.Cmp.{first_so, second_so}
use Rattle.std.specs.List.{list_all}
use Rattle.std.specs.List.Sorted.{IsBinarySearchResult, IsNonDecreasingBy, IsPartitionPoint, IsSearchInRange}
use Rattle.std.specs.Ordering.{ordering_index}
use Rattle.std.specs.declared.cmp.Ordering.{Ordering}
use Rattle.std.specs.declared.cmp.Ordering.TheVariants.{Less, Equal, Greater}
use Rattle.vf_locks.specs.Holders.{holder_cmp, stands_before, IsOrdered}
use Rattle.vf_locks.specs.Place.{place_by, place_of}
use Rattle.vf_locks.specs.declared.held.Held.{Held}
use Rattle.vf_locks.specs.declared.holder.Holder.{Holder}
use Rattle.vf_locks.proofs.Order.{holder_total, less_from, reversed, same_from_equal}

abbrev before : Holder → Held → Bool
before holder held = stands_before holder held.holder

abbrev from : Holder → Held → Ordering
from holder held = holder_cmp held.holder holder

before_at : (holder : Holder) (hs : List Held) (k : ℕ) (d : Held) → k < length hs → list_all (before holder) hs ≡ true → holder_cmp holder (get_or hs k d).holder ≡ Less
before_at holder [] k d within all = absurd (omega arith)
before_at holder (x ∷ xs) zero d within all = less_from _ (first_so (before holder x) (list_all (before holder) xs) all)
before_at holder (x ∷ xs) (suc k) d within all = before_at holder xs k d (grind (arith, within)) (second_so (before holder x) (list_all (before holder) xs) all)

-- where the first is not before the holder, all others stand after it
not_below : (holder : Holder) (x y : Held) → holder_cmp x.holder y.holder ≡ Less → ordering_index (from holder x) ≤ ordering_index (from holder y)
not_below holder x y ahead = by (from holder x) (from holder y) refl refl
  where
    by : (r s : Ordering) → holder_cmp x.holder holder ≡ r → holder_cmp y.holder holder ≡ s → ordering_index r ≤ ordering_index s
    by Less s p q = lowest s
      where
        lowest : (s : Ordering) → ordering_index Less ≤ ordering_index s
        lowest Less = omega arith
        lowest Equal = omega arith
        lowest Greater = omega arith
    by Equal s p q =
        let same : x.holder ≡ holder = same_from_equal x.holder holder p in
        let after : holder_cmp y.holder holder ≡ Greater = reversed holder y.holder Less (subst (λ h. holder_cmp h y.holder ≡ Less) same ahead) in
        subst (λ s. ordering_index Equal ≤ ordering_index s) (sym after ∙ q) (omega arith)
    by Greater s p q =
        let first : holder_cmp holder x.holder ≡ Less = reversed x.holder holder Greater p in
        let after : holder_cmp y.holder holder ≡ Greater = reversed holder y.holder Less (holder_total.trans holder x.holder y.holder first ahead) in
        subst (λ s. ordering_index Greater ≤ ordering_index s) (sym after ∙ q) (omega arith)

rises : (holder : Holder) (hs : List Held) → IsOrdered hs → IsNonDecreasingBy (λ y. ordering_index (from holder y)) hs
rises holder [] ordered i j d a b = absurd (omega arith)
rises holder (x ∷ xs) ordered zero zero d a b = omega arith
rises holder (x ∷ xs) ordered zero (suc j) d a b = not_below holder x (get_or xs j d) (before_at x.holder xs j d (grind (arith, b)) ordered.0)
rises holder (x ∷ xs) ordered (suc i) zero d a b = absurd (omega arith)
rises holder (x ∷ xs) ordered (suc i) (suc j) d a b = rises holder xs ordered.1 i j d (grind (arith, a)) (grind (arith, b))

place_ok : (holder : Holder) (hs : List Held) (i : ℕ) → IsOrdered hs → i < length hs → HoldsAt (λ y. from holder y ≡ Equal) hs i → place_of holder hs ≡ Ok i
place_ok holder [] i ordered within at = absurd (omega arith)
place_ok holder (x ∷ xs) zero ordered within at = ap (λ r. place_by r (place_of holder xs)) (at x)
place_ok holder (x ∷ xs) (suc i) ordered within at =
    let level : holder_cmp (get_or xs i x).holder holder ≡ Equal = at x in
    let same : (get_or xs i x).holder ≡ holder = same_from_equal _ _ level in
    let ahead : holder_cmp x.holder holder ≡ Less = subst (λ h. holder_cmp x.holder h ≡ Less) same (before_at x.holder xs i x (grind (arith, within)) ordered.0) in
    (λ j. place_by (ahead j) (place_ok holder xs i ordered.1 (grind (arith, within)) at j))

place_err : (holder : Holder) (hs : List Held) (i : ℕ) → i ≤ length hs → IsPartitionPoint (λ y. from holder y ≡ Less) (λ y. from holder y ≡ Greater) hs i → place_of holder hs ≡ Err i
place_err holder [] zero within parts = refl
place_err holder [] (suc i) within parts = absurd (omega arith)
place_err holder (x ∷ xs) zero within parts = ap (λ r. place_by r (place_of holder xs)) (parts.1 0 x (omega arith) (omega arith))
place_err holder (x ∷ xs) (suc i) within parts =
    let ahead : holder_cmp x.holder holder ≡ Less = parts.0 0 x (omega arith) (omega arith) in
    let rest = place_err holder xs i (grind (arith, within)) (λ k d a b. parts.0 (suc k) d (omega arith) (grind (arith, b)), λ k d a b. parts.1 (suc k) d (grind (arith, a)) (grind (arith, b))) in
    λ j. place_by (ahead j) (rest j)

pub placed : (holder : Holder) (hs : List Held) (r : Result ℕ ℕ) → IsOrdered hs → IsSearchInRange r (length hs) → IsBinarySearchResult (from holder) hs r → r ≡ place_of holder hs
placed holder hs (Ok i) ordered within found = sym (place_ok holder hs i ordered within found)
placed holder hs (Err i) ordered within found = sym (place_err holder hs i within (found (rises holder hs ordered)))
