-- The order of holders is a total order.
use Rattle.std.proofs.Common.{◌≡◌, ℕ, true, false, ◌&&◌, not, nat_eq, List, refl, ap, sym, ◌∙◌, true≢false}
use Rattle.std.specs.Cmp.{IsTotalOrder, nat_cmp_total, unsigned_ties}
use Rattle.std.specs.Cmp.Lexicographic.{slice_cmp, lists_total, texts_ties}
use Rattle.std.specs.Ordering.{is_eq, is_lt, nat_cmp, ordering_reverse, ordering_then}
use Rattle.std.specs.Str.{bytes_eq}
use Rattle.std.specs.declared.cmp.Ordering.{Ordering}
use Rattle.std.specs.declared.cmp.Ordering.TheVariants.{Less, Equal, Greater}
use Rattle.std.proofs.lemmas.Cmp.{then_total, on_total}
use Rattle.vf_locks.specs.Holders.{holder_cmp, is_same, stands_before}
use Rattle.vf_locks.specs.declared.holder.Holder.{Holder}
use Rattle.vf_locks.specs.declared.holder.Holder.TheVariants.{Party, Docket}

abbrev docket_cmp : List ℕ × ℕ → List ℕ × ℕ → Ordering
docket_cmp x y = ordering_then (slice_cmp nat_cmp x.0 y.0) (nat_cmp x.1 y.1)

docket_total : IsTotalOrder docket_cmp
docket_total = then_total (on_total (λ (x : List ℕ × ℕ). x.0) (lists_total nat_cmp_total)) (on_total (λ (x : List ℕ × ℕ). x.1) nat_cmp_total)

turned : (x y : Holder) → holder_cmp x y ≡ ordering_reverse (holder_cmp y x)
turned (Party a) (Party b) = nat_cmp_total.antisymm a b
turned (Party a) (Docket j b) = refl
turned (Docket i a) (Party b) = refl
turned (Docket i a) (Docket j b) = docket_total.antisymm (i, a) (j, b)

through : (x y z : Holder) → holder_cmp x y ≡ Less → holder_cmp y z ≡ Less → holder_cmp x z ≡ Less
through (Party a) (Party b) (Party c) p q = nat_cmp_total.trans a b c p q
through (Party a) y (Docket k c) p q = refl
through (Party a) (Docket j b) (Party c) p q = absurd (true≢false (sym (ap is_lt q)))
through (Docket i a) (Party b) z p q = absurd (true≢false (sym (ap is_lt p)))
through (Docket i a) (Docket j b) (Party c) p q = absurd (true≢false (sym (ap is_lt q)))
through (Docket i a) (Docket j b) (Docket k c) p q = docket_total.trans (i, a) (j, b) (k, c) p q

level : (x y z : Holder) → holder_cmp x y ≡ Equal → holder_cmp x z ≡ holder_cmp y z
level (Party a) (Party b) (Party c) p = nat_cmp_total.congr a b c p
level (Party a) (Party b) (Docket k c) p = refl
level (Party a) (Docket j b) z p = absurd (true≢false (sym (ap is_eq p)))
level (Docket i a) (Party b) z p = absurd (true≢false (sym (ap is_eq p)))
level (Docket i a) (Docket j b) (Party c) p = refl
level (Docket i a) (Docket j b) (Docket k c) p = docket_total.congr (i, a) (j, b) (k, c) p

less_from : (r : Ordering) → is_lt r ≡ true → r ≡ Less
less_from Less e = refl
less_from Equal e = absurd (true≢false (sym e))
less_from Greater e = absurd (true≢false (sym e))

reversed : (x y : Holder) (r : Ordering) → holder_cmp x y ≡ r → holder_cmp y x ≡ ordering_reverse r
reversed x y r e = turned y x ∙ ap ordering_reverse e

pub same_itself : (holder : Holder) → is_same holder holder ≡ true
same_itself holder = by (holder_cmp holder holder) refl
  where
    by : (r : Ordering) → holder_cmp holder holder ≡ r → is_eq r ≡ true
    by Less e = absurd (true≢false (ap is_lt (sym e ∙ reversed holder holder Less e)))
    by Equal e = refl
    by Greater e = absurd (true≢false (ap is_lt (sym (reversed holder holder Greater e) ∙ e)))

-- of two that differ one stands before the other
pub one_before : (x y : Holder) → is_same y x ≡ false → stands_before y x ≡ not (stands_before x y)
one_before x y apart = by (holder_cmp y x) refl apart
  where
    by : (r : Ordering) → holder_cmp y x ≡ r → is_eq r ≡ false → stands_before y x ≡ not (stands_before x y)
    by Less e off = ap is_lt e ∙ sym (ap (λ r. not (is_lt r)) (reversed y x Less e))
    by Equal e off = absurd (true≢false off)
    by Greater e off = ap is_lt e ∙ sym (ap (λ r. not (is_lt r)) (reversed y x Greater e))

-- what stands before one, and not before another, lies between them
pub ahead : (x y z : Holder) → stands_before z x ≡ true → stands_before z y ≡ false → stands_before y x ≡ true
ahead x y z first second = by (holder_cmp z y) refl second
  where
    by : (r : Ordering) → holder_cmp z y ≡ r → is_lt r ≡ false → stands_before y x ≡ true
    by Less e off = absurd (true≢false off)
    by Equal e off = ap is_lt (sym (level z y x e) ∙ less_from (holder_cmp z x) first)
    by Greater e off = ap is_lt (through y z x (reversed z y Greater e) (less_from (holder_cmp z x) first))

-- dockets differ where their keys do
tied : (r s : Ordering) → is_eq (ordering_then r s) ≡ (is_eq r && is_eq s)
tied Less s = refl
tied Equal s = refl
tied Greater s = refl

pub same_dockets : (identity other : List ℕ) (activity number : ℕ)
    → is_same (Docket identity activity) (Docket other number) ≡ (bytes_eq identity other && nat_eq activity number)
same_dockets identity other activity number =
    tied (slice_cmp nat_cmp identity other) (nat_cmp activity number)
    ∙ (λ i. sym (texts_ties identity other) i && sym (unsigned_ties activity number) i)
