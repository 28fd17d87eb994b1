-- The order of holders is a total order.
use Rattle.std.proofs.Common.{◌≡◌, ℕ, true, List, refl, ap, sym, ◌∙◌, true≢false}
use Rattle.std.specs.Cmp.{IsTotalOrder, nat_cmp_total, unsigned_Decides, unsigned_ties}
use Rattle.std.specs.Cmp.Lexicographic.{slice_cmp, lists_total, texts_ties}
use Rattle.std.specs.Ordering.{is_eq, is_lt, nat_cmp, ordering_reverse, ordering_then}
use Rattle.std.specs.declared.cmp.Ordering.{Ordering}
use Rattle.std.specs.declared.cmp.Ordering.TheVariants.{Less, Equal, Greater}
use Rattle.std.proofs.lemmas.Cmp.{then_total, on_total}
use Rattle.std.proofs.lemmas.Slice.Eq.{bytes_eq-Decides}
use Rattle.vf_locks.specs.Holders.{holder_cmp}
use Rattle.vf_locks.specs.declared.holder.Holder.{Holder}
use Rattle.vf_locks.specs.declared.holder.Holder.TheVariants.{Party, Docket}

abbrev docket_cmp : List ℕ × ℕ → List ℕ × ℕ → Ordering
docket_cmp x y = ordering_then (slice_cmp nat_cmp x.0 y.0) (nat_cmp x.1 y.1)

docket_total : IsTotalOrder docket_cmp
docket_total = then_total (on_total (λ (x : List ℕ × ℕ). x.0) (lists_total nat_cmp_total)) (on_total (λ (x : List ℕ × ℕ). x.1) nat_cmp_total)

antisymm : (x y : Holder) → holder_cmp x y ≡ ordering_reverse (holder_cmp y x)
antisymm (Party a) (Party b) = nat_cmp_total.antisymm a b
antisymm (Party a) (Docket j b) = refl
antisymm (Docket i a) (Party b) = refl
antisymm (Docket i a) (Docket j b) = docket_total.antisymm (i, a) (j, b)

trans : (x y z : Holder) → holder_cmp x y ≡ Less → holder_cmp y z ≡ Less → holder_cmp x z ≡ Less
trans (Party a) (Party b) (Party c) p q = nat_cmp_total.trans a b c p q
trans (Party a) y (Docket k c) p q = refl
trans (Party a) (Docket j b) (Party c) p q = absurd (true≢false (sym (ap is_lt q)))
trans (Docket i a) (Party b) z p q = absurd (true≢false (sym (ap is_lt p)))
trans (Docket i a) (Docket j b) (Party c) p q = absurd (true≢false (sym (ap is_lt q)))
trans (Docket i a) (Docket j b) (Docket k c) p q = docket_total.trans (i, a) (j, b) (k, c) p q

congr : (x y z : Holder) → holder_cmp x y ≡ Equal → holder_cmp x z ≡ holder_cmp y z
congr (Party a) (Party b) (Party c) p = nat_cmp_total.congr a b c p
congr (Party a) (Party b) (Docket k c) p = refl
congr (Party a) (Docket j b) z p = absurd (true≢false (sym (ap is_eq p)))
congr (Docket i a) (Party b) z p = absurd (true≢false (sym (ap is_eq p)))
congr (Docket i a) (Docket j b) (Party c) p = refl
congr (Docket i a) (Docket j b) (Docket k c) p = docket_total.congr (i, a) (j, b) (k, c) p

pub holder_total : IsTotalOrder holder_cmp
holder_total = record { antisymm = antisymm; trans = trans; congr = congr }

docket_same : (i j : List ℕ) (a b : ℕ) (r s : Ordering) → slice_cmp nat_cmp i j ≡ r → nat_cmp a b ≡ s → ordering_then r s ≡ Equal → Docket i a ≡ Docket j b
docket_same i j a b Less s p q e = absurd (true≢false (sym (ap is_eq e)))
docket_same i j a b Greater s p q e = absurd (true≢false (sym (ap is_eq e)))
docket_same i j a b Equal s p q e =
    let names : i ≡ j = (bytes_eq-Decides i j).0 (texts_ties i j ∙ ap is_eq p) in
    let activities : a ≡ b = (unsigned_Decides a b).0 (unsigned_ties a b ∙ ap is_eq (q ∙ e)) in
    λ k. Docket (names k) (activities k)

-- holders that the order does not tell apart are equal
pub same_from_equal : (x y : Holder) → holder_cmp x y ≡ Equal → x ≡ y
same_from_equal (Party a) (Party b) e = ap Party ((unsigned_Decides a b).0 (unsigned_ties a b ∙ ap is_eq e))
same_from_equal (Party a) (Docket j b) e = absurd (true≢false (sym (ap is_eq e)))
same_from_equal (Docket i a) (Party b) e = absurd (true≢false (sym (ap is_eq e)))
same_from_equal (Docket i a) (Docket j b) e = docket_same i j a b (slice_cmp nat_cmp i j) (nat_cmp a b) refl refl e

pub less_from : (r : Ordering) → is_lt r ≡ true → r ≡ Less
less_from Less e = refl
less_from Equal e = absurd (true≢false (sym e))
less_from Greater e = absurd (true≢false (sym e))

-- the order the other way round
pub reversed : (x y : Holder) (r : Ordering) → holder_cmp x y ≡ r → holder_cmp y x ≡ ordering_reverse r
reversed x y r e = holder_total.antisymm y x ∙ ap ordering_reverse e
