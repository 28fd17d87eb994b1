-- A schedule reorders to the serial one: from its end on, each operation passes those of the regimes that cease before
-- its own, or cease where its own holds on.
use Rattle.std.proofs.Common.{◌≡◌, ℕ, suc, ◌+◌, ◌≤◌, Bool, true, false, cond, ◌||◌, List, [], ◌∷◌, ◌++◌, nat_eq, refl, ap, sym, subst, ◌∙◌, arith, eq-eqb, eqb-true, ne_eqb}
use Rattle.std.proofs.lemmas.Bool.{eqb-false}
use Rattle.vf_serial.specs.Schedule.{AreApart, CeasesOnce, Commute, IsApartWhileHeld, IsGone, LeavesTheSame, Place, Performs, Ceases, ShowAlike, ShowsTheSame, ceased, is_among, of_regime, one_after_another, others, serial, serial_order}
use Rattle.vf_serial.proofs.Reordered.{Reorders, same, skip, keep, swap, both, keep_all, leave_same, show_same}

-- ---- numbers

pub flips : (a b : ℕ) → nat_eq a b ≡ false → nat_eq b a ≡ false
flips a b is = ne_eqb b a (λ e. eqb-false a b is (sym e))

how_many : ℕ → List ℕ → ℕ
how_many a [] = 0
how_many a (r ∷ rs) = cond (nat_eq a r) (suc (how_many a rs)) (how_many a rs)

many_append : (a : ℕ) (xs ys : List ℕ) → how_many a (xs ++ ys) ≡ how_many a xs + how_many a ys
unfolding how_many
many_append a [] ys = omega arith
many_append a (x ∷ xs) ys = by (nat_eq a x) (many_append a xs ys)
  where
    by : (b : Bool) → how_many a (xs ++ ys) ≡ how_many a xs + how_many a ys
        → cond b (suc (how_many a (xs ++ ys))) (how_many a (xs ++ ys)) ≡ cond b (suc (how_many a xs)) (how_many a xs) + how_many a ys
    by true rest = omega arith
    by false rest = rest

-- ---- what is behind a place

AllApart : {E : Type 0} → (Apart : E → E → Type 0) → E → ℕ → List (Place E) → Type 0
AllApart Apart e r [] = Unit {0}
AllApart Apart e r (Performs b f ∷ s) = (nat_eq b r ≡ true → Apart e f) × AllApart Apart e r s
AllApart Apart e r (Ceases b ∷ s) = AllApart Apart e r s

gone_apart : {E : Type 0} (Apart : E → E → Type 0) (e : E) (r : ℕ) (s : List (Place E)) → IsGone r s → AllApart Apart e r s
unfolding AllApart
gone_apart Apart e r [] gone = tt
gone_apart Apart e r (Performs b f ∷ s) gone = (λ is. absurd (gone.0 (eqb-true b r is)), gone_apart Apart e r s gone.1)
gone_apart Apart e r (Ceases b ∷ s) gone = gone_apart Apart e r s gone.1

gone_group : {E : Type 0} (r : ℕ) (s : List (Place E)) → IsGone r s → of_regime r s ≡ []
gone_group r [] gone = refl
gone_group r (Performs b f ∷ s) gone = (λ i. cond (ne_eqb b r gone.0 i) (Performs b f ∷ of_regime r s) (of_regime r s)) ∙ gone_group r s gone.1
gone_group r (Ceases b ∷ s) gone = gone_group r s gone.1

groups_over : {E : Type 0} (a : ℕ) (o : List ℕ) (s : List (Place E)) → one_after_another o (Ceases a ∷ s) ≡ one_after_another o s
groups_over a [] s = refl
groups_over a (r ∷ o) s = ap (λ rest. of_regime r s ++ rest) (groups_over a o s)

groups_without : {E : Type 0} (a : ℕ) (e : E) (o : List ℕ) (s : List (Place E)) → how_many a o ≡ 0 → one_after_another o (Performs a e ∷ s) ≡ one_after_another o s
unfolding how_many
groups_without a e [] s none = refl
groups_without a e (r ∷ o) s none = by (nat_eq a r) none (groups_without a e o s)
  where
    by : (b : Bool) → cond b (suc (how_many a o)) (how_many a o) ≡ 0 → (how_many a o ≡ 0 → one_after_another o (Performs a e ∷ s) ≡ one_after_another o s)
        → cond b (Performs a e ∷ of_regime r s) (of_regime r s) ++ one_after_another o (Performs a e ∷ s) ≡ of_regime r s ++ one_after_another o s
    by true none rest = absurd (omega arith)
    by false none rest = ap (λ later. of_regime r s ++ later) (rest none)

-- ---- an operation passes those of one regime

passes : {E : Type 0} (Apart : E → E → Type 0) (a : ℕ) (e : E) (r : ℕ) (s later : List (Place E)) → nat_eq a r ≡ false → AllApart Apart e r s
    → Reorders Apart (Performs a e ∷ (of_regime r s ++ later)) (of_regime r s ++ (Performs a e ∷ later))
unfolding AllApart
passes Apart a e r [] later differ apart = same (Performs a e ∷ later)
passes Apart a e r (Performs b f ∷ s) later differ apart = by (nat_eq b r) refl (passes Apart a e r s later differ apart.1)
  where
    by : (t : Bool) → nat_eq b r ≡ t → Reorders Apart (Performs a e ∷ (of_regime r s ++ later)) (of_regime r s ++ (Performs a e ∷ later))
        → Reorders Apart (Performs a e ∷ (cond t (Performs b f ∷ of_regime r s) (of_regime r s) ++ later)) (cond t (Performs b f ∷ of_regime r s) (of_regime r s) ++ (Performs a e ∷ later))
    by true is rest =
        both (Performs a e ∷ Performs b f ∷ (of_regime r s ++ later)) (Performs b f ∷ Performs a e ∷ (of_regime r s ++ later)) (Performs b f ∷ (of_regime r s ++ (Performs a e ∷ later)))
        (swap a b e f (of_regime r s ++ later) (λ same. eqb-false a r differ (sym same ∙ eqb-true b r is)) (apart.0 is))
        (keep (Performs b f) (Performs a e ∷ (of_regime r s ++ later)) (of_regime r s ++ (Performs a e ∷ later)) rest)
    by false is rest = rest
passes Apart a e r (Ceases b ∷ s) later differ apart = passes Apart a e r s later differ apart

-- ---- and those of all regimes before its own

ApartBefore : {E : Type 0} → (Apart : E → E → Type 0) → ℕ → E → List (Place E) → List ℕ → Type 0
ApartBefore Apart a e s [] = Unit {0}
ApartBefore Apart a e s (r ∷ o) = nat_eq a r ≡ false → AllApart Apart e r s × ApartBefore Apart a e s o

enters : {E : Type 0} (Apart : E → E → Type 0) (a : ℕ) (e : E) (s : List (Place E)) (o : List ℕ) → how_many a o ≡ 1 → ApartBefore Apart a e s o
    → Reorders Apart (Performs a e ∷ one_after_another o s) (one_after_another o (Performs a e ∷ s))
unfolding how_many ApartBefore
enters Apart a e s [] once apart = absurd (omega arith)
enters {E} Apart a e s (r ∷ o) once apart = by (nat_eq a r) refl once (enters Apart a e s o)
  where
    own : List (Place E)
    own = of_regime r s

    rest : List (Place E)
    rest = one_after_another o s

    by : (t : Bool) → nat_eq a r ≡ t → cond t (suc (how_many a o)) (how_many a o) ≡ 1
        → (how_many a o ≡ 1 → ApartBefore Apart a e s o → Reorders Apart (Performs a e ∷ one_after_another o s) (one_after_another o (Performs a e ∷ s)))
        → Reorders Apart (Performs a e ∷ (of_regime r s ++ one_after_another o s)) (cond t (Performs a e ∷ of_regime r s) (of_regime r s) ++ one_after_another o (Performs a e ∷ s))
    by true is once later =
        subst (λ (t : List (Place E)). Reorders Apart (Performs a e ∷ (of_regime r s ++ one_after_another o s)) (Performs a e ∷ (of_regime r s ++ t)))
        (sym (groups_without a e o s (omega arith))) (same (Performs a e ∷ (of_regime r s ++ one_after_another o s)))
    by false is once later =
        let both_are = apart is in
        both (Performs a e ∷ (of_regime r s ++ one_after_another o s)) (of_regime r s ++ (Performs a e ∷ one_after_another o s)) (of_regime r s ++ one_after_another o (Performs a e ∷ s))
        (passes Apart a e r s (one_after_another o s) is both_are.0)
        (keep_all Apart (of_regime r s) (Performs a e ∷ one_after_another o s) (one_after_another o (Performs a e ∷ s)) (later once both_are.1))

before_all : {E : Type 0} (Apart : E → E → Type 0) (a : ℕ) (e : E) (s : List (Place E)) (o : List ℕ) → ((r : ℕ) → AllApart Apart e r s) → ApartBefore Apart a e s o
unfolding ApartBefore
before_all Apart a e s [] all = tt
before_all Apart a e s (r ∷ o) all = λ differ. (all r, before_all Apart a e s o all)

before_map : {E : Type 0} (Apart : E → E → Type 0) (a : ℕ) (e : E) (s t : List (Place E)) (o : List ℕ) → ((r : ℕ) → nat_eq a r ≡ false → AllApart Apart e r s → AllApart Apart e r t)
    → ApartBefore Apart a e s o → ApartBefore Apart a e t o
unfolding ApartBefore
before_map Apart a e s t [] step all = tt
before_map Apart a e s t (r ∷ o) step all = λ differ. (step r differ (all differ).0, before_map Apart a e s t o step (all differ).1)

near : {E : Type 0} (Apart : E → E → Type 0) (a : ℕ) (e : E) (s : List (Place E)) (rest : List ℕ) → CeasesOnce s → IsApartWhileHeld Apart a e s → ApartBefore Apart a e s (ceased s ++ rest)
unfolding AllApart ApartBefore
near Apart a e [] rest once apart = before_all Apart a e [] rest (λ r. tt)
near Apart a e (Performs b f ∷ s) rest once apart =
    before_map Apart a e s (Performs b f ∷ s) (ceased s ++ rest)
    (λ r differ all. (λ is. apart.0 (λ other. eqb-false a r differ (sym other ∙ eqb-true b r is)), all))
    (near Apart a e s rest once apart.1)
near Apart a e (Ceases b ∷ s) rest once apart =
    λ differ. (
      gone_apart Apart e b s once.0,
      before_map Apart a e s (Ceases b ∷ s) (ceased s ++ rest) (λ r other all. all)
          (near Apart a e s rest once.1 (apart (λ is. eqb-false a b differ (sym is)))),
    )

-- ---- each regime stands once in the order

Covers : {E : Type 0} → List ℕ → List (Place E) → Type 0
Covers o [] = Unit {0}
Covers o (Performs a e ∷ s) = (how_many a o ≡ 1) × Covers o s
Covers o (Ceases a ∷ s) = Covers o s

covers_less : {E : Type 0} (a : ℕ) (o : List ℕ) (s : List (Place E)) → IsGone a s → Covers (a ∷ o) s → Covers o s
unfolding Covers how_many
covers_less a o [] gone all = tt
covers_less a o (Performs b f ∷ s) gone all =
    (sym (λ i. cond (ne_eqb b a gone.0 i) (suc (how_many b o)) (how_many b o)) ∙ all.0, covers_less a o s gone.1 all.1)
covers_less a o (Ceases b ∷ s) gone all = covers_less a o s gone.1 all

reorders : {E : Type 0} (Apart : E → E → Type 0) (s : List (Place E)) (rest : List ℕ) → CeasesOnce s → AreApart Apart s → Covers (ceased s ++ rest) s
    → Reorders Apart s (one_after_another (ceased s ++ rest) s)
unfolding Covers
reorders {E} Apart [] rest once apart covers = nothing rest
  where
    nothing : (o : List ℕ) → Reorders Apart [] (one_after_another o [])
    nothing [] = same []
    nothing (r ∷ o) = nothing o
reorders {E} Apart (Performs a e ∷ s) rest once apart covers =
    both (Performs a e ∷ s) (Performs a e ∷ one_after_another (ceased s ++ rest) s) (one_after_another (ceased s ++ rest) (Performs a e ∷ s))
    (keep (Performs a e) s (one_after_another (ceased s ++ rest) s) (reorders Apart s rest once apart.1 covers.1))
    (enters Apart a e s (ceased s ++ rest) covers.0 (near Apart a e s rest once apart.0))
reorders {E} Apart (Ceases a ∷ s) rest once apart covers =
    skip a s (of_regime a s ++ one_after_another (ceased s ++ rest) (Ceases a ∷ s))
    (subst (Reorders Apart s) (sym (λ i. gone_group a s once.0 i ++ groups_over a (ceased s ++ rest) s i))
    (reorders Apart s rest once.1 apart (covers_less a (ceased s ++ rest) s once.0 covers)))

-- ---- the others stand once too

performs_in : {E : Type 0} → ℕ → List (Place E) → Bool
performs_in a [] = false
performs_in a (Performs b f ∷ s) = nat_eq a b || performs_in a s
performs_in a (Ceases b ∷ s) = performs_in a s

gone_none : {E : Type 0} (a : ℕ) (s : List (Place E)) → IsGone a s → how_many a (ceased s) ≡ 0
unfolding how_many
gone_none a [] gone = refl
gone_none a (Performs b f ∷ s) gone = gone_none a s gone.1
gone_none a (Ceases b ∷ s) gone = (λ i. cond (ne_eqb a b (λ e. gone.0 (sym e)) i) (suc (how_many a (ceased s))) (how_many a (ceased s))) ∙ gone_none a s gone.1

ceased_once : {E : Type 0} (a : ℕ) (s : List (Place E)) → CeasesOnce s → how_many a (ceased s) ≤ 1
unfolding how_many
ceased_once a [] once = omega arith
ceased_once a (Performs b f ∷ s) once = ceased_once a s once
ceased_once a (Ceases b ∷ s) once = by (nat_eq a b) refl (ceased_once a s once.1)
  where
    by : (t : Bool) → nat_eq a b ≡ t → how_many a (ceased s) ≤ 1 → cond t (suc (how_many a (ceased s))) (how_many a (ceased s)) ≤ 1
    by true is rest =
        let gone = gone_none b s once.0 in
        let none : how_many a (ceased s) ≡ 0 = ap (λ r. how_many r (ceased s)) (eqb-true a b is) ∙ gone in
        omega arith
    by false is rest = rest

among_many : (a : ℕ) (o : List ℕ) → is_among a o ≡ true → 1 ≤ how_many a o
unfolding how_many
among_many a [] is = absurd cc
among_many a (r ∷ o) is = by (nat_eq a r) is (among_many a o)
  where
    by : (t : Bool) → (t || is_among a o) ≡ true → (is_among a o ≡ true → 1 ≤ how_many a o) → 1 ≤ cond t (suc (how_many a o)) (how_many a o)
    by true is rest = omega arith
    by false is rest = rest is

among_none : (a : ℕ) (o : List ℕ) → is_among a o ≡ false → how_many a o ≡ 0
unfolding how_many
among_none a [] is = refl
among_none a (r ∷ o) is = by (nat_eq a r) is (among_none a o)
  where
    by : (t : Bool) → (t || is_among a o) ≡ false → (is_among a o ≡ false → how_many a o ≡ 0) → cond t (suc (how_many a o)) (how_many a o) ≡ 0
    by true is rest = absurd cc
    by false is rest = rest is

or_second : (a b : Bool) → b ≡ true → (a || b) ≡ true
or_second true b is = refl
or_second false b is = is

seen_not : {E : Type 0} (a : ℕ) (seen : List ℕ) (s : List (Place E)) → is_among a seen ≡ true → how_many a (others seen s) ≡ 0
unfolding how_many
seen_not a seen [] is = refl
seen_not a seen (Performs b f ∷ s) is = by (is_among b seen) refl (seen_not a seen s is) (seen_not a (b ∷ seen) s)
  where
    by : (t : Bool) → is_among b seen ≡ t → how_many a (others seen s) ≡ 0 → (is_among a (b ∷ seen) ≡ true → how_many a (others (b ∷ seen) s) ≡ 0)
        → how_many a (cond t (others seen s) (b ∷ others (b ∷ seen) s)) ≡ 0
    by true was rest later = rest
    by false was rest later =
        (λ i. cond (ne_eqb a b (λ e. absurd (told e)) i) (suc (how_many a (others (b ∷ seen) s))) (how_many a (others (b ∷ seen) s)))
        ∙ later (or_second (nat_eq a b) (is_among a seen) is)
      where
        told : a ≡ b → ⊥
        told e = let same : is_among a seen ≡ is_among b seen = ap (λ r. is_among r seen) e in absurd cc
seen_not a seen (Ceases b ∷ s) is = seen_not a seen s is

new_once : {E : Type 0} (a : ℕ) (seen : List ℕ) (s : List (Place E)) → is_among a seen ≡ false → performs_in a s ≡ true → how_many a (others seen s) ≡ 1
unfolding how_many performs_in
new_once a seen [] is does = absurd cc
new_once a seen (Performs b f ∷ s) is does = by (is_among b seen) refl (nat_eq a b) refl does (new_once a seen s is) (new_once a (b ∷ seen) s)
  where
    by : (t : Bool) → is_among b seen ≡ t → (u : Bool) → nat_eq a b ≡ u → (u || performs_in a s) ≡ true
        → (performs_in a s ≡ true → how_many a (others seen s) ≡ 1)
        → (is_among a (b ∷ seen) ≡ false → performs_in a s ≡ true → how_many a (others (b ∷ seen) s) ≡ 1)
        → how_many a (cond t (others seen s) (b ∷ others (b ∷ seen) s)) ≡ 1
    by true was true equal does rest later =
        let same : is_among a seen ≡ is_among b seen = ap (λ r. is_among r seen) (eqb-true a b equal) in absurd cc
    by true was false equal does rest later = rest does
    by false was true equal does rest later =
        (λ i. cond (equal i) (suc (how_many a (others (b ∷ seen) s))) (how_many a (others (b ∷ seen) s)))
        ∙ ap suc (seen_not a (b ∷ seen) s (λ i. equal i || is_among a seen))
    by false was false equal does rest later =
        (λ i. cond (equal i) (suc (how_many a (others (b ∷ seen) s))) (how_many a (others (b ∷ seen) s)))
        ∙ later ((λ i. equal i || is_among a seen) ∙ is) does
new_once a seen (Ceases b ∷ s) is does = new_once a seen s is does

once_in_order : {E : Type 0} (s : List (Place E)) → CeasesOnce s → (a : ℕ) → performs_in a s ≡ true → how_many a (serial_order s) ≡ 1
once_in_order s once a does = many_append a (ceased s) (others (ceased s) s) ∙ by (is_among a (ceased s)) refl
  where
    by : (t : Bool) → is_among a (ceased s) ≡ t → how_many a (ceased s) + how_many a (others (ceased s) s) ≡ 1
    by true is =
        let none = seen_not a (ceased s) s is in
        let most = ceased_once a s once in
        let least = among_many a (ceased s) is in
        omega arith
    by false is =
        let one = new_once a (ceased s) s is does in
        let none = among_none a (ceased s) is in
        omega arith

covered : {E : Type 0} (o : List ℕ) (s : List (Place E)) → ((a : ℕ) → performs_in a s ≡ true → how_many a o ≡ 1) → Covers o s
unfolding Covers performs_in
covered o [] all = tt
covered o (Performs a e ∷ s) all =
    (all a (λ i. eq-eqb a a refl i || performs_in a s), covered o s (λ b does. all b (or_second (nat_eq b a) (performs_in b s) does)))
covered o (Ceases a ∷ s) all = covered o s all

pub to_serial : {E : Type 0} (Apart : E → E → Type 0) (s : List (Place E)) → CeasesOnce s → AreApart Apart s → Reorders Apart s (serial s)
to_serial Apart s once apart = reorders Apart s (others (ceased s) s) once apart (covered (serial_order s) s (once_in_order s once))

-- ---- the law

pub leaves : {E W : Type 0} (step : ℕ → E → W → W) (Apart : E → E → Type 0) → Commute step Apart → LeavesTheSame step Apart
leaves step Apart commute s world once apart = leave_same step Apart commute s (serial s) (to_serial Apart s once apart) world

pub shows : {E W : Type 0} (step : ℕ → E → W → W) (Shows : ℕ → E → W → Type 0) (Apart : E → E → Type 0) → Commute step Apart → ShowAlike step Shows Apart → ShowsTheSame step Shows Apart
shows step Shows Apart commute alike s world once apart all = show_same step Shows Apart commute alike s (serial s) (to_serial Apart s once apart) world all
