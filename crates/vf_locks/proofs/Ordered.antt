-- Lists of holders in order: where a holder stands, and what one more or less does.
use Rattle.std.proofs.Common.{◌≡◌, ◌≤◌, ◌<◌, ℕ, suc, ◌+◌, Bool, true, false, cond, ◌&&◌, not, List, [], ◌∷◌, length, Option, None, Some, Ok, Err, Result, refl, ap, sym, subst, ◌∙◌, true≢false, is_ok, slice_index_or, slice_set, insert, remove, filter, find, count_by, arith}
use Rattle.std.specs.Cmp.{first_so, second_so}
use Rattle.std.proofs.lemmas.List.Sums.{sum_by-cons}
use Rattle.std.specs.List.{list_all}
use Rattle.std.specs.Option.{option_map, option_map_or}
use Rattle.std.specs.Result.{result_unwrap_or}
use Rattle.std.specs.Ordering.{is_eq, is_lt}
use Rattle.std.specs.declared.cmp.Ordering.{Ordering}
use Rattle.std.specs.declared.cmp.Ordering.TheVariants.{Less, Equal, Greater}
use Rattle.vf_base.specs.declared.action.Controls.{Controls}
use Rattle.vf_locks.specs.Holders.{holder_cmp, is_same, stands_before, IsOrdered, others, controls_of, in_order, granted, passed}
use Rattle.vf_locks.specs.Place.{place_by, place_of}
use Rattle.vf_locks.specs.declared.held.Held.{Held}
use Rattle.vf_locks.specs.declared.holder.Holder.{Holder}
use Rattle.vf_locks.proofs.Order.{holder_total, less_from, reversed, same_from_equal}

abbrev pub before : Holder → Held → Bool
before holder held = stands_before holder held.holder

abbrev differs : Holder → Held → Bool
differs holder held = not (is_same held.holder holder)

-- of those that stand after a holder none is it
others_after : (holder : Holder) (hs : List Held) → list_all (before holder) hs ≡ true → others holder hs ≡ hs
others_after holder [] all = refl
others_after holder (x ∷ xs) all =
    let here = less_from (holder_cmp holder x.holder) (first_so (before holder x) (list_all (before holder) xs) all) in
    let after : holder_cmp x.holder holder ≡ Greater = reversed holder x.holder Less here in
    let rest = others_after holder xs (second_so (before holder x) (list_all (before holder) xs) all) in
    λ i. cond (not (is_eq (after i))) (x ∷ rest i) (others holder xs)

pub controls_after : (holder : Holder) (hs : List Held) → list_all (before holder) hs ≡ true → controls_of holder hs ≡ None
controls_after holder [] all = refl
controls_after holder (x ∷ xs) all =
    let here = less_from (holder_cmp holder x.holder) (first_so (before holder x) (list_all (before holder) xs) all) in
    let after : holder_cmp x.holder holder ≡ Greater = reversed holder x.holder Less here in
    (λ i. option_map (λ (held : Held). held.controls) (cond (is_eq (after i)) (Some x) (find (λ (held : Held). is_same held.holder holder) xs)))
    ∙ controls_after holder xs (second_so (before holder x) (list_all (before holder) xs) all)

-- one that stands before all others comes first
first_in_order : (h : Held) (hs : List Held) → list_all (before h.holder) hs ≡ true → in_order h hs ≡ h ∷ hs
first_in_order h [] all = refl
first_in_order h (x ∷ xs) all =
    let here = less_from (holder_cmp h.holder x.holder) (first_so (before h.holder x) (list_all (before h.holder) xs) all) in
    let after : holder_cmp x.holder h.holder ≡ Greater = reversed h.holder x.holder Less here in
    λ i. cond (is_lt (after i)) (x ∷ in_order h xs) (h ∷ x ∷ xs)

-- what stands after one that stands after the holder
pub all_after : (holder other : Holder) (hs : List Held) → holder_cmp holder other ≡ Less → list_all (before other) hs ≡ true → list_all (before holder) hs ≡ true
all_after holder other [] ahead all = refl
all_after holder other (x ∷ xs) ahead all =
    let here = less_from (holder_cmp other x.holder) (first_so (before other x) (list_all (before other) xs) all) in
    let first : holder_cmp holder x.holder ≡ Less = holder_total.trans holder other x.holder ahead here in
    let rest = all_after holder other xs ahead (second_so (before other x) (list_all (before other) xs) all) in
    λ i. is_lt (first i) && rest i

-- the holder stands at the place
pub record StandsAt (holder : Holder) (hs : List Held) (place : ℕ) (h : Held) : Type 0 where
  pub found : (d : Held) → slice_index_or hs place d ≡ h
  pub within : place < length hs
  pub same : h.holder ≡ holder
  pub rest : others holder hs ≡ remove hs place
  pub back : in_order h (remove hs place) ≡ hs
  pub replaced : (new : Held) → new.holder ≡ holder → in_order new (remove hs place) ≡ slice_set hs place new
  pub controls : controls_of holder hs ≡ Some h.controls

-- the holder does not stand, and would at the place
pub record AbsentAt (holder : Holder) (hs : List Held) (place : ℕ) : Type 0 where
  pub rest : others holder hs ≡ hs
  pub placed : (new : Held) → new.holder ≡ holder → in_order new hs ≡ insert hs place new
  pub controls : controls_of holder hs ≡ None
  pub within : place ≤ length hs

after_first : (holder : Holder) (x : Held) (xs : List Held) (place : ℕ) (h : Held) → holder_cmp x.holder holder ≡ Less → StandsAt holder xs place h → StandsAt holder (x ∷ xs) (suc place) h
after_first holder x xs place h ahead rest =
    let within = rest.within in
    record {
      found = rest.found;
      within = grind (arith, within);
      same = rest.same;
      rest = λ i. cond (not (is_eq (ahead i))) (x ∷ rest.rest i) (others holder xs);
      back = (λ i. cond (is_lt (holder_cmp x.holder (rest.same i))) (x ∷ rest.back i) (h ∷ x ∷ remove xs place)) ∙ (λ i. cond (is_lt (ahead i)) (x ∷ xs) (h ∷ x ∷ remove xs place));
      replaced = λ new is. (λ i. cond (is_lt (holder_cmp x.holder (is i))) (x ∷ rest.replaced new is i) (new ∷ x ∷ remove xs place)) ∙ (λ i. cond (is_lt (ahead i)) (x ∷ slice_set xs place new) (new ∷ x ∷ remove xs place));
      controls = (λ i. option_map (λ (held : Held). held.controls) (cond (is_eq (ahead i)) (Some x) (find (λ (held : Held). is_same held.holder holder) xs))) ∙ rest.controls;
    }

at_first : (holder : Holder) (x : Held) (xs : List Held) → holder_cmp x.holder holder ≡ Equal → list_all (before x.holder) xs ≡ true → StandsAt holder (x ∷ xs) 0 x
at_first holder x xs level all =
    let same : x.holder ≡ holder = same_from_equal x.holder holder level in
    let after : list_all (before holder) xs ≡ true = subst (λ holder. list_all (before holder) xs ≡ true) same all in
    record {
      found = λ d. refl;
      within = grind arith;
      same = same;
      rest = λ i. cond (not (is_eq (level i))) (x ∷ others holder xs) (others_after holder xs after i);
      back = first_in_order x xs all;
      replaced = λ new is. first_in_order new xs (subst (λ holder. list_all (before holder) xs ≡ true) (same ∙ sym is) all);
      controls = λ i. option_map (λ (held : Held). held.controls) (cond (is_eq (level i)) (Some x) (find (λ (held : Held). is_same held.holder holder) xs));
    }

pub stands_at : (holder : Holder) (hs : List Held) (place : ℕ) → IsOrdered hs → place_of holder hs ≡ Ok place → (h : Held) × StandsAt holder hs place h
stands_at holder [] place ordered is = absurd (true≢false (sym (ap is_ok is)))
stands_at holder (x ∷ xs) place ordered is = by (holder_cmp x.holder holder) refl (place_of holder xs) (λ p e. stands_at holder xs p ordered.1 e) is
  where
    by : (r : Ordering) → holder_cmp x.holder holder ≡ r → (q : Result ℕ ℕ) → ((p : ℕ) → q ≡ Ok p → (h : Held) × StandsAt holder xs p h) → place_by r q ≡ Ok place → (h : Held) × StandsAt holder (x ∷ xs) place h
    by Less ahead (Ok p) later e =
        let found = later p refl in
        subst (λ place. (h : Held) × StandsAt holder (x ∷ xs) place h) (ap (λ (r : Result ℕ ℕ). result_unwrap_or r 0) e) (found.0, after_first holder x xs p found.0 ahead found.1)
    by Less ahead (Err p) later e = absurd (true≢false (sym (ap is_ok e)))
    by Equal level q later e =
        subst (λ place. (h : Held) × StandsAt holder (x ∷ xs) place h) (ap (λ (r : Result ℕ ℕ). result_unwrap_or r 0) e) (x, at_first holder x xs level ordered.0)
    by Greater ahead q later e = absurd (true≢false (sym (ap is_ok e)))

absent_after_first : (holder : Holder) (x : Held) (xs : List Held) (place : ℕ) → holder_cmp x.holder holder ≡ Less → AbsentAt holder xs place → AbsentAt holder (x ∷ xs) (suc place)
absent_after_first holder x xs place ahead rest =
    let within = rest.within in
    record {
      rest = λ i. cond (not (is_eq (ahead i))) (x ∷ rest.rest i) (others holder xs);
      placed = λ new is. (λ i. cond (is_lt (holder_cmp x.holder (is i))) (x ∷ rest.placed new is i) (new ∷ x ∷ xs)) ∙ (λ i. cond (is_lt (ahead i)) (x ∷ insert xs place new) (new ∷ x ∷ xs));
      controls = (λ i. option_map (λ (held : Held). held.controls) (cond (is_eq (ahead i)) (Some x) (find (λ (held : Held). is_same held.holder holder) xs))) ∙ rest.controls;
      within = grind (arith, within);
    }

absent_at_first : (holder : Holder) (hs : List Held) → list_all (before holder) hs ≡ true → AbsentAt holder hs 0
absent_at_first holder hs all = record {
  rest = others_after holder hs all;
  placed = λ new is. first_in_order new hs (subst (λ holder. list_all (before holder) hs ≡ true) (sym is) all);
  controls = controls_after holder hs all;
  within = omega arith;
}

pub absent_at : (holder : Holder) (hs : List Held) (place : ℕ) → IsOrdered hs → place_of holder hs ≡ Err place → AbsentAt holder hs place
absent_at holder [] place ordered is = subst (AbsentAt holder []) (ap error_of is) (absent_at_first holder [] refl)
  where
    error_of : Result ℕ ℕ → ℕ
    error_of (Ok p) = 0
    error_of (Err p) = p
absent_at holder (x ∷ xs) place ordered is = by (holder_cmp x.holder holder) refl (place_of holder xs) (λ p e. absent_at holder xs p ordered.1 e) is
  where
    error_of : Result ℕ ℕ → ℕ
    error_of (Ok p) = 0
    error_of (Err p) = p

    by : (r : Ordering) → holder_cmp x.holder holder ≡ r → (q : Result ℕ ℕ) → ((p : ℕ) → q ≡ Err p → AbsentAt holder xs p) → place_by r q ≡ Err place → AbsentAt holder (x ∷ xs) place
    by Less ahead (Ok p) later e = absurd (true≢false (ap is_ok e))
    by Less ahead (Err p) later e = subst (AbsentAt holder (x ∷ xs)) (ap error_of e) (absent_after_first holder x xs p ahead (later p refl))
    by Equal level q later e = absurd (true≢false (ap is_ok e))
    by Greater after q later e =
        let ahead : holder_cmp holder x.holder ≡ Less = reversed x.holder holder Greater after in
        let rest = all_after holder x.holder xs ahead ordered.0 in
        subst (AbsentAt holder (x ∷ xs)) (ap error_of e) (absent_at_first holder (x ∷ xs) (λ i. is_lt (ahead i) && rest i))

all_filtered : (p test : Held → Bool) (hs : List Held) → list_all p hs ≡ true → list_all p (filter test hs) ≡ true
all_filtered p test [] all = refl
all_filtered p test (x ∷ xs) all = by (test x) (all_filtered p test xs (second_so (p x) (list_all p xs) all))
  where
    by : (b : Bool) → list_all p (filter test xs) ≡ true → list_all p (cond b (x ∷ filter test xs) (filter test xs)) ≡ true
    by true rest = λ i. first_so (p x) (list_all p xs) all i && rest i
    by false rest = rest

all_pass : (test : Held → Bool) (hs : List Held) → list_all test (filter test hs) ≡ true
all_pass test [] = refl
all_pass test (x ∷ xs) = by (test x) refl (all_pass test xs)
  where
    by : (b : Bool) → test x ≡ b → list_all test (filter test xs) ≡ true → list_all test (cond b (x ∷ filter test xs) (filter test xs)) ≡ true
    by true is rest = λ i. is i && rest i
    by false is rest = rest

-- the others stand in order
pub ordered_others : (holder : Holder) (hs : List Held) → IsOrdered hs → IsOrdered (others holder hs)
ordered_others holder [] ordered = tt
ordered_others holder (x ∷ xs) ordered = by (differs holder x) (ordered_others holder xs ordered.1)
  where
    by : (b : Bool) → IsOrdered (others holder xs) → IsOrdered (cond b (x ∷ others holder xs) (others holder xs))
    by true rest = (all_filtered (before x.holder) (differs holder) xs ordered.0, rest)
    by false rest = rest

all_in_order : (p : Held → Bool) (h : Held) (hs : List Held) → p h ≡ true → list_all p hs ≡ true → list_all p (in_order h hs) ≡ true
all_in_order p h [] here all = λ i. here i && true
all_in_order p h (x ∷ xs) here all = by (stands_before x.holder h.holder) (all_in_order p h xs here (second_so (p x) (list_all p xs) all))
  where
    by : (b : Bool) → list_all p (in_order h xs) ≡ true → list_all p (cond b (x ∷ in_order h xs) (h ∷ x ∷ xs)) ≡ true
    by true rest = λ i. first_so (p x) (list_all p xs) all i && rest i
    by false rest = λ i. here i && all i

-- one more among others stands in order with them
pub ordered_in_order : (h : Held) (hs : List Held) → IsOrdered hs → list_all (differs h.holder) hs ≡ true → IsOrdered (in_order h hs)
ordered_in_order h [] ordered differ = (refl, tt)
ordered_in_order h (x ∷ xs) ordered differ =
    by (holder_cmp x.holder h.holder) refl (first_so (differs h.holder x) (list_all (differs h.holder) xs) differ)
    (ordered_in_order h xs ordered.1 (second_so (differs h.holder x) (list_all (differs h.holder) xs) differ))
  where
    by : (r : Ordering) → holder_cmp x.holder h.holder ≡ r → not (is_eq (holder_cmp x.holder h.holder)) ≡ true → IsOrdered (in_order h xs) → IsOrdered (cond (is_lt r) (x ∷ in_order h xs) (h ∷ x ∷ xs))
    by Less ahead other rest = (all_in_order (before x.holder) h xs (ap is_lt ahead) ordered.0, rest)
    by Equal level other rest = absurd (true≢false (sym other ∙ ap (λ r. not (is_eq r)) level))
    by Greater after other rest =
        let ahead : holder_cmp h.holder x.holder ≡ Less = reversed x.holder h.holder Greater after in
        let later = all_after h.holder x.holder xs ahead ordered.0 in
        ((λ i. is_lt (ahead i) && later i), ordered)

-- what a grant leaves stands in order
pub ordered_granted : (h : Held) (hs : List Held) → IsOrdered hs → IsOrdered (in_order h (others h.holder hs))
ordered_granted h hs ordered = ordered_in_order h (others h.holder hs) (ordered_others h.holder hs ordered) (all_pass (differs h.holder) hs)

-- and so does what a pass leaves
pub ordered_passed : (from to : Holder) (hs : List Held) → IsOrdered hs → IsOrdered (passed from to hs)
ordered_passed from to hs ordered = by (controls_of from hs)
  where
    by : (controls : Option Controls) → IsOrdered (option_map_or (λ controls. granted to controls (others from hs)) controls hs)
    by None = ordered
    by (Some controls) = ordered_granted (record { holder = to; controls = controls }) (others from hs) (ordered_others from hs ordered)

-- one more is counted once, wherever it stands
pub count_by-in_order : (p : Held → Bool) (h : Held) (hs : List Held) → count_by p (in_order h hs) ≡ count_by p hs + cond (p h) 1 0
count_by-in_order p h [] = refl
count_by-in_order p h (x ∷ xs) = by (stands_before x.holder h.holder) (count_by-in_order p h xs)
  where
    by : (b : Bool) → count_by p (in_order h xs) ≡ count_by p xs + cond (p h) 1 0 → count_by p (cond b (x ∷ in_order h xs) (h ∷ x ∷ xs)) ≡ count_by p (x ∷ xs) + cond (p h) 1 0
    by true rest =
        let new = sum_by-cons (λ (y : Held). cond (p y) 1 0) x (in_order h xs) in
        let old = sum_by-cons (λ (y : Held). cond (p y) 1 0) x xs in
        rw (new, old, rest) (omega arith)
    by false rest =
        let new = sum_by-cons (λ (y : Held). cond (p y) 1 0) h (x ∷ xs) in
        rw new (omega arith)
