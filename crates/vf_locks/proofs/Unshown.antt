-- Where the numbers show no clash, no holder stands against what is wanted.
use Rattle.std.proofs.Common.{◌≡◌, ◌≤◌, ◌<◌, ℕ, zero, suc, ◌+◌, Bool, true, false, cond, not, ◌||◌, List, [], ◌∷◌, length, Option, None, Some, refl, ap, sym, subst, ◌∙◌, true≢false, slice_get, slice_index, get_or, count_by, map, is_some, ltb, unwrap_or, option_and_then, arith}
use Rattle.std.specs.Option.{option_or}
use Rattle.std.proofs.lemmas.Bool.{ltb-false}
use Rattle.std.specs.List.{list_any, position_from, zip}
use Rattle.std.proofs.lemmas.List.Sums.{sum_by-cons}
use Rattle.vf_base.specs.declared.action.Control.{Control}
use Rattle.vf_base.specs.declared.action.Control.TheVariants.{NotRequired, Shared, Exclusive, NoAccess}
use Rattle.vf_base.specs.declared.action.Controls.{Controls}
use Rattle.vf_locks.specs.Clash.{actions, clash, conflict, first_against, lowest_clash, against}
use Rattle.vf_locks.specs.Counts.{control_number, control_numbers, has_number, how_many, numbers_of}
use Rattle.vf_locks.specs.Holders.{is_same, others}
use Rattle.vf_locks.specs.Shown.{row_shows, shows}
use Rattle.vf_locks.specs.declared.held.Held.{Held}
use Rattle.vf_locks.specs.declared.holder.Holder.{Holder}

abbrev tests : Control × Control → Bool
tests pair = clash pair.0 pair.1

abbrev shows_pair : List ℕ × Control → Bool
shows_pair pair = row_shows pair.0 pair.1

-- the row has a holder with the control
abbrev Has : List ℕ → Control → Type 0
Has row control = 1 ≤ slice_index row (control_number control)

or_left : (s t : Bool) → (s || t) ≡ false → s ≡ false
or_left true t e = e
or_left false t e = refl

or_right : (s t : Bool) → (s || t) ≡ false → t ≡ false
or_right true t e = absurd (true≢false e)
or_right false t e = e

none_of : (n : ℕ) → ltb 0 n ≡ false → 1 ≤ n → ⊥
none_of n none some = let few = ltb-false 0 n none in omega arith

row_clear : (row : List ℕ) (wanted control : Control) → row_shows row wanted ≡ false → Has row control → clash wanted control ≡ false
row_clear row NotRequired control none has = refl
row_clear row Shared NotRequired none has = refl
row_clear row Shared Shared none has = refl
row_clear row Shared Exclusive none has = absurd (none_of _ (or_left _ _ none) has)
row_clear row Shared NoAccess none has = absurd (none_of _ (or_right _ _ none) has)
row_clear row Exclusive NotRequired none has = refl
row_clear row Exclusive Shared none has = absurd (none_of _ (or_left _ _ (or_left _ _ none)) has)
row_clear row Exclusive Exclusive none has = absurd (none_of _ (or_right _ _ (or_left _ _ none)) has)
row_clear row Exclusive NoAccess none has = absurd (none_of _ (or_right _ _ none) has)
row_clear row NoAccess NotRequired none has = refl
row_clear row NoAccess Shared none has = absurd (none_of _ (or_left _ _ none) has)
row_clear row NoAccess Exclusive none has = absurd (none_of _ (or_right _ _ none) has)
row_clear row NoAccess NoAccess none has = refl

-- the rows have the holder's control on each action
abbrev HasAll : List (List ℕ) → List Control → Type 0
HasAll rows controls = (i : ℕ) (control : Control) → i < length rows → slice_get controls i ≡ Some control → Has (get_or rows i []) control

from_least : (n : ℕ) (pairs : List (Control × Control)) (i : ℕ) → position_from tests n pairs ≡ Some i → n ≤ i
from_least n [] i e = absurd (true≢false (sym (ap is_some e)))
from_least n (x ∷ xs) i e = by (tests x) e (from_least (n + 1) xs i)
  where
    by : (b : Bool) → cond b (Some n) (position_from tests (n + 1) xs) ≡ Some i → (position_from tests (n + 1) xs ≡ Some i → n + 1 ≤ i) → n ≤ i
    by true e rest = let same = ap (λ o. unwrap_or o 0) e in omega arith
    by false e rest = let later = rest e in omega arith

past_rows : (wanted controls : List Control) (rows : List (List ℕ)) (n : ℕ) → HasAll rows controls → list_any shows_pair (zip rows wanted) ≡ false
    → (i : ℕ) → position_from tests n (zip wanted controls) ≡ Some i → n + length rows ≤ i
past_rows [] controls rows n has none i e = absurd (true≢false (sym (ap is_some e)))
past_rows (w ∷ ws) [] rows n has none i e = absurd (true≢false (sym (ap is_some e)))
past_rows (w ∷ ws) (c ∷ cs) [] n has none i e = let least = from_least n (zip (w ∷ ws) (c ∷ cs)) i e in omega arith
past_rows (w ∷ ws) (c ∷ cs) (r ∷ rows) n has none i e =
    let clear = row_clear r w c (or_left (row_shows r w) (list_any shows_pair (zip rows ws)) none) (has 0 c (grind arith) refl) in
    let skipped : position_from tests (n + 1) (zip ws cs) ≡ Some i = (λ j. cond (sym clear j) (Some n) (position_from tests (n + 1) (zip ws cs))) ∙ e in
    let later = past_rows ws cs rows (n + 1) (λ k control within at. has (suc k) control (grind (arith, within)) at) (or_right (row_shows r w) (list_any shows_pair (zip rows ws)) none) i skipped in
    grind (arith, later)

past_actions : (i : ℕ) → 8 ≤ i → slice_get actions i ≡ None
past_actions zero past = absurd (omega arith)
past_actions (suc zero) past = absurd (omega arith)
past_actions (suc (suc zero)) past = absurd (omega arith)
past_actions (suc (suc (suc zero))) past = absurd (omega arith)
past_actions (suc (suc (suc (suc zero)))) past = absurd (omega arith)
past_actions (suc (suc (suc (suc (suc zero))))) past = absurd (omega arith)
past_actions (suc (suc (suc (suc (suc (suc zero)))))) past = absurd (omega arith)
past_actions (suc (suc (suc (suc (suc (suc (suc zero))))))) past = absurd (omega arith)
past_actions (suc (suc (suc (suc (suc (suc (suc (suc i)))))))) past = refl

no_clash : (wanted held : Controls) (rows : List (List ℕ)) → length rows ≡ 8 → HasAll rows held.each → shows rows wanted.each ≡ false → lowest_clash wanted held ≡ None
no_clash wanted held rows eight has none = by (position_from tests 0 (zip wanted.each held.each)) refl
  where
    by : (o : Option ℕ) → position_from tests 0 (zip wanted.each held.each) ≡ o → option_and_then (slice_get actions) o ≡ None
    by None e = refl
    by (Some i) e = let past = past_rows wanted.each held.each rows 0 has none i e in past_actions i (omega arith)

abbrev HasEach : List (List ℕ) → List Held → Type 0
HasEach rows [] = Unit {0}
HasEach rows (x ∷ xs) = HasAll rows x.controls.each × HasEach rows xs

no_conflict : (holder : Holder) (wanted : Controls) (rows : List (List ℕ)) (hs : List Held) → length rows ≡ 8 → HasEach rows hs → shows rows wanted.each ≡ false → conflict holder wanted hs ≡ None
no_conflict holder wanted rows [] eight has none = refl
no_conflict holder wanted rows (x ∷ xs) eight has none = by (not (is_same x.holder holder)) (no_conflict holder wanted rows xs eight has.1 none)
  where
    by : (b : Bool) → conflict holder wanted xs ≡ None → first_against wanted (cond b (x ∷ others holder xs) (others holder xs)) ≡ None
    by true rest = λ i. option_or (against x (no_clash wanted x.controls rows eight has.0 none i)) (rest i)
    by false rest = rest

abbrev has : ℕ → ℕ → Held → Bool
has action number held = has_number number (slice_get held.controls.each action)

abbrev row : List Held → ℕ → List ℕ
row hs action = map (how_many hs action) control_numbers

row_at : (hs : List Held) (i : ℕ) → i < 8 → get_or (numbers_of hs) i [] ≡ row hs i
unfolding numbers_of
row_at hs zero within = refl
row_at hs (suc zero) within = refl
row_at hs (suc (suc zero)) within = refl
row_at hs (suc (suc (suc zero))) within = refl
row_at hs (suc (suc (suc (suc zero)))) within = refl
row_at hs (suc (suc (suc (suc (suc zero))))) within = refl
row_at hs (suc (suc (suc (suc (suc (suc zero)))))) within = refl
row_at hs (suc (suc (suc (suc (suc (suc (suc zero))))))) within = refl
row_at hs (suc (suc (suc (suc (suc (suc (suc (suc i)))))))) within = absurd (omega arith)

eight_rows : (hs : List Held) → length (numbers_of hs) ≡ 8
unfolding numbers_of
eight_rows hs = refl

abbrev IsPart : List Held → List Held → Type 0
IsPart part all = (p : Held → Bool) → count_by p part ≤ count_by p all

has_all : (all xs : List Held) (x : Held) → IsPart (x ∷ xs) all → HasAll (numbers_of all) x.controls.each
has_all all xs x part i control within at =
    let small : i < 8 = subst (λ n. i < n) (eight_rows all) within in
    subst (λ (row : List ℕ). Has row control) (sym (row_at all i small)) (by control at)
  where
    one : (number : ℕ) → has i number x ≡ true → 1 ≤ how_many all i number
    one number is =
        let fewer : count_by (has i number) (x ∷ xs) ≤ how_many all i number = part (has i number) in
        let here : count_by (has i number) (x ∷ xs) ≡ cond (has i number x) 1 0 + count_by (has i number) xs = sum_by-cons (λ (y : Held). cond (has i number y) 1 0) x xs in
        let first : cond (has i number x) 1 0 ≡ 1 = ap (λ (b : Bool). cond {A = ℕ} b 1 0) is in
        let counted : count_by (has i number) (x ∷ xs) ≡ 1 + count_by (has i number) xs = here ∙ ap (λ n. n + count_by (has i number) xs) first in
        omega arith

    by : (control : Control) → slice_get x.controls.each i ≡ Some control → Has (row all i) control
    by NotRequired at = one 0 (ap (has_number 0) at)
    by Shared at = one 1 (ap (has_number 1) at)
    by Exclusive at = one 2 (ap (has_number 2) at)
    by NoAccess at = one 3 (ap (has_number 3) at)

has_each : (all hs : List Held) → IsPart hs all → HasEach (numbers_of all) hs
has_each all [] part = tt
has_each all (x ∷ xs) part =
    (has_all all xs x part, has_each all xs (λ p. let whole : count_by p (x ∷ xs) ≤ count_by p all = part p in let here = sum_by-cons (λ (y : Held). cond (p y) 1 0) x xs in omega arith))

-- numbers that show no clash
pub unshown : (holder : Holder) (wanted : Controls) (numbers : List (List ℕ)) (hs : List Held) → numbers ≡ numbers_of hs → shows numbers wanted.each ≡ false → conflict holder wanted hs ≡ None
unshown holder wanted numbers hs exact none =
    no_conflict holder wanted (numbers_of hs) hs (eight_rows hs) (has_each hs hs (λ p. omega arith)) (ap (λ rows. shows rows wanted.each) (sym exact) ∙ none)
