-- What digits spell, as they are read one after another.
use Rattle.std.proofs.Common.{◌≡◌, ◌∙◌, ℕ, ◌+◌, ◌*◌, ◌-◌, ◌<◌, ◌≤◌, Bool, true, false, cond, not, ◌&&◌, List, [], ◌∷◌, ◌++◌, fold, length, take, drop, get_or, nat_le, Option, None, Some, refl, ap, sym, subst, arith}
use Rattle.std.specs.List.{list_all}
use Rattle.std.proofs.lemmas.Bool.Decides.{nat_tests}
use Rattle.std.proofs.lemmas.List.{take_more, take-append-drop}
use Rattle.vf_cli_words.specs.Words.{begins_badly, is_digit, is_in, is_number, number_in, number_of, with_digit}
use Rattle.vf_cli_words.specs.declared.options.Range.{Range}

fold-more : (number : ℕ) (digits : List ℕ) (digit : ℕ) → fold with_digit number (digits ++ digit ∷ []) ≡ with_digit (fold with_digit number digits) digit
fold-more number [] digit = refl
fold-more number (first ∷ digits) digit = fold-more (with_digit number first) digits digit

all-more : (digits : List ℕ) (digit : ℕ) → list_all is_digit (digits ++ digit ∷ []) ≡ (list_all is_digit digits && is_digit digit)
all-more [] digit = and_true (is_digit digit)
  where
    and_true : (b : Bool) → (b && true) ≡ b
    and_true true = refl
    and_true false = refl
all-more (first ∷ digits) digit = and_by (is_digit first) (all-more digits digit)
  where
    and_by : (b : Bool) → list_all is_digit (digits ++ digit ∷ []) ≡ (list_all is_digit digits && is_digit digit)
        → (b && list_all is_digit (digits ++ digit ∷ [])) ≡ ((b && list_all is_digit digits) && is_digit digit)
    and_by true same = same
    and_by false same = refl

fold_grows : (number : ℕ) (digits : List ℕ) → number ≤ fold with_digit number digits
fold_grows number [] = omega arith
fold_grows number (first ∷ digits) = let more = fold_grows (with_digit number first) digits in omega (arith, more)

-- more digits spell no smaller number, and all of them are digits only where the first ones are
pub number_grows : (first later : List ℕ) → number_of first ≤ number_of (first ++ later)
number_grows first later = by 0 first
  where
    by : (number : ℕ) (first : List ℕ) → fold with_digit number first ≤ fold with_digit number (first ++ later)
    by number [] = fold_grows number later
    by number (digit ∷ first) = by (with_digit number digit) first

all_first : (first later : List ℕ) → list_all is_digit first ≡ false → list_all is_digit (first ++ later) ≡ false
all_first [] later none = absurd cc
all_first (digit ∷ first) later none = and_by (is_digit digit) none (all_first first later)
  where
    and_by : (b : Bool) → (b && list_all is_digit first) ≡ false → (list_all is_digit first ≡ false → list_all is_digit (first ++ later) ≡ false) → (b && list_all is_digit (first ++ later)) ≡ false
    and_by true none later = later none
    and_by false none later = refl

-- ---- a digit more

pub number_more : (digits : List ℕ) (i : ℕ) (digit : ℕ) → i < length digits → digit ≡ get_or digits i 0 → number_of (take (i + 1) digits) ≡ 10 * number_of (take i digits) + (digit - 48)
number_more digits i digit within is =
    ap number_of (take_more digits i 0 within) ∙ fold-more 0 (take i digits) (get_or digits i 0) ∙ ap (with_digit (number_of (take i digits))) (sym is)

pub digits_more : (digits : List ℕ) (i : ℕ) (digit : ℕ) → i < length digits → digit ≡ get_or digits i 0 → list_all is_digit (take (i + 1) digits) ≡ (list_all is_digit (take i digits) && is_digit digit)
digits_more digits i digit within is =
    ap (list_all is_digit) (take_more digits i 0 within) ∙ all-more (take i digits) (get_or digits i 0) ∙ ap (λ d. list_all is_digit (take i digits) && is_digit d) (sym is)

-- ---- the number

abbrev if_all : (all : Bool) → ℕ → Option ℕ
if_all all number = cond all (Some number) None

-- a number that isn't of the range, or isn't one
none_of : (one other : Bool) → one ≡ false → (one && other) ≡ false
none_of true other is = absurd cc
none_of false other is = refl

none_of_other : (one other : Bool) → other ≡ false → (one && other) ≡ false
none_of_other true other is = is
none_of_other false other is = refl

not_true : (one : Bool) → one ≡ true → not one ≡ false
not_true true is = refl
not_true false is = absurd cc

none_is : (digits : List ℕ) (range : Range) → (is_number digits && is_in (number_of digits) range) ≡ false → number_in digits range ≡ None
none_is digits range is = ap (λ (b : Bool). if_all b (number_of digits)) is

pub none_at_bad : (digits : List ℕ) (range : Range) → begins_badly digits ≡ true → number_in digits range ≡ None
none_at_bad digits range bad = none_is digits range (none_of _ _ (none_of _ _ (not_true _ bad)))

pub none_at_other : (digits : List ℕ) (i : ℕ) (range : Range) → list_all is_digit (take i digits) ≡ false → number_in digits range ≡ None
none_at_other digits i range other =
    let all : list_all is_digit digits ≡ false = ap (list_all is_digit) (sym (take-append-drop i digits)) ∙ all_first (take i digits) (drop i digits) other in
    none_is digits range (none_of _ _ (none_of_other _ _ all))

pub none_past : (digits : List ℕ) (i : ℕ) (range : Range) → range.most < number_of (take i digits) → number_in digits range ≡ None
none_past digits i range past =
    let grows : number_of (take i digits) ≤ number_of digits =
    subst (λ (all : List ℕ). number_of (take i digits) ≤ number_of all) (take-append-drop i digits) (number_grows (take i digits) (drop i digits)) in
    let large : nat_le (number_of digits) range.most ≡ false = grind (arith, nat_tests, grows, past) in
    none_is digits range (none_of_other _ _ (none_of_other _ _ large))

pub none_below : (digits : List ℕ) (range : Range) → number_of digits < range.least → number_in digits range ≡ None
none_below digits range below =
    let small : nat_le range.least (number_of digits) ≡ false = grind (arith, nat_tests, below) in
    none_is digits range (none_of_other _ _ (none_of _ _ small))

both : (one other : Bool) → one ≡ true → other ≡ true → (one && other) ≡ true
both true true is same = refl
both true false is same = absurd cc
both false other is same = absurd cc

not_false : (one : Bool) → one ≡ false → not one ≡ true
not_false false is = refl
not_false true is = absurd cc

pub some_number : (digits : List ℕ) (range : Range) → begins_badly digits ≡ false → list_all is_digit digits ≡ true → number_of digits ≤ range.most → range.least ≤ number_of digits
    → number_in digits range ≡ Some (number_of digits)
some_number digits range good all below above =
    let small : nat_le (number_of digits) range.most ≡ true = grind (arith, nat_tests, below) in
    let large : nat_le range.least (number_of digits) ≡ true = grind (arith, nat_tests, above) in
    ap (λ (b : Bool). if_all b (number_of digits)) (both _ _ (both _ _ (not_false _ good) all) (both _ _ large small))
