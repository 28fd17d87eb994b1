-- What digits spell, as they are read one after another.
use Rattle.std.proofs.Common.{◌≡◌, ◌∙◌, ℕ, ◌+◌, ◌*◌, ◌-◌, ◌<◌, ◌≤◌, Bool, true, false, cond, not, ◌&&◌, List, [], ◌∷◌, ◌++◌, fold, length, take, drop, get_or, nat_le, Option, None, Some, refl, ap, sym, subst, arith}
use Rattle.std.specs.List.{list_all}
use Rattle.std.proofs.lemmas.Bool.Decides.{nat_tests}
use Rattle.std.proofs.lemmas.List.{take_more, take-append-drop}
use Rattle.vf_cli_script.specs.Words.{begins_low, is_digit, number_in, number_of, with_digit}

fold-more : (number : ℕ) (digits : List ℕ) (digit : ℕ) → fold with_digit number (digits ++ digit ∷ []) ≡ with_digit (fold with_digit number digits) digit
fold-more number [] digit = refl
fold-more number (first ∷ digits) digit = fold-more (with_digit number first) digits digit

all-more : (digits : List ℕ) (digit : ℕ) → list_all is_digit (digits ++ digit ∷ []) ≡ (list_all is_digit digits && is_digit digit)
all-more [] digit = and_true (is_digit digit)
  where
    and_true : (b : Bool) → (b && true) ≡ b
    and_true true = refl
    and_true false = refl
all-more (first ∷ digits) digit = and_by (is_digit first) (all-more digits digit)
  where
    and_by : (b : Bool) → list_all is_digit (digits ++ digit ∷ []) ≡ (list_all is_digit digits && is_digit digit)
        → (b && list_all is_digit (digits ++ digit ∷ [])) ≡ ((b && list_all is_digit digits) && is_digit digit)
    and_by true same = same
    and_by false same = refl

fold_grows : (number : ℕ) (digits : List ℕ) → number ≤ fold with_digit number digits
fold_grows number [] = omega arith
fold_grows number (first ∷ digits) = let more = fold_grows (with_digit number first) digits in omega (arith, more)

-- more digits spell no smaller number, and all of them are digits only where the first ones are
pub number_grows : (first later : List ℕ) → number_of first ≤ number_of (first ++ later)
number_grows first later = by 0 first
  where
    by : (number : ℕ) (first : List ℕ) → fold with_digit number first ≤ fold with_digit number (first ++ later)
    by number [] = fold_grows number later
    by number (digit ∷ first) = by (with_digit number digit) first

all_first : (first later : List ℕ) → list_all is_digit first ≡ false → list_all is_digit (first ++ later) ≡ false
all_first [] later none = absurd cc
all_first (digit ∷ first) later none = and_by (is_digit digit) none (all_first first later)
  where
    and_by : (b : Bool) → (b && list_all is_digit first) ≡ false → (list_all is_digit first ≡ false → list_all is_digit (first ++ later) ≡ false) → (b && list_all is_digit (first ++ later)) ≡ false
    and_by true none later = later none
    and_by false none later = refl

-- ---- a digit more

pub number_more : (digits : List ℕ) (i : ℕ) (digit : ℕ) → i < length digits → digit ≡ get_or digits i 0 → number_of (take (i + 1) digits) ≡ 10 * number_of (take i digits) + (digit - 48)
number_more digits i digit within is =
    ap number_of (take_more digits i 0 within) ∙ fold-more 0 (take i digits) (get_or digits i 0) ∙ ap (with_digit (number_of (take i digits))) (sym is)

pub digits_more : (digits : List ℕ) (i : ℕ) (digit : ℕ) → i < length digits → digit ≡ get_or digits i 0 → list_all is_digit (take (i + 1) digits) ≡ (list_all is_digit (take i digits) && is_digit digit)
digits_more digits i digit within is =
    ap (list_all is_digit) (take_more digits i 0 within) ∙ all-more (take i digits) (get_or digits i 0) ∙ ap (λ d. list_all is_digit (take i digits) && is_digit d) (sym is)

-- ---- the number

abbrev if_all : (all : Bool) → ℕ → Option ℕ
if_all all number = cond all (Some number) None

pub none_at_zero : (digits : List ℕ) (most : ℕ) → begins_low digits ≡ true → number_in digits most ≡ None
none_at_zero digits most zero = λ i. if_all ((not (zero i) && list_all is_digit digits) && nat_le (number_of digits) most) (number_of digits)

pub none_at_other : (digits : List ℕ) (i most : ℕ) → list_all is_digit (take i digits) ≡ false → number_in digits most ≡ None
none_at_other digits i most other =
    let all : list_all is_digit digits ≡ false = ap (list_all is_digit) (sym (take-append-drop i digits)) ∙ all_first (take i digits) (drop i digits) other in
    ap (λ (b : Bool). if_all ((not (begins_low digits) && b) && nat_le (number_of digits) most) (number_of digits)) all
    ∙ ap (λ (b : Bool). if_all b (number_of digits)) (none (begins_low digits))
  where
    none : (zero : Bool) → ((not zero && false) && nat_le (number_of digits) most) ≡ false
    none true = refl
    none false = refl

pub none_past : (digits : List ℕ) (i most : ℕ) → most < number_of (take i digits) → number_in digits most ≡ None
none_past digits i most past =
    let grows : number_of (take i digits) ≤ number_of digits =
    subst (λ (all : List ℕ). number_of (take i digits) ≤ number_of all) (take-append-drop i digits) (number_grows (take i digits) (drop i digits)) in
    let large : nat_le (number_of digits) most ≡ false = grind (arith, nat_tests, grows, past) in
    ap (λ (b : Bool). if_all ((not (begins_low digits) && list_all is_digit digits) && b) (number_of digits)) large
    ∙ ap (λ (b : Bool). if_all b (number_of digits)) (none (begins_low digits) (list_all is_digit digits))
  where
    none : (zero all : Bool) → ((not zero && all) && false) ≡ false
    none true all = refl
    none false true = refl
    none false false = refl

pub some_number : (digits : List ℕ) (most : ℕ) → begins_low digits ≡ false → list_all is_digit digits ≡ true → number_of digits ≤ most → number_in digits most ≡ Some (number_of digits)
some_number digits most zero all below =
    let small : nat_le (number_of digits) most ≡ true = grind (arith, nat_tests, below) in
    λ i. if_all ((not (zero i) && all i) && small i) (number_of digits)
