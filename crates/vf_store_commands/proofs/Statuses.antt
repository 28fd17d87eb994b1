-- Statuses among others, and apart from others.
use Rattle.std.proofs.Common.{◌≡◌, ◌⊎◌, inl, inr, arith, ⊎_elim, ℕ, Bool, true, false, ◌&&◌, nat_eq, List, [], ◌∷◌, refl, subst, sym}
use Rattle.std.specs.Prelude.{◌||◌}
use Rattle.std.proofs.lemmas.Bool.{eqb-true}
use Rattle.std.proofs.lemmas.Bool.Decides.{nat_tests}
use Rattle.vf_cli_printing.specs.Printed.{IsOneOf}
use Rattle.vf_store_commands.proofs.Bools.{first_of, neither_first, neither_second, second_of}

-- a number is one of these
abbrev pub has : List ℕ → ℕ → Bool
has [] number = false
has (one ∷ others) number = nat_eq number one || has others number

-- all numbers, and any of them, are among others
abbrev pub has_all : List ℕ → List ℕ → Bool
has_all others [] = true
has_all others (one ∷ numbers) = has others one && has_all others numbers

abbrev pub has_any : List ℕ → List ℕ → Bool
has_any others [] = false
has_any others (one ∷ numbers) = has others one || has_any others numbers

either : (a b : Bool) → (a || b) ≡ true → (a ≡ true) ⊎ (b ≡ true)
either true b is = inl refl
either false b is = inr is

pub is_one_of : (others : List ℕ) (number : ℕ) → has others number ≡ true → IsOneOf others number
is_one_of [] number is = absurd cc
is_one_of (one ∷ others) number is =
    ⊎_elim (λ same. inl (eqb-true number one same)) (λ rest. inr (is_one_of others number rest)) (either (nat_eq number one) (has others number) is)

is_no_other : (others : List ℕ) (number : ℕ) → has others number ≡ false → IsOneOf others number → ⊥
is_no_other [] number none is = is
is_no_other (one ∷ others) number none is =
    ⊎_elim (λ same. absurd (let other : nat_eq one one ≡ false = subst (λ (n : ℕ). nat_eq n one ≡ false) same (neither_first (nat_eq number one) (has others number) none) in grind (arith, nat_tests)))
    (λ rest. is_no_other others number (neither_second (nat_eq number one) (has others number) none) rest) is

-- the status is another one
pub is_not : (numbers : List ℕ) (status number : ℕ) → has numbers number ≡ false → IsOneOf numbers status → nat_eq status number ≡ false
is_not [] status number none is = absurd is
is_not (one ∷ numbers) status number none is =
    let other : nat_eq number one ≡ false = neither_first (nat_eq number one) (has numbers number) none in
    ⊎_elim (λ same. subst (λ (n : ℕ). nat_eq n number ≡ false) (sym same) (let turned : nat_eq one number ≡ false = grind (arith, nat_tests) in turned))
    (λ rest. is_not numbers status number (neither_second (nat_eq number one) (has numbers number) none) rest) is

pub among : (numbers others : List ℕ) (status : ℕ) → has_all others numbers ≡ true → IsOneOf numbers status → IsOneOf others status
among [] others status all is = absurd is
among (one ∷ numbers) others status all is =
    ⊎_elim (λ same. subst (IsOneOf others) (sym same) (is_one_of others one (first_of (has others one) (has_all others numbers) all)))
    (λ rest. among numbers others status (second_of (has others one) (has_all others numbers) all) rest) is

pub apart : (numbers others : List ℕ) (status : ℕ) → has_any others numbers ≡ false → IsOneOf numbers status → IsOneOf others status → ⊥
apart [] others status none is other = is
apart (one ∷ numbers) others status none is other =
    ⊎_elim (λ same. is_no_other others one (neither_first (has others one) (has_any others numbers) none) (subst (IsOneOf others) same other))
    (λ rest. apart numbers others status (neither_second (has others one) (has_any others numbers) none) rest other) is
