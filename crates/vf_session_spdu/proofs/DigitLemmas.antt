-- The fewest digits of a number are digits, and spell it.
use Rattle.std.proofs.Common.{◌≡◌, ℕ, ◌+◌, ◌/◌, ◌%◌, ◌≤◌, ◌<◌, true, false, nat_le, [], ◌∷◌, drop, refl, sym, subst, arith, inl, inr}
use Rattle.std.proofs.lemmas.Bool.{cases_lt}
use Rattle.std.proofs.lemmas.Bool.Decides.{nat_tests}
use Rattle.vf_session_spdu.specs.declared.table.Form.TheVariants.{Digits}
use Rattle.vf_session_spdu.specs.Numbers.{number, digits, six_digits, leading_zeros, last_serial}
use Rattle.vf_session_spdu.specs.Table.{fits, is_digit}

-- ---- the digits after so many zeros

is-digit : (n : ℕ) → is_digit (n % 10 + 48) ≡ true
is-digit n =
    let small : n % 10 < 10 = omega arith in
    let a : nat_le 48 (n % 10 + 48) ≡ true = grind (arith, nat_tests) in
    let b : nat_le (n % 10 + 48) 57 ≡ true = grind (arith, nat_tests) in
    rw (a, b) refl

fit-0 : (n : ℕ) → fits Digits (drop 0 (six_digits n)) ≡ true
fit-0 n = rw (is-digit (n / 100000), is-digit (n / 10000), is-digit (n / 1000), is-digit (n / 100), is-digit (n / 10), is-digit n) refl

fit-1 : (n : ℕ) → fits Digits (drop 1 (six_digits n)) ≡ true
fit-1 n = rw (is-digit (n / 10000), is-digit (n / 1000), is-digit (n / 100), is-digit (n / 10), is-digit n) refl

fit-2 : (n : ℕ) → fits Digits (drop 2 (six_digits n)) ≡ true
fit-2 n = rw (is-digit (n / 1000), is-digit (n / 100), is-digit (n / 10), is-digit n) refl

fit-3 : (n : ℕ) → fits Digits (drop 3 (six_digits n)) ≡ true
fit-3 n = rw (is-digit (n / 100), is-digit (n / 10), is-digit n) refl

fit-4 : (n : ℕ) → fits Digits (drop 4 (six_digits n)) ≡ true
fit-4 n = rw (is-digit (n / 10), is-digit n) refl

fit-5 : (n : ℕ) → fits Digits (drop 5 (six_digits n)) ≡ true
fit-5 n = rw (is-digit n) refl

spell-0 : (n : ℕ) → n < 1000000 → number (drop 0 (six_digits n)) ≡ n
spell-0 n h = omega arith

spell-1 : (n : ℕ) → n < 100000 → number (drop 1 (six_digits n)) ≡ n
spell-1 n h = omega arith

spell-2 : (n : ℕ) → n < 10000 → number (drop 2 (six_digits n)) ≡ n
spell-2 n h = omega arith

spell-3 : (n : ℕ) → n < 1000 → number (drop 3 (six_digits n)) ≡ n
spell-3 n h = omega arith

spell-4 : (n : ℕ) → n < 100 → number (drop 4 (six_digits n)) ≡ n
spell-4 n h = omega arith

spell-5 : (n : ℕ) → n < 10 → number (drop 5 (six_digits n)) ≡ n
spell-5 n h = omega arith

-- ---- all numbers

record Spelled (n : ℕ) : Type 0 where
  fit : fits Digits (digits n) ≡ true
  spell : number (digits n) ≡ n

by-zeros : (n z : ℕ) → leading_zeros n ≡ z → fits Digits (drop z (six_digits n)) ≡ true → number (drop z (six_digits n)) ≡ n → Spelled n
by-zeros n z e f g =
    let F : ℕ → Type 0 = λ k. fits Digits (drop k (six_digits n)) ≡ true in
    let G : ℕ → Type 0 = λ k. number (drop k (six_digits n)) ≡ n in
    record { fit = subst F (sym e) f; spell = subst G (sym e) g }

with-0 : (n : ℕ) → n < 1000000 → 100000 ≤ n → Spelled n
with-0 n h low =
    let t0 : nat_le 100000 n ≡ true = grind (arith, nat_tests) in
    by-zeros n 0 (rw t0 refl) (fit-0 n) (spell-0 n h)

with-1 : (n : ℕ) → n < 100000 → 10000 ≤ n → Spelled n
with-1 n h low =
    let t0 : nat_le 100000 n ≡ false = grind (arith, nat_tests) in
    let t1 : nat_le 10000 n ≡ true = grind (arith, nat_tests) in
    by-zeros n 1 (rw (t0, t1) refl) (fit-1 n) (spell-1 n h)

with-2 : (n : ℕ) → n < 10000 → 1000 ≤ n → Spelled n
with-2 n h low =
    let t0 : nat_le 100000 n ≡ false = grind (arith, nat_tests) in
    let t1 : nat_le 10000 n ≡ false = grind (arith, nat_tests) in
    let t2 : nat_le 1000 n ≡ true = grind (arith, nat_tests) in
    by-zeros n 2 (rw (t0, t1, t2) refl) (fit-2 n) (spell-2 n h)

with-3 : (n : ℕ) → n < 1000 → 100 ≤ n → Spelled n
with-3 n h low =
    let t0 : nat_le 100000 n ≡ false = grind (arith, nat_tests) in
    let t1 : nat_le 10000 n ≡ false = grind (arith, nat_tests) in
    let t2 : nat_le 1000 n ≡ false = grind (arith, nat_tests) in
    let t3 : nat_le 100 n ≡ true = grind (arith, nat_tests) in
    by-zeros n 3 (rw (t0, t1, t2, t3) refl) (fit-3 n) (spell-3 n h)

with-4 : (n : ℕ) → n < 100 → 10 ≤ n → Spelled n
with-4 n h low =
    let t0 : nat_le 100000 n ≡ false = grind (arith, nat_tests) in
    let t1 : nat_le 10000 n ≡ false = grind (arith, nat_tests) in
    let t2 : nat_le 1000 n ≡ false = grind (arith, nat_tests) in
    let t3 : nat_le 100 n ≡ false = grind (arith, nat_tests) in
    let t4 : nat_le 10 n ≡ true = grind (arith, nat_tests) in
    by-zeros n 4 (rw (t0, t1, t2, t3, t4) refl) (fit-4 n) (spell-4 n h)

with-5 : (n : ℕ) → n < 10 → Spelled n
with-5 n h =
    let t0 : nat_le 100000 n ≡ false = grind (arith, nat_tests) in
    let t1 : nat_le 10000 n ≡ false = grind (arith, nat_tests) in
    let t2 : nat_le 1000 n ≡ false = grind (arith, nat_tests) in
    let t3 : nat_le 100 n ≡ false = grind (arith, nat_tests) in
    let t4 : nat_le 10 n ≡ false = grind (arith, nat_tests) in
    by-zeros n 5 (rw (t0, t1, t2, t3, t4) refl) (fit-5 n) (spell-5 n h)

spelled : (n : ℕ) → n ≤ last_serial → Spelled n
spelled n h =
    elim (cases_lt n 10) [
      | inl few ↦ with-5 n few
      | inr a ↦ elim (cases_lt n 100) [
        | inl few ↦ with-4 n few a
        | inr b ↦ elim (cases_lt n 1000) [
          | inl few ↦ with-3 n few b
          | inr c ↦ elim (cases_lt n 10000) [
            | inl few ↦ with-2 n few c
            | inr d ↦ elim (cases_lt n 100000) [
              | inl few ↦ with-1 n few d
              | inr e ↦ with-0 n (omega arith) e
            ]
          ]
        ]
      ]
    ]

pub digits-fit : (n : ℕ) → n ≤ last_serial → fits Digits (digits n) ≡ true
digits-fit n h = (spelled n h).fit

pub digits-spell : (n : ℕ) → n ≤ last_serial → number (digits n) ≡ n
digits-spell n h = (spelled n h).spell
