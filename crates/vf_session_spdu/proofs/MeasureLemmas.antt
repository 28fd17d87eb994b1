-- A length indicator, a value and what follows are found again, however the length is spelled.
use Rattle.std.proofs.Common.{◌≡◌, ℕ, ◌+◌, ◌*◌, ◌/◌, ◌%◌, ◌≤◌, ◌<◌, true, false, nat_lt, List, [], ◌∷◌, ◌++◌, length, take, drop, Some, refl, ap, sym, subst, ◌∙◌, arith, inl, inr, ◌⊎◌}
use Rattle.std.proofs.Math.Seq.{take-append_seam, drop-append_seam, drop-append-add}
use Rattle.std.proofs.lemmas.Bool.{cases_lt}
use Rattle.std.proofs.lemmas.Bool.Decides.{nat_tests}
use Rattle.std.proofs.lemmas.List.{length-append}
use Rattle.vf_session_spdu.specs.Grammar.{IsLength}
use Rattle.vf_session_spdu.specs.Numbers.{length_at, length_octets}
use Rattle.vf_session_spdu.specs.Parts.{whole, measured, measured_by, Opening, parts_by, parts_after}
use Rattle.vf_session_spdu.proofs.PartLemmas.{parts-measured}

-- ---- a length

-- a length indicator, whatever its octets are
abbrev pub Indicates : ℕ → List ℕ → Type 0
Indicates count octets = ((count < 255) × (octets ≡ count ∷ [])) ⊎ ((high low : ℕ) × (count ≡ high * 256 + low) × (octets ≡ 255 ∷ high ∷ low ∷ []))

pub indicates : (count : ℕ) (octets : List ℕ) → IsLength count octets → Indicates count octets
indicates count octets (inl h) = inl h
indicates count octets (inr (high, low, a, b, n, e)) = inr (high, low, n, e)

one-octet : (n : ℕ) (rest : List ℕ) → n < 255 → length_at (n ∷ rest) ≡ Some (1, n)
one-octet n rest h =
    let a : nat_lt (length (n ∷ rest)) 1 ≡ false = grind (arith, nat_tests) in
    let b : nat_lt n 255 ≡ true = grind (arith, nat_tests) in
    rw (a, b) refl

three-octets : (high low : ℕ) (rest : List ℕ) → length_at (255 ∷ high ∷ low ∷ rest) ≡ Some (3, high * 256 + low)
three-octets high low rest =
    let a : nat_lt (length (255 ∷ high ∷ low ∷ rest)) 1 ≡ false = grind (arith, nat_tests) in
    let b : nat_lt (length (255 ∷ high ∷ low ∷ rest)) 3 ≡ false = grind (arith, nat_tests) in
    rw (a, b) refl

pub length-found : (count : ℕ) (indicator rest : List ℕ) → Indicates count indicator → length_at (indicator ++ rest) ≡ Some (length indicator, count)
length-found count indicator rest (inl (few, e)) =
    let P : List ℕ → Type 0 = λ i. length_at (i ++ rest) ≡ Some (length i, count) in
    subst P (sym e) (one-octet count rest few)
length-found count indicator rest (inr (high, low, n, e)) =
    let P : List ℕ → Type 0 = λ i. length_at (i ++ rest) ≡ Some (length i, count) in
    subst P (sym e) (three-octets high low rest ∙ ap (λ (k : ℕ). Some (3, k)) (sym n))

quotient : (n : ℕ) → n ≡ n / 256 * 256 + n % 256
quotient n = omega arith

pub length-written : (n : ℕ) → Indicates n (length_octets n)
length-written n =
    elim (cases_lt n 255) [
      | inl lt ↦ let t : nat_lt n 255 ≡ true = grind (arith, nat_tests) in inl (lt, rw t refl)
      | inr le ↦ let t : nat_lt n 255 ≡ false = grind (arith, nat_tests) in inr (n / 256, n % 256, quotient n, rw t refl)
    ]

-- ---- what follows an identifier

measured-at : (o : List ℕ) (s n : ℕ) (v m : List ℕ) → s + n ≤ length o → take n (drop s o) ≡ v → drop (s + n) o ≡ m → measured_by o (Some (s, n)) ≡ whole s v m
measured-at o s n v m h t d =
    let fits : nat_lt (length o) (s + n) ≡ false = grind (arith, nat_tests) in
    rw fits (ap (λ (x : List ℕ). whole s x (drop (s + n) o)) t ∙ ap (whole s v) d)

pub measured-unit : (indicator value rest : List ℕ) → Indicates (length value) indicator → measured (indicator ++ (value ++ rest)) ≡ whole (length indicator) value rest
measured-unit indicator value rest h =
    let after : drop (length indicator) (indicator ++ (value ++ rest)) ≡ value ++ rest = drop-append_seam indicator (value ++ rest) in
    let all : length (indicator ++ (value ++ rest)) ≡ length indicator + length (value ++ rest) = length-append indicator (value ++ rest) in
    let both : length (value ++ rest) ≡ length value + length rest = length-append value rest in
    ap (measured_by (indicator ++ (value ++ rest))) (length-found (length value) indicator (value ++ rest) h)
    ∙ measured-at (indicator ++ (value ++ rest)) (length indicator) (length value) value rest (omega arith)
    (ap (take (length value)) after ∙ take-append_seam value rest)
    (drop-append-add indicator (value ++ rest) (length value) ∙ drop-append_seam value rest)

-- the parts of octets that begin with a parameter or a group
pub parts-unit : (opened : Opening) (place code : ℕ) (indicator value rest : List ℕ) → Indicates (length value) indicator
    → parts_by opened place (code ∷ (indicator ++ (value ++ rest))) ≡ opened (place + 1 + length indicator) code value ++ parts_by opened (place + 1 + length indicator + length value) rest
parts-unit opened place code indicator value rest h =
    parts-measured opened place code (indicator ++ (value ++ rest)) ∙ ap (parts_after opened (parts_by opened) place code) (measured-unit indicator value rest h)
