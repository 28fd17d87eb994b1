-- The table of half octets, which follows their definition, as each of its entries shows when it is computed.
use Rattle.std.proofs.Common.{◌≡◌, ℕ, zero, suc, ◌+◌, ◌<◌, ◌≤◌, ◌==◌, ◌&&◌, nat_lt, not, Bool, true, false, List, [], ◌∷◌, Option, Some, None, is_some, unwrap_or, length, get_or, refl, ap, ◌∙◌, arith, inl, inr}
use Rattle.std.specs.Prelude.{if◌then◌else◌}
use Rattle.std.proofs.lemmas.Bool.{and_parts, cases_lt, eqb-true, le-ltb, lt-ltb, not-true}
use Rattle.vf_cli_dialogue.specs.Hex.{IsHalfOf, digit_of, half_of}
use Rattle.vf_cli_dialogue.specs.declared.hex.TheConstants.{HALVES}

-- an entry below 16 is the half octet of its digit, and any other stands where no digit is
abbrev fits : ℕ → ℕ → Bool
fits entry digit =
    if nat_lt entry 16 then (unwrap_or (half_of digit) 256 == entry) && (digit_of entry == digit)
    else not (is_some (half_of digit)) && (entry == 256)

-- the entries from this digit on
abbrev all_fit : ℕ → List ℕ → Bool
all_fit digit [] = true
all_fit digit (entry ∷ entries) = fits entry digit && all_fit (suc digit) entries

fits_at : (entries : List ℕ) (first place digit : ℕ) → all_fit first entries ≡ true → place < length entries → digit ≡ first + place
    → fits (get_or entries place 0) digit ≡ true
fits_at [] first place digit all within is = absurd (omega arith)
fits_at (entry ∷ entries) first zero digit all within is =
    let here : digit ≡ first = omega arith in
    ap (fits entry) here ∙ (and_parts (fits entry first) (all_fit (suc first) entries) all).0
fits_at (entry ∷ entries) first (suc place) digit all within is =
    fits_at entries (suc first) place digit (and_parts (fits entry first) (all_fit (suc first) entries) all).1 (omega arith) (omega arith)

entry_fits : (digit : ℕ) → digit < 256 → fits (get_or HALVES digit 0) digit ≡ true
entry_fits digit within = fits_at HALVES 0 digit digit refl within (omega arith)

then_true : (test first second : Bool) → test ≡ true → (if test then first else second) ≡ true → first ≡ true
then_true true first second is all = all
then_true false first second is all = absurd cc

else_true : (test first second : Bool) → test ≡ false → (if test then first else second) ≡ true → second ≡ true
else_true false first second is all = all
else_true true first second is all = absurd cc

some_found : (found : Option ℕ) (entry : ℕ) → unwrap_or found 256 ≡ entry → entry < 16 → found ≡ Some entry
some_found (Some half) entry same small = ap Some same
some_found None entry same small = absurd (omega arith)

none_found : (found : Option ℕ) → is_some found ≡ false → found ≡ None
none_found None none = refl
none_found (Some half) none = absurd cc

small_entry : (digit : ℕ) → digit < 256 → get_or HALVES digit 0 < 16
    → (half_of digit ≡ Some (get_or HALVES digit 0)) × IsHalfOf (get_or HALVES digit 0) digit
small_entry digit within small =
    let entry = get_or HALVES digit 0 in
    let is_it = unwrap_or (half_of digit) 256 == entry in
    let is_back = digit_of entry == digit in
    let both = then_true (nat_lt entry 16) (is_it && is_back) (not (is_some (half_of digit)) && (entry == 256)) (lt-ltb entry 16 small) (entry_fits digit within) in
    let parts = and_parts is_it is_back both in
    (some_found (half_of digit) entry (eqb-true (unwrap_or (half_of digit) 256) entry parts.0) small, (small, eqb-true (digit_of entry) digit parts.1))

large_entry : (digit : ℕ) → digit < 256 → 16 ≤ get_or HALVES digit 0 → (half_of digit ≡ None) × (get_or HALVES digit 0 ≡ 256)
large_entry digit within large =
    let entry = get_or HALVES digit 0 in
    let is_none = not (is_some (half_of digit)) in
    let both = else_true (nat_lt entry 16) ((unwrap_or (half_of digit) 256 == entry) && (digit_of entry == digit)) (is_none && (entry == 256)) (le-ltb entry 16 large) (entry_fits digit within) in
    let parts = and_parts is_none (entry == 256) both in
    (none_found (half_of digit) (not-true (is_some (half_of digit)) parts.0), eqb-true entry 256 parts.1)

-- an entry below 256 is below 16
small_by : (digit : ℕ) → digit < 256 → get_or HALVES digit 0 < 256 → get_or HALVES digit 0 < 16
small_by digit within less = elim (cases_lt (get_or HALVES digit 0) 16) [
  | inl small ↦ small
  | inr large ↦
      let most : get_or HALVES digit 0 ≡ 256 = (large_entry digit within large).1 in
      absurd (omega arith)
]

pub half_found : (digit : ℕ) → digit < 256 → get_or HALVES digit 0 < 256 → half_of digit ≡ Some (get_or HALVES digit 0)
half_found digit within less = (small_entry digit within (small_by digit within less)).0

pub half_is_of : (digit : ℕ) → digit < 256 → get_or HALVES digit 0 < 256 → IsHalfOf (get_or HALVES digit 0) digit
half_is_of digit within less = (small_entry digit within (small_by digit within less)).1

pub none_there : (digit : ℕ) → digit < 256 → 256 ≤ get_or HALVES digit 0 → half_of digit ≡ None
none_there digit within large = (large_entry digit within (omega arith)).0

pub most_there : (digit : ℕ) → digit < 256 → get_or HALVES digit 0 ≤ 256
most_there digit within = elim (cases_lt (get_or HALVES digit 0) 16) [
  | inl small ↦ omega arith
  | inr large ↦
      let most : get_or HALVES digit 0 ≡ 256 = (large_entry digit within large).1 in
      omega arith
]
