-- Octets as text in hexadecimal (profile): two digits an octet, the high half first, each 0 to 9 or A to F.
use Rattle.std.specs.Prelude.{◌≡◌, ℕ, ◌+◌, ◌-◌, ◌*◌, ◌/◌, ◌%◌, ◌<◌, ◌≤◌, ◌&&◌, ◌⊎◌, ◌++◌, All, IfSome, nat_le, nat_lt, if◌then◌else◌, List, [], ◌∷◌, length, take, slice_index, Option, Some, None, Bool, true, false}

-- the digit of half an octet, 0 to 15
abbrev pub digit_of : ℕ → ℕ
digit_of half = if nat_lt half 10 then 48 + half else 55 + half

-- the half octet of a digit
abbrev pub half_of : ℕ → Option ℕ
half_of digit =
    if nat_le 48 digit && nat_le digit 57 then Some (digit - 48)
    else if nat_le 65 digit && nat_le digit 70 then Some (digit - 55)
    else None

abbrev pub hex_of : List ℕ → List ℕ
hex_of [] = []
hex_of (octet ∷ octets) = digit_of (octet / 16) ∷ digit_of (octet % 16) ∷ hex_of octets

-- the digits of so many octets
abbrev pub first_digits : ℕ → List ℕ → List ℕ
first_digits count octets = hex_of (take count octets)

-- an octet of two halves, before the octets after it
abbrev pub octet_before : Option ℕ → Option ℕ → Option (List ℕ) → Option (List ℕ)
octet_before (Some high) (Some low) (Some octets) = Some ((high * 16 + low) ∷ octets)
octet_before (Some high) (Some low) None = None
octet_before (Some high) None octets = None
octet_before None low octets = None

-- the octets that a text spells, if it spells any
abbrev pub octets_of : List ℕ → Option (List ℕ)
octets_of [] = Some []
octets_of (digit ∷ []) = None
octets_of (high ∷ low ∷ text) = octet_before (half_of high) (half_of low) (octets_of text)

-- the digit of half an octet, where one waits for its other half
abbrev pub half_text : Option ℕ → List ℕ
half_text None = []
half_text (Some half) = digit_of half ∷ []

-- half an octet, 0 to 15, and its digit
abbrev pub IsHalfOf : ℕ → ℕ → Type 0
IsHalfOf half digit = (half < 16) × (digit_of half ≡ digit)

-- the half octet of the first digit
abbrev pub first_half_of : List ℕ → Option ℕ
first_half_of [] = None
first_half_of (digit ∷ digits) = half_of digit

-- A text's first `count` digits were appended to others, and no digit stands after them.
pub record Takes (old new text : List ℕ) (count : ℕ) : Type 0 where
  pub within : count ≤ length text
  pub digits : new ≡ old ++ take count text
  pub stopped : count < length text → half_of (slice_index text count) ≡ None

-- The same, by the octets that digits spell and the half octet that waits.
pub record TakesOctets (old : List ℕ) (old_high : Option ℕ) (new : List ℕ) (new_high : Option ℕ) (text : List ℕ) (count : ℕ) : Type 0 where
  pub takes : Takes (hex_of old ++ half_text old_high) (hex_of new ++ half_text new_high) text count
  pub more : (octets : List ℕ) × (new ≡ old ++ octets) × All (λ octet. octet < 256) octets
  pub small : IfSome new_high (λ half. half < 16)

-- A text's first pairs of digits were appended as octets, and no pair of digits stands after them.
pub record TakesPairs (old new text : List ℕ) (count : ℕ) : Type 0 where
  pub within : 2 * count ≤ length text
  pub more : (octets : List ℕ) × (new ≡ old ++ octets) × (hex_of octets ≡ take (2 * count) text) × All (λ octet. octet < 256) octets
  pub stopped : 2 * count + 1 < length text
      → (half_of (slice_index text (2 * count)) ≡ None) ⊎ (half_of (slice_index text (2 * count + 1)) ≡ None)

-- Digits spell octets, one at least, and are forgotten; or they spell none, and nothing changes.
abbrev pub Spells : List ℕ → List ℕ → List ℕ → List ℕ → Bool → Type 0
Spells old new old_octets new_octets true =
    (new ≡ []) × (octets_of old ≡ Some new_octets) × (0 < length old) × (length old ≡ 2 * length new_octets)
Spells old new old_octets new_octets false =
    ((old ≡ []) ⊎ (octets_of old ≡ None)) × (new ≡ old) × (new_octets ≡ old_octets)
