-- The one canonical spelling of a value (ISO 8825, 8.1): definite lengths, in the fewest octets.
use Rattle.std.specs.Prelude.{ℕ, ◌+◌, ◌*◌, ◌/◌, ◌%◌, Bool, true, false, nat_lt, List, [], ◌∷◌, ◌++◌, length, if◌then◌else◌}
use Rattle.vf_ber.specs.Tree.{Tag, Tree, plain, built, Trees, none, more}

-- The first octet of an identifier: the class in bits 8 and 7, bit 6 set where the value is constructed, and
-- the number, or 31 where it stands in the octets that follow (8.1.2).
abbrev pub first_octet : Bool → ℕ → ℕ → ℕ
first_octet true class low = 64 * class + (32 + low)
first_octet false class low = 64 * class + low

-- Numbers from 31 on in octets of seven bits each, bit 8 set but in the last. 16,383 is the largest here (profile).
abbrev pub identifier : Bool → Tag → List ℕ
identifier constructed tag =
    if nat_lt tag.number 31 then first_octet constructed tag.class tag.number ∷ []
    else if nat_lt tag.number 128 then first_octet constructed tag.class 31 ∷ tag.number ∷ []
    else first_octet constructed tag.class 31 ∷ (128 + tag.number / 128) ∷ tag.number % 128 ∷ []

-- One octet up to 127; else the number of octets and the length in these (8.1.3). A length above three octets
-- passes the limit of a value, so that its spelling doesn't matter.
abbrev pub length_octets : ℕ → List ℕ
length_octets n =
    if nat_lt n 128 then n ∷ []
    else if nat_lt n 256 then 129 ∷ n ∷ []
    else if nat_lt n 65536 then 130 ∷ n / 256 ∷ n % 256 ∷ []
    else 131 ∷ n / 65536 ∷ n / 256 % 256 ∷ n % 256 ∷ []

abbrev pub header : Bool → Tag → ℕ → List ℕ
header constructed tag n = identifier constructed tag ++ length_octets n

abbrev mutual
  pub spell : Tree → List ℕ
  spell (plain tag octets) = header false tag (length octets) ++ octets
  spell (built tag parts) = header true tag (length (spells parts)) ++ spells parts

  pub spells : Trees → List ℕ
  spells none = []
  spells (more part parts) = spell part ++ spells parts
