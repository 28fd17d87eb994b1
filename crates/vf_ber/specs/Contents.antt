-- The contents of primitive values: booleans (ISO 8825, 8.2), integers (8.3) and object identifiers (8.19).
use Rattle.std.specs.Prelude.{ℕ, ◌+◌, ◌*◌, ◌/◌, ◌%◌, ℤ, Bool, false, ◌&&◌, ◌||◌, nat_eq, nat_lt, nat_le, List, [], ◌∷◌, ◌++◌, if◌then◌else◌}
use Rattle.std.specs.List.{flat_map}
use Rattle.std.specs.Int.{w64, to_be_bytes, cast_unsigned}

-- one octet, 255 where it is true (profile)
abbrev pub boolean_octets : Bool → List ℕ
boolean_octets truth = (if truth then 255 else 0) ∷ []

-- its first nine bits are equal, so that the first octet adds nothing
abbrev pub is_redundant : List ℕ → Bool
is_redundant [] = false
is_redundant (a ∷ []) = false
is_redundant (a ∷ b ∷ octets) = (nat_eq a 0 && nat_lt b 128) || (nat_eq a 255 && nat_le 128 b)

-- without the first octets that add nothing
abbrev pub shortened : List ℕ → List ℕ
shortened [] = []
shortened (octet ∷ octets) = if is_redundant (octet ∷ octets) then shortened octets else octet ∷ octets

-- the shortest two's complement
abbrev pub integer_octets : ℤ → List ℕ
integer_octets n = shortened (to_be_bytes w64 (cast_unsigned w64 n))

-- an arc in octets of seven bits, bit 8 set but in the last
abbrev pub arc_octets : ℕ → List ℕ
arc_octets n =
    if nat_lt n 128 then n ∷ []
    else if nat_lt n 16384 then (128 + n / 128) ∷ n % 128 ∷ []
    else if nat_lt n 2097152 then (128 + n / 16384) ∷ (128 + n / 128 % 128) ∷ n % 128 ∷ []
    else if nat_lt n 268435456 then (128 + n / 2097152) ∷ (128 + n / 16384 % 128) ∷ (128 + n / 128 % 128) ∷ n % 128 ∷ []
    else (128 + n / 268435456) ∷ (128 + n / 2097152 % 128) ∷ (128 + n / 16384 % 128) ∷ (128 + n / 128 % 128) ∷ n % 128 ∷ []

-- the first two arcs share one number (8.19.4); every object identifier has two
abbrev pub oid_octets : List ℕ → List ℕ
oid_octets [] = []
oid_octets (first ∷ []) = []
oid_octets (first ∷ second ∷ arcs) = arc_octets (40 * first + second) ++ flat_map arc_octets arcs
