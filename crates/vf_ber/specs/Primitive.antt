-- What the contents of values mean: booleans (ISO 8825, 8.2), integers (8.3), octet strings (8.7) and object
-- identifiers (8.19).
use Rattle.std.specs.Prelude.{ℕ, ◌+◌, ◌-◌, ◌*◌, ◌%◌, ℤ, Bool, false, not, ◌&&◌, ◌||◌, nat_eq, nat_lt, nat_le, List, [], ◌∷◌, ◌++◌, length, replicate, Option, Some, None, if◌then◌else◌}
use Rattle.std.specs.Option.{option_and_then, option_map}
use Rattle.std.specs.Int.{w64, from_be_bytes, cast_signed}
use Rattle.vf_base.specs.Oid.{is_oid}
use Rattle.vf_ber.specs.Contents.{is_redundant}
use Rattle.vf_ber.specs.Tree.{Tag, Tree, plain, built, Trees, none, more, root}

-- false is 0, true anything else (8.2.2)
abbrev pub boolean_at : List ℕ → Option Bool
boolean_at [] = None
boolean_at (octet ∷ []) = Some (not (nat_eq octet 0))
boolean_at (octet ∷ other ∷ octets) = None

abbrev pub boolean_of : Tree → Option Bool
boolean_of (plain tag octets) = boolean_at octets
boolean_of (built tag parts) = None

-- what stands before two's complement without changing it
abbrev pub sign_octet : List ℕ → ℕ
sign_octet [] = 0
sign_octet (octet ∷ octets) = if nat_lt octet 128 then 0 else 255

-- the same two's complement in eight octets
abbrev pub extended : List ℕ → List ℕ
extended octets = replicate (8 - length octets) (sign_octet octets) ++ octets

-- one to eight octets, of which the first adds something (8.3.2; eight are profile)
abbrev pub is_integer : List ℕ → Bool
is_integer octets = nat_lt 0 (length octets) && nat_le (length octets) 8 && not (is_redundant octets)

abbrev pub integer_at : List ℕ → Option ℤ
integer_at octets = if is_integer octets then Some (cast_signed w64 (from_be_bytes w64 (extended octets))) else None

abbrev pub integer_of : Tree → Option ℤ
integer_of (plain tag octets) = integer_at octets
integer_of (built tag parts) = None

-- Octets cut after each one whose bit 8 is clear, where the last one's is (8.19.2).
abbrev pub led_by : ℕ → List (List ℕ) → Option (List (List ℕ))
led_by octet [] = None
led_by octet (group ∷ groups) = Some ((octet ∷ group) ∷ groups)

abbrev pub groups_of : List ℕ → Option (List (List ℕ))
groups_of [] = Some []
groups_of (octet ∷ octets) =
    if nat_lt octet 128 then option_map (λ groups. (octet ∷ []) ∷ groups) (groups_of octets)
    else option_and_then (led_by octet) (groups_of octets)

-- the number that seven bits of each octet make, after a number from octets before them
abbrev pub septets : ℕ → List ℕ → ℕ
septets n [] = n
septets n (octet ∷ octets) = septets (128 * n + octet % 128) octets

-- its first octet adds nothing
abbrev pub is_padded : List ℕ → Bool
is_padded [] = false
is_padded (octet ∷ octets) = nat_eq octet 128

-- A subidentifier in the fewest octets (8.19.2). None above 268,435,583 has arcs within the limits of this profile.
abbrev pub subidentifier_of : List ℕ → Option ℕ
subidentifier_of group = if is_padded group || nat_lt 268435583 (septets 0 group) then None else Some (septets 0 group)

abbrev pub subidentifiers_of : List (List ℕ) → Option (List ℕ)
subidentifiers_of [] = Some []
subidentifiers_of (group ∷ groups) = option_and_then (λ first. option_map (λ rest. first ∷ rest) (subidentifiers_of groups)) (subidentifier_of group)

abbrev pub subidentifiers_at : List ℕ → Option (List ℕ)
subidentifiers_at octets = option_and_then subidentifiers_of (groups_of octets)

-- the first two arcs, which share a subidentifier (8.19.4)
abbrev pub root_arc : ℕ → ℕ
root_arc n = if nat_lt n 40 then 0 else if nat_lt n 80 then 1 else 2

abbrev pub arcs_of : List ℕ → Option (List ℕ)
arcs_of [] = None
arcs_of (first ∷ rest) = Some (root_arc first ∷ (first - 40 * root_arc first) ∷ rest)

abbrev pub arcs_at : List ℕ → Option (List ℕ)
arcs_at octets = option_and_then arcs_of (subidentifiers_at octets)

-- arcs within the limits
abbrev pub oid_with : List ℕ → Option (List ℕ)
oid_with arcs = if is_oid arcs then Some arcs else None

abbrev pub oid_at : List ℕ → Option (List ℕ)
oid_at octets = option_and_then oid_with (arcs_at octets)

abbrev pub oid_of : Tree → Option (List ℕ)
oid_of (plain tag octets) = oid_at octets
oid_of (built tag parts) = None

abbrev pub is_octet_string : Tag → Bool
is_octet_string tag = nat_eq tag.class 0 && nat_eq tag.number 4

abbrev pub in_prefix : List ℕ → Option (List ℕ) → Option (List ℕ)
in_prefix octets others = option_map (λ rest. octets ++ rest) others

abbrev mutual
  -- The octets of an octet string, whose own tag is free. Where it is built its parts are octet strings, which hold
  -- the octets one after another (8.7.3).
  pub octets_of : Tree → Option (List ℕ)
  octets_of (plain tag octets) = Some octets
  octets_of (built tag parts) = octets_in parts

  pub octets_in : Trees → Option (List ℕ)
  octets_in none = Some []
  octets_in (more part parts) =
      if is_octet_string (root part) then option_and_then (λ octets. in_prefix octets (octets_in parts)) (octets_of part)
      else None
