-- The variable part of a CR or CC (ISO 8073, 13.3.4): parameters of a code octet, a length octet and so many
-- octets of value. C0 proposes the size of a TPDU, as an exponent of 2; all others are skipped.
use Rattle.std.specs.Prelude.{ℕ, zero, suc, Bool, nat_eq, nat_lt, List, [], ◌∷◌, ◌++◌, length, take, drop, Option, None, Some, unwrap_or, if◌then◌else◌}
use Rattle.std.specs.List.{list_any}
use Rattle.vf_tpkt.specs.declared.parameters.Proposed.{Proposed}

-- what one parameter proposes, by its code, its length and the octets after these: none where it ends past
-- its TPDU, or where it is a C0 that hasn't one octet
abbrev pub proposed : ℕ → ℕ → List ℕ → Option (List ℕ)
proposed code size more =
    if nat_lt (length more) size then None
    else if nat_eq code 192 then (if nat_eq size 1 then Some (take 1 more) else None)
    else Some []

abbrev pub with_first : List ℕ → Option (List ℕ) → Option (List ℕ)
with_first first None = None
with_first first (Some others) = Some (first ++ others)

abbrev pub both : Option (List ℕ) → Option (List ℕ) → Option (List ℕ)
both None others = None
both (Some first) others = with_first first others

-- The exponents that these octets propose, in order; none where one of the parameters is wrong. A parameter
-- takes two octets at least, so that as many turns as there are octets reach the end.
unfoldable pub sizes_in : ℕ → List ℕ → Option (List ℕ)
sizes_in zero octets = Some []
sizes_in (suc turns) [] = Some []
sizes_in (suc turns) (code ∷ []) = None
sizes_in (suc turns) (code ∷ size ∷ more) = both (proposed code size more) (sizes_in turns (drop size more))

abbrev pub sizes : List ℕ → Option (List ℕ)
sizes octets = sizes_in (length octets) octets

-- the last one counts
abbrev pub last : List ℕ → Option ℕ
last [] = None
last (size ∷ others) = Some (unwrap_or (last others) size)

-- a size below 128 octets
abbrev pub is_small : ℕ → Bool
is_small size = nat_lt size 7

abbrev pub summary : List ℕ → Proposed
summary sizes = record { last = last sizes; small = list_any is_small sizes }
