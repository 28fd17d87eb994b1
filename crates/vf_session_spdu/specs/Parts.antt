-- The parts of an SPDU: its parameters in order, up to one that is cut off. Those of an opened group stand in its place.
use Rattle.std.specs.Prelude.{ℕ, zero, suc, ◌+◌, nat_lt, List, [], ◌∷◌, ◌++◌, length, take, drop, Option, None, Some, if◌then◌else◌}
use Rattle.vf_base.specs.declared.spdu_kind.SpduKind.{SpduKind}
use Rattle.vf_session_spdu.specs.Numbers.{length_at}
use Rattle.vf_session_spdu.specs.Table.{opens}

pub data Part : Type 0 where
  -- a parameter, with the group that it stands in
  parameter : (group code : ℕ) (value : List ℕ) → Part
  -- a length that is cut off or passes what holds it: its first octet, or where that would stand
  cut : (place : ℕ) → Part

-- What follows an identifier: a length of so many octets, the value, and the octets after it.
pub data Measured : Type 0 where
  short : Measured
  whole : (spelled : ℕ) (value more : List ℕ) → Measured

abbrev pub measured_by : List ℕ → Option (ℕ × ℕ) → Measured
measured_by octets None = short
measured_by octets (Some (spelled, count)) =
    if nat_lt (length octets) (spelled + count) then short
    else whole spelled (take count (drop spelled octets)) (drop (spelled + count) octets)

abbrev pub measured : List ℕ → Measured
measured octets = measured_by octets (length_at octets)

-- What a parameter stands for, by the place of its value, its identifier and its value.
abbrev pub Opening : Type 0
Opening = ℕ → ℕ → List ℕ → List Part

-- the parts after an identifier at this place, and then the others
abbrev pub parts_after : Opening → (ℕ → List ℕ → List Part) → ℕ → ℕ → Measured → List Part
parts_after opened others place code short = cut (place + 1) ∷ []
parts_after opened others place code (whole spelled value more) =
    opened (place + 1 + spelled) code value ++ others (place + 1 + spelled + length value) more

-- The parts of octets whose first stands at this place; as many turns as there are octets reach the end.
unfoldable pub parts_in : Opening → ℕ → ℕ → List ℕ → List Part
parts_in opened zero place octets = []
parts_in opened (suc turns) place [] = []
parts_in opened (suc turns) place (code ∷ more) = parts_after opened (parts_in opened turns) place code (measured more)

abbrev pub parts_by : Opening → ℕ → List ℕ → List Part
parts_by opened place octets = parts_in opened (length octets) place octets

-- in the connect/accept item
abbrev pub inner : Opening
inner place code value = parameter 5 code value ∷ []

-- in the SPDU itself
abbrev pub outer : SpduKind → Opening
outer kind place code value =
    if opens kind code then parts_by inner place value else parameter 0 code value ∷ []

abbrev pub parts : SpduKind → ℕ → List ℕ → List Part
parts kind place octets = parts_by (outer kind) place octets
