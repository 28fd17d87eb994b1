-- How many octets, strings and units there are.
use Rattle.std.proofs.Common.{◌≡◌, ℕ, ◌+◌, ◌≤◌, List, [], ◌∷◌, ◌++◌, length, refl, arith, length-append}
use Rattle.std.proofs.lemmas.List.Sums.{sum_by-append, sum_by-cons}
use Rattle.std.specs.List.{fold}
use Rattle.vf_tree.specs.FileTree.{DataUnit, octets_of, octets_of_unit, octets_in, parts_of_unit, parts_in, strings}

length-fold : (units : List DataUnit) (n : ℕ) → n + length units ≤ fold (λ a unit. a + parts_of_unit unit) n units
length-fold [] n = omega arith
length-fold (unit ∷ units) n = omega (arith, length-fold units (n + (length unit + 1)))

-- a file has no more units than units and strings
pub length_parts : (units : List DataUnit) → length units ≤ parts_in units
length_parts units = omega (arith, length-fold units 0)

-- one unit of the strings of all units has as many octets
pub octets_strings : (units : List DataUnit) → octets_of_unit (strings units) ≡ octets_in units
octets_strings [] = refl
octets_strings (unit ∷ units) =
    omega (arith, sum_by-append octets_of unit (strings units), sum_by-cons octets_of_unit unit units, octets_strings units)

-- and all strings, so that only the other units are missing
pub parts_strings : (units : List DataUnit) → length (strings units) + length units ≡ parts_in units
parts_strings [] = refl
parts_strings (unit ∷ units) =
    omega (arith, length-append unit (strings units), sum_by-cons parts_of_unit unit units, parts_strings units)

-- an unstructured file that is extended
pub extended_octets : (units : List DataUnit) (more : DataUnit) → octets_in ((strings units ++ more) ∷ []) ≡ octets_in units + octets_of_unit more
extended_octets units more = omega (arith, sum_by-append octets_of (strings units) more, octets_strings units)

pub extended_parts : (units : List DataUnit) (more : DataUnit) → length units ≡ 1 → parts_in ((strings units ++ more) ∷ []) ≡ parts_in units + length more
extended_parts units more single = omega (arith, length-append (strings units) more, parts_strings units)

-- a sequential flat file after which units are put
pub inserted_octets : (units more : List DataUnit) → octets_in (units ++ more) ≡ octets_in units + octets_in more
inserted_octets units more = sum_by-append octets_of_unit units more

pub inserted_parts : (units more : List DataUnit) → parts_in (units ++ more) ≡ parts_in units + parts_in more
inserted_parts units more = sum_by-append parts_of_unit units more

pub ruleset sizes = (extended_octets, extended_parts, inserted_octets, inserted_parts)
