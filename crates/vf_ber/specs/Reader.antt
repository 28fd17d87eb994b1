-- The reading on octets as a plain program finds it, octet by octet: at each it asks whether a value can still be
-- completed after it. A law says that it is the reading.
use Rattle.std.specs.Prelude.{ℕ, zero, suc, ◌+◌, ◌-◌, ◌*◌, ◌/◌, ◌%◌, Bool, ◌&&◌, nat_eq, nat_lt, List, [], ◌∷◌, length, take, drop, Option, Some, None, Result, Ok, Err, if◌then◌else◌}
use Rattle.vf_base.specs.declared.limits.TheConstants.{MOST_VALUE_OCTETS}
use Rattle.vf_ber.specs.declared.limits.TheConstants.{MOST_DEPTH}
use Rattle.vf_ber.specs.declared.fault.Fault.{Fault}
use Rattle.vf_ber.specs.declared.fault.Fault.TheVariants as faults
use Rattle.vf_ber.specs.declared.room.Room.{Room}
use Rattle.vf_ber.specs.declared.room.Room.TheVariants.{Exact, Within}
use Rattle.vf_ber.specs.Tree.{Tree, plain, built, Trees, none, more}
use Rattle.vf_ber.specs.Reading.{Limits, free, shallow, bounded, Reading, Read, Short, Bad, Deep, Long}
use Rattle.vf_ber.specs.Steps.{Name, fault_of, first_fits, second_fits, less, length_fits, reaches}

-- what is read of the octets, and those after it
abbrev pub Reads : Type 0 → Type 0
Reads X = Result (X × List ℕ) Fault

abbrev pub then_read : {X Y : Type 0} → Reads X → (X → List ℕ → Reads Y) → Reads Y
then_read (Ok x) next = next x.0 x.1
then_read (Err fault) next = Err fault

-- the first of the octets may stand there, or is a fault
abbrev pub checked : {X : Type 0} → (Limits → Bool) → List ℕ → Reads X → Reads X
checked test octets next = if test bounded then next else Err (fault_of (test free) (test shallow) (length octets))

-- ---- identifiers

abbrev pub name_from : ℕ → ℕ → Name
name_from first number = record { constructed = nat_eq (first / 32 % 2) 1; tag = record { class = first / 64; number = number } }

abbrev pub third_at : ℕ → ℕ → List ℕ → Reads Name
third_at first second [] = Err faults.Short
third_at first second (third ∷ octets) =
    if nat_lt third 128 then Ok (name_from first (128 * (second - 128) + third), octets)
    else Err (faults.Bad (length (third ∷ octets)))

abbrev pub second_at : Room → ℕ → List ℕ → Reads Name
second_at room first [] = Err faults.Short
second_at room first (second ∷ octets) =
    checked (λ limits. nat_lt second 256 && second_fits limits room second) (second ∷ octets)
    (if nat_lt second 128 then Ok (name_from first second, octets) else third_at first second octets)

abbrev pub name_at : ℕ → Room → List ℕ → Reads Name
name_at most room [] = Err faults.Short
name_at most room (first ∷ octets) =
    checked (λ limits. nat_lt first 256 && first_fits limits most room first) (first ∷ octets)
    (if nat_lt (first % 32) 31 then Ok (name_from first (first % 32), octets) else second_at room first octets)

-- ---- lengths

unfoldable pub digits_at : ℕ → Room → ℕ → Bool → ℕ → ℕ → List ℕ → Reads ℕ
digits_at most room prefix constructed zero high octets = Ok (high, octets)
digits_at most room prefix constructed (suc others) high [] = Err faults.Short
digits_at most room prefix constructed (suc others) high (digit ∷ octets) =
    checked (λ limits. nat_lt digit 256 && reaches limits most room prefix constructed others (256 * high + digit)) (digit ∷ octets)
    (digits_at most room prefix constructed others (256 * high + digit) octets)

abbrev pub size_at : ℕ → Room → ℕ → Bool → List ℕ → Reads (Option ℕ)
size_at most room prefix constructed [] = Err faults.Short
size_at most room prefix constructed (first ∷ octets) =
    checked (λ limits. length_fits limits most room prefix constructed first) (first ∷ octets)
    (if nat_lt first 128 then Ok (Some first, octets)
    else (if nat_eq first 128 then Ok (None, octets)
    else then_read (digits_at most room (prefix + 1 + (first - 128)) constructed (first - 128) 0 octets) (λ n rest. Ok (Some n, rest))))

-- ---- values

abbrev pub Reader : Type 0
Reader = Room → List ℕ → Reads Tree

-- values in turn; the turns bound their number
unfoldable pub parts_at : Reader → ℕ → ℕ → List ℕ → Reads Trees
parts_at value turns zero octets = Ok (none, octets)
parts_at value zero (suc len) octets = Err faults.Short
parts_at value (suc turns) (suc len) [] = Err faults.Short
parts_at value (suc turns) (suc len) (first ∷ octets) =
    then_read (value (Exact (suc len)) (first ∷ octets)) (λ part rest.
    then_read (parts_at value turns (suc len - (length (first ∷ octets) - length rest)) rest) (λ parts tail. Ok (more part parts, tail)))

abbrev pub end_at : List ℕ → Reads Trees
end_at [] = Err faults.Short
end_at (second ∷ octets) = if nat_eq second 0 then Ok (none, octets) else Err (faults.Bad (length (second ∷ octets)))

unfoldable pub ended_at : Reader → ℕ → Room → List ℕ → Reads Trees
ended_at value turns room [] = Err faults.Short
ended_at value zero room (first ∷ octets) = Err faults.Short
ended_at value (suc turns) room (first ∷ octets) =
    if nat_eq first 0 then end_at octets
    else then_read (value (less room 2) (first ∷ octets)) (λ part rest.
    then_read (ended_at value turns (less room (length (first ∷ octets) - length rest)) rest) (λ parts tail. Ok (more part parts, tail)))

abbrev pub contents_at : Reader → Room → ℕ → Name → Option ℕ → List ℕ → Reads Tree
contents_at value room prefix name None octets =
    then_read (ended_at value (length octets) (less room prefix) octets) (λ parts rest. Ok (built name.tag parts, rest))
contents_at value room prefix name (Some n) octets =
    if name.constructed then then_read (parts_at value n n octets) (λ parts rest. Ok (built name.tag parts, rest))
    else (if nat_lt (length octets) n then Err faults.Short else Ok (plain name.tag (take n octets), drop n octets))

abbrev pub value_with : Reader → ℕ → Reader
value_with inner most room octets =
    then_read (name_at most room octets) (λ name rest.
    then_read (size_at most room (length octets - length rest) name.constructed rest) (λ size contents.
    contents_at inner room (length octets - length contents) name size contents))

-- a value of this depth at most
unfoldable pub value_at : ℕ → Reader
value_at zero = value_with (λ room octets. Err faults.Short) zero
value_at (suc most) = value_with (value_at most) (suc most)

-- ---- all octets

abbrev pub as_reading : List ℕ → Reads Tree → Reading
as_reading octets (Ok x) = Read x.0 (length octets - length x.1)
as_reading octets (Err faults.Short) = Short
as_reading octets (Err (faults.Bad left)) = Bad (length octets - left)
as_reading octets (Err (faults.Deep left)) = Deep (length octets - left)
as_reading octets (Err (faults.Long left)) = Long (length octets - left)
as_reading octets (Err faults.NoMemory) = Short

unfoldable pub reading : List ℕ → Reading
reading octets = as_reading octets (value_at MOST_DEPTH (Within MOST_VALUE_OCTETS) octets)
