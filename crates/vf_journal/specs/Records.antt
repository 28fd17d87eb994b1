-- The records of an area (profile): a gate, and then for each record its length in four octets, the record, and the
-- next gate. A gate is closed where it is 0, and open where it is any other octet.
use Rattle.std.specs.Prelude.{◌≡◌, ◌≢◌, ◌==◌, ℕ, zero, suc, ◌+◌, ◌≤◌, ◌||◌, nat_lt, List, [], ◌∷◌, ◌++◌, length, take, drop, Option, None, Some, if◌then◌else◌}
use Rattle.vf_journal.specs.declared.layout.TheConstants.{MOST_RECORD_OCTETS}
use Rattle.vf_journal.specs.Layout.{length_octets, length_named}

-- no record is longer
abbrev pub longest : ℕ
longest = MOST_RECORD_OCTETS

-- a record with its length before it
abbrev pub sized : List ℕ → List ℕ
sized item = length_octets (length item) ++ item

-- the built form of a record: with its length before it and a closed gate after it
abbrev pub entry_of : List ℕ → List ℕ
entry_of item = sized item ++ 0 ∷ []

abbrev pub IsEntry : List ℕ → Type 0
IsEntry octets = (item : List ℕ) × (length item ≤ longest) × (octets ≡ entry_of item)

-- an area of one record
abbrev pub area_with : List ℕ → List ℕ
area_with item = 1 ∷ entry_of item

abbrev pub IsArea : List ℕ → Type 0
IsArea octets = (item : List ℕ) × (length item ≤ longest) × (octets ≡ area_with item)

-- The octets begin with an area of these records, the oldest first: each stands after an open gate, and after the
-- last one stands the octet 0. Anything may follow.
abbrev pub HoldsArea : List ℕ → List (List ℕ) → Type 0
HoldsArea octets [] = (rest : List ℕ) × (octets ≡ 0 ∷ rest)
HoldsArea octets (item ∷ records) =
    (gate : ℕ) × (rest : List ℕ) × (gate ≢ 0) × (length item ≤ longest) × (octets ≡ gate ∷ (sized item ++ rest)) × HoldsArea rest records

-- What stands from a gate on, read as the record after it and what stands from the next gate on. There is none after
-- a closed gate, nor where fewer octets stand after it than a length, its record and a gate.
abbrev pub first_record : List ℕ → Option (List ℕ × List ℕ)
first_record [] = None
first_record (gate ∷ rest) =
    let count = length_named rest in
    if gate == 0 || nat_lt (length rest) (count + 5) then None else Some (take count (drop 4 rest), drop (count + 4) rest)

-- a record before those of the rest
abbrev pub before_rest : (List ℕ → List (List ℕ)) → Option (List ℕ × List ℕ) → List (List ℕ)
before_rest records None = []
before_rest records (Some found) = found.0 ∷ records found.1

-- at most so many of the records that stand from a gate on, up to the first that isn't there
abbrev pub records_up_to : ℕ → List ℕ → List (List ℕ)
records_up_to zero octets = []
records_up_to (suc count) octets = before_rest (records_up_to count) (first_record octets)

-- All of them: there are fewer records than octets. These are the records of an area and of any octets that are read
-- as one.
unfoldable pub records_in : List ℕ → List (List ℕ)
records_in octets = records_up_to (length octets) octets

-- the octets of records with their lengths and one gate each
abbrev pub octets_of : List (List ℕ) → ℕ
octets_of [] = 0
octets_of (item ∷ records) = length item + 5 + octets_of records
