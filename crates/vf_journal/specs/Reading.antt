-- How the records of an area are taken, some at a time, the first of what stands from a gate on.
use Rattle.std.specs.Prelude.{◌≡◌, ℕ, ◌+◌, ◌<◌, ◌≤◌, Bool, List, [], ◌∷◌, ◌++◌, length, take, drop, Option, None, Some, if◌then◌else◌}
use Rattle.vf_journal.specs.declared.area.Area.{Area}
use Rattle.vf_journal.specs.declared.reading.Beginning.{Beginning}
use Rattle.vf_journal.specs.declared.reading.Beginning.TheVariants.{End, Cut, Record}
use Rattle.vf_journal.specs.Records.{first_record, octets_of, records_in}
use Rattle.vf_journal.specs.JournalState.{with_record}

-- What octets are that begin with a gate, as the first of all that stands from there on.
abbrev pub IsBeginning : Beginning → List ℕ → List ℕ → Type 0
IsBeginning End octets whole = first_record whole ≡ None
IsBeginning Cut octets whole = Unit {0}
IsBeginning (Record count) octets whole = first_record whole ≡ Some (take count (drop 5 octets), drop (count + 5) whole)

-- A record stands there whole, and its gate too.
abbrev pub IsWhole : Beginning → ℕ → Type 0
IsWhole End count = Unit {0}
IsWhole Cut count = Unit {0}
IsWhole (Record octets) count = octets + 6 ≤ count

-- an area with records more
abbrev pub with_records : Area → List (List ℕ) → Area
with_records area [] = area
with_records area (item ∷ records) = with_records (with_record area (length item)) records

-- Records were taken and put after others, and the area with them is told, and whether more may follow: of all
-- that stands from the gate on, which is so many octets, these are the first.
pub record Takes (IsAll : List ℕ → Type 0) (old new : List (List ℕ)) (count : ℕ) (area found : Area) (more : Bool) : Type 0 where
  pub taken : List (List ℕ)
  pub records : new ≡ old ++ taken
  pub counts : found ≡ with_records area taken
  pub bound : octets_of taken < count
  pub reads : (all : List ℕ) → IsAll all → records_in all ≡ taken ++ (if more then records_in (drop (octets_of taken) all) else [])

-- what stands from a place on, on a disk that tells it
abbrev pub StandsFrom : Option (List ℕ) → ℕ → List ℕ → Type 0
StandsFrom shown place all = (image : List ℕ) × (shown ≡ Some image) × (all ≡ drop place image)

-- octets of which some are the first
abbrev pub BeginsWith : List ℕ → ℕ → List ℕ → Type 0
BeginsWith octets count all = (octets ≡ take (length octets) all) × (length all ≡ count)
