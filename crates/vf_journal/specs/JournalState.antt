-- What a journal keeps of its disk, and when it moves to another area (profile).
use Rattle.std.specs.Prelude.{◌≡◌, ◌==◌, ℕ, ◌+◌, ◌-◌, ◌<◌, ◌≤◌, Bool, not, ◌&&◌, ◌||◌, nat_le, nat_lt, List, [], ◌∷◌, length, drop, Option, None, Some, IfSome, if◌then◌else◌}
use Rattle.vf_disk.specs.Disk.{LeavesShown, greatest_length}
use Rattle.vf_journal.specs.declared.area.Area.{Area}
use Rattle.vf_journal.specs.declared.layout.TheConstants.{MOST_LATER_OCTETS}
use Rattle.vf_journal.specs.declared.placing.Placing.{Placing}
use Rattle.vf_journal.specs.Layout.{first_start, anchor, selects_second, selected_start}
use Rattle.vf_journal.specs.Records.{HoldsArea, longest, octets_of}
use Rattle.vf_journal.specs.Image.{Holds, records_of}

-- What a journal keeps: whether the second anchor is selected, the selected area, the limit of what is written, and
-- an area that was just prepared for a switch, which the other anchor names.
pub record JournalState : Type 0 where
  pub second : Bool
  pub area : Area
  pub limit : ℕ
  pub prepared : Option Area

abbrev pub first_octets : List (List ℕ) → ℕ
first_octets [] = 0
first_octets (item ∷ records) = length item

abbrev pub later_octets : List (List ℕ) → ℕ
later_octets [] = 0
later_octets (item ∷ records) = octets_of records

-- the area of these records that starts at a place
abbrev pub area_of : ℕ → List (List ℕ) → Area
area_of start records = record { start = start; end = start + 1 + octets_of records; first = first_octets records; later = later_octets records }

-- with a record of so many octets more
abbrev pub with_record : Area → ℕ → Area
with_record area count =
    let empty = area.end == area.start + 1 in
    record {
      start = area.start;
      end = area.end + count + 5;
      first = if empty then count else area.first;
      later = if empty then area.later else area.later + count + 5;
    }

-- as a journal stands that was just opened on an image
abbrev pub when_opened : List ℕ → ℕ → JournalState
when_opened image limit = record { second = selects_second image; area = area_of (selected_start image) (records_of image); limit = limit; prepared = None }

-- after an append of a record of so many octets, a prepare of an area of so many, and a switch to an area
abbrev pub after_append : JournalState → ℕ → JournalState
after_append journal count = record { second = journal.second; area = with_record journal.area count; limit = journal.limit; prepared = None }

-- The start of a new area of so many octets: the first place, where that area ends before the selected one starts,
-- and else the end of the selected one.
abbrev pub new_start : JournalState → ℕ → ℕ
new_start journal count = if nat_le (first_start + count) journal.area.start then first_start else journal.area.end

-- the area of so many octets, with its one record
abbrev pub new_area : JournalState → ℕ → Area
new_area journal count = let start = new_start journal count in record { start = start; end = start + count; first = count - 6; later = 0 }

abbrev pub after_prepare : JournalState → ℕ → JournalState
after_prepare journal count = record { second = journal.second; area = journal.area; limit = journal.limit; prepared = Some (new_area journal count) }

abbrev pub after_switch : JournalState → Area → JournalState
after_switch journal area = record { second = not journal.second; area = area; limit = journal.limit; prepared = None }

-- A switch is due where the later records have more than 4,096 octets and more than the first one, or where the record
-- would end past the limit.
abbrev pub is_due : JournalState → ℕ → Bool
is_due journal count =
    (nat_lt MOST_LATER_OCTETS journal.area.later && nat_lt journal.area.first journal.area.later) || nat_lt journal.limit (journal.area.end + count + 5)

-- It is possible where a record of all tables isn't longer than any may be, and its area ends within the limit.
abbrev pub is_possible : JournalState → ℕ → Bool
is_possible journal snapshot = nat_le snapshot longest && nat_le (new_start journal (snapshot + 6) + (snapshot + 6)) journal.limit

-- where a record of so many octets is to stand, when a record of all tables has so many
abbrev pub placing : JournalState → ℕ → ℕ → Placing
placing journal count snapshot =
    let start = new_start journal (snapshot + 6) in
    if is_due journal count && is_possible journal snapshot
    then record { switch = Some start; end = start + (snapshot + 6) + count + 5 }
    else record { switch = None; end = journal.area.end + count + 5 }

-- What holds of every journal: its areas stand after the anchors and within the greatest length.
pub record IsPlaced (area : Area) : Type 0 where
  pub start : first_start ≤ area.start
  pub order : area.start < area.end
  pub end : area.end ≤ greatest_length
  pub later : area.later ≤ area.end

pub record IsSound (area : Area) (next : Option Area) : Type 0 where
  pub selected : IsPlaced area
  pub prepared : IfSome next IsPlaced

-- what the journal has written lies on a disk of so many octets
pub record IsWithin (journal : JournalState) (size : ℕ) : Type 0 where
  pub area : journal.area.end ≤ size
  pub prepared : IfSome journal.prepared (λ area. area.end ≤ size)

-- The journal stands on a disk that holds these records: a read gives such an image, a crash leaves that image, and
-- the journal keeps what the image says.
pub record StandsOn {D : Type 0} (shown : D → Option (List ℕ)) (may_leave : D → List ℕ → Type 0) (journal : JournalState) (disk : D) (records : List (List ℕ)) : Type 0 where
  pub image : List ℕ
  pub shows : shown disk ≡ Some image
  pub synced : LeavesShown (shown disk) (may_leave disk)
  pub holds : Holds image records
  pub second : journal.second ≡ selects_second image
  pub area : journal.area ≡ area_of (selected_start image) records

-- and the anchor that isn't selected names an area of one record, which was prepared
pub record HasPrepared {D : Type 0} (shown : D → Option (List ℕ)) (journal : JournalState) (disk : D) (only : List ℕ) : Type 0 where
  pub image : List ℕ
  pub shows : shown disk ≡ Some image
  pub start : first_start ≤ anchor image (not journal.second)
  pub holds : HoldsArea (drop (anchor image (not journal.second)) image) (only ∷ [])
  pub area : journal.prepared ≡ Some (area_of (anchor image (not journal.second)) (only ∷ []))
