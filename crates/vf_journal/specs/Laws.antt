-- Laws of images, of built records, and of where a record is to stand.
use Rattle.std.specs.Prelude.{◌≡◌, ℕ, ◌+◌, ◌≤◌, List, [], length, None, Some}
use Rattle.vf_journal.specs.Image.{Holds, records_of, refusal}
use Rattle.vf_journal.specs.JournalState.{JournalState, new_start, placing}
use Rattle.vf_journal.specs.Layout.{new_journal}
use Rattle.vf_journal.specs.Records.{area_with, entry_of, longest}

-- an image that holds records is read as a journal with these records
abbrev pub HeldIsRead : Type 0
HeldIsRead = (image : List ℕ) (records : List (List ℕ)) → Holds image records → (refusal image ≡ None) × (records_of image ≡ records)

abbrev pub NewHoldsNone : Type 0
NewHoldsNone = Holds new_journal []

-- how long a record and an area of one record are in their built form
abbrev pub BuiltLengths : Type 0
BuiltLengths = (item : List ℕ) → (length (entry_of item) ≡ length item + 5) × (length (area_with item) ≡ length item + 6)

-- A switch is planned to a place, for a record of so many octets, when a record of all tables has so many: the new
-- area can be prepared there, and the record ends after it.
pub record IsFitting (journal : JournalState) (count snapshot start end : ℕ) : Type 0 where
  pub short : snapshot ≤ longest
  pub place : start ≡ new_start journal (snapshot + 6)
  pub fits : start + (snapshot + 6) ≤ journal.limit
  pub ends : end ≡ start + (snapshot + 6) + count + 5

abbrev pub PlannedFits : Type 0
PlannedFits =
    (journal : JournalState) (count snapshot start : ℕ) → (placing journal count snapshot).switch ≡ Some start
    → IsFitting journal count snapshot start (placing journal count snapshot).end

-- where no switch is planned the record ends in the selected area
abbrev pub UnplannedEnd : Type 0
UnplannedEnd =
    (journal : JournalState) (count snapshot : ℕ) → (placing journal count snapshot).switch ≡ None
    → (placing journal count snapshot).end ≡ journal.area.end + count + 5
