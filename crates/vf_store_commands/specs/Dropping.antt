-- What `drop` takes out of a store (profile): a docket or a task, and nothing else.
use Rattle.std.specs.Prelude.{◌≡◌, ◌<◌, ℕ, Bool, true, false, nat_lt, if◌then◌else◌, List, [], ◌∷◌, Option, None, Some, codes, ◌++◌}
use Rattle.vf_disk.specs.Disk.{LeavesShown}
use Rattle.vf_journal.specs.Image.{Refusal, records_of, refusal}
use Rattle.vf_journal.specs.JournalState.{JournalState, when_opened}
use Rattle.vf_journal.specs.declared.error.JournalError.{JournalError}
use Rattle.vf_journal.specs.declared.error.JournalError.TheVariants.{NotAStore, Full, DiskFault, NoMemory}
use Rattle.vf_store.specs.Commit.{placed}
use Rattle.vf_store.specs.Represented.{Represents, read_from}
use Rattle.vf_tables.specs.Changes.{after}
use Rattle.vf_tables.specs.Entries.{no_tables}
use Rattle.vf_tables.specs.Fitting.{is_activity, stands_in}
use Rattle.vf_tables.specs.declared.change.Change.{Change}
use Rattle.vf_tables.specs.declared.change.Change.TheVariants.{DropDocket, DropTask}
use Rattle.vf_tables.specs.declared.tables.Tables.{Tables}
use Rattle.vf_cli_printing.specs.Printed.{IsOneOf, Printed, Prints, line_feed}
use Rattle.vf_store_commands.specs.ErrorLines.{full_line, no_store_line}
use Rattle.vf_store_commands.specs.declared.dropping.KeptEntry.{KeptEntry}
use Rattle.vf_store_commands.specs.declared.dropping.KeptEntry.TheVariants.{Docket, Task}
use Rattle.vf_store_commands.specs.declared.limits.TheConstants.{STORE_LIMIT}

-- the change that drops what is kept
abbrev pub drop_of : KeptEntry → Change
drop_of (Docket identity activity) = DropDocket identity activity
drop_of (Task activity) = DropTask activity

abbrev pub activity_of : KeptEntry → ℕ
activity_of (Docket identity activity) = activity
activity_of (Task activity) = activity

-- an activity is 1 to 2,147,483,647
abbrev pub HasActivity : KeptEntry → Type 0
HasActivity kept = is_activity (activity_of kept) ≡ true

-- the tables without what was kept
abbrev pub without : KeptEntry → Tables → Tables
without kept tables = after tables (drop_of kept)

abbrev pub dropped_line : List ℕ
dropped_line = codes "dropped" ++ line_feed ∷ []

-- there is nothing to be dropped
abbrev pub unknown_line : List ℕ
unknown_line = codes "refused 27" ++ line_feed ∷ []

-- where the record that says so would end, in a store with this journal
abbrev pub end_of_drop : KeptEntry → JournalState → Tables → ℕ
end_of_drop kept journal tables = (placed journal tables (drop_of kept ∷ [])).end

-- Where it would end past the limit of a store, nothing is dropped, and that is told.
abbrev pub dropping : (end : ℕ) → Printed
dropping end =
    if nat_lt STORE_LIMIT end then record { octets = full_line end STORE_LIMIT; status = 12 } else record { octets = dropped_line; status = 0 }

-- whether what is to be dropped stands tells what is printed
abbrev pub printed_by_drop : Bool → (end : ℕ) → Printed
printed_by_drop false end = record { octets = unknown_line; status = 1 }
printed_by_drop true end = dropping end

-- what is printed of a disk that is no store, or of one with this journal and these tables
abbrev pub printed_of_drop : Option Refusal → KeptEntry → JournalState → Tables → Printed
printed_of_drop (Some refused) kept journal tables = record { octets = no_store_line refused.place; status = 8 }
printed_of_drop None kept journal tables = printed_by_drop (stands_in tables (drop_of kept)) (end_of_drop kept journal tables)

-- what is printed of an image
abbrev pub PrintsDrop : KeptEntry → List ℕ → ℕ → Option (List ℕ) → Option (List ℕ) → Type 0
PrintsDrop kept image status old new =
    Prints (4 ∷ 5 ∷ 9 ∷ []) (printed_of_drop (refusal image) kept (when_opened image STORE_LIMIT) (read_from (records_of image) no_tables)) status old new

-- a read of the disk gives the image of a store of these tables, and a crash leaves that image
pub record HoldsTables {D : Type 0} (shown : D → Option (List ℕ)) (may_leave : D → List ℕ → Type 0) (disk : D) (tables : Tables) : Type 0 where
  pub image : List ℕ
  pub shows : shown disk ≡ Some image
  pub represents : Represents image tables
  pub synced : LeavesShown (shown disk) (may_leave disk)

-- what was kept stood there and is gone, and all else is as it was
pub record Drops {D : Type 0} (shown : D → Option (List ℕ)) (may_leave : D → List ℕ → Type 0) (disk : D) (kept : KeptEntry) (tables : Tables) : Type 0 where
  pub stood : stands_in tables (drop_of kept) ≡ true
  pub left : HoldsTables shown may_leave disk (without kept tables)

-- The commit of that, whose record would end at this place, keeps a store from it by no more than its limit, want of memory and a
-- fault of the disk; where it is full the disk stays as it is.
abbrev pub IsDropError : (end : ℕ) → JournalError → Type 0
IsDropError end (NotAStore place found expected) = ⊥
IsDropError end (Full length bound) = (STORE_LIMIT < end) × (length ≡ end) × (bound ≡ STORE_LIMIT)
IsDropError end DiskFault = Unit {0}
IsDropError end NoMemory = Unit {0}

abbrev pub KeepsWhereFull : {D : Type 0} → JournalError → D → D → Type 0
KeepsWhereFull (NotAStore place found expected) old new = Unit {0}
KeepsWhereFull (Full length bound) old new = new ≡ old
KeepsWhereFull DiskFault old new = Unit {0}
KeepsWhereFull NoMemory old new = Unit {0}

-- the statuses of `drop`
abbrev pub EndsDrop : ℕ → Type 0
EndsDrop status = IsOneOf (0 ∷ 1 ∷ 4 ∷ 5 ∷ 8 ∷ 9 ∷ 12 ∷ []) status
