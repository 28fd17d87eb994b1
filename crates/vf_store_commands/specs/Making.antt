-- What `init` makes of an empty disk, and what it prints (profile).
use Rattle.std.specs.Prelude.{◌≡◌, ◌⊎◌, ℕ, ◌+◌, ◌*◌, ◌≤◌, true, List, [], ◌∷◌, ◌++◌, length, Option, Some, Result, Ok, Err, codes, decimal}
use Rattle.vf_disk.specs.Disk.{LeavesShown, Within}
use Rattle.vf_journal.specs.JournalState.{area_of}
use Rattle.vf_journal.specs.declared.error.JournalError.{JournalError}
use Rattle.vf_journal.specs.declared.error.JournalError.TheVariants.{NotAStore, Full, DiskFault, NoMemory}
use Rattle.vf_store.specs.Represented.{IsNoneOrNew, Represents}
use Rattle.vf_store.specs.StoreState.{IsRepresented, StoreState}
use Rattle.vf_store_record.specs.Records.{record_of}
use Rattle.vf_tables.specs.Entries.{no_tables}
use Rattle.vf_tables.specs.Snapshot.{is_kept, snapshot}
use Rattle.vf_tables.specs.declared.tables.Tables.{Tables}
use Rattle.vf_tables.specs.declared.user.User.{User}
use Rattle.vf_cli_printing.specs.Printed.{IsOneOf, Printed, bad_line, line_feed}
use Rattle.vf_store_commands.specs.ErrorLines.{no_store_line}
use Rattle.vf_store_commands.specs.UserLines.{users_told}
use Rattle.vf_store_commands.specs.declared.limits.TheConstants.{STORE_LIMIT}

-- the tables of a filestore with these users and nothing else
abbrev pub users_alone : List User → Tables
users_alone users = record { users = users; files = []; dockets = []; tasks = [] }

-- a read of the disk gives the image of a store of these users and nothing else, and a crash leaves that image
pub record IsStoreOf {D : Type 0} (shown : D → Option (List ℕ)) (may_leave : D → List ℕ → Type 0) (disk : D) (users : List User) : Type 0 where
  pub image : List ℕ
  pub shows : shown disk ≡ Some image
  pub represents : Represents image (users_alone users)
  pub synced : LeavesShown (shown disk) (may_leave disk)

-- what a crash may leave meanwhile: no store, one without users, or one of these users
abbrev pub IsMaking : List User → List ℕ → Type 0
IsMaking users image = IsNoneOrNew image ⊎ Represents image (users_alone users)

-- users that a store may have, and whose record is within its limit
pub record AreUsers (users : List User) : Type 0 where
  pub kept : is_kept (users_alone users) ≡ true
  pub short : length (record_of (snapshot (users_alone users))) ≤ 4 + 516 * length users
  pub few : length users ≤ 256

-- a store that is just made: no tables, and an area without records
pub record IsNew {D : Type 0} (shown : D → Option (List ℕ)) (may_leave : D → List ℕ → Type 0) (store : StoreState D) : Type 0 where
  pub tables : store.tables ≡ no_tables
  pub stands : IsRepresented shown may_leave store
  pub area : store.journal.area ≡ area_of 33 []
  pub limit : store.journal.limit ≡ STORE_LIMIT

-- a disk that tells what it holds keeps a new store from being made by its faults alone
abbrev pub IsOutside : JournalError → Type 0
IsOutside (NotAStore place found expected) = ⊥
IsOutside (Full length limit) = ⊥
IsOutside DiskFault = Unit {0}
IsOutside NoMemory = Unit {0}

-- the disk that is given back, with an error or without
abbrev pub disk_in : {D E : Type 0} → Result D (D × E) → D
disk_in (Ok disk) = disk
disk_in (Err back) = back.0

abbrev pub users_line : ℕ → List ℕ
users_line count = codes "users " ++ decimal count ++ line_feed ∷ []

-- what is printed on an empty disk
abbrev pub printed_told : Result (List User) ℕ → Printed
printed_told (Ok users) = record { octets = users_line (length users); status = 0 }
printed_told (Err number) = record { octets = bad_line number; status = 11 }

-- what `init` prints on a disk of these octets, for this input
abbrev pub printed_by_init : (disk input : List ℕ) → Printed
printed_by_init [] input = printed_told (users_told input)
printed_by_init (octet ∷ octets) input = record { octets = no_store_line 0; status = 8 }

-- the store of the users of these lines was made
abbrev pub Makes : {D : Type 0} → (D → Option (List ℕ)) → (D → List ℕ → Type 0) → D → List ℕ → Type 0
Makes shown may_leave disk lines = (users : List User) × (users_told lines ≡ Ok users) × IsStoreOf shown may_leave disk users

-- what a crash may leave while it is made
abbrev pub MayLeave : List ℕ → List ℕ → Type 0
MayLeave lines image = IsNoneOrNew image ⊎ ((users : List User) × (users_told lines ≡ Ok users) × Represents image (users_alone users))

-- a read gives what it gave before, and a crash leaves nothing else
abbrev pub IsAsBefore : {D : Type 0} → (D → Option (List ℕ)) → (D → List ℕ → Type 0) → D → D → Type 0
IsAsBefore shown may_leave old new = (shown new ≡ shown old) × Within (may_leave old) (may_leave new)

-- the statuses of `init`
abbrev pub EndsInit : ℕ → Type 0
EndsInit status = IsOneOf (0 ∷ 3 ∷ 4 ∷ 5 ∷ 8 ∷ 9 ∷ 11 ∷ 12 ∷ []) status
