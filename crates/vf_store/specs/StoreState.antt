-- A store: its disk, where its journal stands there, and the tables that it keeps in memory (profile).
use Rattle.std.specs.Prelude.{◌≡◌, ℕ, List, Option, Some, Result, Ok, Err}
use Rattle.vf_journal.specs.JournalState.{JournalState, StandsOn}
use Rattle.vf_tables.specs.declared.tables.Tables.{Tables}
use Rattle.vf_store.specs.Represented.{made}

pub record StoreState (D : Type 0) : Type 0 where
  pub disk : D
  pub journal : JournalState
  pub tables : Tables

-- A journal stands on a disk of which a read gives an image that represents these tables, and a crash leaves that image.
pub record TablesStand {D : Type 0} (shown : D → Option (List ℕ)) (may_leave : D → List ℕ → Type 0) (journal : JournalState) (disk : D) (tables : Tables) : Type 0 where
  pub records : List (List ℕ)
  pub on : StandsOn shown may_leave journal disk records
  pub making : made records ≡ Some tables

-- the disk of a store represents the tables that it keeps
abbrev pub IsRepresented : {D : Type 0} → (D → Option (List ℕ)) → (D → List ℕ → Type 0) → StoreState D → Type 0
IsRepresented shown may_leave store = TablesStand shown may_leave store.journal store.disk store.tables

-- of what opening answers, the disk, and the answer without it
abbrev pub disk_of : {D E : Type 0} → Result (StoreState D) (D × E) → D
disk_of (Ok store) = store.disk
disk_of (Err back) = back.0

abbrev pub answer_of : {D E : Type 0} → Result (StoreState D) (D × E) → Result (StoreState D) E
answer_of (Ok store) = Ok store
answer_of (Err back) = Err back.1
