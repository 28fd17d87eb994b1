-- Who holds each file where an incarnation begins, as the rows of its tables tell it (profile): each docket has the controls
-- of its row on its file, and none of them stands against another.
use Rattle.std.specs.Prelude.{◌≡◌, List, [], ◌∷◌, ◌++◌, None, if◌then◌else◌, ℕ}
use Rattle.std.specs.List.{fold}
use Rattle.std.specs.Str.{bytes_eq}
use Rattle.vf_locks.specs.Clash.{conflict}
use Rattle.vf_locks.specs.Holders.{granted}
use Rattle.vf_locks.specs.Table as table
use Rattle.vf_locks.specs.Table.{held}
use Rattle.vf_locks.specs.declared.held.Held.{Held}
use Rattle.vf_locks.specs.declared.holder.Holder.{Holder}
use Rattle.vf_locks.specs.declared.holder.Holder.TheVariants as holders
use Rattle.vf_tables.specs.declared.docket.Docket.{Docket}
use Rattle.vf_tables.specs.declared.tables.Tables.{Tables}
use Rattle.vf_filestore.specs.HoldersAfter.{Keeps}
use Rattle.vf_filestore.specs.Sound.{Begins}
use Rattle.vf_filestore.specs.State.{State}

abbrev pub holder_of : Docket → Holder
holder_of row = holders.Docket row.regime.identity row.regime.activity

-- once the docket of the row has its controls, if it is on this file
abbrev pub granted_row : (file : List ℕ) → List Held → Docket → List Held
granted_row file helds row = if bytes_eq row.regime.file file then granted (holder_of row) row.regime.controls helds else helds

-- once each of them has its own, one after the other
abbrev pub held_by_rows : (file : List ℕ) → List Docket → List Held
held_by_rows file rows = fold (granted_row file) [] rows

-- a table has of each file the holders that these rows tell
abbrev pub HoldsRows : List (List ℕ × List Held) → List Docket → Type 0
HoldsRows kept rows = (file : List ℕ) → held file kept ≡ held_by_rows file rows

-- LAWS. The docket of one more row is granted its controls.
abbrev pub RowsFollow : Type 0
RowsFollow =
    (kept later : List (List ℕ × List Held)) (rows : List Docket) (row : Docket) → HoldsRows kept rows
    → table.IsWith row.regime.file (granted (holder_of row) row.regime.controls (held row.regime.file kept)) kept later
    → HoldsRows later (rows ++ row ∷ [])

-- Nothing stands against it, in tables that an incarnation begins with.
abbrev pub RowsStand : Type 0
RowsStand =
    (tables : Tables) (state : State) (first later : List Docket) (row : Docket) → Begins tables state → tables.dockets ≡ first ++ row ∷ later
    → conflict (holder_of row) row.regime.controls (held_by_rows row.regime.file first) ≡ None

-- And all rows tell the holders of every state that it may begin with.
abbrev pub RowsKeep : Type 0
RowsKeep = (tables : Tables) (state : State) (kept : List (List ℕ × List Held)) → Begins tables state → HoldsRows kept tables.dockets → Keeps kept state
