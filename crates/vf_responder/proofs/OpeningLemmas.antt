-- The holders of the files while no party stands, one docket's row after the other.
use Rattle.std.proofs.Common.{◌≡◌, ◌<◌, ◌+◌, ℕ, List, [], ◌∷◌, ◌++◌, length, get_or, take, drop, None, ap, sym, subst, ◌∙◌}
use Rattle.std.proofs.lemmas.List.{drop_more, take-append-drop, take_more}
use Rattle.vf_filestore.proofs.RowsHeld.{rows_follow, rows_keep, rows_stand}
use Rattle.vf_filestore.specs.HoldersAfter.{Keeps}
use Rattle.vf_filestore.specs.HoldersOfRows.{HoldsRows, held_by_rows, holder_of}
use Rattle.vf_filestore.specs.Sound.{Begins}
use Rattle.vf_filestore.specs.State.{State}
use Rattle.vf_locks.specs.Clash.{conflict}
use Rattle.vf_locks.specs.Holders.{granted}
use Rattle.vf_locks.specs.Table.{IsWith, held}
use Rattle.vf_locks.specs.declared.held.Held.{Held}
use Rattle.vf_tables.specs.declared.docket.Docket.{Docket}
use Rattle.vf_tables.specs.declared.tables.Tables.{Tables}

-- the rows before one, it, and those after it
parts : (rows : List Docket) (index : ℕ) (default : Docket) → index < length rows → rows ≡ take index rows ++ get_or rows index default ∷ drop (index + 1) rows
parts rows index default within =
    sym (take-append-drop index rows) ∙ ap (λ (rest : List Docket). take index rows ++ rest) (drop_more rows index default within)

pub row-held : (tables : Tables) (state : State) (rows : List Docket) (index : ℕ) (row : Docket) (kept later : List (List ℕ × List Held)) → rows ≡ tables.dockets → index < length rows
    → row ≡ get_or rows index row → Begins tables state → HoldsRows kept (take index rows)
    → (conflict (holder_of row) row.regime.controls (held row.regime.file kept) ≡ None → IsWith row.regime.file (granted (holder_of row) row.regime.controls (held row.regime.file kept)) kept later)
    → HoldsRows later (take (index + 1) rows)
row-held tables state rows index row kept later are within is begins holds granting =
    let first = take index rows in
    let whole : rows ≡ first ++ row ∷ drop (index + 1) rows =
    parts rows index row within ∙ ap (λ (one : Docket). first ++ one ∷ drop (index + 1) rows) (sym is) in
    let free : conflict (holder_of row) row.regime.controls (held_by_rows row.regime.file first) ≡ None =
    rows_stand tables state first (drop (index + 1) rows) row begins (sym are ∙ whole) in
    let stands : conflict (holder_of row) row.regime.controls (held row.regime.file kept) ≡ None =
    ap (λ (helds : List Held). conflict (holder_of row) row.regime.controls helds) (holds row.regime.file) ∙ free in
    let more : take (index + 1) rows ≡ first ++ row ∷ [] = take_more rows index row within ∙ ap (λ (one : Docket). first ++ one ∷ []) (sym is) in
    subst (λ (all : List Docket). HoldsRows later all) (sym more) (rows_follow kept later first row holds (granting stands))

pub rows-hold : (tables : Tables) (state : State) (rows : List Docket) (kept : List (List ℕ × List Held)) → rows ≡ tables.dockets → Begins tables state → HoldsRows kept rows → Keeps kept state
rows-hold tables state rows kept are begins holds = rows_keep tables state kept begins (subst (λ (all : List Docket). HoldsRows kept all) are holds)
