-- The changes of dockets where one without pieces stands after the others, or one is gone.
use Rattle.std.proofs.Common.{◌≡◌, List, [], ◌∷◌, ◌++◌, Option, None, Some, map, refl, ap, sym, ◌∙◌}
use Rattle.std.specs.List.{AllByRecursion, IsDistinct}
use Rattle.vf_tables.specs.declared.change.Change.{Change}
use Rattle.vf_tables.specs.declared.change.Change.TheVariants.{DropDocket, PutDocket}
use Rattle.vf_tables.specs.declared.docket.Docket.{Docket}
use Rattle.vf_tables.specs.declared.docket.Regime.{Regime}
use Rattle.vf_tables.specs.declared.tables.Tables.{Tables}
use Rattle.vf_filestore.specs.Changes.{all_piece_changes, delta, docket_changes, file_changes, is_same_open, piece_changes}
use Rattle.vf_filestore.specs.State.{State}
use Rattle.vf_filestore.specs.Tables.{tables_of}
use Rattle.vf_filestore.proofs.DocketSteps.{IsOtherDocket, all_pieces, changes_added, changes_gone, later_others, skip}
use Rattle.vf_filestore.proofs.Lists.{all_append, all_left, all_right}
use Rattle.vf_filestore.proofs.Meant.{find_none}
use Rattle.vf_filestore.proofs.Unchanged.{IsFoundIn, all_found, files_themselves, no_piece, no_pieces}
use Rattle.vf_party_steps.specs.Dockets.{docket_with}
use Rattle.vf_party_steps.specs.Openings.{drop_of, put_of}

abbrev pub put : Docket → Change
put docket = PutDocket docket.regime

abbrev pub drop : Docket → Change
drop docket = DropDocket docket.regime.identity docket.regime.activity

-- of the docket of an open, where it is recoverable
pub put_with : (fields : Option Regime) → map put (docket_with fields []) ≡ put_of fields
put_with None = refl
put_with (Some fields) = refl

pub drop_with : (fields : Option Regime) → map drop (docket_with fields []) ≡ drop_of fields
drop_with None = refl
drop_with (Some fields) = refl

abbrev pub IsBare : Docket → Type 0
IsBare docket = docket.staged ≡ []

pub bare_with : (fields : Option Regime) → AllByRecursion IsBare (docket_with fields [])
bare_with None = tt
bare_with (Some fields) = (refl, tt)

-- one without pieces after the others
pub row_added : (dockets : List Docket) (docket : Docket) → IsDistinct is_same_open dockets → AllByRecursion (IsOtherDocket docket) dockets → IsBare docket
    → docket_changes dockets (dockets ++ docket ∷ []) ++ all_piece_changes dockets (dockets ++ docket ∷ []) ≡ put docket ∷ []
row_added dockets docket distinct off bare =
    let none = find_none (is_same_open docket) dockets off in
    let pieces : all_piece_changes dockets (dockets ++ docket ∷ []) ≡ []
    = all_pieces dockets dockets [] docket None (all_found dockets distinct) tt none ∙ ap (piece_changes docket.regime []) bare ∙ no_piece docket.regime [] in
    λ i. changes_added dockets docket i ++ pieces i

-- one gone; the others are found as they are
pub row_gone : (first later : List Docket) (docket : Docket) → IsDistinct is_same_open (first ++ docket ∷ later)
    → docket_changes (first ++ docket ∷ later) (first ++ later) ++ all_piece_changes (first ++ docket ∷ later) (first ++ later) ≡ drop docket ∷ []
row_gone first later docket distinct =
    let whole = first ++ docket ∷ later in
    let found = all_found whole distinct in
    let left = all_append (IsFoundIn whole) first later (all_left (IsFoundIn whole) first (docket ∷ later) found) (all_right (IsFoundIn whole) first (docket ∷ later) found).1 in
    λ i. (skip first (docket ∷ later) later ∙ changes_gone docket later (later_others first later docket distinct)) i ++ no_pieces whole (first ++ later) left i

-- where the files stay, the changes are those of dockets
pub dockets_change : (tables : Tables) (state after : State) (was is : List Docket) → tables_of state ≡ tables → after.files ≡ state.files → (tables_of state).dockets ≡ was
    → (tables_of after).dockets ≡ is → delta tables (tables_of after) ≡ docket_changes was is ++ all_piece_changes was is
dockets_change tables state after was is kept files before now =
    ap (λ (t : Tables). delta t (tables_of after)) (sym kept)
    ∙ (λ i. (ap (file_changes state.files) files ∙ files_themselves state.files) i ++ (docket_changes (before i) (now i) ++ all_piece_changes (before i) (now i)))
