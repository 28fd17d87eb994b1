-- What refuses an open, and what is asked of an open file (ISO 8571-3, diagnostic; the rows and their order are
-- profile).
use Rattle.std.specs.Prelude.{ℕ, ◌+◌, Bool, false, not, ◌&&◌, ◌||◌, List, [], ◌∷◌, length, count_by, Option, None, Some, is_some, nat_eq, nat_le, nat_lt, Result, Ok, Err}
use Rattle.std.specs.List.{list_any}
use Rattle.std.specs.Str.{bytes_eq}
use Rattle.vf_attr.specs.Access.{has}
use Rattle.vf_attr.specs.Attributes.{is_same_contents}
use Rattle.vf_attr.specs.declared.file.File.{File}
use Rattle.vf_base.specs.declared.access.Context.{Context}
use Rattle.vf_base.specs.declared.access.FaduId.{FaduId}
use Rattle.vf_base.specs.declared.action.Action.{Action}
use Rattle.vf_base.specs.declared.action.Action.TheVariants as actions
use Rattle.vf_base.specs.declared.action.Actions.{Actions}
use Rattle.vf_base.specs.declared.contents.Contents.{Contents}
use Rattle.vf_base.specs.declared.diagnostic.Diagnostic.{Diagnostic}
use Rattle.vf_pdu_fields.specs.declared.controls.ContentControls.{ContentControls}
use Rattle.vf_pdu_fields.specs.declared.operation.WriteOperation.{WriteOperation}
use Rattle.vf_pdu_fields.specs.declared.operation.WriteOperation.TheVariants.{Insert, Replace, Extend}
use Rattle.vf_tables.specs.Validity.{includes, modes}
use Rattle.vf_tree.specs.Actions.{Outcome}
use Rattle.vf_tree.specs.Acts.{Act, Locates, Reads, Inserts, Replaces, Extends, Erases, does}
use Rattle.vf_tree.specs.FileTree.{DataUnit}
use Rattle.vf_tree.specs.TreeRefusal.{TreeRefusal, Outside, NotFound, BadContext}
use Rattle.vf_filestore.specs.Controls.{contents_usable, joined}
use Rattle.vf_filestore.specs.Diagnostics.{Row, row, first_row, plain, name_unknown, not_permitted, contents_mismatch, outside_constraint_set, fadu_not_found, bad_context, file_full, activity_in_use, too_many_dockets}
use Rattle.vf_filestore.specs.History.{Given, Nothing, Refused, Showed, Placed, Selection}
use Rattle.vf_filestore.specs.Holders.{HeldFiles, clash_row}
use Rattle.vf_filestore.specs.Limits.{most_dockets, most_version}
use Rattle.vf_filestore.specs.State.{State, StandingParty, activity_of, docket_of, identity_of}
use Rattle.vf_filestore.specs.Units.{read_unit, unit_row, write_unit}

abbrev pub has_activity : (activity : ℕ) → Option ℕ → Bool
has_activity activity None = false
has_activity activity (Some number) = nat_eq number activity

abbrev pub is_at : (identity : List ℕ) (activity : ℕ) → StandingParty → Bool
is_at identity activity party = bytes_eq (identity_of party) identity && has_activity activity (activity_of party)

abbrev pub is_in_use : State → (identity : List ℕ) (activity : ℕ) → Bool
is_in_use state identity activity =
    is_some (docket_of identity activity state.dockets) || list_any (is_at identity activity) state.parties

abbrev pub recoverable_opens : State → ℕ
recoverable_opens state = count_by (λ party. is_some (activity_of party)) state.parties

-- the rows of a recoverable open alone
abbrev pub activity_rows : State → (identity : List ℕ) → Option ℕ → List Row
activity_rows state identity None = []
activity_rows state identity (Some activity) =
    row (is_in_use state identity activity) activity_in_use
    ∷ row (nat_le most_dockets (length state.dockets + recoverable_opens state)) too_many_dockets ∷ []

abbrev pub is_mismatch : Option Contents → Contents → Bool
is_mismatch None contents = false
is_mismatch (Some asked) contents = not (is_same_contents asked contents)

-- who opens the selected file, on which link, and what is asked for it
pub record Opened : Type 0 where
  pub link : ℕ
  pub identity : List ℕ
  pub selection : Selection
  pub mode : Actions
  pub contents : Option Contents
  pub controls : ContentControls
  pub activity : Option ℕ

-- F-OPEN; the last rows are those of its activity
abbrev pub open_rows : HeldFiles → (activity : List Row) → Opened → File → List Row
open_rows found activity asked file =
    row (not (includes asked.selection.requested.value asked.mode.value) || not (contents_usable asked.mode asked.controls)) not_permitted
    ∷ row (is_mismatch asked.contents file.contents) contents_mismatch
    ∷ row (not (includes (modes file.tree.constraint) asked.mode.value)) outside_constraint_set
    ∷ clash_row (found.holders file.name) asked.link (joined asked.controls asked.selection.controls)
    ∷ activity

-- what a tree refuses
abbrev pub tree_diagnostic : TreeRefusal → Diagnostic
tree_diagnostic Outside = plain outside_constraint_set
tree_diagnostic NotFound = plain fadu_not_found
tree_diagnostic BadContext = plain bad_context

-- what the constraint set refuses of an act, or the file as it is
abbrev pub act_row : Result Outcome TreeRefusal → Row
act_row (Ok outcome) = None
act_row (Err refusal) = Some (tree_diagnostic refusal)

-- F-LOCATE
abbrev pub locate_rows : File → (position : ℕ) → FaduId → List Row
locate_rows file position fadu = act_row (does file.tree position (Locates fadu)) ∷ []

abbrev pub action_row : (mode : Actions) → Action → Row
action_row mode action = row (not (has mode action)) not_permitted

-- a change of the contents has a version to make
abbrev pub version_row : File → Row
version_row file = row (not (nat_lt file.version most_version)) file_full

-- F-ERASE
abbrev pub erase_rows : File → (mode : Actions) (position : ℕ) → FaduId → List Row
erase_rows file mode position fadu =
    action_row mode actions.Erase ∷ act_row (does file.tree position (Erases fadu)) ∷ version_row file ∷ []

-- F-READ
abbrev pub read_rows : File → (mode : Actions) (position : ℕ) → FaduId → Context → List Row
read_rows file mode position fadu context =
    action_row mode actions.Read ∷ act_row (does file.tree position (Reads fadu context)) ∷ []

abbrev pub action_of : WriteOperation → Action
action_of Insert = actions.Insert
action_of Replace = actions.Replace
action_of Extend = actions.Extend

-- an unstructured file is one unit
abbrev pub only_unit : List DataUnit → DataUnit
only_unit [] = []
only_unit (unit ∷ units) = unit

-- the act of a write with these units
abbrev pub act_of : WriteOperation → FaduId → List DataUnit → Act
act_of Insert fadu units = Inserts fadu units
act_of Replace fadu units = Replaces fadu (only_unit units)
act_of Extend fadu units = Extends fadu (only_unit units)

-- F-WRITE: whether the constraint set takes the act, whatever units come
abbrev pub write_rows : File → (mode : Actions) (position : ℕ) → WriteOperation → FaduId → List Row
write_rows file mode position operation fadu =
    action_row mode (action_of operation) ∷ act_row (does file.tree position (act_of operation fadu [])) ∷ []

-- A transfer that is refused goes on with its diagnostic, also where its functional unit isn't agreed.
abbrev pub given_unless : Row → (version : ℕ) → Given → Given
given_unless (Some diagnostic) version given = Refused version diagnostic.number
given_unless None version given = given

abbrev pub showing : (version : ℕ) → Result Outcome TreeRefusal → Given
showing version (Ok outcome) = Showed version outcome.shown outcome.position
showing version (Err refusal) = Refused version (tree_diagnostic refusal).number

abbrev pub read_given : Option File → (units : ℕ) (mode : Actions) (position : ℕ) → FaduId → Context → Given
read_given None units mode position fadu context = Refused 0 name_unknown
read_given (Some file) units mode position fadu context =
    given_unless (first_row (unit_row units read_unit ∷ read_rows file mode position fadu context)) file.version
    (showing file.version (does file.tree position (Reads fadu context)))

abbrev pub write_given : Option File → (units : ℕ) (mode : Actions) (position : ℕ) → WriteOperation → FaduId → Given
write_given None units mode position operation fadu = Refused 0 name_unknown
write_given (Some file) units mode position operation fadu =
    given_unless (first_row (unit_row units write_unit ∷ write_rows file mode position operation fadu)) file.version Nothing

-- the position that an act gives
abbrev pub placed : Result Outcome TreeRefusal → Given
placed (Ok outcome) = Placed outcome.position
placed (Err refusal) = Nothing
