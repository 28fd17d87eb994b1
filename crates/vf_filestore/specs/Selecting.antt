-- What refuses an association, a selection and what is asked of a selected file (ISO 8571-3, diagnostic; the rows and
-- their order are profile). A file of the selection's name stands while the selection does, since nobody else may
-- delete or rename it then; a definition that finds none refuses with 11.
use Rattle.std.specs.Prelude.{ℕ, Bool, true, false, not, ◌&&◌, List, [], ◌∷◌, length, find, Option, None, Some, is_none, Result, Ok, Err, if◌then◌else◌, nat_eq, nat_lt}
use Rattle.std.specs.Str.{bytes_eq}
use Rattle.vf_attr.specs.Access.{has, is_met, may}
use Rattle.vf_attr.specs.declared.errors.AccessError.{AccessError}
use Rattle.vf_attr.specs.declared.errors.AccessError.TheVariants as access_errors
use Rattle.vf_attr.specs.declared.file.File.{File}
use Rattle.vf_attr.specs.declared.stamp.Stamp.{Stamp}
use Rattle.vf_base.specs.declared.action.Action.TheVariants as actions
use Rattle.vf_base.specs.declared.action.Actions.{Actions}
use Rattle.vf_doctype.specs.DocumentTypes.{doc_type}
use Rattle.vf_doctype.specs.declared.doc_type.DocType.{DocType}
use Rattle.vf_locks.specs.declared.held.Held.{Held}
use Rattle.vf_pdu_fields.specs.declared.controls.AttributeControls.{AttributeControls}
use Rattle.vf_tables.specs.Entries.{is_user}
use Rattle.vf_tables.specs.declared.limits.TheConstants.{MOST_FILES}
use Rattle.vf_tables.specs.declared.user.User.{User}
use Rattle.vf_filestore.specs.Controls.{attributes_usable, joined, not_opened}
use Rattle.vf_filestore.specs.Diagnostics.{Row, row, plain, name_unknown, name_exists, not_permitted, access_denied, bad_password, contents_mismatch, store_full, attribute_unsupported, not_a_user}
use Rattle.vf_filestore.specs.Files.{file_named, made}
use Rattle.vf_filestore.specs.History.{Selection}
use Rattle.vf_filestore.specs.Holders.{HeldFiles, alone_row, clash_row}
use Rattle.vf_filestore.specs.Limits.{most_names}
use Rattle.vf_filestore.specs.State.{requested_in, file_in}
use Rattle.vf_filestore.specs.declared.creation.NewFile.{NewFile}

-- a filestore without users takes every identity
abbrev pub is_admitted_as : List User → Option User → (password : Option (List ℕ)) → Bool
is_admitted_as users None password = nat_eq (length users) 0
is_admitted_as users (Some user) password = is_met user.password password

abbrev pub is_admitted : List User → (identity : List ℕ) → (password : Option (List ℕ)) → Bool
is_admitted users identity password = is_admitted_as users (find (is_user identity) users) password

-- F-INITIALIZE
abbrev pub initialize_rows : List User → (identity : List ℕ) → (password : Option (List ℕ)) → List Row
initialize_rows users identity password = row (not (is_admitted users identity password)) not_a_user ∷ []

-- who selects a file, on which link, and what is asked for it
pub record Wanted : Type 0 where
  pub link : ℕ
  pub identity : List ℕ
  pub password : Option (List ℕ)
  pub requested : Actions
  pub controls : AttributeControls

-- what access control refuses
abbrev pub access_row : Result (Unit {0}) AccessError → Row
access_row (Ok done) = None
access_row (Err access_errors.NotPermitted) = Some (plain not_permitted)
access_row (Err access_errors.Denied) = Some (plain access_denied)
access_row (Err access_errors.BadPassword) = Some (plain bad_password)

-- the selection of a file that is there
abbrev pub selection_rows : HeldFiles → Wanted → File → List Row
selection_rows found wanted file =
    row (not (attributes_usable wanted.requested wanted.controls)) not_permitted
    ∷ access_row (may file wanted.identity wanted.password wanted.requested)
    ∷ clash_row (found.holders file.name) wanted.link (joined not_opened wanted.controls) ∷ []

-- rows that look at a file, which has to be there
abbrev pub rows_on : Option File → (File → List Row) → List Row
rows_on None rows = row true name_unknown ∷ []
rows_on (Some file) rows = rows file

-- F-SELECT
abbrev pub select_rows : HeldFiles → Wanted → (name : List ℕ) → List Row
select_rows found wanted name = rows_on (file_named name found.files) (selection_rows found wanted)

abbrev pub typed_rows : HeldFiles → Wanted → Stamp → NewFile → Option DocType → List Row
typed_rows found wanted stamp new None = row true contents_mismatch ∷ []
typed_rows found wanted stamp new (Some doc) =
    row (not (nat_lt (length found.files) MOST_FILES)) store_full ∷ selection_rows found wanted (made new stamp doc)

abbrev pub create_by : HeldFiles → Wanted → (over : ℕ) → Stamp → NewFile → Option File → List Row
create_by found wanted over stamp new (Some file) = row (nat_eq over 0) name_exists ∷ selection_rows found wanted file
create_by found wanted over stamp new None = typed_rows found wanted stamp new (doc_type new.contents)

-- F-CREATE: of a file that is there its own attributes count, and those that come with the request don't
abbrev pub create_rows : HeldFiles → Wanted → (over : ℕ) → Stamp → NewFile → List Row
create_rows found wanted over stamp new = create_by found wanted over stamp new (file_named new.name found.files)

-- F-READ-ATTRIB: the attributes are numbered 1, 2, 4 to 256
abbrev pub read_attrib_rows : Option Selection → (names : ℕ) → List Row
read_attrib_rows selection names =
    row (not (has (requested_in selection) actions.ReadAttribute)) not_permitted
    ∷ row (nat_lt most_names names) attribute_unsupported ∷ []

-- a new name is another file's
abbrev pub is_taken : List File → (old : List ℕ) → Option (List ℕ) → Bool
is_taken files old None = false
is_taken files old (Some name) = not (bytes_eq name old) && not (is_none (file_named name files))

-- a rename, by one of a file's holders
abbrev pub rename_row : List Held → (link : ℕ) (old : List ℕ) → Option (List ℕ) → Row
rename_row helds link old None = None
rename_row helds link old (Some name) = if bytes_eq name old then None else alone_row helds link actions.ChangeAttribute

-- F-CHANGE-ATTRIB: no other holder knows the file by its old name
abbrev pub change_attrib_rows : HeldFiles → (link : ℕ) → Option Selection → (name : Option (List ℕ)) (others : ℕ) → List Row
change_attrib_rows found link selection name others =
    row (not (has (requested_in selection) actions.ChangeAttribute)) not_permitted
    ∷ row (not (nat_eq others 0)) attribute_unsupported
    ∷ row (is_taken found.files (file_in selection) name) name_exists
    ∷ rename_row (found.holders (file_in selection)) link (file_in selection) name ∷ []

-- F-DELETE
abbrev pub delete_rows : HeldFiles → (link : ℕ) → Option Selection → List Row
delete_rows found link selection =
    row (not (has (requested_in selection) actions.Delete)) not_permitted
    ∷ alone_row (found.holders (file_in selection)) link actions.Delete ∷ []
