-- What a request finds and asks, in the words of the filestore's rows (profile): the files of tables and who holds them
-- by the locks, who is associated, and what is selected and opened.
use Rattle.std.specs.Prelude.{ℕ, List, [], ◌∷◌, length, Option, None, Some, is_some, nat_le}
use Rattle.vf_attr.specs.declared.file.File.{File}
use Rattle.vf_attr.specs.declared.stamp.Stamp.{Stamp}
use Rattle.vf_filestore.specs.Diagnostics.{Row, row, activity_in_use, too_many_dockets}
use Rattle.vf_filestore.specs.History as whole
use Rattle.vf_filestore.specs.Holders.{HeldFiles}
use Rattle.vf_filestore.specs.Limits.{most_dockets}
use Rattle.vf_filestore.specs.Opening.{Opened}
use Rattle.vf_filestore.specs.Selecting.{Wanted}
use Rattle.vf_locks.specs.Table.{held}
use Rattle.vf_locks.specs.declared.held.Held.{Held}
use Rattle.vf_regime_refusals.specs.declared.association.Association.{Association}
use Rattle.vf_regime_refusals.specs.declared.association.Selection.{Selection}
use Rattle.vf_regime_refusals.specs.declared.opening.Opening.{Opening}
use Rattle.vf_tables.specs.Entries.{docket_of}
use Rattle.vf_tables.specs.declared.tables.Tables.{Tables}

-- these files, and who holds each by these locks
abbrev pub found_in : List File → List (List ℕ × List Held) → HeldFiles
found_in files locks = record { files = files; holders = λ file. held file locks }

-- who selects, and what is asked for the file
abbrev pub wanted_of : Association → Selection → Wanted
wanted_of association selection = record {
  link = association.link;
  identity = association.identity;
  password = selection.password;
  requested = selection.requested;
  controls = selection.controls;
}

abbrev pub selection_of : Selection → whole.Selection
selection_of selection = record {
  file = selection.file;
  requested = selection.requested;
  controls = selection.controls;
  password = selection.password;
}

-- who opens the selected file, and what is asked
abbrev pub opened_of : Association → Selection → Opening → Opened
opened_of association selection opening = record {
  link = association.link;
  identity = association.identity;
  selection = selection_of selection;
  mode = opening.mode;
  contents = opening.contents;
  controls = opening.controls;
  activity = opening.activity;
}

-- who did it, and when
abbrev pub stamp_by : Association → (moment : ℕ) → Stamp
stamp_by association moment = record { moment = moment; identity = association.identity }

-- The rows of a recoverable open alone, asked of the tables, which have a docket for each recoverable open that stands
-- and for each that lost its association.
abbrev pub activity_rows_in : Tables → (identity : List ℕ) → Option ℕ → List Row
activity_rows_in tables identity None = []
activity_rows_in tables identity (Some activity) =
    row (is_some (docket_of identity activity tables)) activity_in_use
    ∷ row (nat_le most_dockets (length tables.dockets)) too_many_dockets ∷ []
