-- The end of a write and what a read shows, by the steps that the code takes. What is promised of public calls are the
-- definitions of the filestore, to which these lead.
use Rattle.std.specs.Prelude.{ℕ, not, List, [], ◌∷◌, None, Some, Result, Ok, Err, if◌then◌else◌, nat_le}
use Rattle.vf_attr.specs.declared.file.File.{File}
use Rattle.vf_attr.specs.declared.stamp.Stamp.{Stamp}
use Rattle.vf_base.specs.declared.access.FaduId.{FaduId}
use Rattle.vf_base.specs.declared.diagnostic.Diagnostic.{Diagnostic}
use Rattle.vf_base.specs.declared.element.Element.{Element}
use Rattle.vf_doctype.specs.declared.errors.DocError.{DocError}
use Rattle.vf_filestore.specs.Diagnostics.{Row, row, first_row, plain, file_full, store_full}
use Rattle.vf_filestore.specs.Ending as endings
use Rattle.vf_filestore.specs.Ending.{after_act, element_diagnostic, is_within_file, unchanged}
use Rattle.vf_filestore.specs.Files.{with_file}
use Rattle.vf_filestore.specs.History.{Given, Placed, Refused, Showed}
use Rattle.vf_filestore.specs.Opening.{act_of, tree_diagnostic, version_row}
use Rattle.vf_pdu_fields.specs.declared.operation.WriteOperation.{WriteOperation}
use Rattle.vf_tables.specs.Sums.{octets_of_files}
use Rattle.vf_tables.specs.declared.limits.TheConstants.{MOST_FILESTORE_OCTETS}
use Rattle.vf_regime_effects.specs.declared.acts.Acted.{Acted}
use Rattle.vf_tree.specs.Actions.{Outcome}
use Rattle.vf_tree.specs.Acts.{does}
use Rattle.vf_tree.specs.FileTree.{DataUnit}
use Rattle.vf_tree.specs.TreeRefusal.{TreeRefusal}

-- what an act leaves, where this is within the limits of a file
abbrev pub fitting : Result Outcome TreeRefusal → Result Acted Diagnostic
fitting (Ok outcome) =
    if is_within_file outcome.tree.units then Ok (record { tree = outcome.tree; position = outcome.position })
    else Err (plain file_full)
fitting (Err refusal) = Err (tree_diagnostic refusal)

abbrev pub put_unless : Row → File → (position : ℕ) → endings.Ending
put_unless (Some diagnostic) after position = unchanged (Some diagnostic)
put_unless None after position = record { refused = None; given = Placed position; file = Some after }

-- the rows behind those of the act
abbrev pub put_rows : List File → (before after : File) → List Row
put_rows files before after =
    version_row before ∷ row (not (nat_le (octets_of_files (with_file after files)) MOST_FILESTORE_OCTETS)) store_full ∷ []

-- the file with the contents that the act leaves
abbrev pub put : List File → Stamp → File → Result Acted Diagnostic → endings.Ending
put files stamp file (Err diagnostic) = unchanged (Some diagnostic)
put files stamp file (Ok acted) =
    let after = after_act stamp file acted.tree in put_unless (first_row (put_rows files file after)) after acted.position

-- a write of the units that the values make, if they make any
abbrev pub ending_by : List File → Stamp → File → WriteOperation → FaduId → Result (List DataUnit) DocError → endings.Ending
ending_by files stamp file operation fadu (Err error) = unchanged (Some (element_diagnostic error))
ending_by files stamp file operation fadu (Ok units) = put files stamp file (fitting (does file.tree 0 (act_of operation fadu units)))

-- what a read shows that no row before its act refuses
abbrev pub shown_by : (version : ℕ) → Result (List Element × ℕ) TreeRefusal → Given
shown_by version (Ok answer) = Showed version answer.0 answer.1
shown_by version (Err refusal) = Refused version (tree_diagnostic refusal).number
