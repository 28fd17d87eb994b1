-- The end of a write by steps is that of the definitions.
use Rattle.std.proofs.Common.{◌≡◌, ℕ, Bool, true, false, cond, not, List, [], ◌∷◌, None, Some, Result, Ok, Err, refl, ap, ◌∙◌}
use Rattle.std.specs.Prelude.{nat_le, nat_lt}
use Rattle.vf_attr.specs.declared.file.File.{File}
use Rattle.vf_attr.specs.declared.stamp.Stamp.{Stamp}
use Rattle.vf_base.specs.declared.access.FaduId.{FaduId}
use Rattle.vf_doctype.specs.declared.errors.DocError.{DocError}
use Rattle.vf_filestore.specs.Diagnostics.{Row, first_row, plain, row, file_full, store_full}
use Rattle.vf_filestore.specs.Ending.{after_act, file_after, is_within_file, performed_by, room_rows, written}
use Rattle.vf_filestore.specs.Ending as endings
use Rattle.vf_filestore.specs.Files.{with_file}
use Rattle.vf_filestore.specs.History.{Placed}
use Rattle.vf_filestore.specs.Limits.{most_version}
use Rattle.vf_filestore.specs.Opening.{act_of, act_row}
use Rattle.vf_pdu_fields.specs.declared.operation.WriteOperation.{WriteOperation}
use Rattle.vf_pdu_fields.specs.declared.operation.WriteOperation.TheVariants.{Insert, Replace, Extend}
use Rattle.vf_tables.specs.Sums.{octets_of_files}
use Rattle.vf_tables.specs.declared.limits.TheConstants.{MOST_FILESTORE_OCTETS}
use Rattle.vf_regime_effects.specs.Steps.{ending_by, fitting, put, put_rows, put_unless}
use Rattle.vf_regime_effects.specs.declared.acts.Acted.{Acted}
use Rattle.vf_tree.specs.Actions.{Outcome}
use Rattle.vf_tree.specs.Acts.{does}
use Rattle.vf_tree.specs.FileTree.{DataUnit, FileTree}
use Rattle.vf_tree.specs.TreeRefusal.{TreeRefusal}

-- a write looks at no position
nowhere : (tree : FileTree) (position : ℕ) (operation : WriteOperation) (fadu : FaduId) (units : List DataUnit)
    → does tree position (act_of operation fadu units) ≡ does tree 0 (act_of operation fadu units)
nowhere tree position Insert fadu units = refl
nowhere tree position Replace fadu units = refl
nowhere tree position Extend fadu units = refl

put_as : (refusal : Row) (after : File) (outcome : Outcome) → performed_by refusal after (Ok outcome) ≡ put_unless refusal after outcome.position
put_as None after outcome = refl
put_as (Some diagnostic) after outcome = refl

put_within : (files : List File) (stamp : Stamp) (file : File) (outcome : Outcome) (within : Bool)
    → performed_by (first_row (None ∷ None ∷ row (not within) file_full ∷ put_rows files file (after_act stamp file outcome.tree))) (after_act stamp file outcome.tree) (Ok outcome)
    ≡ put files stamp file (cond within (Ok (record { tree = outcome.tree; position = outcome.position })) (Err (plain file_full)))
put_within files stamp file outcome true =
    put_as (first_row (put_rows files file (after_act stamp file outcome.tree))) (after_act stamp file outcome.tree) outcome
put_within files stamp file outcome false = refl

put_by : (files : List File) (stamp : Stamp) (file : File) (outcome : Result Outcome TreeRefusal)
    → performed_by (first_row (None ∷ act_row outcome ∷ room_rows files file (file_after stamp file outcome))) (file_after stamp file outcome) outcome
    ≡ put files stamp file (fitting outcome)
put_by files stamp file (Err refusal) = refl
put_by files stamp file (Ok outcome) = put_within files stamp file outcome (is_within_file outcome.tree.units)

pub written_by : (files : List File) (stamp : Stamp) (file : File) (position : ℕ) (operation : WriteOperation) (fadu : FaduId) (made : Result (List DataUnit) DocError)
    → written files stamp file position operation fadu made ≡ ending_by files stamp file operation fadu made
written_by files stamp file position operation fadu (Err error) = refl
written_by files stamp file position operation fadu (Ok units) =
    ap (λ (outcome : Result Outcome TreeRefusal). performed_by (first_row (None ∷ act_row outcome ∷ room_rows files file (file_after stamp file outcome))) (file_after stamp file outcome) outcome)
    (nowhere file.tree position operation fadu units)
    ∙ put_by files stamp file (does file.tree 0 (act_of operation fadu units))

abbrev placed_there : File → (position : ℕ) → endings.Ending
placed_there after position = record { refused = None; given = Placed position; file = Some after }

room_for : (newer fits : Bool) (after : File) (position : ℕ) → newer ≡ true → fits ≡ true
    → placed_there after position ≡ put_unless (first_row (row (not newer) file_full ∷ row (not fits) store_full ∷ [])) after position
room_for true true after position is_newer is_within = refl
room_for true false after position is_newer is_within = absurd cc
room_for false fits after position is_newer is_within = absurd cc

-- where its rows leave it, the file is put
pub put_there : (files : List File) (stamp : Stamp) (file : File) (acted : Acted) (after : File) → after ≡ after_act stamp file acted.tree
    → nat_lt file.version most_version ≡ true → nat_le (octets_of_files (with_file after files)) MOST_FILESTORE_OCTETS ≡ true
    → placed_there after acted.position ≡ put files stamp file (Ok acted)
put_there files stamp file acted after is newer fits =
    room_for (nat_lt file.version most_version) (nat_le (octets_of_files (with_file after files)) MOST_FILESTORE_OCTETS) after acted.position newer fits
    ∙ ap (λ (next : File). put_unless (first_row (put_rows files file next)) next acted.position) is
