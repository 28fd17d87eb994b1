-- Whether tables that changes lead to from valid ones are valid (profile), told without a look at the files that the
-- changes leave.
use Rattle.std.specs.Prelude.{◌≡◌, Bool, true, ◌&&◌, List, find}
use Rattle.std.specs.List.{list_all}
use Rattle.std.specs.Option.{option_map_or}
use Rattle.vf_attr.specs.declared.file.File.{File}
use Rattle.vf_tables.specs.declared.change.Change.{Change}
use Rattle.vf_tables.specs.declared.change.Change.TheVariants.{PutUser, PutFile, PutAttributes, DropFile, PutDocket, Stage, CutStage, DropDocket, PutTask, StageTask, CutTask, DropTask}
use Rattle.vf_tables.specs.declared.tables.Tables.{Tables}
use Rattle.vf_tables.specs.Entries.{is_file}
use Rattle.vf_tables.specs.Validity.{all_differ, are_within, exclude, have_keys, is_valid, is_valid_docket, is_valid_file, is_valid_task}

-- tables that a filestore may keep
unfoldable pub AreValid : Tables → Type 0
AreValid tables = is_valid tables ≡ true

-- the file that a change puts is valid, where it still stands among these
abbrev pub puts_valid : List File → Change → Bool
puts_valid files (PutUser user) = true
puts_valid files (PutFile file) = option_map_or is_valid_file (find (is_file file.name) files) true
puts_valid files (PutAttributes old name attributes) = option_map_or is_valid_file (find (is_file name) files) true
puts_valid files (DropFile name) = true
puts_valid files (PutDocket regime) = true
puts_valid files (Stage identity activity first last elements) = true
puts_valid files (CutStage identity activity point) = true
puts_valid files (DropDocket identity activity) = true
puts_valid files (PutTask plan) = true
puts_valid files (StageTask activity point elements) = true
puts_valid files (CutTask activity point) = true
puts_valid files (DropTask activity) = true

-- the tables after these changes of valid ones are valid
abbrev pub stay_valid : Tables → List Change → Bool
stay_valid tables changes =
    have_keys tables && are_within tables
    && list_all (puts_valid tables.files) changes
    && list_all (is_valid_docket tables.files) tables.dockets && all_differ exclude tables.dockets
    && list_all is_valid_task tables.tasks
