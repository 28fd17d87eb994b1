-- How a file changes in its place (profile).
use Rattle.std.specs.Prelude.{List, [], ◌∷◌, if◌then◌else◌}
use Rattle.vf_attr.specs.declared.file.File.{File}
use Rattle.vf_filestore.specs.Changes.{change_of, is_same_file}
use Rattle.vf_tables.specs.declared.change.Change.{Change}

-- one change, where the file isn't as it was
abbrev pub changes_of_file : (before after : File) → List Change
changes_of_file before after = if is_same_file before after then [] else change_of before after ∷ []
