-- The end of an erase, by what a party keeps of its open (ISO 8571-3, F-ERASE; profile).
use Rattle.std.specs.Prelude.{ℕ, List, [], ◌∷◌, Option, None, Some}
use Rattle.vf_attr.specs.declared.file.File.{File}
use Rattle.vf_attr.specs.declared.stamp.Stamp.{Stamp}
use Rattle.vf_base.specs.declared.access.FaduId.{FaduId}
use Rattle.vf_base.specs.declared.action.Actions.{Actions}
use Rattle.vf_filestore.specs.Decision.{Decision, granted_unless}
use Rattle.vf_filestore.specs.Diagnostics.{first_row, plain, name_unknown}
use Rattle.vf_filestore.specs.Ending.{Ending, file_after, performed_by, unchanged}
use Rattle.vf_filestore.specs.Opening.{erase_rows}
use Rattle.vf_filestore.specs.Units.{file_access, unit_row}
use Rattle.vf_party_steps.specs.Files.{changes_of_file}
use Rattle.vf_tables.specs.declared.change.Change.{Change}
use Rattle.vf_tree.specs.Acts.{Erases, does}

-- the decision on what ends so
abbrev pub ending_decision : Ending → Decision
ending_decision ending = granted_unless ending.refused ending.given

-- F-ERASE of a file that is there, which looks at no position
abbrev pub erase_in : (units : ℕ) (mode : Actions) → Stamp → FaduId → File → Ending
erase_in units mode stamp fadu file =
    let outcome = does file.tree 0 (Erases fadu) in
    performed_by (first_row (unit_row units file_access ∷ erase_rows file mode 0 fadu)) (file_after stamp file outcome) outcome

abbrev pub erase_of : (units : ℕ) (mode : Actions) → Stamp → FaduId → Option File → Ending
erase_of units mode stamp fadu None = unchanged (Some (plain name_unknown))
erase_of units mode stamp fadu (Some file) = erase_in units mode stamp fadu file

-- the change of a file that is there and isn't as it was
abbrev pub changes_between : (before after : Option File) → List Change
changes_between (Some before) (Some after) = changes_of_file before after
changes_between _ _ = []
