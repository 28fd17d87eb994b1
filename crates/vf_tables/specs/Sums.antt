-- What files and staged pieces have in sum (profile).
use Rattle.std.specs.Prelude.{ℕ, List, length}
use Rattle.std.specs.List.{sum_by}
use Rattle.vf_attr.specs.declared.file.File.{File}
use Rattle.vf_base.specs.declared.element.Element.{Element}
use Rattle.vf_tree.specs.FileTree.{octets_in, octets_of_unit}

-- the octets of a file's strings, and of those of all files
abbrev pub octets_of_file : File → ℕ
octets_of_file file = octets_in file.tree.units

abbrev pub octets_of_files : List File → ℕ
octets_of_files files = sum_by octets_of_file files

-- the octets of all strings of staged pieces, and their elements
abbrev pub octets_staged : List (List Element) → ℕ
octets_staged pieces = sum_by octets_of_unit pieces

abbrev pub elements_staged : List (List Element) → ℕ
elements_staged pieces = sum_by (λ (piece : List Element). length piece) pieces
