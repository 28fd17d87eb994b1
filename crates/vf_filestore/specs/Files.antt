-- The files of a filestore (ISO 8571-2), in the order of their creation, found by name; and a new one.
use Rattle.std.specs.Prelude.{ℕ, List, [], ◌∷◌, Option, None, Some, if◌then◌else◌, nat_eq}
use Rattle.std.specs.Cmp.Lexicographic.{pointwise}
use Rattle.vf_attr.specs.declared.file.File.{File}
use Rattle.vf_attr.specs.declared.stamp.Stamp.{Stamp}
use Rattle.vf_doctype.specs.DocumentTypes.{constraint_of}
use Rattle.vf_doctype.specs.declared.doc_type.DocType.{DocType}
use Rattle.vf_tree.specs.FileTree.{new_file}
use Rattle.vf_filestore.specs.declared.creation.NewFile.{NewFile}

-- the first file of this name
abbrev pub file_named : List ℕ → List File → Option File
file_named name [] = None
file_named name (file ∷ files) = if pointwise nat_eq name file.name then Some file else file_named name files

-- the file in the place of the one of its name, or after all others
abbrev pub with_file : File → List File → List File
with_file file [] = file ∷ []
with_file file (other ∷ files) = if pointwise nat_eq file.name other.name then file ∷ files else other ∷ with_file file files

-- F-CREATE: the new file, with its creator and the moment
abbrev pub made : NewFile → Stamp → DocType → File
made wanted stamp doc = record {
  name = wanted.name;
  permitted = wanted.permitted;
  contents = wanted.contents;
  terms = wanted.terms;
  created = stamp;
  modified = None;
  read = None;
  changed = None;
  version = 1;
  tree = new_file (constraint_of doc.kind);
}
