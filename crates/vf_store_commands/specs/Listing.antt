-- What `list` prints of a store (profile): a line for each file, in the order of their names.
use Rattle.std.specs.Prelude.{◌≡◌, ◌⊎◌, ℕ, List, [], ◌∷◌, ◌++◌, Option, None, Some, codes, decimal}
use Rattle.std.specs.Cmp.Lexicographic.{slice_cmp}
use Rattle.std.specs.List.{flat_map}
use Rattle.std.specs.List.Sorted.{IsPermutation, IsSortedByKey}
use Rattle.std.specs.Ordering.{nat_cmp}
use Rattle.vf_attr.specs.declared.file.File.{File}
use Rattle.vf_base.specs.Moment.{moment_text}
use Rattle.vf_doctype.specs.DocumentTypes.{kind_of}
use Rattle.vf_doctype.specs.declared.doc_type.Kind.{Kind}
use Rattle.vf_doctype.specs.declared.doc_type.Kind.TheVariants.{Ftam1, Ftam2, Ftam3}
use Rattle.vf_journal.specs.Image.{Refusal, records_of, refusal}
use Rattle.vf_store.specs.Represented.{read_from}
use Rattle.vf_tables.specs.Entries.{no_tables}
use Rattle.vf_tree.specs.FileTree.{octets_in}
use Rattle.vf_cli_printing.specs.Printed.{IsOneOf, Prints, Wrote, line_feed}
use Rattle.vf_store_commands.specs.ErrorLines.{no_store_line}
use Rattle.vf_store_commands.specs.UserLines.{tab}

abbrev pub kind_word : Kind → List ℕ
kind_word Ftam1 = codes "ftam-1"
kind_word Ftam2 = codes "ftam-2"
kind_word Ftam3 = codes "ftam-3"

-- of a contents type; that of each file of a store is one of the three
abbrev pub type_word : Option Kind → List ℕ
type_word None = codes "unknown"
type_word (Some kind) = kind_word kind

-- the size in octets and the version, between tabs
abbrev pub numbers_between : (size version : ℕ) → List ℕ
numbers_between size version = tab ∷ (decimal size ++ tab ∷ (decimal version ++ tab ∷ []))

-- document type, size in octets, version, date of creation and name, with tabs between
abbrev pub file_line : File → List ℕ
file_line file =
    type_word (kind_of file.contents.kind) ++ (numbers_between (octets_in file.tree.units) file.version
    ++ (moment_text file.created.moment ++ (tab ∷ (file.name ++ line_feed ∷ []))))

abbrev pub file_lines : List File → List ℕ
file_lines files = flat_map file_line files

-- These are the same files in the order of their names, octet by octet. The names of a store's files differ, so that there is
-- one such order.
pub record IsInOrder (files sorted : List File) : Type 0 where
  pub same : IsPermutation files sorted
  pub order : IsSortedByKey (λ (file : File). file.name) (slice_cmp nat_cmp) sorted

-- The lines of these files were written, or a prefix of them where the output failed; or memory was wanting before the first.
abbrev pub PrintsFiles : List File → ℕ → Option (List ℕ) → Option (List ℕ) → Type 0
PrintsFiles files status old new =
    ((status ≡ 9) × Wrote [] old new)
    ⊎ ((sorted : List File) × IsInOrder files sorted × Prints (4 ∷ []) (record { octets = file_lines sorted; status = 0 }) status old new)

-- What is printed of a disk that is no store, or of one with these files. Nothing is written before the store is opened.
abbrev pub PrintsOpened : Option Refusal → List File → ℕ → Option (List ℕ) → Option (List ℕ) → Type 0
PrintsOpened (Some refused) files status old new = Prints (4 ∷ 5 ∷ 9 ∷ []) (record { octets = no_store_line refused.place; status = 8 }) status old new
PrintsOpened None files status old new = (IsOneOf (5 ∷ 9 ∷ []) status × Wrote [] old new) ⊎ PrintsFiles files status old new

-- what is printed of an image
abbrev pub PrintsList : List ℕ → ℕ → Option (List ℕ) → Option (List ℕ) → Type 0
PrintsList image status old new = PrintsOpened (refusal image) (read_from (records_of image) no_tables).files status old new

-- the statuses of `list`
abbrev pub EndsList : ℕ → Type 0
EndsList status = IsOneOf (0 ∷ 4 ∷ 5 ∷ 8 ∷ 9 ∷ 12 ∷ []) status
