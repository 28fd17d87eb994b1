-- What a creation comes to (ISO 8571-3, F-CREATE): it is refused, it selects the file that is there, or it makes one.
use Rattle.std.specs.Prelude.{ℕ, ◌∷◌, Option, None, Some, nat_eq}
use Rattle.vf_attr.specs.declared.file.File.{File}
use Rattle.vf_attr.specs.declared.stamp.Stamp.{Stamp}
use Rattle.vf_doctype.specs.DocumentTypes.{doc_type}
use Rattle.vf_doctype.specs.declared.doc_type.DocType.{DocType}
use Rattle.vf_filestore.specs.Diagnostics.{Row, row, first_row, plain, name_exists, contents_mismatch}
use Rattle.vf_filestore.specs.Files.{file_named, made}
use Rattle.vf_filestore.specs.Holders.{HeldFiles}
use Rattle.vf_filestore.specs.Selecting.{Wanted, selection_rows, typed_rows}
use Rattle.vf_filestore.specs.Units.{limited_management, unit_row}
use Rattle.vf_filestore.specs.declared.creation.NewFile.{NewFile}
use Rattle.vf_regime_refusals.specs.declared.creating.Creation.{Creation}
use Rattle.vf_regime_refusals.specs.declared.creating.Creation.TheVariants.{Refused, Selected, Made}

abbrev pub unless_refused : Row → Creation → Creation
unless_refused (Some diagnostic) creation = Refused diagnostic
unless_refused None creation = creation

-- where no document type is told the rows have refused
abbrev pub made_of : NewFile → Stamp → Option DocType → Creation
made_of new stamp None = Refused (plain contents_mismatch)
made_of new stamp (Some doc) = Made (made new stamp doc)

-- of a name that a file has
abbrev pub there_creation : HeldFiles → Wanted → (over : ℕ) → File → Creation
there_creation found wanted over file =
    unless_refused (first_row (row (nat_eq over 0) name_exists ∷ selection_rows found wanted file)) Selected

-- of a name that no file has
abbrev pub new_creation : HeldFiles → Wanted → Stamp → NewFile → Creation
new_creation found wanted stamp new =
    unless_refused (first_row (typed_rows found wanted stamp new (doc_type new.contents))) (made_of new stamp (doc_type new.contents))

abbrev pub creation_by : HeldFiles → Wanted → (over : ℕ) → Stamp → NewFile → Option File → Creation
creation_by found wanted over stamp new (Some file) = there_creation found wanted over file
creation_by found wanted over stamp new None = new_creation found wanted stamp new

-- the functional unit is looked at first
abbrev pub creation_of : HeldFiles → (units : ℕ) → Wanted → (over : ℕ) → Stamp → NewFile → Creation
creation_of found units wanted over stamp new =
    unless_refused (unit_row units limited_management) (creation_by found wanted over stamp new (file_named new.name found.files))
