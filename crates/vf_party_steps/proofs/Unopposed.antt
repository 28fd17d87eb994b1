-- No other holder stands against what a selection or a creation wants that isn't refused.
use Rattle.std.proofs.Common.{◌≡◌, ℕ, nat_eq, nat_lt, not, List, [], ◌∷◌, length, Option, None, Some, refl, sym, subst}
use Rattle.vf_attr.specs.Access.{may}
use Rattle.vf_attr.specs.declared.file.File.{File}
use Rattle.vf_attr.specs.declared.stamp.Stamp.{Stamp}
use Rattle.vf_doctype.specs.DocumentTypes.{doc_type}
use Rattle.vf_doctype.specs.declared.doc_type.DocType.{DocType}
use Rattle.vf_filestore.specs.Controls.{attributes_usable, joined, not_opened}
use Rattle.vf_filestore.specs.Diagnostics.{Row, first_row, name_exists, not_permitted, row, store_full}
use Rattle.vf_filestore.specs.Files.{file_named, made}
use Rattle.vf_filestore.specs.Holders.{HeldFiles, clash_row, conflict_with}
use Rattle.vf_filestore.specs.Selecting.{Wanted, access_row, create_by, create_rows, rows_on, select_rows, selection_rows, typed_rows}
use Rattle.vf_filestore.specs.declared.creation.NewFile.{NewFile}
use Rattle.vf_filestore.proofs.Alone.{none_mapped}
use Rattle.vf_filestore.proofs.Decided.{first_passed, later_passed}
use Rattle.vf_filestore.proofs.Filed.{found_name}
use Rattle.vf_locks.specs.Clash.{conflict}
use Rattle.vf_locks.specs.declared.conflict.Conflict.{Conflict}
use Rattle.vf_locks.specs.declared.holder.Holder.TheVariants.{Party}
use Rattle.vf_tables.specs.declared.limits.TheConstants.{MOST_FILES}

module _ (found : HeldFiles) (wanted : Wanted) where
  -- no other holder of the file stands against it
  abbrev pub IsUnopposed : (name : List ℕ) → Type 0
  IsUnopposed name = conflict (Party wanted.link) (joined not_opened wanted.controls) (found.holders name) ≡ None

  of_file : (file : File) → first_row (selection_rows found wanted file) ≡ None → IsUnopposed file.name
  of_file file free =
      let usable : Row = row (not (attributes_usable wanted.requested wanted.controls)) not_permitted in
      let access : Row = access_row (may file wanted.identity wanted.password wanted.requested) in
      let clash : Row = clash_row (found.holders file.name) wanted.link (joined not_opened wanted.controls) in
      none_mapped (λ (one : Conflict). conflict_with one.action one.holder) (conflict (Party wanted.link) (joined not_opened wanted.controls) (found.holders file.name))
      (first_passed clash [] (later_passed access (clash ∷ []) (later_passed usable (access ∷ clash ∷ []) free)))

  of_name : (name : List ℕ) (file : File) → file_named name found.files ≡ Some file → IsUnopposed file.name → IsUnopposed name
  of_name name file is free = subst (λ (name : List ℕ). IsUnopposed name) (sym (found_name name found.files file is)) free

  pub selection_unopposed : (name : List ℕ) → first_row (select_rows found wanted name) ≡ None → IsUnopposed name
  selection_unopposed name free = by (file_named name found.files) refl free
    where
      by : (there : Option File) → file_named name found.files ≡ there → first_row (rows_on there (selection_rows found wanted)) ≡ None → IsUnopposed name
      by None is free = absurd cc
      by (Some file) is free = of_name name file is (of_file file free)

  pub creation_unopposed : (over : ℕ) (stamp : Stamp) (new : NewFile) → first_row (create_rows found wanted over stamp new) ≡ None → IsUnopposed new.name
  creation_unopposed over stamp new free = by (file_named new.name found.files) refl free
    where
      of_type : (doc : Option DocType) → first_row (typed_rows found wanted stamp new doc) ≡ None → IsUnopposed new.name
      of_type None free = absurd cc
      of_type (Some doc) free =
          of_file (made new stamp doc) (later_passed (row (not (nat_lt (length found.files) MOST_FILES)) store_full) (selection_rows found wanted (made new stamp doc)) free)

      by : (there : Option File) → file_named new.name found.files ≡ there → first_row (create_by found wanted over stamp new there) ≡ None → IsUnopposed new.name
      by None is free = of_type (doc_type new.contents) free
      by (Some file) is free = of_name new.name file is (of_file file (later_passed (row (nat_eq over 0) name_exists) (selection_rows found wanted file) free))
