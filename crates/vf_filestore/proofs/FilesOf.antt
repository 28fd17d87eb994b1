-- A file whose strings pass a test for its document type stays so with every message, where the units pass it that values
-- make, and so do its terms.
use Rattle.std.proofs.Common.{◌≡◌, ℕ, true, unwrap_or, List, [], ◌∷◌, ◌++◌, Bool, Option, None, Some, Result, Ok, Err, refl, sym, subst}
use Rattle.std.specs.Prelude.{IfSome}
use Rattle.std.specs.List.{list_all}
use Rattle.std.proofs.lemmas.Bool.{and_parts}
use Rattle.vf_attr.specs.declared.file.File.{File}
use Rattle.vf_attr.specs.declared.stamp.Stamp.{Stamp}
use Rattle.vf_base.specs.declared.access.Constraint.{Constraint}
use Rattle.vf_base.specs.declared.access.Constraint.TheVariants.{Unstructured, SequentialFlat}
use Rattle.vf_base.specs.declared.access.FaduId.{FaduId}
use Rattle.vf_base.specs.declared.access.FaduId.TheVariants.{Begin, End, First}
use Rattle.vf_base.specs.declared.element.Element.{Element}
use Rattle.vf_base.specs.declared.term.Term.{Term}
use Rattle.vf_doctype.specs.DocumentTypes.{constraint_of, doc_type}
use Rattle.vf_doctype.specs.Units.{units}
use Rattle.vf_doctype.specs.declared.doc_type.DocType.{DocType}
use Rattle.vf_pdu_fields.specs.declared.operation.WriteOperation.{WriteOperation}
use Rattle.vf_pdu_fields.specs.declared.operation.WriteOperation.TheVariants.{Insert, Replace, Extend}
use Rattle.vf_tree.specs.Actions.{Outcome, erasure, extension, insertion, replacement}
use Rattle.vf_tree.specs.Acts.{Erases, does}
use Rattle.vf_tree.specs.FileTree.{DataUnit, FileTree, new_file, strings}
use Rattle.vf_tree.specs.TreeRefusal.{TreeRefusal}
use Rattle.vf_filestore.specs.Ending.{file_after, units_or_none, written_in}
use Rattle.vf_filestore.specs.Keeping.{IsFileOf, all_strings}
use Rattle.vf_filestore.specs.Opening.{act_of, only_unit}
use Rattle.vf_filestore.proofs.FilesLater.{ChangesTerms, EndsIn, IsAnyStamp, NewTerms, Survives, performed_goes}
use Rattle.vf_filestore.proofs.Leading.{all_joined, both}

-- ---- what actions leave

module _ (test : Element → Bool) where
  only_passes : (units : List DataUnit) → all_strings test units ≡ true → list_all test (only_unit units) ≡ true
  only_passes [] pass = refl
  only_passes (unit ∷ units) pass = (and_parts (list_all test unit) (all_strings test units) pass).0

  strings_pass : (units : List DataUnit) → all_strings test units ≡ true → list_all test (strings units) ≡ true
  strings_pass [] pass = refl
  strings_pass (unit ∷ units) pass =
      let parts = and_parts (list_all test unit) (all_strings test units) pass in
      all_joined test unit (strings units) parts.0 (strings_pass units parts.1)

  abbrev LeavesPassing : Result Outcome TreeRefusal → Type 0
  LeavesPassing (Ok outcome) = all_strings test outcome.tree.units ≡ true
  LeavesPassing (Err refusal) = Unit {0}

  insertion_passes : (constraint : Constraint) (old : List DataUnit) (fadu : FaduId) (more : List DataUnit) → all_strings test old ≡ true → all_strings test more ≡ true → LeavesPassing (insertion constraint old fadu more)
  insertion_passes Unstructured old fadu more first second = tt
  insertion_passes SequentialFlat old End more first second = all_joined (λ (unit : DataUnit). list_all test unit) old more first second
  insertion_passes SequentialFlat old _ more first second = tt

  replacement_passes : (constraint : Constraint) (old : List DataUnit) (fadu : FaduId) (unit : DataUnit) → list_all test unit ≡ true → LeavesPassing (replacement constraint old fadu unit)
  replacement_passes SequentialFlat old fadu unit pass = tt
  replacement_passes Unstructured old Begin unit pass = both (list_all test unit) true pass refl
  replacement_passes Unstructured old First unit pass = both (list_all test unit) true pass refl
  replacement_passes Unstructured old _ unit pass = tt

  extension_passes : (constraint : Constraint) (old : List DataUnit) (fadu : FaduId) (unit : DataUnit) → all_strings test old ≡ true → list_all test unit ≡ true → LeavesPassing (extension constraint old fadu unit)
  extension_passes SequentialFlat old fadu unit first pass = tt
  extension_passes Unstructured old Begin unit first pass = both (list_all test (strings old ++ unit)) true (all_joined test (strings old) unit (strings_pass old first) pass) refl
  extension_passes Unstructured old First unit first pass = both (list_all test (strings old ++ unit)) true (all_joined test (strings old) unit (strings_pass old first) pass) refl
  extension_passes Unstructured old _ unit first pass = tt

  erasure_passes : (constraint : Constraint) (old : List DataUnit) (fadu : FaduId) → LeavesPassing (erasure constraint old fadu)
  erasure_passes Unstructured old Begin = refl
  erasure_passes Unstructured old First = refl
  erasure_passes Unstructured old _ = tt
  erasure_passes SequentialFlat old Begin = refl
  erasure_passes SequentialFlat old _ = tt

  act_passes : (tree : FileTree) (at : ℕ) (operation : WriteOperation) (fadu : FaduId) (more : List DataUnit) → all_strings test tree.units ≡ true → all_strings test more ≡ true → LeavesPassing (does tree at (act_of operation fadu more))
  act_passes tree at Insert fadu more first second = insertion_passes tree.constraint tree.units fadu more first second
  act_passes tree at Replace fadu more first second = replacement_passes tree.constraint tree.units fadu (only_unit more) (only_passes more second)
  act_passes tree at Extend fadu more first second = extension_passes tree.constraint tree.units fadu (only_unit more) first (only_passes more second)

  new_passes : (constraint : Constraint) → all_strings test (new_file constraint).units ≡ true
  new_passes Unstructured = refl
  new_passes SequentialFlat = refl

-- ---- files

-- the units that values make pass the test
abbrev pub Makes : (DocType → Element → Bool) → Type 0
Makes test = (doc : DocType) (values : List Element) → all_strings (test doc) (units_or_none (units doc values)) ≡ true

module _ (T : List Term → Type 0) (test : DocType → Element → Bool) (makes : Makes test) where
  passing_as : (doc : Option DocType) (units others : List DataUnit) → ((one : DocType) → all_strings (test one) units ≡ true → all_strings (test one) others ≡ true)
      → IfSome doc (λ (one : DocType). all_strings (test one) units ≡ true) → IfSome doc (λ (one : DocType). all_strings (test one) others ≡ true)
  passing_as None units others onward pass = tt
  passing_as (Some doc) units others onward pass = onward doc pass

  -- what an action leaves of a file
  acted_passes : (stamp : Stamp) (file : File) (answer : Result Outcome TreeRefusal) → ((doc : DocType) → all_strings (test doc) file.tree.units ≡ true → LeavesPassing (test doc) answer) → IsFileOf T test file
      → IsFileOf T test (file_after stamp file answer)
  acted_passes stamp file (Err refusal) leaves is = is
  acted_passes stamp file (Ok outcome) leaves is = record { terms = is.terms; strings = passing_as (doc_type file.contents) file.tree.units outcome.tree.units leaves is.strings }

  -- a write of values that make units of the file's document type
  typed_passes : (file : File) (at : ℕ) (operation : WriteOperation) (fadu : FaduId) (values : List Element) (doc : DocType) → doc_type file.contents ≡ Some doc → (stamp : Stamp) → IsFileOf T test file
      → IsFileOf T test (file_after stamp file (does file.tree at (act_of operation fadu (units_or_none (units doc values)))))
  typed_passes file at operation fadu values doc typed stamp is =
      let more = units_or_none (units doc values) in
      let old : all_strings (test doc) file.tree.units ≡ true = subst (λ (one : Option DocType). IfSome one (λ (doc : DocType). all_strings (test doc) file.tree.units ≡ true)) typed is.strings in
      by (does file.tree at (act_of operation fadu more)) (act_passes (test doc) file.tree at operation fadu more old (makes doc values))
    where
      by : (answer : Result Outcome TreeRefusal) → LeavesPassing (test doc) answer → IsFileOf T test (file_after stamp file answer)
      by (Err refusal) left = is
      by (Ok outcome) left = record {
        terms = is.terms;
        strings = subst (λ (one : Option DocType). IfSome one (λ (doc : DocType). all_strings (test doc) outcome.tree.units ≡ true)) (sym typed) left;
      }

  written_passes : (files : List File) (stamp : Stamp) (file : File) (at : ℕ) (operation : WriteOperation) (fadu : FaduId) (values : List Element) (doc : Option DocType) → doc_type file.contents ≡ doc
      → EndsIn (IsFileOf T test) (Some file) (written_in files stamp file at operation fadu values doc)
  written_passes files stamp file at operation fadu values None typed = tt
  written_passes files stamp file at operation fadu values (Some doc) typed =
      performed_goes (IsFileOf T test) (Some file) _ (file_after stamp file (does file.tree at (act_of operation fadu (units_or_none (units doc values))))) _
      (λ is. typed_passes file at operation fadu values doc typed stamp is)

  terms_after : (own : List Term) (terms : Option (List Term)) → IfSome terms T → T own → T (unwrap_or terms own)
  terms_after own None are before = before
  terms_after own (Some terms) are before = are

  new_file_passes : (doc : DocType) (one : Option DocType) → IfSome one (λ (one : DocType). all_strings (test one) (new_file (constraint_of doc.kind)).units ≡ true)
  new_file_passes doc None = tt
  new_file_passes doc (Some one) = new_passes (test one) (constraint_of doc.kind)

  pub files_survive : Survives IsAnyStamp (ChangesTerms T) (NewTerms T) (IsFileOf T test)
  files_survive = record {
    reads = λ stamp file stamped is. record { terms = is.terms; strings = is.strings };
    writes = λ files stamp file at operation fadu values stamped. written_passes files stamp file at operation fadu values (doc_type file.contents) refl;
    erases = λ stamp file at fadu stamped is. acted_passes stamp file (does file.tree at (Erases fadu)) (λ doc pass. erasure_passes (test doc) file.tree.constraint file.tree.units fadu) is;
    changes = λ stamp file change stamped are is. record { terms = terms_after file.terms change.terms are is.terms; strings = is.strings };
    creates = λ new stamp doc stamped are. record { terms = are; strings = new_file_passes doc (doc_type new.contents) };
  }
