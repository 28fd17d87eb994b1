-- The units that values make are of strings that their document type takes, and so of its class.
use Rattle.std.proofs.Common.{◌≡◌, Bool, true, false, cond, not, ◌&&◌, ◌||◌, nat_eq, List, [], ◌∷◌, is_none, Option, None, Some, refl, ap}
use Rattle.std.specs.List.{list_all}
use Rattle.std.proofs.lemmas.Bool.{and_parts}
use Rattle.vf_base.specs.declared.access.Constraint.{Constraint}
use Rattle.vf_base.specs.declared.access.Constraint.TheVariants.{Unstructured, SequentialFlat}
use Rattle.vf_base.specs.declared.element.Element.{Element}
use Rattle.vf_base.specs.declared.element.Element.TheVariants.{Descriptor, Enter, Exit, Text, Binary}
use Rattle.vf_doctype.specs.Checks.{fault, has_length, is_octet, takes, takes_descriptors, takes_text}
use Rattle.vf_doctype.specs.DocumentTypes.{constraint_of}
use Rattle.vf_doctype.specs.Units.{fault_at, first_fault, grouped, is_descriptor, or_else, starts_open, units, units_of, unless}
use Rattle.vf_doctype.specs.declared.doc_type.DocType.{DocType}
use Rattle.vf_doctype.specs.declared.doc_type.Kind.{Kind}
use Rattle.vf_doctype.specs.declared.doc_type.Kind.TheVariants.{Ftam1, Ftam2, Ftam3}
use Rattle.vf_doctype.specs.declared.errors.DocError.{DocError}
use Rattle.vf_doctype.specs.declared.errors.DocError.TheVariants.{BadElement, TooLong}
use Rattle.vf_tables.specs.Fitting.{is_string_of}
use Rattle.vf_filestore.specs.Ending.{units_or_none}
use Rattle.vf_filestore.specs.Keeping.{all_strings, is_taken}
use Rattle.vf_filestore.specs.Ranges.{is_of_class}
use Rattle.vf_filestore.proofs.FilesOf.{Makes}
use Rattle.vf_filestore.proofs.Leading.{both}

-- ---- elements that are taken

module _ (doc : DocType) where
  element_fits : (is_open : Bool) (element : Element) → fault_at doc is_open element ≡ None → is_taken doc element ≡ true
  element_fits is_open element none = by (is_open || is_descriptor element) none
    where
      by : (b : Bool) → cond b (fault doc element) (Some BadElement) ≡ None → is_taken doc element ≡ true
      by true none = ap is_none none
      by false none = absurd cc

  or_none : (one later : Option DocError) → or_else one later ≡ None → (one ≡ None) × (later ≡ None)
  or_none None later is = (refl, is)
  or_none (Some error) later is = absurd cc

  elements_fit : (is_open : Bool) (elements : List Element) → first_fault doc is_open elements ≡ None → list_all (is_taken doc) elements ≡ true
  elements_fit is_open [] none = refl
  elements_fit is_open (element ∷ elements) none =
      let parts = or_none (fault_at doc is_open element) (first_fault doc (is_open || is_descriptor element) elements) none in
      both (is_taken doc element) (list_all (is_taken doc) elements) (element_fits is_open element parts.0) (elements_fit (is_open || is_descriptor element) elements parts.1)

-- ---- what is in units passes a test where each element passes it that is taken and is no descriptor

abbrev Strengthens : DocType → (Element → Bool) → Type 0
Strengthens doc test = (element : Element) → is_descriptor element ≡ false → is_taken doc element ≡ true → test element ≡ true

module _ (doc : DocType) (test : Element → Bool) (stronger : Strengthens doc test) where
  -- elements in groups
  record PassGrouped (groups : List Element × List (List Element)) : Type 0 where
    first : list_all test groups.0 ≡ true
    others : all_strings test groups.1 ≡ true

  one_more : (element : Element) (elements : List Element) → is_descriptor element ≡ false → list_all (is_taken doc) (element ∷ elements) ≡ true → PassGrouped (grouped elements) → PassGrouped (element ∷ (grouped elements).0, (grouped elements).1)
  one_more element elements none taken rest = record {
    first = both (test element) (list_all test (grouped elements).0) (stronger element none (and_parts (is_taken doc element) (list_all (is_taken doc) elements) taken).0) rest.first;
    others = rest.others;
  }

  groups_pass : (elements : List Element) → list_all (is_taken doc) elements ≡ true → PassGrouped (grouped elements)
  groups_pass [] taken = record { first = refl; others = refl }
  groups_pass (Descriptor name filled ∷ elements) taken =
      let rest = groups_pass elements (and_parts (is_taken doc (Descriptor name filled)) (list_all (is_taken doc) elements) taken).1 in
      record { first = refl; others = both (list_all test (grouped elements).0) (all_strings test (grouped elements).1) rest.first rest.others }
  groups_pass (Enter ∷ elements) taken = one_more Enter elements refl taken (groups_pass elements (and_parts (is_taken doc Enter) (list_all (is_taken doc) elements) taken).1)
  groups_pass (Exit ∷ elements) taken = one_more Exit elements refl taken (groups_pass elements (and_parts (is_taken doc Exit) (list_all (is_taken doc) elements) taken).1)
  groups_pass (Text class octets ∷ elements) taken =
      one_more (Text class octets) elements refl taken (groups_pass elements (and_parts (is_taken doc (Text class octets)) (list_all (is_taken doc) elements) taken).1)
  groups_pass (Binary octets ∷ elements) taken = one_more (Binary octets) elements refl taken (groups_pass elements (and_parts (is_taken doc (Binary octets)) (list_all (is_taken doc) elements) taken).1)

  -- an unstructured file has one unit of all elements, of which none is then a descriptor
  units_pass : (constraint : Constraint) → (constraint ≡ Unstructured → (element : Element) → is_taken doc element ≡ true → is_descriptor element ≡ false) → (elements : List Element) → list_all (is_taken doc) elements ≡ true
      → all_strings test (units_of constraint elements) ≡ true
  units_pass SequentialFlat none elements taken = (groups_pass elements taken).others
  units_pass Unstructured none elements taken = both (list_all test elements) true (all elements taken) refl
    where
      all : (elements : List Element) → list_all (is_taken doc) elements ≡ true → list_all test elements ≡ true
      all [] taken = refl
      all (element ∷ elements) taken =
          let parts = and_parts (is_taken doc element) (list_all (is_taken doc) elements) taken in
          both (test element) (list_all test elements) (stronger element (none refl element parts.0) parts.0) (all elements parts.1)

  made_pass : (constraint_of doc.kind ≡ Unstructured → (element : Element) → is_taken doc element ≡ true → is_descriptor element ≡ false) → (values : List Element) → all_strings test (units_or_none (units doc values)) ≡ true
  made_pass none values = by (first_fault doc (starts_open (constraint_of doc.kind)) values) refl
    where
      by : (one : Option DocError) → first_fault doc (starts_open (constraint_of doc.kind)) values ≡ one → all_strings test (units_or_none (unless one (units_of (constraint_of doc.kind) values))) ≡ true
      by None is = units_pass (constraint_of doc.kind) none values (elements_fit doc (starts_open (constraint_of doc.kind)) values is)
      by (Some error) is = refl

-- ---- tests

-- what is taken is of the document type
taken_of : (doc : DocType) (element : Element) → is_taken doc element ≡ true → takes doc element ≡ true
taken_of doc element taken = by (takes doc element) (has_length doc element) taken
  where
    by : (a b : Bool) → is_none (cond (not a) (Some BadElement) (cond (not b) (Some TooLong) None)) ≡ true → a ≡ true
    by true b is = refl
    by false b is = absurd cc

no_descriptor : (doc : DocType) → constraint_of doc.kind ≡ Unstructured → (element : Element) → is_taken doc element ≡ true → is_descriptor element ≡ false
no_descriptor doc flat (Descriptor name filled) taken = by doc.kind flat (taken_of doc (Descriptor name filled) taken)
  where
    by : (kind : Kind) → constraint_of kind ≡ Unstructured → takes_descriptors kind ≡ true → true ≡ false
    by Ftam1 flat is = absurd cc
    by Ftam2 flat is = absurd cc
    by Ftam3 flat is = absurd cc
no_descriptor doc flat Enter taken = refl
no_descriptor doc flat Exit taken = refl
no_descriptor doc flat (Text class octets) taken = refl
no_descriptor doc flat (Binary octets) taken = refl

of_class : (doc : DocType) → Strengthens doc (is_of_class doc)
of_class doc (Text class octets) none taken = by doc.kind (taken_of doc (Text class octets) taken)
  where
    by : (kind : Kind) → (takes_text kind && nat_eq class doc.class && list_all (is_octet class) octets) ≡ true → is_string_of kind doc.class (Text class octets) ≡ true
    by Ftam1 is = (and_parts (nat_eq class doc.class) (list_all (is_octet class) octets) is).0
    by Ftam2 is = (and_parts (nat_eq class doc.class) (list_all (is_octet class) octets) is).0
    by Ftam3 is = absurd cc
of_class doc (Binary octets) none taken = by doc.kind (taken_of doc (Binary octets) taken)
  where
    by : (kind : Kind) → not (takes_text kind) ≡ true → is_string_of kind doc.class (Binary octets) ≡ true
    by Ftam1 is = absurd cc
    by Ftam2 is = absurd cc
    by Ftam3 is = refl
of_class doc (Descriptor name filled) none taken = absurd cc
of_class doc Enter none taken = let is = taken_of doc Enter taken in absurd cc
of_class doc Exit none taken = let is = taken_of doc Exit taken in absurd cc

pub makes_taken : Makes is_taken
makes_taken doc values = made_pass doc (is_taken doc) (λ element none taken. taken) (no_descriptor doc) values

pub makes_of_class : Makes is_of_class
makes_of_class doc values = made_pass doc (is_of_class doc) (of_class doc) (no_descriptor doc) values
