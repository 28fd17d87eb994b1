-- The elements that a read shows of a file have values, where the file's strings are of its document type.
use Rattle.std.proofs.Common.{◌≡◌, ℕ, zero, suc, ◌-◌, ◌≤◌, Bool, true, false, cond, not, ◌&&◌, ◌||◌, nat_eq, List, [], ◌∷◌, length, option_map, is_none, Option, None, Some, Result, Ok, Err, refl, ap, sym, subst, ◌∙◌}
use Rattle.std.specs.Prelude.{IfSome, nat_le, slice_get}
use Rattle.std.specs.List.{AllByRecursion, list_all}
use Rattle.std.proofs.lemmas.Bool.{and_parts, eqb-true, leb-true}
use Rattle.vf_attr.specs.declared.file.File.{File}
use Rattle.vf_base.specs.declared.access.Constraint.{Constraint}
use Rattle.vf_base.specs.declared.access.Constraint.TheVariants.{Unstructured, SequentialFlat}
use Rattle.vf_base.specs.declared.access.Context.{Context}
use Rattle.vf_base.specs.declared.access.Context.TheVariants.{HA, FA, UA, US}
use Rattle.vf_base.specs.declared.access.FaduId.{FaduId}
use Rattle.vf_base.specs.declared.access.FaduId.TheVariants.{Begin, End, First, Last, Current, Next, Previous, Number}
use Rattle.vf_base.specs.declared.contents.Contents.{Contents}
use Rattle.vf_base.specs.declared.element.Element.{Element}
use Rattle.vf_base.specs.declared.element.Element.TheVariants.{Descriptor, Enter, Exit, Text, Binary}
use Rattle.vf_base.specs.declared.limits.TheConstants.{MOST_STRING_OCTETS}
use Rattle.vf_doctype.specs.Checks.{fits, has_length, takes as takes_element}
use Rattle.vf_doctype.specs.DocumentTypes.{constraint_of, doc_type, has_parameters, is_class, is_fixed, kind_of}
use Rattle.vf_doctype.specs.declared.doc_type.DocType.{DocType}
use Rattle.vf_doctype.specs.declared.doc_type.Kind.{Kind}
use Rattle.vf_doctype.specs.declared.doc_type.Kind.TheVariants.{Ftam1, Ftam2, Ftam3}
use Rattle.vf_doctype.specs.declared.errors.DocError.TheVariants.{BadElement, TooLong}
use Rattle.vf_elements.specs.Elements.{is_text}
use Rattle.vf_tables.specs.Fitting.{is_string_of}
use Rattle.vf_tree.specs.Contexts.{described, descriptor, one, reading, reading_flat, reading_one, reading_whole, shown, takes as takes_context, unit_there, whole}
use Rattle.vf_tree.specs.FileTree.{DataUnit, FileTree, strings}
use Rattle.vf_tree.specs.Identities.{meant, standing}
use Rattle.vf_tree.specs.TreeRefusal as refusals
use Rattle.vf_tree.specs.TreeRefusal.{TreeRefusal}
use Rattle.vf_filestore.specs.Keeping.{IsFilled, all_strings, is_taken}
use Rattle.vf_filestore.specs.Ranges.{IsRangedFile, is_of_class}
use Rattle.vf_filestore.specs.Sayable.{IsTold}
use Rattle.vf_filestore.specs.Sound.{IsLimited}
use Rattle.vf_filestore.proofs.Lists.{all_append}

-- ---- document types

-- a contents type that is one has its class and its kind
pub record HasDoc (contents : Contents) (doc : DocType) : Type 0 where
  pub parameters : has_parameters contents ≡ true
  pub kind : kind_of contents.kind ≡ Some doc.kind
  pub class : doc.class ≡ contents.class

abbrev kind_in : Option DocType → Option Kind
kind_in None = None
kind_in (Some doc) = Some doc.kind

abbrev class_in : Option DocType → ℕ
class_in None = 0
class_in (Some doc) = doc.class

abbrev made : Contents → Kind → DocType
made contents kind = record { kind = kind; class = contents.class; longest = contents.longest; is_fixed = is_fixed contents }

pub has_doc : (contents : Contents) (doc : DocType) → doc_type contents ≡ Some doc → HasDoc contents doc
has_doc contents doc typed = by (has_parameters contents) refl (kind_of contents.kind) refl typed
  where
    by : (b : Bool) → has_parameters contents ≡ b → (kind : Option Kind) → kind_of contents.kind ≡ kind → cond b (option_map (made contents) kind) None ≡ Some doc → HasDoc contents doc
    by true parameters (Some kind) is typed = record { parameters = parameters; kind = is ∙ ap kind_in typed; class = sym (ap class_in typed) }
    by true parameters None is typed = absurd cc
    by false parameters kind is typed = absurd cc

pub class_known : (contents : Contents) → has_parameters contents ≡ true → is_class contents.class ≡ true
class_known contents is =
    let first = and_parts (is_class contents.class && nat_le contents.longest MOST_STRING_OCTETS && nat_le contents.significance 2) (not (is_fixed contents && nat_eq contents.longest 0)) is in
    let second = and_parts (is_class contents.class && nat_le contents.longest MOST_STRING_OCTETS) (nat_le contents.significance 2) first.0 in
    (and_parts (is_class contents.class) (nat_le contents.longest MOST_STRING_OCTETS) second.0).0

-- ---- strings

-- what is taken has its length
long_enough : (doc : DocType) (element : Element) → is_taken doc element ≡ true → has_length doc element ≡ true
long_enough doc element taken = by (takes_element doc element) (has_length doc element) taken
  where
    by : (a b : Bool) → is_none (cond (not a) (Some BadElement) (cond (not b) (Some TooLong) None)) ≡ true → b ≡ true
    by true true is = refl
    by true false is = absurd cc
    by false b is = absurd cc

short : (doc : DocType) (count : ℕ) → fits doc count ≡ true → count ≤ MOST_STRING_OCTETS
short doc count is =
    let first = and_parts (nat_le count MOST_STRING_OCTETS && (nat_eq doc.longest 0 || nat_le count doc.longest)) (not doc.is_fixed || nat_eq count doc.longest) is in
    leb-true count MOST_STRING_OCTETS (and_parts (nat_le count MOST_STRING_OCTETS) (nat_eq doc.longest 0 || nat_le count doc.longest) first.0).0

string_told : (doc : DocType) → is_class doc.class ≡ true → (element : Element) → is_taken doc element ≡ true → is_of_class doc element ≡ true → IsTold element
string_told doc known (Text class octets) taken of =
    (ap is_text (same doc.kind of) ∙ known, short doc (length octets) (long_enough doc (Text class octets) taken))
  where
    same : (kind : Kind) → is_string_of kind doc.class (Text class octets) ≡ true → class ≡ doc.class
    same Ftam1 is = eqb-true class doc.class is
    same Ftam2 is = eqb-true class doc.class is
    same Ftam3 is = absurd cc
string_told doc known (Binary octets) taken of = (tt, short doc (length octets) (long_enough doc (Binary octets) taken))
string_told doc known (Descriptor name filled) taken of = by doc.kind of
  where
    by : (kind : Kind) → is_string_of kind doc.class (Descriptor name filled) ≡ true → IsTold (Descriptor name filled)
    by Ftam1 is = absurd cc
    by Ftam2 is = absurd cc
    by Ftam3 is = absurd cc
string_told doc known Enter taken of = (tt, tt)
string_told doc known Exit taken of = (tt, tt)

abbrev pub AreTold : List Element → Type 0
AreTold = AllByRecursion IsTold

abbrev pub AreUnitsTold : List DataUnit → Type 0
AreUnitsTold = AllByRecursion AreTold

strings_told : (doc : DocType) → is_class doc.class ≡ true → (elements : List Element) → list_all (is_taken doc) elements ≡ true → list_all (is_of_class doc) elements ≡ true → AreTold elements
strings_told doc known [] taken of = tt
strings_told doc known (element ∷ elements) taken of =
    let first = and_parts (is_taken doc element) (list_all (is_taken doc) elements) taken in
    let second = and_parts (is_of_class doc element) (list_all (is_of_class doc) elements) of in
    (string_told doc known element first.0 second.0, strings_told doc known elements first.1 second.1)

units_told : (doc : DocType) → is_class doc.class ≡ true → (units : List DataUnit) → all_strings (is_taken doc) units ≡ true → all_strings (is_of_class doc) units ≡ true → AreUnitsTold units
units_told doc known [] taken of = tt
units_told doc known (unit ∷ units) taken of =
    let first = and_parts (list_all (is_taken doc) unit) (all_strings (is_taken doc) units) taken in
    let second = and_parts (list_all (is_of_class doc) unit) (all_strings (is_of_class doc) units) of in
    (strings_told doc known unit first.0 second.0, units_told doc known units first.1 second.1)

-- the document type of a file within its limits
pub typed_as : (file : File) → IsLimited file → (doc : DocType) × (doc_type file.contents ≡ Some doc)
typed_as file limited = by (doc_type file.contents) limited.typed
  where
    by : (one : Option DocType) → option_map (λ (doc : DocType). constraint_of doc.kind) one ≡ Some file.tree.constraint → (doc : DocType) × (one ≡ Some doc)
    by None typed = absurd cc
    by (Some doc) typed = (doc, refl)

pub file_units_told : (file : File) → IsLimited file → IsFilled file → IsRangedFile file → AreUnitsTold file.tree.units
file_units_told file limited filled ranged =
    let typed = typed_as file limited in
    let has = has_doc file.contents typed.0 typed.1 in
    units_told typed.0 (ap is_class has.class ∙ class_known file.contents has.parameters) file.tree.units
    (subst (λ (one : Option DocType). IfSome one (λ (doc : DocType). all_strings (is_taken doc) file.tree.units ≡ true)) typed.1 filled.strings)
    (subst (λ (one : Option DocType). IfSome one (λ (doc : DocType). all_strings (is_of_class doc) file.tree.units ≡ true)) typed.1 ranged.strings)

-- ---- what is shown

descriptor_told : (filled : Bool) → IsTold (descriptor filled)
descriptor_told filled = (tt, tt)

whole_told : (units : List DataUnit) → AreUnitsTold units → AreTold (strings units)
whole_told [] told = tt
whole_told (unit ∷ units) told = all_append IsTold unit (strings units) told.0 (whole_told units told.1)

described_told : (units : List DataUnit) → AreUnitsTold units → AreTold (described units)
described_told [] told = tt
described_told (unit ∷ units) told = (descriptor_told true, all_append IsTold unit (described units) told.0 (described_told units told.1))

in_context : (context : Context) (units : List DataUnit) → AreUnitsTold units → AreTold (whole context units)
in_context HA units told = (descriptor_told false, ((tt, tt), all_append IsTold (described units) (Exit ∷ []) (described_told units told) ((tt, tt), tt)))
in_context FA units told = described_told units told
in_context UA units told = whole_told units told
in_context US units told = whole_told units told

one_told : (context : Context) (unit : DataUnit) → AreTold unit → AreTold (one context unit)
one_told HA unit told = (descriptor_told true, told)
one_told FA unit told = (descriptor_told true, told)
one_told UA unit told = told
one_told US unit told = told

abbrev pub ShowsTold : Result (List Element × ℕ) TreeRefusal → Type 0
ShowsTold (Ok answer) = AreTold answer.0
ShowsTold (Err refusal) = Unit {0}

got : (units : List DataUnit) (place : ℕ) → AreUnitsTold units → IfSome (slice_get units place) AreTold
got [] place told = tt
got (unit ∷ units) zero told = told.0
got (unit ∷ units) (suc place) told = got units place told.1

there : (units : List DataUnit) (i : ℕ) → AreUnitsTold units → IfSome (unit_there units i) AreTold
there units i told = by (nat_eq i 0)
  where
    by : (b : Bool) → IfSome (cond b None (slice_get units (i - 1))) AreTold
    by true = tt
    by false = got units (i - 1) told

reads_one : (context : Context) (i : ℕ) (found : Option DataUnit) → IfSome found AreTold → ShowsTold (reading_one context i found)
reads_one context i None told = tt
reads_one context i (Some unit) told = one_told context unit told

reads_at : (units : List DataUnit) (context : Context) (i : ℕ) → AreUnitsTold units → ShowsTold (reading_one context i (unit_there units i))
reads_at units context i told = reads_one context i (unit_there units i) (there units i told)

reads_whole : (units : List DataUnit) (id : FaduId) → AreUnitsTold units → ShowsTold (reading_whole units id)
reads_whole units Begin told = whole_told units told
reads_whole units First told = whole_told units told
reads_whole units _ told = tt

reads_flat : (units : List DataUnit) (p : ℕ) (id : FaduId) (context : Context) → AreUnitsTold units → ShowsTold (reading_flat units p id context)
reads_flat units p Begin context told = in_context context units told
reads_flat units p End context told = reads_at units context (meant (length units) p End) told
reads_flat units p First context told = reads_at units context (meant (length units) p First) told
reads_flat units p Last context told = reads_at units context (meant (length units) p Last) told
reads_flat units p Current context told = reads_at units context (meant (length units) p Current) told
reads_flat units p Next context told = reads_at units context (meant (length units) p Next) told
reads_flat units p Previous context told = reads_at units context (meant (length units) p Previous) told
reads_flat units p (Number n) context told = reads_at units context (meant (length units) p (Number n)) told

reads_by : (constraint : Constraint) (units : List DataUnit) (p : ℕ) (id : FaduId) (context : Context) → AreUnitsTold units → ShowsTold (reading constraint units p id context)
reads_by Unstructured units p id context told = reads_whole units id told
reads_by SequentialFlat units p id context told = reads_flat units (standing (length units) p) id context told

pub shown_told : (tree : FileTree) (p : ℕ) (id : FaduId) (context : Context) → AreUnitsTold tree.units → ShowsTold (shown tree p id context)
shown_told tree p id context told = by (takes_context tree.constraint context)
  where
    by : (b : Bool) → ShowsTold (cond b (reading tree.constraint tree.units p id context) (Err refusals.BadContext))
    by true = reads_by tree.constraint tree.units p id context told
    by false = tt
