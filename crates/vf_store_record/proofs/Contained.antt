-- A file in its ranges is made again of its name, its attributes and the octets of its strings.
use Rattle.std.proofs.Common.{◌≡◌, ℕ, ◌<◌, ◌≤◌, ◌^◌, Bool, true, false, List, [], ◌∷◌, ◌++◌, length, Option, Some, None, refl, ap, ◌∙◌, append_assoc, length-append, arith}
use Rattle.std.specs.Prelude.{nat_eq, nat_le, is_some}
use Rattle.std.specs.List.{AllByRecursion, flat_map, list_all}
use Rattle.std.specs.Option.{option_map_or}
use Rattle.std.specs.Str.{bytes_eq}
use Rattle.std.proofs.lemmas.Bool.{eqb-true}
use Rattle.std.proofs.lemmas.Bool.Decides.{nat_tests}
use Rattle.std.proofs.lemmas.List.Sums.{sum_by-cons}
use Rattle.vf_attr.specs.Attributes.{attributes_of}
use Rattle.vf_attr.specs.declared.file.File.{File}
use Rattle.vf_base.specs.declared.access.Constraint.{Constraint}
use Rattle.vf_base.specs.declared.access.Constraint.TheVariants.{Unstructured, SequentialFlat}
use Rattle.vf_base.specs.declared.contents.Contents.{Contents}
use Rattle.vf_base.specs.declared.element.Element.{Element}
use Rattle.vf_base.specs.declared.element.Element.TheVariants.{Descriptor, Enter, Exit, Text, Binary}
use Rattle.vf_doctype.specs.DocumentTypes.{constraint_of, entry, kind_of}
use Rattle.vf_doctype.specs.declared.doc_type.Kind.{Kind}
use Rattle.vf_doctype.specs.declared.doc_type.Kind.TheVariants.{Ftam1, Ftam2, Ftam3}
use Rattle.vf_tables.specs.Fitting.{are_short, are_units_of, is_constraint, is_string_of}
use Rattle.vf_tree.specs.FileTree.{IsFile, octets_in, octets_of_unit, parts_in, parts_of_unit}
use Rattle.vf_tree.specs.FileTree as trees
use Rattle.vf_tree.specs.declared.limits.TheConstants.{MOST_FILE_OCTETS, MOST_FILE_PARTS}
use Rattle.vf_store_record.specs.Entries.{attributes, kind_number, octets_of, string_of, units_in}
use Rattle.vf_store_record.specs.Fields.{name, term}
use Rattle.vf_store_record.specs.Records.{constraint_for, file, file_from, file_read, is_tree}
use Rattle.vf_store_record.specs.Writing.{Always, AreSettings, AreStrings, AreUnits, IsString, IsWholeFile, Writes}
use Rattle.vf_store_record.proofs.Again.{after_both}
use Rattle.vf_store_record.proofs.Changed.{terms_shorter}
use Rattle.vf_store_record.proofs.Ranges.{both_true}

abbrev number_of : Kind → ℕ
number_of Ftam1 = 1
number_of Ftam2 = 2
number_of Ftam3 = 3

numbered_by : (arcs : List ℕ) (kind : Kind) (a b c : Bool) → bytes_eq arcs (entry 1) ≡ a → bytes_eq arcs (entry 2) ≡ b → bytes_eq arcs (entry 3) ≡ c → kind_of arcs ≡ Some kind
    → kind_number arcs ≡ number_of kind
numbered_by arcs kind true b c ea eb ec is =
    let same : Some Ftam1 ≡ Some kind = rw ea at is in
    let one : Ftam1 ≡ kind = cc in
    rw ea (ap number_of one)
numbered_by arcs kind false true c ea eb ec is =
    let same : Some Ftam2 ≡ Some kind = rw (ea, eb) at is in
    let one : Ftam2 ≡ kind = cc in
    rw (ea, eb) (ap number_of one)
numbered_by arcs kind false false true ea eb ec is =
    let same : Some Ftam3 ≡ Some kind = rw (ea, eb, ec) at is in
    let one : Ftam3 ≡ kind = cc in
    rw (ea, eb) (ap number_of one)
numbered_by arcs kind false false false ea eb ec is =
    let none : kind_of arcs ≡ None = rw (ea, eb, ec) refl in
    absurd cc

numbered : (arcs : List ℕ) (kind : Kind) → kind_of arcs ≡ Some kind → kind_number arcs ≡ number_of kind
numbered arcs kind is = numbered_by arcs kind (bytes_eq arcs (entry 1)) (bytes_eq arcs (entry 2)) (bytes_eq arcs (entry 3)) refl refl refl is

-- a string of the document type is made again of its octets
text_again : (contents : Contents) (other : ℕ) (octets : List ℕ) → nat_eq (kind_number contents.kind) 3 ≡ false → nat_eq other contents.class ≡ true → string_of contents octets ≡ Text other octets
text_again contents other octets kind same = let e : other ≡ contents.class = eqb-true other contents.class same in rw (kind, e) refl

string_again : (contents : Contents) (kind : Kind) (element : Element) → kind_number contents.kind ≡ number_of kind → is_string_of kind contents.class element ≡ true
    → string_of contents (octets_of element) ≡ element
string_again contents Ftam1 (Text other octets) n is = text_again contents other octets (ap (λ (k : ℕ). nat_eq k 3) n) is
string_again contents Ftam2 (Text other octets) n is = text_again contents other octets (ap (λ (k : ℕ). nat_eq k 3) n) is
string_again contents Ftam3 (Binary octets) n is = rw n refl
string_again contents Ftam1 (Binary octets) n is = absurd cc
string_again contents Ftam1 (Descriptor called filled) n is = absurd cc
string_again contents Ftam1 Enter n is = absurd cc
string_again contents Ftam1 Exit n is = absurd cc
string_again contents Ftam2 (Binary octets) n is = absurd cc
string_again contents Ftam2 (Descriptor called filled) n is = absurd cc
string_again contents Ftam2 Enter n is = absurd cc
string_again contents Ftam2 Exit n is = absurd cc
string_again contents Ftam3 (Text other octets) n is = absurd cc
string_again contents Ftam3 (Descriptor called filled) n is = absurd cc
string_again contents Ftam3 Enter n is = absurd cc
string_again contents Ftam3 Exit n is = absurd cc

octets_counted : (element : Element) → length (octets_of element) ≡ trees.octets_of element
octets_counted (Text class octets) = refl
octets_counted (Binary octets) = refl
octets_counted (Descriptor called filled) = refl
octets_counted Enter = refl
octets_counted Exit = refl

strings_again : (contents : Contents) (kind : Kind) (unit : List Element) → kind_number contents.kind ≡ number_of kind → list_all (is_string_of kind contents.class) unit ≡ true
    → octets_of_unit unit < 2 ^ 32 → AllByRecursion (IsString contents) unit
strings_again contents kind [] n is small = tt
strings_again contents kind (element ∷ unit) n is small =
    let h = both_true (is_string_of kind contents.class element) (list_all (is_string_of kind contents.class) unit) is in
    let sum = sum_by-cons trees.octets_of element unit in
    let counted = octets_counted element in
    (record { made_again = string_again contents kind element n h.0; short = omega arith }, strings_again contents kind unit n h.1 (omega arith))

-- the terms are a part of the file's record
terms_of_file : (value : File) → IsWholeFile value → length (flat_map term.spell value.terms) < 2 ^ 32
terms_of_file value is =
    let a = length-append (attributes.spell (attributes_of value)) ((units_in value.contents).spell value.tree.units) in
    let b = length-append (name.spell value.name) (attributes.spell (attributes_of value) ++ (units_in value.contents).spell value.tree.units) in
    terms_shorter (attributes_of value) (2 ^ 32) (omega (arith, is.short))

-- there are no more units than parts
units_few : (units : List (List Element)) → length units ≤ parts_in units
units_few [] = omega arith
units_few (unit ∷ units) =
    let parts = sum_by-cons parts_of_unit unit units in
    let rest : length units ≤ parts_in units = units_few units in
    omega arith

units_each : (contents : Contents) (kind : Kind) (units : List (List Element)) → kind_number contents.kind ≡ number_of kind
    → list_all (λ (unit : List Element). list_all (is_string_of kind contents.class) unit) units ≡ true
    → octets_in units < 2 ^ 32 → parts_in units < 2 ^ 32 → AllByRecursion (AreStrings contents) units
units_each contents kind [] n is small few = tt
units_each contents kind (unit ∷ units) n is small few =
    let h = both_true (list_all (is_string_of kind contents.class) unit) (list_all (λ (other : List Element). list_all (is_string_of kind contents.class) other) units) is in
    let octets = sum_by-cons octets_of_unit unit units in
    let parts = sum_by-cons parts_of_unit unit units in
    (record { each = strings_again contents kind unit n h.0 (omega arith); few = omega arith }, units_each contents kind units n h.1 (omega arith) (omega arith))

-- the constraint set is that of the document type
constraint_known : (contents : Contents) (kind : Kind) (constraint : Constraint) → kind_number contents.kind ≡ number_of kind → is_constraint (constraint_of kind) constraint ≡ true
    → constraint_for contents ≡ constraint
constraint_known contents Ftam1 Unstructured n is = rw n refl
constraint_known contents Ftam1 SequentialFlat n is = absurd cc
constraint_known contents Ftam2 Unstructured n is = absurd cc
constraint_known contents Ftam2 SequentialFlat n is = rw n refl
constraint_known contents Ftam3 Unstructured n is = rw n refl
constraint_known contents Ftam3 SequentialFlat n is = absurd cc

shaped_tree : (constraint : Constraint) (units : List (List Element)) → IsFile (record { constraint = constraint; units = units }) → is_tree constraint units ≡ true
shaped_tree Unstructured units is =
    let one : nat_eq (length units) 1 ≡ true = grind (arith, nat_tests, is.0) in
    let octets : nat_le (octets_in units) MOST_FILE_OCTETS ≡ true = grind (arith, nat_tests, is.1.0) in
    let parts : nat_le (parts_in units) MOST_FILE_PARTS ≡ true = grind (arith, nat_tests, is.1.1) in
    rw (one, octets, parts) refl
shaped_tree SequentialFlat units is =
    let octets : nat_le (octets_in units) MOST_FILE_OCTETS ≡ true = grind (arith, nat_tests, is.1.0) in
    let parts : nat_le (parts_in units) MOST_FILE_PARTS ≡ true = grind (arith, nat_tests, is.1.1) in
    rw (octets, parts) refl

file_again : (value : File) → constraint_for value.contents ≡ value.tree.constraint → file_from value.name (attributes_of value) value.tree.units ≡ value
file_again value e = rw e refl

kind_there : (option : Option Kind) (test : Kind → Bool) → option_map_or test option false ≡ true → (kind : Kind) × (option ≡ Some kind) × (test kind ≡ true)
kind_there None test is = absurd cc
kind_there (Some kind) test is = (kind, refl, is)

pub record IsMadeAgain (value : File) : Type 0 where
  pub settings : AreSettings value.contents value.terms
  pub units : AreUnits value.contents value.tree.units
  pub shape : is_tree (constraint_for value.contents) value.tree.units ≡ true
  pub made : file_from value.name (attributes_of value) value.tree.units ≡ value

whole : (value : File) → IsFile value.tree → IsWholeFile value → IsMadeAgain value
whole value is taken =
    let h = both_true (are_short value.terms) (option_map_or (λ kind. are_units_of kind value) (kind_of value.contents.kind) false) taken.in_range in
    let k = kind_there (kind_of value.contents.kind) (λ kind. are_units_of kind value) h.1 in
    let n = numbered value.contents.kind k.0 k.1 in
    let u = both_true (is_constraint (constraint_of k.0) value.tree.constraint) (list_all (λ (unit : List Element). list_all (is_string_of k.0 value.contents.class) unit) value.tree.units) k.2 in
    let few = units_few value.tree.units in
    let same : constraint_for value.contents ≡ value.tree.constraint = constraint_known value.contents k.0 value.tree.constraint n u.0 in
    record {
      settings = record { kind = ap is_some k.1; terms = record { in_range = h.0; short = terms_of_file value taken } };
      units = record { each = units_each value.contents k.0 value.tree.units n u.1 (omega (arith, is.1.0)) (omega (arith, is.1.1)); few = omega (arith, is.1.1) };
      shape = rw same (shaped_tree value.tree.constraint value.tree.units is);
      made = file_again value same;
    }

pub file_writes : {a b c d : List ℕ} (value : File) → IsFile value.tree → Writes name value.name Always a b → Writes attributes (attributes_of value) (AreSettings value.contents value.terms) b c
    → Writes (units_in value.contents) value.tree.units (AreUnits value.contents value.tree.units) c d → Writes file value (IsWholeFile value) a d
unfolding file
file_writes {a = a} {b = b} {c = c} {d = d} value is v w u =
    let first : List ℕ = name.spell value.name in
    let second : List ℕ = attributes.spell (attributes_of value) in
    let third : List ℕ = (units_in value.contents).spell value.tree.units in
    record {
      octets = after_both a first (second ++ third) b d v.octets (after_both b second third c d w.octets u.octets);
      again = λ taken rest.
          let made = whole value is taken in
          ap file_read (append_assoc first (second ++ third) rest ∙ ap (λ (l : List ℕ). first ++ l) (append_assoc second third rest))
          ∙ rw (v.again tt (second ++ (third ++ rest)), w.again made.settings (third ++ rest), u.again made.units rest, made.shape, made.made) refl;
    }
