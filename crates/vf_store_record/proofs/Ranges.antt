-- What is in the ranges of a row has parts that are in theirs.
use Rattle.std.proofs.Common.{◌≡◌, ℕ, ◌+◌, ◌<◌, ◌≤◌, ◌^◌, Bool, true, false, List, [], ◌∷◌, ◌++◌, length, Option, Some, None, refl, sym, ap, ◌∙◌, length-append, arith}
use Rattle.std.specs.Prelude.{◌==◌, ◌&&◌, is_some}
use Rattle.std.specs.Int.{w32, to_be_bytes}
use Rattle.std.specs.List.{AllByRecursion, flat_map, list_all}
use Rattle.std.specs.Str.{bytes_eq}
use Rattle.std.proofs.lemmas.Bool.Decides.{nat_tests}
use Rattle.std.proofs.lemmas.List.Concat.{flat_map-cons}
use Rattle.std.proofs.lemmas.Slice.Eq.{bytes_eq-Decides}
use Rattle.vf_base.specs.declared.contents.Contents.{Contents}
use Rattle.vf_doctype.specs.DocumentTypes.{entry, is_class, kind_of}
use Rattle.vf_tables.specs.declared.change.Change.{Change}
use Rattle.vf_tables.specs.declared.change.Change.TheVariants.{PutUser, PutFile, PutAttributes, DropFile, PutDocket, Stage, CutStage, DropDocket, PutTask, StageTask, CutTask, DropTask}
use Rattle.vf_base.specs.declared.term.Term.{Term}
use Rattle.vf_tables.specs.Fitting.{has_kind, is_activity, is_numbered, is_regime, is_short, is_within}
use Rattle.vf_tables.specs.declared.docket.Regime.{Regime}
use Rattle.vf_tables.specs.declared.limits.TheConstants.{MOST_TRANSFERS}
use Rattle.vf_base.specs.declared.element.Element.{Element}
use Rattle.vf_base.specs.declared.element.Element.TheVariants.{Descriptor, Enter, Exit, Text, Binary}
use Rattle.vf_store_record.specs.Entries.{element_after, element_as, element_spelled, kind_named, kind_number}
use Rattle.vf_store_record.specs.Fields.{actions, name, optional_name, optional_text, string, term}
use Rattle.vf_store_record.specs.Formats.{Format, optional_spelled}
use Rattle.vf_store_record.specs.Records.{change_spelled}
use Rattle.vf_store_record.specs.Writing.{Always, AreTaken, IsElement, IsTaken}
use Rattle.vf_store_record.proofs.Again.{no_more_than_octets}

pub both_true : (a b : Bool) → (a && b) ≡ true → (a ≡ true) × (b ≡ true)
both_true true true e = (refl, refl)
both_true true false e = absurd cc
both_true false b e = absurd cc

pub regime_in_range : (regime : Regime) → is_regime regime ≡ true → Always × ((is_short regime.password ≡ true) × (Always × ((is_numbered regime.fadu ≡ true) × Always)))
regime_in_range regime is =
    let last = both_true (is_activity regime.activity && is_short regime.password && is_within 1 (MOST_TRANSFERS + 1) regime.number) (is_numbered regime.fadu) is in
    let third = both_true (is_activity regime.activity && is_short regime.password) (is_within 1 (MOST_TRANSFERS + 1) regime.number) last.0 in
    let second = both_true (is_activity regime.activity) (is_short regime.password) third.0 in
    (tt, (second.1, (tt, (last.1, tt))))

-- a password that is there and in its range is short enough for a text
pub text_short : (text : List ℕ) → is_short (Some text) ≡ true → length text < 2 ^ 16
text_short text short = grind (arith, nat_tests)

-- values that are taken together are taken each
pub each_taken : {A : Type 0} (test : A → Bool) (spell : A → List ℕ) (items : List A) → AreTaken test spell items → AllByRecursion (IsTaken test spell) items
each_taken test spell [] are = tt
each_taken test spell (item ∷ items) are =
    let h = both_true (test item) (list_all test items) are.in_range in
    let joined : length (flat_map spell (item ∷ items)) ≡ length (spell item) + length (flat_map spell items) = ap length (flat_map-cons spell item items) ∙ length-append (spell item) (flat_map spell items) in
    (record { in_range = h.0; short = omega (arith, are.short) }, each_taken test spell items (record { in_range = h.1; short = omega (arith, are.short) }))

pub taken_list : {A : Type 0} (test : A → Bool) (spell : A → List ℕ) → ((x : A) → 1 ≤ length (spell x)) → (items : List A) → AreTaken test spell items
    → AllByRecursion (IsTaken test spell) items × (length items < 2 ^ 32)
taken_list test spell least items are =
    let few : length items ≤ length (flat_map spell items) = no_more_than_octets spell least items in
    (each_taken test spell items are, omega (arith, are.short))

-- the number of a document type stands for its object identifier
by_tests : (arcs : List ℕ) (a b c : Bool) → bytes_eq arcs (entry 1) ≡ a → bytes_eq arcs (entry 2) ≡ b → bytes_eq arcs (entry 3) ≡ c → is_some (kind_of arcs) ≡ true
    → kind_named (kind_number arcs) ≡ Some arcs
by_tests arcs true b c ea eb ec is = rw ea (ap (λ (l : List ℕ). Some l) (sym ((bytes_eq-Decides arcs (entry 1)).0 ea)))
by_tests arcs false true c ea eb ec is = rw (ea, eb) (ap (λ (l : List ℕ). Some l) (sym ((bytes_eq-Decides arcs (entry 2)).0 eb)))
by_tests arcs false false true ea eb ec is = rw (ea, eb) (ap (λ (l : List ℕ). Some l) (sym ((bytes_eq-Decides arcs (entry 3)).0 ec)))
by_tests arcs false false false ea eb ec is = let none : is_some (kind_of arcs) ≡ false = rw (ea, eb, ec) refl in absurd cc

pub kind_known : (contents : Contents) → has_kind contents ≡ true → kind_named (kind_number contents.kind) ≡ Some contents.kind
kind_known contents is = by_tests contents.kind (bytes_eq contents.kind (entry 1)) (bytes_eq contents.kind (entry 2)) (bytes_eq contents.kind (entry 3)) refl refl refl is

pub change_octet : (change : Change) → 1 ≤ length (change_spelled change)
change_octet (PutUser value) = omega arith
change_octet (PutFile value) = omega arith
change_octet (PutAttributes old new value) = omega arith
change_octet (DropFile old) = omega arith
change_octet (PutDocket value) = omega arith
change_octet (Stage identity activity first last values) = omega arith
change_octet (CutStage identity activity point) = omega arith
change_octet (DropDocket identity activity) = omega arith
change_octet (PutTask value) = omega arith
change_octet (StageTask activity point values) = omega arith
change_octet (CutTask activity point) = omega arith
change_octet (DropTask activity) = omega arith

pub element_octet : (element : Element) → 1 ≤ length (element_spelled element)
element_octet (Descriptor called filled) = omega arith
element_octet Enter = omega arith
element_octet Exit = omega arith
element_octet (Text class octets) = omega arith
element_octet (Binary octets) = omega arith

some_octet : {A : Type 0} (format : Format A) (option : Option A) → 1 ≤ length (optional_spelled format option)
some_octet format None = omega arith
some_octet format (Some value) = omega arith

pub term_octet : (value : Term) → 1 ≤ length (term.spell value)
unfolding term optional_name
term_octet value =
    let more = length-append (optional_name.spell value.identity) (actions.spell value.actions ++ optional_text.spell value.password) in
    let first : 1 ≤ length (optional_name.spell value.identity) = some_octet name value.identity in
    omega arith

-- the string of an element that is taken is short enough
string_short : (octets : List ℕ) (n : ℕ) → length (string.spell octets) ≤ n → n < 2 ^ 32 → length octets < 2 ^ 32
unfolding string
string_short octets n le lt = let more = length-append (to_be_bytes w32 (length octets)) octets in omega arith

pub text_short_in : (class : ℕ) (octets : List ℕ) → IsElement (Text class octets) → length octets < 2 ^ 32
text_short_in class octets is = string_short octets (length (element_spelled (Text class octets))) (omega arith) is.short

pub binary_short : (octets : List ℕ) → IsElement (Binary octets) → length octets < 2 ^ 32
binary_short octets is = string_short octets (length (element_spelled (Binary octets))) (omega arith) is.short

-- a class of character strings is no kind of the other elements
pub text_after : (class : ℕ) → is_class class ≡ true → (octets : List ℕ) → element_after class octets ≡ element_as (Text class) (string.read octets)
text_after class is octets =
    let a : (class == 0) ≡ false = grind (arith, nat_tests) in
    let b : (class == 1) ≡ false = grind (arith, nat_tests) in
    let d : (class == 2) ≡ false = grind (arith, nat_tests) in
    let e : (class == 4) ≡ false = grind (arith, nat_tests) in
    rw (a, b, d, e, is) refl
