-- A value means one element at most, which is found in it, and then has no fault.
use Rattle.std.proofs.Common.{◌≡◌, ℕ, ◌+◌, Bool, true, List, [], refl, ap, sym, ◌∙◌, arith, rules}
use Rattle.std.specs.Prelude.{Option, Some, None, Ok, ◌&&◌, ◌||◌, IsTrue, is_some}
use Rattle.vf_base.specs.declared.element.Element.{Element}
use Rattle.vf_base.specs.declared.element.Element.TheVariants.{Descriptor, Enter, Exit, Text, Binary}
use Rattle.vf_ber.specs.Primitive.{octets_in, octets_of}
use Rattle.vf_ber.specs.Tree.{Tag, Tree, plain, built, Trees, none, more, root}
use Rattle.vf_pdu_fields.specs.Content.{slots}
use Rattle.vf_pdu_fields.specs.Meaning.{all_fit, universal}
use Rattle.vf_pdu_fields.specs.Reading.{reading}
use Rattle.vf_pdu_fields.proofs.Faulty.{fault_told}
use Rattle.vf_pdu_fields.proofs.FirstFaults.{told}
use Rattle.vf_pdu_fields.proofs.Found.{ok_is}
use Rattle.vf_pdu_fields.proofs.ReadBack.{read_back}
use Rattle.vf_elements.specs.ElementFaults.{element_fault, is_segment, is_string, wrong_segment}
use Rattle.vf_elements.specs.ElementLaws.{MeaningHasNoFault, MeaningIsFound, MeaningIsOne, WrittenIsReadAgain}
use Rattle.vf_elements.specs.ElementReading.{descriptor_as, descriptor_from, element_in, string_as}
use Rattle.vf_elements.specs.ElementValue.{value}
use Rattle.vf_elements.specs.Elements.{IsDescriptor, Means, descriptor, descriptor_slots, is_text, octet_string}
use Rattle.vf_elements.proofs.Written.{value_is}

true_of : (b : Bool) → IsTrue b → b ≡ true
true_of b h = search rules

-- ---- strings

-- the element of a string by its tag
string_found : (tree : Tree) (tag : Tag) (octets : List ℕ) → root tree ≡ tag → octets_of tree ≡ Some octets → is_string tag ≡ true → element_in tree ≡ Ok (string_as tag octets)
string_found (plain root octets) tag given r o s =
    let here : is_string root ≡ true = ap is_string r ∙ s in
    let same : octets ≡ given = cc in
    grind (arith, here, same, r)
string_found (built root parts) tag given r o s =
    let here : is_string root ≡ true = ap is_string r ∙ s in
    grind (arith, here, o, r)

text_tag : (class : ℕ) → is_text class ≡ true → is_string (universal class) ≡ true
text_tag class t = grind (arith, t)

text_is : (class : ℕ) (octets : List ℕ) → is_text class ≡ true → string_as (universal class) octets ≡ Text class octets
text_is class octets t = grind (arith, t)

-- ---- descriptors

named : (name : Option (List ℕ)) (filled : Bool) → descriptor_as (descriptor_slots (Descriptor name filled)) ≡ Descriptor name filled
named None filled = refl
named (Some name) filled = refl

descriptor_read : (tree : Tree) (name : Option (List ℕ)) (filled : Bool) → (m : IsDescriptor tree (Descriptor name filled))
    → reading descriptor m.parts ≡ Ok (descriptor_slots (Descriptor name filled))
descriptor_read tree name filled m =
    let all = descriptor_slots (Descriptor name filled) in
    read_back descriptor m.parts all refl m.has (true_of (all_fit descriptor (slots all)) m.in_range)

descriptor_found : (tree : Tree) (name : Option (List ℕ)) (filled : Bool) → IsDescriptor tree (Descriptor name filled) → element_in tree ≡ Ok (Descriptor name filled)
descriptor_found tree name filled m =
    ap element_in m.built_of ∙ ap descriptor_from (descriptor_read tree name filled m) ∙ ap (λ (e : Element). Ok e) (named name filled)

pub found : MeaningIsFound
found tree (Descriptor name filled) m = descriptor_found tree name filled m
found tree Enter m = ap element_in m
found tree Exit m = ap element_in m
found tree (Text class octets) m =
    let t : is_text class ≡ true = true_of (is_text class) m.0 in
    string_found tree (universal class) octets m.1 m.2 (text_tag class t) ∙ ap (λ (e : Element). Ok e) (text_is class octets t)
found tree (Binary octets) m = string_found tree (universal octet_string) octets m.0 m.1 refl

pub is_one : MeaningIsOne
is_one tree e f m n = ok_is e f (sym (found tree e m) ∙ found tree f n)

-- ---- no fault

segment_right : (part : Tree) (parts : Trees) (octets : List ℕ) → octets_in (more part parts) ≡ Some octets → (is_segment part ≡ true) × is_some (octets_in parts) ≡ true
segment_right part parts octets e = grind (arith, e)

segments_right : (place : ℕ) (parts : Trees) → is_some (octets_in parts) ≡ true → wrong_segment place parts ≡ None
segments_right place none e = refl
segments_right place (more part parts) e = grind (arith, e, segments_right (place + 1) parts)

string_right : (tree : Tree) (tag : Tag) (octets : List ℕ) → root tree ≡ tag → octets_of tree ≡ Some octets → is_string tag ≡ true → element_fault tree ≡ None
string_right (plain root octets) tag given r o s =
    let here : is_string root ≡ true = ap is_string r ∙ s in
    grind (arith, here)
string_right (built root parts) tag given r o s =
    let here : is_string root ≡ true = ap is_string r ∙ s in
    let some : is_some (octets_in parts) ≡ true = ap is_some o in
    grind (arith, here, segments_right 0 parts some)

pub has_no_fault : MeaningHasNoFault
has_no_fault tree (Descriptor name filled) m =
    ap element_fault m.built_of ∙ fault_told descriptor m.parts refl ∙ ap told (descriptor_read tree name filled m)
has_no_fault tree Enter m = ap element_fault m
has_no_fault tree Exit m = ap element_fault m
has_no_fault tree (Text class octets) m = string_right tree (universal class) octets m.1 m.2 (text_tag class (true_of (is_text class) m.0))
has_no_fault tree (Binary octets) m = string_right tree (universal octet_string) octets m.0 m.1 refl

pub is_read_again : WrittenIsReadAgain
is_read_again element h =
    let means : Means (value element) element = value_is element h in
    (has_no_fault (value element) element means, λ other m. is_one (value element) other element m means)
