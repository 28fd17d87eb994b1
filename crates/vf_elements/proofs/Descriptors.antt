-- What reading a descriptor's fields answers is what its value means, or its fault.
use Rattle.std.proofs.Common.{◌≡◌, ℕ, Bool, true, List, ap, sym, subst, ◌∙◌, refl, rules, arith}
use Rattle.std.specs.Prelude.{Option, Result, Ok, Err, IsTrue, IfOk, IfErr, nat_eq}
use Rattle.std.proofs.lemmas.Bool.{and_parts}
use Rattle.vf_base.specs.declared.element.Element.{Element}
use Rattle.vf_base.specs.declared.element.Element.TheVariants.{Descriptor}
use Rattle.vf_ber.specs.Tree.{Tag, Tree, built, Trees}
use Rattle.vf_elements.specs.ElementFaults.{element_fault, is_descriptor}
use Rattle.vf_elements.specs.Elements.{Means, IsDescriptor, application, descriptor, descriptor_slots}
use Rattle.vf_pdu_fields.specs.Content.{slots}
use Rattle.vf_pdu_fields.specs.Meaning.{all_fit}
use Rattle.vf_pdu_fields.specs.Reading.{reading}
use Rattle.vf_pdu_fields.specs.Results.{Gives, Names}
use Rattle.vf_pdu_fields.specs.declared.errors.PduError.{PduError}
use Rattle.vf_pdu_fields.specs.declared.errors.PduError.TheVariants as errors
use Rattle.vf_pdu_fields.proofs.Faulty.{fault_told}
use Rattle.vf_pdu_fields.proofs.FirstFaults.{told}
use Rattle.vf_pdu_fields.proofs.Found.{Kept, reading_kept}

abbrev pub IsSome : Element → Type 0
IsSome element = (name : Option (List ℕ)) × (filled : Bool) × (element ≡ Descriptor name filled)

pair_is : (a b : ℕ) {m n : ℕ} → a ≡ m → b ≡ n → ◌≡◌ {A = ℕ × ℕ} (a, b) (m, n)
pair_is a b p q = cc

is_true : (b : Bool) → b ≡ true → IsTrue b
is_true b e = search rules

meaning_read : (tree : Tree) (parts : Trees) (element : Element) → tree ≡ built (application 0) parts
    → reading descriptor parts ≡ Ok (descriptor_slots element) → IsSome element → Means tree element
meaning_read tree parts element t r d =
    let k : Kept descriptor parts (descriptor_slots element) = reading_kept descriptor parts (descriptor_slots element) refl r in
    let whole : IsDescriptor tree element = record {
      parts = parts;
      built_of = t;
      has = k.0;
      in_range = is_true (all_fit descriptor (slots (descriptor_slots element))) k.1;
    } in
    let M : Element → Type 0 = λ x. IsDescriptor tree x → Means tree x in
    subst M (sym d.2) (λ (w : IsDescriptor tree (Descriptor d.0 d.1)). w) whole

-- the tag of a descriptor
tag_is : (tag : Tag) → is_descriptor tag ≡ true → tag ≡ application 0
tag_is tag d =
    let both : (nat_eq tag.class 1 ≡ true) × (nat_eq tag.number 0 ≡ true) = and_parts (nat_eq tag.class 1) (nat_eq tag.number 0) d in
    let class : tag.class ≡ 1 = grind (arith, both.0) in
    let number : tag.number ≡ 0 = grind (arith, both.1) in
    ap (λ (p : ℕ × ℕ). record { class = p.0; number = p.1 }) (pair_is tag.class tag.number class number)

meaning_answer : (tree : Tree) (parts : Trees) (r : Result Element PduError) → tree ≡ built (application 0) parts
    → Gives descriptor_slots r (reading descriptor parts) → IfOk r IsSome → IfOk r (λ element. Means tree element)
meaning_answer tree parts (Ok element) t g d = meaning_read tree parts element t g d
meaning_answer tree parts (Err error) t g d = search rules

fault_is : (parts : Trees) → element_fault (built (application 0) parts) ≡ told (reading descriptor parts)
fault_is parts = fault_told descriptor parts refl

fault_answer : (parts : Trees) (r : Result Element PduError) → Gives descriptor_slots r (reading descriptor parts)
    → IfErr r (λ error. Names error (element_fault (built (application 0) parts)))
fault_answer parts (Ok element) g = search rules
fault_answer parts (Err (errors.Unknown other)) g = fault_is parts ∙ ap told g
fault_answer parts (Err (errors.Field place)) g = fault_is parts ∙ ap told g
fault_answer parts (Err (errors.Range field)) g = fault_is parts ∙ ap told g
fault_answer parts (Err (errors.Missing field)) g = fault_is parts ∙ ap told g
fault_answer parts (Err errors.NoMemory) g = tt

-- the same of a value with these parts
pub meaning_of : (tree : Tree) (tag : Tag) (parts start : Trees) (r : Result Element PduError) → tree ≡ built tag parts → start ≡ parts → is_descriptor tag ≡ true
    → Gives descriptor_slots r (reading descriptor start) → IfOk r IsSome → IfOk r (λ element. Means tree element)
meaning_of tree tag parts start r t s d g k =
    let G : Trees → Type 0 = λ x. Gives descriptor_slots r (reading descriptor x) in
    meaning_answer tree parts r (t ∙ ap (λ (x : Tag). built x parts) (tag_is tag d)) (subst G s g) k

pub fault_of : (tree : Tree) (tag : Tag) (parts start : Trees) (r : Result Element PduError) → tree ≡ built tag parts → start ≡ parts → is_descriptor tag ≡ true
    → Gives descriptor_slots r (reading descriptor start) → IfErr r (λ error. Names error (element_fault tree))
fault_of tree tag parts start r t s d g =
    let G : Trees → Type 0 = λ x. Gives descriptor_slots r (reading descriptor x) in
    let F : Tree → Type 0 = λ x. IfErr r (λ error. Names error (element_fault x)) in
    subst F (sym (t ∙ ap (λ (x : Tag). built x parts) (tag_is tag d))) (fault_answer parts r (subst G s g))
