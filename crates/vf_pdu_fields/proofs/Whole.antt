-- What is made of contents in range has these contents.
use Rattle.std.proofs.Common.{◌≡◌, ℕ, zero, suc, ◌<◌, ◌≤◌, true, List, [], ◌∷◌, length, map, refl, ap, ◌∙◌, arith}
use Rattle.std.specs.Prelude.{pos, negsuc, nat_eq, nat_le, Some, None}
use Rattle.std.specs.List.{list_all}
use Rattle.std.specs.Option.{option_map}
use Rattle.std.proofs.lemmas.Bool.{eqb-true, leb-true, ltb-true, and_parts}
use Rattle.vf_pdu_fields.specs.Contained.{arcs_in, attribute_controls_in, content_controls_in, context_in, control_in, fadu_in, inside, integer_in, item_list, items_in, number_in, octets_in, operation_in, slot_list, there, truth_in}
use Rattle.vf_pdu_fields.specs.Content.{Content, Number, Truth, Octets, Arcs, Fields, Listed, Slots, nil, present, absent, Items, nothing, item, Slot, slots, items_of}
use Rattle.vf_pdu_fields.specs.Forms.{is_control}
use Rattle.vf_pdu_fields.specs.Meaning.{all_fit, count, each_within, fits}
use Rattle.vf_pdu_fields.specs.Rows.{Range, Any, Integer, Boolean, Text, String, Controls, Oid, Date, Need, required, optional, default, Form, one, sequence, list, Row, end, field, int, or, fadu as fadu_form, natural}
use Rattle.vf_pdu_fields.specs.Slots.{attribute_controls, content_controls, context_slot, control_octet, fadu_slot, maybe_integer, maybe_octets, num, operation_slot}

abbrev pub Lacking : Need → Type 0
Lacking required = ⊥
Lacking optional = Unit {0}
Lacking (default content) = ⊥

-- a field that is there is in range
abbrev pub Fits : Form → Need → Slot → Type 0
Fits form need None = Lacking need
Fits form need (Some content) = fits form content ≡ true

-- for all fields in range
abbrev pub Each : Row → (List Slot → Type 0) → Type 0
Each end P = P []
Each (field number form need row) P = (first : Slot) → Fits form need first → Each row (λ rest. P (first ∷ rest))

pub by_fields : (row : Row) (P : List Slot → Type 0) → Each row P → (all : List Slot) → all_fit row (slots all) ≡ true → P all
by_fields end P e [] h = e
by_fields end P e (Some content ∷ rest) h = absurd cc
by_fields end P e (None ∷ rest) h = absurd cc
by_fields (field number form need row) P e [] h = absurd cc
by_fields (field number form need row) P e (Some content ∷ rest) h =
    let b = and_parts (fits form content) (all_fit row (slots rest)) h in
    by_fields row (λ others. P (Some content ∷ others)) (e (Some content) b.0) rest b.1
by_fields (field number form required row) P e (None ∷ rest) h = absurd cc
by_fields (field number form optional row) P e (None ∷ rest) h = by_fields row (λ others. P (None ∷ others)) (e None tt) rest h
by_fields (field number form (default content) row) P e (None ∷ rest) h = absurd cc

-- contents of a form are those of what they are the contents of

pub number_whole : (low high : ℕ) (content : Content) → fits (int low high) content ≡ true → natural (number_in content) ≡ content
number_whole low high (Number (pos n)) h = refl
number_whole low high (Number (negsuc n)) h = absurd cc
number_whole low high _ h = absurd cc

pub integer_whole : (range : Range) (content : Content) → fits (one (Integer range)) content ≡ true → Number (integer_in content) ≡ content
integer_whole range (Number n) h = refl
integer_whole range _ h = absurd cc

pub truth_whole : (content : Content) → fits (one Boolean) content ≡ true → Truth (truth_in content) ≡ content
truth_whole (Truth truth) h = refl
truth_whole _ h = absurd cc

pub text_whole : (content : Content) → fits (one Text) content ≡ true → Octets (octets_in content) ≡ content
text_whole (Octets octets) h = refl
text_whole _ h = absurd cc

pub string_whole : (content : Content) → fits (one String) content ≡ true → Octets (octets_in content) ≡ content
string_whole (Octets octets) h = refl
string_whole _ h = absurd cc

pub date_whole : (content : Content) → fits (one Date) content ≡ true → Octets (octets_in content) ≡ content
date_whole (Octets octets) h = refl
date_whole _ h = absurd cc

pub arcs_whole : (content : Content) → fits (one Oid) content ≡ true → Arcs (arcs_in content) ≡ content
arcs_whole (Arcs arcs) h = refl
arcs_whole _ h = absurd cc

pub control_whole : (octet : ℕ) → is_control octet ≡ true → control_octet (control_in octet) ≡ octet
control_whole zero h = refl
control_whole (suc zero) h = refl
control_whole (suc (suc zero)) h = refl
control_whole (suc (suc (suc zero))) h = refl
control_whole (suc (suc (suc (suc n)))) h = let le : suc (suc (suc (suc n))) ≤ 3 = leb-true (suc (suc (suc (suc n)))) 3 h in absurd (omega arith)

pub attribute_whole : (content : Content) → fits (one (Controls 3)) content ≡ true → attribute_controls (attribute_controls_in content) ≡ content
attribute_whole (Octets (a ∷ b ∷ c ∷ [])) h =
    let h1 = and_parts (is_control a) (list_all is_control (b ∷ c ∷ [])) h in
    let h2 = and_parts (is_control b) (list_all is_control (c ∷ [])) h1.1 in
    let h3 = and_parts (is_control c) true h2.1 in
    rw (control_whole a h1.0, control_whole b h2.0, control_whole c h3.0) refl
attribute_whole (Octets (a ∷ b ∷ c ∷ d ∷ rest)) h =
    let e : length (a ∷ b ∷ c ∷ d ∷ rest) ≡ 3 = eqb-true (length (a ∷ b ∷ c ∷ d ∷ rest)) 3 (and_parts (nat_eq (length (a ∷ b ∷ c ∷ d ∷ rest)) 3) (list_all is_control (a ∷ b ∷ c ∷ d ∷ rest)) h).0 in
    absurd (omega arith)
attribute_whole _ h = absurd cc

pub content_whole : (content : Content) → fits (one (Controls 5)) content ≡ true → content_controls (content_controls_in content) ≡ content
content_whole (Octets (a ∷ b ∷ c ∷ d ∷ e ∷ [])) h =
    let h1 = and_parts (is_control a) (list_all is_control (b ∷ c ∷ d ∷ e ∷ [])) h in
    let h2 = and_parts (is_control b) (list_all is_control (c ∷ d ∷ e ∷ [])) h1.1 in
    let h3 = and_parts (is_control c) (list_all is_control (d ∷ e ∷ [])) h2.1 in
    let h4 = and_parts (is_control d) (list_all is_control (e ∷ [])) h3.1 in
    let h5 = and_parts (is_control e) true h4.1 in
    rw (control_whole a h1.0, control_whole b h2.0, control_whole c h3.0, control_whole d h4.0, control_whole e h5.0) refl
content_whole (Octets (a ∷ b ∷ c ∷ d ∷ e ∷ f ∷ rest)) h =
    let l : length (a ∷ b ∷ c ∷ d ∷ e ∷ f ∷ rest) ≡ 5 = eqb-true (length (a ∷ b ∷ c ∷ d ∷ e ∷ f ∷ rest)) 5 (and_parts (nat_eq (length (a ∷ b ∷ c ∷ d ∷ e ∷ f ∷ rest)) 5) (list_all is_control (a ∷ b ∷ c ∷ d ∷ e ∷ f ∷ rest)) h).0 in
    absurd (omega arith)
content_whole _ h = absurd cc

pub fadu_whole : (need : Need) → (Lacking need → ⊥) → (slot : Slot) → Fits fadu_form need slot → fadu_slot (fadu_in slot) ≡ slot
fadu_whole need needed None h = absurd (needed h)
fadu_whole need needed (Some (Number (pos zero))) h = refl
fadu_whole need needed (Some (Number (pos (suc n)))) h = refl
fadu_whole need needed (Some (Number (negsuc zero))) h = refl
fadu_whole need needed (Some (Number (negsuc (suc zero)))) h = refl
fadu_whole need needed (Some (Number (negsuc (suc (suc zero))))) h = refl
fadu_whole need needed (Some (Number (negsuc (suc (suc (suc zero)))))) h = refl
fadu_whole need needed (Some (Number (negsuc (suc (suc (suc (suc zero))))))) h = refl
fadu_whole need needed (Some (Number (negsuc (suc (suc (suc (suc (suc zero)))))))) h = refl
fadu_whole need needed (Some (Number (negsuc (suc (suc (suc (suc (suc (suc n))))))))) h =
    let lt : suc (suc (suc (suc (suc (suc n))))) < 6 = ltb-true (suc (suc (suc (suc (suc (suc n)))))) 6 h in absurd (omega arith)
fadu_whole need needed (Some _) h = absurd cc

pub context_whole : (slot : Slot) → Fits (int 0 3) (or 2) slot → context_slot (context_in slot) ≡ slot
context_whole (Some (Number (pos zero))) h = refl
context_whole (Some (Number (pos (suc zero)))) h = refl
context_whole (Some (Number (pos (suc (suc zero))))) h = refl
context_whole (Some (Number (pos (suc (suc (suc zero)))))) h = refl
context_whole (Some (Number (pos (suc (suc (suc (suc n))))))) h =
    let le : suc (suc (suc (suc n))) ≤ 3 = leb-true (suc (suc (suc (suc n)))) 3 (and_parts (nat_le 0 (suc (suc (suc (suc n))))) (nat_le (suc (suc (suc (suc n)))) 3) h).1 in absurd (omega arith)
context_whole (Some _) h = absurd cc
context_whole None h = absurd h

pub operation_whole : (slot : Slot) → Fits (int 1 3) required slot → operation_slot (operation_in slot) ≡ slot
operation_whole (Some (Number (pos zero))) h = absurd cc
operation_whole (Some (Number (pos (suc zero)))) h = refl
operation_whole (Some (Number (pos (suc (suc zero))))) h = refl
operation_whole (Some (Number (pos (suc (suc (suc zero)))))) h = refl
operation_whole (Some (Number (pos (suc (suc (suc (suc n))))))) h =
    let le : suc (suc (suc (suc n))) ≤ 3 = leb-true (suc (suc (suc (suc n)))) 3 (and_parts (nat_le 1 (suc (suc (suc (suc n))))) (nat_le (suc (suc (suc (suc n)))) 3) h).1 in absurd (omega arith)
operation_whole (Some _) h = absurd cc
operation_whole None h = absurd h

-- slots

pub number_there : (low high : ℕ) (need : Need) → (Lacking need → ⊥) → (slot : Slot) → Fits (int low high) need slot → num (number_in (there slot)) ≡ slot
number_there low high need needed None h = absurd (needed h)
number_there low high need needed (Some content) h = ap (λ (c : Content). let o : Slot = Some c in o) (number_whole low high content h)

pub has_number : (low high usual : ℕ) (slot : Slot) → Fits (int low high) (or usual) slot → num (number_in (there slot)) ≡ slot
has_number low high usual slot h = number_there low high (or usual) (λ x. x) slot h

pub needs_number : (low high : ℕ) (slot : Slot) → Fits (int low high) required slot → num (number_in (there slot)) ≡ slot
needs_number low high slot h = number_there low high required (λ x. x) slot h

pub may_whole : {X : Type 0} (form : Form) (to : X → Content) (from : Content → X) → ((content : Content) → fits form content ≡ true → to (from content) ≡ content)
    → (slot : Slot) → Fits form optional slot → option_map to (option_map from slot) ≡ slot
may_whole form to from whole None h = refl
may_whole form to from whole (Some content) h = ap (λ (c : Content). let o : Slot = Some c in o) (whole content h)

pub there_whole : {X : Type 0} (form : Form) (need : Need) → (Lacking need → ⊥) → (to : X → Content) (from : Content → X) → ((content : Content) → fits form content ≡ true → to (from content) ≡ content)
    → (slot : Slot) → Fits form need slot → Some (to (from (there slot))) ≡ slot
there_whole form need needed to from whole None h = absurd (needed h)
there_whole form need needed to from whole (Some content) h = ap (λ (c : Content). let o : Slot = Some c in o) (whole content h)

-- one more
pub next : {a b : Slot} {earlier after : List Slot} → a ≡ b → earlier ≡ after → (a ∷ earlier) ≡ (b ∷ after)
next {b = b} {earlier = earlier} e es = ap (λ (x : Slot). x ∷ earlier) e ∙ ap (λ (xs : List Slot). b ∷ xs) es

pub slots-slot_list : (inside : Slots) → slots (slot_list inside) ≡ inside
slots-slot_list nil = refl
slots-slot_list (present content rest) = ap (present content) (slots-slot_list rest)
slots-slot_list (absent rest) = ap absent (slots-slot_list rest)

-- a sequence, by its fields
pub sequence_whole : {X : Type 0} (row : Row) (to : X → List Slot) (from : List Slot → X) → Each row (λ all. to (from all) ≡ all)
    → (content : Content) → fits (sequence row) content ≡ true → Fields (slots (to (from (inside content)))) ≡ content
sequence_whole row to from whole (Fields fields) h =
    let same : slots (slot_list fields) ≡ fields = slots-slot_list fields in
    ap (λ (l : List Slot). Fields (slots l)) (by_fields row (λ all. to (from all) ≡ all) whole (slot_list fields) (ap (all_fit row) same ∙ h)) ∙ ap Fields same
sequence_whole row to from whole _ h = absurd cc

pub items_whole : {X : Type 0} (row : Row) (to : X → List Slot) (from : List Slot → X) → Each row (λ all. to (from all) ≡ all)
    → (items : Items) → each_within (all_fit row) items ≡ true → items_of (map (λ x. slots (to x)) (map (λ s. from (slot_list s)) (item_list items))) ≡ items
items_whole row to from whole nothing h = refl
items_whole row to from whole (item first rest) h =
    let b = and_parts (all_fit row first) (each_within (all_fit row) rest) h in
    let same : slots (slot_list first) ≡ first = slots-slot_list first in
    let earlier : slots (to (from (slot_list first))) ≡ first =
    ap slots (by_fields row (λ all. to (from all) ≡ all) whole (slot_list first) (ap (all_fit row) same ∙ b.0)) ∙ same in
    ap (λ (s : Slots). item s (items_of (map (λ x. slots (to x)) (map (λ s. from (slot_list s)) (item_list rest))))) earlier
    ∙ ap (item first) (items_whole row to from whole rest b.1)

pub list_whole : {X : Type 0} (row : Row) (to : X → List Slot) (from : List Slot → X) → Each row (λ all. to (from all) ≡ all)
    → (content : Content) → fits (list row) content ≡ true → Listed (items_of (map (λ x. slots (to x)) (map (λ s. from (slot_list s)) (items_in content)))) ≡ content
list_whole row to from whole (Listed items) h =
    ap Listed (items_whole row to from whole items (and_parts (nat_le (count items) 256) (each_within (all_fit row) items) h).1)
list_whole row to from whole _ h = absurd cc

pub has_integer : (slot : Slot) → Fits (one (Integer Any)) (or 0) slot → Some (Number (integer_in (there slot))) ≡ slot
has_integer slot h = there_whole (one (Integer Any)) (or 0) (λ x. x) Number integer_in (integer_whole Any) slot h

pub needs_text : (slot : Slot) → Fits (one Text) required slot → Some (Octets (octets_in (there slot))) ≡ slot
needs_text slot h = there_whole (one Text) required (λ x. x) Octets octets_in text_whole slot h

pub may_text : (slot : Slot) → Fits (one Text) optional slot → maybe_octets (option_map octets_in slot) ≡ slot
may_text slot h = may_whole (one Text) Octets octets_in text_whole slot h

pub may_string : (slot : Slot) → Fits (one String) optional slot → maybe_octets (option_map octets_in slot) ≡ slot
may_string slot h = may_whole (one String) Octets octets_in string_whole slot h

pub may_integer : (slot : Slot) → Fits (one (Integer Any)) optional slot → maybe_integer (option_map integer_in slot) ≡ slot
may_integer slot h = may_whole (one (Integer Any)) Number integer_in (integer_whole Any) slot h
