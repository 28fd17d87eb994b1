-- The values of PDUs and elements have tags of the code, and are read as these PDUs and elements.
use Rattle.std.proofs.Common.{◌≡◌, ℕ, ◌≤◌, Bool, true, false, if◌then◌else◌, List, refl, ap, arith, None, Some, Result, Ok, Err}
use Rattle.std.proofs.lemmas.Bool.{and_parts, leb-true}
use Rattle.std.specs.Prelude.{◌&&◌, nat_eq, nat_le}
use Rattle.vf_base.specs.declared.element.Element.{Element}
use Rattle.vf_base.specs.declared.element.Element.TheVariants.{Descriptor, Enter, Exit, Text, Binary}
use Rattle.vf_ber.specs.Tags.{AreTrees, IsTag, IsTree}
use Rattle.vf_ber.specs.Tree.{Tag, Tree, Trees, built, more, plain}
use Rattle.vf_elements.specs.ElementReading.{element_in}
use Rattle.vf_elements.specs.ElementValue.{IsWritable as IsElement, value as element_value}
use Rattle.vf_elements.specs.Elements.{application, is_text}
use Rattle.vf_elements.specs.Messages.{from_element, from_pdu, message_in}
use Rattle.vf_elements.specs.declared.message.Message.TheVariants as messages
use Rattle.vf_elements.proofs.OneMeaning.{found}
use Rattle.vf_elements.proofs.Written.{value_is as element-means}
use Rattle.vf_pdu_fields.specs.Content.{Arcs, Content, Fields, Items, Listed, Number, Octets, Slot, Slots, Truth, absent, item, nil, nothing, present, slots}
use Rattle.vf_pdu_fields.specs.Fault.{Fault, Unknown}
use Rattle.vf_pdu_fields.specs.Meaning.{context, universal}
use Rattle.vf_pdu_fields.specs.Reading.{reading}
use Rattle.vf_pdu_fields.specs.Rows.{Form, Row, end, field, list, one, sequence}
use Rattle.vf_pdu_fields.specs.Writing.{fields, is_default, spelled, spelled_items}
use Rattle.vf_pdu_fields.proofs.Plain.{some_is}
use Rattle.vf_pdu.specs.PduComputed.{meaning, pdu_from, pdu_of}
use Rattle.vf_pdu.specs.PduEntry.{Entry}
use Rattle.vf_pdu.specs.PduMeaning.{IsInRange}
use Rattle.vf_pdu.specs.PduNumbers.{number_of}
use Rattle.vf_pdu.specs.PduReading.{found_by, pdu_in}
use Rattle.vf_pdu.specs.PduRows.{entries, row_of}
use Rattle.vf_pdu.specs.PduSlots.{slots_of}
use Rattle.vf_pdu.specs.PduValue.{value as pdu_value}
use Rattle.vf_pdu.specs.declared.pdu.Pdu.{Pdu}
use Rattle.vf_pdu.proofs.Computed.{is_computed}
use Rattle.vf_pdu.proofs.OneMeaning.{known}
use Rattle.vf_pdu.proofs.Tables.{at_each}
use Rattle.vf_pdu.proofs.Written.{value_is as pdu-means}

-- ---- tags

abbrev mutual
  is_low_form : Form → Bool
  is_low_form (one simple) = true
  is_low_form (sequence row) = is_low row
  is_low_form (list row) = is_low row

  is_low : Row → Bool
  is_low end = true
  is_low (field number form need row) = nat_le number 40 && (is_low_form form && is_low row)

tag-of : (class number : ℕ) → class ≤ 3 → number ≤ 40 → 1 ≤ class → IsTag (record { class = class; number = number })
tag-of class number few low some = record { class_within = few; number_within = omega (arith, low); some_value = omega (arith, some) }

context-tag : (number : ℕ) → number ≤ 40 → IsTag (context number)
context-tag number low = tag-of 2 number (omega arith) low (omega arith)

sequence-tag : IsTag (universal 16)
sequence-tag = record { class_within = omega arith; number_within = omega arith; some_value = omega arith }

picked-tree : (b : Bool) (part : Tree) (rest : Trees) → IsTree part → AreTrees rest → AreTrees (if b then rest else more part rest)
picked-tree true part rest is are = are
picked-tree false part rest is are = (is, are)

items-tree : (inner : Slots → Trees) → ((inside : Slots) → AreTrees (inner inside)) → (items : Items) → AreTrees (spelled_items inner items)
items-tree inner are nothing = tt
items-tree inner are (item first rest) = ((sequence-tag, are first), items-tree inner are rest)

mutual
  spelled-tree : (form : Form) (tag : Tag) (content : Content) → IsTag tag → is_low_form form ≡ true → IsTree (spelled tag form content)
  spelled-tree (one simple) tag content is low = is
  spelled-tree (sequence row) tag (Fields inside) is low = (is, fields-tree row inside low)
  spelled-tree (sequence row) tag (Number n) is low = (is, tt)
  spelled-tree (sequence row) tag (Truth truth) is low = (is, tt)
  spelled-tree (sequence row) tag (Octets octets) is low = (is, tt)
  spelled-tree (sequence row) tag (Arcs arcs) is low = (is, tt)
  spelled-tree (sequence row) tag (Listed inside) is low = (is, tt)
  spelled-tree (list row) tag (Listed inside) is low = (is, items-tree (fields row) (λ slots. fields-tree row slots low) inside)
  spelled-tree (list row) tag (Number n) is low = (is, tt)
  spelled-tree (list row) tag (Truth truth) is low = (is, tt)
  spelled-tree (list row) tag (Octets octets) is low = (is, tt)
  spelled-tree (list row) tag (Arcs arcs) is low = (is, tt)
  spelled-tree (list row) tag (Fields inside) is low = (is, tt)

  fields-tree : (row : Row) (inside : Slots) → is_low row ≡ true → AreTrees (fields row inside)
  fields-tree end inside low = tt
  fields-tree (field number form need row) nil low = tt
  fields-tree (field number form need row) (absent rest) low =
      let b = and_parts (nat_le number 40) (is_low_form form && is_low row) low in
      fields-tree row rest (and_parts (is_low_form form) (is_low row) b.1).1
  fields-tree (field number form need row) (present content rest) low =
      let b = and_parts (nat_le number 40) (is_low_form form && is_low row) low in
      let c = and_parts (is_low_form form) (is_low row) b.1 in
      picked-tree (is_default need content) (spelled (context number) form content) (fields row rest)
      (spelled-tree form (context number) content (context-tag number (leb-true number 40 b.0)) c.0) (fields-tree row rest c.1)

abbrev is_low_entry : Entry → Bool
is_low_entry entry = is_low entry.its_row

row-low : (n : ℕ) → is_low (row_of n) ≡ true
unfolding row_of
row-low n = at_each is_low_entry refl entries refl n

pub pdu-tree : (pdu : Pdu) → IsTree (pdu_value pdu)
pdu-tree pdu =
    (context-tag (number_of pdu) (leb-true (number_of pdu) 40 (known pdu)), fields-tree (row_of (number_of pdu)) (slots (slots_of pdu)) (row-low (number_of pdu)))

application-tag : (number : ℕ) → number ≤ 40 → IsTag (application number)
application-tag number low = tag-of 1 number (omega arith) low (omega arith)

text-tag : (class : ℕ) → is_text class ≡ true → IsTag (universal class)
text-tag class t = record { class_within = omega arith; number_within = grind (arith, t); some_value = grind (arith, t) }

pub element-tree : (element : Element) → IsElement element → IsTree (element_value element)
element-tree (Descriptor None true) w = (application-tag 0 (omega arith), tt)
element-tree (Descriptor None false) w = (application-tag 0 (omega arith), (context-tag 1 (omega arith), tt))
element-tree (Descriptor (Some name) true) w = (application-tag 0 (omega arith), (context-tag 0 (omega arith), tt))
element-tree (Descriptor (Some name) false) w = (application-tag 0 (omega arith), (context-tag 0 (omega arith), (context-tag 1 (omega arith), tt)))
element-tree Enter w = application-tag 1 (omega arith)
element-tree Exit w = application-tag 2 (omega arith)
element-tree (Text class octets) w = text-tag class w
element-tree (Binary octets) w = record { class_within = omega arith; number_within = omega arith; some_value = omega arith }

-- ---- what they are read as

ok-is : (p q : Pdu) → p ≡ q → ◌≡◌ {A = Result Pdu Fault} (Ok p) (Ok q)
ok-is p q e = ap (λ (p : Pdu). let r : Result Pdu Fault = Ok p in r) e

read-found : (number : ℕ) (b : Bool) (r : Result (List Slot) Fault) (fault : Fault) (pdu : Pdu)
    → (if b then pdu_from number r else None) ≡ Some pdu → (if b then found_by number r else Err fault) ≡ Ok pdu
read-found number true (Ok all) fault pdu e = ok-is (pdu_of number all) pdu (some_is (pdu_of number all) pdu e)
read-found number true (Err other) fault pdu e = cc
read-found number false r fault pdu e = cc

tree-found : (tree : Tree) (pdu : Pdu) → meaning tree ≡ Some pdu → pdu_in tree ≡ Ok pdu
tree-found (plain tag octets) pdu e = cc
tree-found (built tag parts) pdu e = read-found tag.number (nat_eq tag.class 2 && nat_le tag.number 40) (reading (row_of tag.number) parts) (Unknown tag) pdu e

pub pdu-read : (pdu : Pdu) → IsInRange pdu → pdu_in (pdu_value pdu) ≡ Ok pdu
pdu-read pdu range = tree-found (pdu_value pdu) pdu ((is_computed (pdu_value pdu) pdu).0 (pdu-means pdu range))

pub pdu-message : (pdu : Pdu) → IsInRange pdu → message_in (pdu_value pdu) ≡ Ok (messages.Pdu pdu)
unfolding message_in
pdu-message pdu range = ap from_pdu (pdu-read pdu range)

element-read : (element : Element) → IsElement element → element_in (element_value element) ≡ Ok element
element-read element w = found (element_value element) element (element-means element w)

pub element-message : (element : Element) → IsElement element → message_in (element_value element) ≡ Ok (messages.Element element)
unfolding message_in
element-message (Descriptor name filled) w = ap from_element (element-read (Descriptor name filled) w)
element-message Enter w = ap from_element (element-read Enter w)
element-message Exit w = ap from_element (element-read Exit w)
element-message (Text class octets) w = ap from_element (element-read (Text class octets) w)
element-message (Binary octets) w = ap from_element (element-read (Binary octets) w)
