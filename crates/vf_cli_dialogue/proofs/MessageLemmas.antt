-- A message that a value means was read: each field of a PDU is in its range, and an element can be written. So is the
-- abort of octets that mean none.
use Rattle.std.proofs.Common.{◌≡◌, ℕ, ◌≤◌, Bool, true, false, cond, ◌&&◌, ◌||◌, nat_eq, List, [], ◌∷◌, Option, None, Some, Result, Ok, Err, refl, ap, sym, subst, ◌∙◌, arith}
use Rattle.std.specs.Prelude.{nat_le}
use Rattle.std.proofs.lemmas.Bool.{and_parts, le-leb, leb-true}
use Rattle.vf_base.specs.declared.element.Element.{Element}
use Rattle.vf_base.specs.declared.element.Element.TheVariants.{Enter, Exit, Text, Binary}
use Rattle.vf_ber.specs.Primitive.{octets_in}
use Rattle.vf_ber.specs.Tree.{Tag, Tree, plain, built, Trees, root}
use Rattle.vf_elements.specs.ElementFaults.{is_descriptor, is_empty, is_mark, is_string, wrong_segment}
use Rattle.vf_elements.specs.ElementReading.{descriptor_as, descriptor_from, element_in, mark_as, octets_of_slot, string_as, string_from, told_by}
use Rattle.vf_elements.specs.ElementValue.{IsNamed, IsWritable}
use Rattle.vf_elements.specs.Elements.{descriptor, is_text, octet_string}
use Rattle.vf_elements.specs.Messages.{from_element, from_pdu, message_in}
use Rattle.vf_elements.specs.declared.message.Message.{Message}
use Rattle.vf_elements.specs.declared.message.Message.TheVariants as messages
use Rattle.vf_pdu.specs.PduComputed.{pdu_of}
use Rattle.vf_pdu.specs.PduMeaning.{IsInRange}
use Rattle.vf_pdu.specs.PduNumbers.{number_of}
use Rattle.vf_pdu.specs.PduReading.{found_by, pdu_in}
use Rattle.vf_pdu.specs.PduRows.{row_of}
use Rattle.vf_pdu.specs.PduSlots.{slots_of}
use Rattle.vf_pdu.specs.declared.pdu.Pdu.{Pdu}
use Rattle.vf_pdu.specs.declared.pdu.Pdu.TheVariants.{ProviderAbort}
use Rattle.vf_pdu.proofs.Tables.{row_is_table}
use Rattle.vf_pdu.proofs.Whole.{whole}
use Rattle.vf_pdu_fields.proofs.Found.{ok_is, reading_kept}
use Rattle.vf_pdu_fields.specs.Content.{Number, Truth, Octets, Arcs, Fields, Listed, Slot, slots}
use Rattle.vf_pdu_fields.specs.Fault.{Fault, Unknown}
use Rattle.vf_pdu_fields.specs.Meaning.{all_fit, fits}
use Rattle.vf_pdu_fields.specs.Reading.{reading}
use Rattle.vf_pdu_fields.specs.declared.limits.TheConstants.{MOST_PLACE}
use Rattle.vf_pdu_fields.specs.Rows.{Boolean, Text as TextForm, default, Row, end, field, one}
use Rattle.vf_cli_dialogue.specs.Dialogue.{outside}
use Rattle.vf_filestore.specs.Sayable.{IsReadWhole}

-- ---- PDUs

pdu_found : (number : ℕ) (parts : Trees) (pdu : Pdu) → number ≤ 40 → (read : Result (List Slot) Fault) → reading (row_of number) parts ≡ read → found_by number read ≡ Ok pdu → IsInRange pdu
pdu_found number parts pdu few (Err fault) is found = absurd cc
pdu_found number parts pdu few (Ok all) is found =
    let kept = (reading_kept (row_of number) parts all (row_is_table number) is).1 in
    let made = whole number all few kept in
    let ranged : all_fit (row_of (number_of (pdu_of number all))) (slots (slots_of (pdu_of number all))) ≡ true = (λ i. all_fit (row_of (made.1 i)) (slots (made.0 i))) ∙ kept in
    subst IsInRange (ok_is (pdu_of number all) pdu found) ranged

pdu_read : (tree : Tree) (pdu : Pdu) → pdu_in tree ≡ Ok pdu → IsInRange pdu
pdu_read (plain tag octets) pdu is = absurd cc
pdu_read (built tag parts) pdu is = by (nat_eq tag.class 2 && nat_le tag.number 40) refl is
  where
    by : (b : Bool) → (nat_eq tag.class 2 && nat_le tag.number 40) ≡ b → cond b (found_by tag.number (reading (row_of tag.number) parts)) (Err (Unknown tag)) ≡ Ok pdu → IsInRange pdu
    by true known is = pdu_found tag.number parts pdu (leb-true tag.number 40 (and_parts (nat_eq tag.class 2) (nat_le tag.number 40) known).1) (reading (row_of tag.number) parts) refl is
    by false known is = absurd cc

-- ---- elements

string_read : (tag : Tag) (octets : List ℕ) → is_string tag ≡ true → IsWritable (string_as tag octets)
string_read tag octets is = by (nat_eq tag.number octet_string) refl
  where
    by : (b : Bool) → nat_eq tag.number octet_string ≡ b → IsWritable (cond b (Binary octets) (Text tag.number octets))
    by true binary = tt
    by false binary =
        ap (λ (b : Bool). b || is_text tag.number) (sym binary) ∙ (and_parts (nat_eq tag.class 0) (nat_eq tag.number octet_string || is_text tag.number) is).1

mark_read : (tag : Tag) → IsWritable (mark_as tag)
mark_read tag = by (nat_eq tag.number 1)
  where
    by : (b : Bool) → IsWritable (cond b Enter Exit)
    by true = tt
    by false = tt

-- the fields after the name of a descriptor
abbrev filled_row : Row
filled_row = field 1 (one Boolean) (default (Truth true)) end

name_read : (name filled : Slot) → all_fit descriptor (slots (name ∷ filled ∷ [])) ≡ true → IsNamed (octets_of_slot name)
name_read None filled fit = tt
name_read (Some (Octets octets)) filled fit = (and_parts (fits (one TextForm) (Octets octets)) (all_fit filled_row (slots (filled ∷ []))) fit).0
name_read (Some (Number n)) filled fit = tt
name_read (Some (Truth truth)) filled fit = tt
name_read (Some (Arcs arcs)) filled fit = tt
name_read (Some (Fields inside)) filled fit = tt
name_read (Some (Listed inside)) filled fit = tt

descriptor_read : (all : List Slot) → all_fit descriptor (slots all) ≡ true → IsWritable (descriptor_as all)
descriptor_read [] fit = tt
descriptor_read (name ∷ []) fit = tt
descriptor_read (name ∷ filled ∷ []) fit = name_read name filled fit
descriptor_read (name ∷ filled ∷ more ∷ all) fit = tt

plain_read : (tag : Tag) (octets : List ℕ) (element : Element) → element_in (plain tag octets) ≡ Ok element → IsWritable element
plain_read tag octets element is = by (is_string tag) refl (is_mark tag && is_empty octets) is
  where
    by : (a : Bool) → is_string tag ≡ a → (b : Bool) → cond a (Ok (string_as tag octets)) (cond b (Ok (mark_as tag)) (Err (Unknown tag))) ≡ Ok element → IsWritable element
    by true string b is = subst IsWritable (ok_is (string_as tag octets) element is) (string_read tag octets string)
    by false string true is = subst IsWritable (ok_is (mark_as tag) element is) (mark_read tag)
    by false string false is = absurd cc

strings_read : (tag : Tag) (parts : Trees) (element : Element) → is_string tag ≡ true → (found : Option (List ℕ)) → string_from tag parts found ≡ Ok element → IsWritable element
strings_read tag parts element string (Some octets) is = subst IsWritable (ok_is (string_as tag octets) element is) (string_read tag octets string)
strings_read tag parts element string None is = by (wrong_segment 0 parts) is
  where
    by : (fault : Option Fault) → told_by tag fault ≡ Ok element → IsWritable element
    by None is = absurd cc
    by (Some fault) is = absurd cc

descriptors_read : (parts : Trees) (element : Element) (read : Result (List Slot) Fault) → reading descriptor parts ≡ read → descriptor_from read ≡ Ok element → IsWritable element
descriptors_read parts element (Err fault) e is = absurd cc
descriptors_read parts element (Ok all) e is = subst IsWritable (ok_is (descriptor_as all) element is) (descriptor_read all (reading_kept descriptor parts all refl e).1)

built_read : (tag : Tag) (parts : Trees) (element : Element) → element_in (built tag parts) ≡ Ok element → IsWritable element
built_read tag parts element is = by (is_string tag) refl (is_descriptor tag) is
  where
    by : (a : Bool) → is_string tag ≡ a → (b : Bool) → cond a (string_from tag parts (octets_in parts)) (cond b (descriptor_from (reading descriptor parts)) (Err (Unknown tag))) ≡ Ok element → IsWritable element
    by true string b is = strings_read tag parts element string (octets_in parts) is
    by false string true is = descriptors_read parts element (reading descriptor parts) refl is
    by false string false is = absurd cc

element_read : (tree : Tree) (element : Element) → element_in tree ≡ Ok element → IsWritable element
element_read (plain tag octets) element is = plain_read tag octets element is
element_read (built tag parts) element is = built_read tag parts element is

-- ---- messages

from_pdu_read : (message : Message) (read : Result Pdu Fault) → ((pdu : Pdu) → read ≡ Ok pdu → IsInRange pdu) → from_pdu read ≡ Ok message → IsReadWhole message
from_pdu_read message (Err fault) ranged is = absurd cc
from_pdu_read message (Ok pdu) ranged is = subst IsReadWhole (ok_is (messages.Pdu pdu) message is) (ranged pdu refl)

from_element_read : (message : Message) (read : Result Element Fault) → ((element : Element) → read ≡ Ok element → IsWritable element) → from_element read ≡ Ok message → IsReadWhole message
from_element_read message (Err fault) written is = absurd cc
from_element_read message (Ok element) written is = subst IsReadWhole (ok_is (messages.Element element) message is) (written element refl)

pub message_read : (tree : Tree) (message : Message) → message_in tree ≡ Ok message → IsReadWhole message
unfolding message_in
message_read tree message is = by (nat_eq (root tree).class 2) is
  where
    by : (b : Bool) → cond b (from_pdu (pdu_in tree)) (from_element (element_in tree)) ≡ Ok message → IsReadWhole message
    by true is = from_pdu_read message (pdu_in tree) (λ pdu. pdu_read tree pdu) is
    by false is = from_element_read message (element_in tree) (λ element. element_read tree element) is

-- ---- the abort of octets that are none

pub outside_told : (place : ℕ) → place ≤ 4294967295 → IsInRange (ProviderAbort outside place)
unfolding row_of
outside_told place few =
    let least = le-leb 0 place (omega arith) in
    let most = le-leb place MOST_PLACE (omega (arith, few)) in
    λ i. (least i && most i) && true
