-- What is read of a value has each field in its range.
use Rattle.std.proofs.Common.{◌≡◌, ℕ, Bool, true, false, cond, nat_eq, nat_le, List, [], ◌∷◌, refl, ap, Option, None, Some, Result, Ok, Err, rules}
use Rattle.std.specs.Prelude.{◌&&◌, ◌||◌, IsTrue}
use Rattle.std.proofs.lemmas.Bool.{and_parts}
use Rattle.vf_base.specs.Name.{is_name}
use Rattle.vf_base.specs.declared.element.Element.{Element}
use Rattle.vf_base.specs.declared.element.Element.TheVariants.{Enter, Exit, Text, Binary}
use Rattle.vf_ber.specs.Primitive.{octets_in}
use Rattle.vf_ber.specs.Tree.{Tag, Tree, Trees, plain, built, root}
use Rattle.vf_elements.specs.ElementFaults.{is_descriptor, is_empty, is_mark, is_string, wrong_segment}
use Rattle.vf_elements.specs.ElementReading.{descriptor_as, descriptor_from, element_in, mark_as, octets_of_slot, string_as, string_from, told_by}
use Rattle.vf_elements.specs.ElementValue.{IsNamed, IsWritable}
use Rattle.vf_elements.specs.Elements.{descriptor, is_text, octet_string}
use Rattle.vf_elements.specs.Messages.{from_element, from_pdu, message_in}
use Rattle.vf_elements.specs.declared.message.Message.{Message}
use Rattle.vf_elements.specs.declared.message.Message.TheVariants as messages
use Rattle.vf_pdu.specs.PduComputed.{meaning, pdu_from, pdu_of}
use Rattle.vf_pdu.specs.PduMeaning.{IsInRange}
use Rattle.vf_pdu.specs.PduReading.{found_by, pdu_in}
use Rattle.vf_pdu.specs.PduRows.{row_of}
use Rattle.vf_pdu.specs.declared.pdu.Pdu.{Pdu}
use Rattle.vf_pdu.proofs.Computed.{is_computed}
use Rattle.vf_pdu_fields.specs.Content.{Arcs, Fields, Listed, Number, Octets, Slot, Truth, slots}
use Rattle.vf_pdu_fields.specs.Fault.{Fault, Unknown}
use Rattle.vf_pdu_fields.specs.Meaning.{all_fit}
use Rattle.vf_pdu_fields.specs.Reading.{reading}
use Rattle.vf_pdu_fields.specs.Rows.{Boolean, default, end, field, one}
use Rattle.vf_pdu_fields.proofs.Found.{reading_kept}

-- ---- PDUs

abbrev pub IsReadPdu : Result Pdu Fault → Type 0
IsReadPdu (Ok pdu) = IsInRange pdu
IsReadPdu (Err fault) = Unit {0}

found-meant : (b : Bool) (number : ℕ) (r : Result (List Slot) Fault) (fault : Fault) (pdu : Pdu) → cond b (found_by number r) (Err fault) ≡ Ok pdu → cond b (pdu_from number r) None ≡ Some pdu
found-meant true number (Ok all) fault pdu e = let same : pdu_of number all ≡ pdu = cc in ap (λ (p : Pdu). let x : Option Pdu = Some p in x) same
found-meant true number (Err other) fault pdu e = absurd cc
found-meant false number r fault pdu e = absurd cc

pdu-meant : (tree : Tree) (pdu : Pdu) → pdu_in tree ≡ Ok pdu → meaning tree ≡ Some pdu
pdu-meant (plain tag octets) pdu e = absurd cc
pdu-meant (built tag parts) pdu e =
    found-meant (nat_eq tag.class 2 && nat_le tag.number 40) tag.number (reading (row_of tag.number) parts) (Unknown tag) pdu e

pdu-by : (tree : Tree) (r : Result Pdu Fault) → pdu_in tree ≡ r → IsReadPdu r
pdu-by tree (Ok pdu) e = ((is_computed tree pdu).1 (pdu-meant tree pdu e)).in_range
pdu-by tree (Err fault) e = tt

pub pdu-read : (tree : Tree) → IsReadPdu (pdu_in tree)
pdu-read tree = pdu-by tree (pdu_in tree) refl

-- ---- data elements

abbrev pub IsReadElement : Result Element Fault → Type 0
IsReadElement (Ok element) = IsWritable element
IsReadElement (Err fault) = Unit {0}

pick-element : (b : Bool) (x y : Result Element Fault) → (b ≡ true → IsReadElement x) → IsReadElement y → IsReadElement (cond b x y)
pick-element true x y p q = p refl
pick-element false x y p q = q

pick-writable : (b : Bool) (x y : Element) → IsWritable x → (b ≡ false → IsWritable y) → IsWritable (cond b x y)
pick-writable true x y p q = p
pick-writable false x y p q = q refl

text-class : (a b c : Bool) → (a && (b || c)) ≡ true → b ≡ false → IsTrue c
text-class true true c e f = absurd cc
text-class true false c e f = search rules
text-class false b c e f = absurd cc

string-writable : (tag : Tag) (octets : List ℕ) → is_string tag ≡ true → IsWritable (string_as tag octets)
string-writable tag octets e =
    pick-writable (nat_eq tag.number octet_string) (Binary octets) (Text tag.number octets) tt
    (λ other. text-class (nat_eq tag.class 0) (nat_eq tag.number octet_string) (is_text tag.number) e other)

mark-writable : (tag : Tag) → IsWritable (mark_as tag)
mark-writable tag = pick-writable (nat_eq tag.number 1) Enter Exit tt (λ other. tt)

fault-read : (tag : Tag) (fault : Option Fault) → IsReadElement (told_by tag fault)
fault-read tag None = tt
fault-read tag (Some fault) = tt

string-read : (tag : Tag) (parts : Trees) (octets : Option (List ℕ)) → is_string tag ≡ true → IsReadElement (string_from tag parts octets)
string-read tag parts None e = fault-read tag (wrong_segment 0 parts)
string-read tag parts (Some octets) e = string-writable tag octets e

-- the name of a descriptor is one
name-read : (name : Slot) (later : List Slot) → all_fit descriptor (slots (name ∷ later)) ≡ true → IsNamed (octets_of_slot name)
name-read None later e = tt
name-read (Some (Number n)) later e = tt
name-read (Some (Truth b)) later e = tt
name-read (Some (Octets octets)) later e = (and_parts (is_name octets) (all_fit (field 1 (one Boolean) (default (Truth true)) end) (slots later)) e).0
name-read (Some (Arcs arcs)) later e = tt
name-read (Some (Fields inside)) later e = tt
name-read (Some (Listed inside)) later e = tt

descriptor-writable : (all : List Slot) → all_fit descriptor (slots all) ≡ true → IsWritable (descriptor_as all)
descriptor-writable [] e = tt
descriptor-writable (name ∷ []) e = tt
descriptor-writable (name ∷ filled ∷ []) e = name-read name (filled ∷ []) e
descriptor-writable (name ∷ filled ∷ other ∷ others) e = tt

descriptor-by : (parts : Trees) (r : Result (List Slot) Fault) → reading descriptor parts ≡ r → IsReadElement (descriptor_from r)
descriptor-by parts (Ok all) e = descriptor-writable all (reading_kept descriptor parts all refl e).1
descriptor-by parts (Err fault) e = tt

pub element-read : (tree : Tree) → IsReadElement (element_in tree)
element-read (plain tag octets) =
    pick-element (is_string tag) (Ok (string_as tag octets)) (cond (is_mark tag && is_empty octets) (Ok (mark_as tag)) (Err (Unknown tag))) (string-writable tag octets)
    (pick-element (is_mark tag && is_empty octets) (Ok (mark_as tag)) (Err (Unknown tag)) (λ mark. mark-writable tag) tt)
element-read (built tag parts) =
    pick-element (is_string tag) (string_from tag parts (octets_in parts)) (cond (is_descriptor tag) (descriptor_from (reading descriptor parts)) (Err (Unknown tag)))
    (string-read tag parts (octets_in parts))
    (pick-element (is_descriptor tag) (descriptor_from (reading descriptor parts)) (Err (Unknown tag)) (λ is. descriptor-by parts (reading descriptor parts) refl) tt)

-- ---- messages

abbrev pub IsReadMessage : Result Message Fault → Type 0
IsReadMessage (Ok (messages.Pdu pdu)) = IsInRange pdu
IsReadMessage (Ok (messages.Element element)) = IsWritable element
IsReadMessage (Ok message) = Unit {0}
IsReadMessage (Err fault) = Unit {0}

from-pdu : (r : Result Pdu Fault) → IsReadPdu r → IsReadMessage (from_pdu r)
from-pdu (Ok pdu) h = h
from-pdu (Err fault) h = tt

from-element : (r : Result Element Fault) → IsReadElement r → IsReadMessage (from_element r)
from-element (Ok element) h = h
from-element (Err fault) h = tt

pick-message : (b : Bool) (x y : Result Message Fault) → IsReadMessage x → IsReadMessage y → IsReadMessage (cond b x y)
pick-message true x y p q = p
pick-message false x y p q = q

pub message-read : (tree : Tree) → IsReadMessage (message_in tree)
unfolding message_in
message-read tree =
    pick-message (nat_eq (root tree).class 2) (from_pdu (pdu_in tree)) (from_element (element_in tree))
    (from-pdu (pdu_in tree) (pdu-read tree)) (from-element (element_in tree) (element-read tree))
