-- Contents back to what they are the contents of.
use Rattle.std.proofs.Common.{◌≡◌, ℕ, zero, suc, List, [], ◌∷◌, refl, ap}
use Rattle.std.specs.Prelude.{ℤ, Option, Some, None}
use Rattle.std.specs.Option.{option_map}
use Rattle.vf_base.specs.declared.access.Context.{Context}
use Rattle.vf_base.specs.declared.access.Context.TheVariants.{HA, FA, UA, US}
use Rattle.vf_base.specs.declared.access.FaduId.{FaduId}
use Rattle.vf_base.specs.declared.access.FaduId.TheVariants as fadus
use Rattle.vf_base.specs.declared.action.Actions.{Actions}
use Rattle.vf_base.specs.declared.action.Control.{Control}
use Rattle.vf_base.specs.declared.action.Control.TheVariants.{NotRequired, Shared, Exclusive, NoAccess}
use Rattle.vf_pdu_fields.specs.Contained.{actions_in, attribute_controls_in, content_controls_in, context_in, control_in, fadu_in, integer_in, item_list, number_in, octets_in, operation_in, slot_list}
use Rattle.vf_pdu_fields.specs.Content.{Content, Number, Octets, Slots, Slot, slots, items_of}
use Rattle.vf_pdu_fields.specs.Rows.{natural}
use Rattle.vf_pdu_fields.specs.Slots.{attribute_controls, content_controls, context_slot, control_octet, fadu_slot, maybe_actions, maybe_integer, maybe_num, maybe_octets, operation_slot}
use Rattle.vf_pdu_fields.specs.declared.controls.AttributeControls.{AttributeControls}
use Rattle.vf_pdu_fields.specs.declared.controls.ContentControls.{ContentControls}
use Rattle.vf_pdu_fields.specs.declared.operation.WriteOperation.{WriteOperation}
use Rattle.vf_pdu_fields.specs.declared.operation.WriteOperation.TheVariants as operations

pub slot_list-slots : (all : List Slot) → slot_list (slots all) ≡ all
slot_list-slots [] = refl
slot_list-slots (Some content ∷ rest) = ap (λ (l : List Slot). Some content ∷ l) (slot_list-slots rest)
slot_list-slots (None ∷ rest) = ap (λ (l : List Slot). None ∷ l) (slot_list-slots rest)

pub item_list-items : (all : List Slots) → item_list (items_of all) ≡ all
item_list-items [] = refl
item_list-items (first ∷ rest) = ap (λ (l : List Slots). first ∷ l) (item_list-items rest)

control_back : (control : Control) → control_in (control_octet control) ≡ control
control_back NotRequired = refl
control_back Shared = refl
control_back Exclusive = refl
control_back NoAccess = refl

pub attribute_controls_back : (controls : AttributeControls) → attribute_controls_in (attribute_controls controls) ≡ controls
attribute_controls_back c = rw (control_back c.read_attribute, control_back c.change_attribute, control_back c.delete) refl

pub content_controls_back : (controls : ContentControls) → content_controls_in (content_controls controls) ≡ controls
content_controls_back c = rw (control_back c.read, control_back c.insert, control_back c.replace, control_back c.extend, control_back c.erase) refl

pub fadu_back : (fadu : FaduId) → fadu_in (fadu_slot fadu) ≡ fadu
fadu_back fadus.Begin = refl
fadu_back fadus.End = refl
fadu_back fadus.First = refl
fadu_back fadus.Last = refl
fadu_back fadus.Current = refl
fadu_back fadus.Next = refl
fadu_back fadus.Previous = refl
fadu_back (fadus.Number zero) = refl
fadu_back (fadus.Number (suc n)) = refl

pub context_back : (context : Context) → context_in (context_slot context) ≡ context
context_back HA = refl
context_back FA = refl
context_back UA = refl
context_back US = refl

pub operation_back : (operation : WriteOperation) → operation_in (operation_slot operation) ≡ operation
operation_back operations.Insert = refl
operation_back operations.Replace = refl
operation_back operations.Extend = refl

-- what may be absent
pub mapped : {A : Type 0} (to : A → Content) (back : Content → A) → ((x : A) → back (to x) ≡ x) → (o : Option A) → option_map back (option_map to o) ≡ o
mapped to back same None = refl
mapped to back same (Some x) = ap (λ y. Some y) (same x)

pub octets_back : (o : Option (List ℕ)) → option_map octets_in (maybe_octets o) ≡ o
octets_back o = mapped Octets octets_in (λ x. refl) o

pub number_back : (o : Option ℕ) → option_map number_in (maybe_num o) ≡ o
number_back o = mapped natural number_in (λ x. refl) o

pub integer_back : (o : Option ℤ) → option_map integer_in (maybe_integer o) ≡ o
integer_back o = mapped Number integer_in (λ x. refl) o

pub actions_back : (o : Option Actions) → option_map actions_in (maybe_actions o) ≡ o
actions_back o = mapped (λ set. natural set.value) actions_in (λ x. refl) o
