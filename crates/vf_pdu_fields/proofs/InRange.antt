-- Ranges slot by slot, and types whose values are in range.
use Rattle.std.proofs.Common.{◌≡◌, ℕ, Bool, true, List, [], ◌∷◌, refl, ap}
use Rattle.std.specs.Prelude.{◌&&◌, Some, None}
use Rattle.vf_base.specs.declared.access.Context.{Context}
use Rattle.vf_base.specs.declared.access.Context.TheVariants.{HA, FA, UA, US}
use Rattle.vf_base.specs.declared.action.Control.{Control}
use Rattle.vf_base.specs.declared.action.Control.TheVariants.{NotRequired, Shared, Exclusive, NoAccess}
use Rattle.vf_pdu_fields.specs.Content.{Slot, slots}
use Rattle.vf_pdu_fields.specs.Forms.{is_control}
use Rattle.vf_pdu_fields.specs.InRange.{slot_fits, slots_fit}
use Rattle.vf_pdu_fields.specs.Meaning.{all_fit, fits}
use Rattle.vf_pdu_fields.specs.Rows.{Controls, required, optional, default, one, Row, end, field, int, or}
use Rattle.vf_pdu_fields.specs.Slots.{attribute_controls, content_controls, context_slot, control_octet, operation_slot}
use Rattle.vf_pdu_fields.specs.declared.controls.AttributeControls.{AttributeControls}
use Rattle.vf_pdu_fields.specs.declared.controls.ContentControls.{ContentControls}
use Rattle.vf_pdu_fields.specs.declared.operation.WriteOperation.{WriteOperation}
use Rattle.vf_pdu_fields.specs.declared.operation.WriteOperation.TheVariants as operations

pub by_slots : (row : Row) (all : List Slot) → all_fit row (slots all) ≡ slots_fit row all
by_slots end [] = refl
by_slots end (Some content ∷ all) = refl
by_slots end (None ∷ all) = refl
by_slots (field number form need row) [] = refl
by_slots (field number form need row) (Some content ∷ all) = ap (λ (b : Bool). fits form content && b) (by_slots row all)
by_slots (field number form required row) (None ∷ all) = refl
by_slots (field number form optional row) (None ∷ all) = by_slots row all
by_slots (field number form (default content) row) (None ∷ all) = refl

control_fits : (control : Control) → is_control (control_octet control) ≡ true
control_fits NotRequired = refl
control_fits Shared = refl
control_fits Exclusive = refl
control_fits NoAccess = refl

pub attribute_controls_fit : (c : AttributeControls) → fits (one (Controls 3)) (attribute_controls c) ≡ true
attribute_controls_fit c = rw (control_fits c.read_attribute, control_fits c.change_attribute, control_fits c.delete) refl

pub content_controls_fit : (c : ContentControls) → fits (one (Controls 5)) (content_controls c) ≡ true
content_controls_fit c = rw (control_fits c.read, control_fits c.insert, control_fits c.replace, control_fits c.extend, control_fits c.erase) refl

pub context_fits : (context : Context) → slot_fits (int 0 3) (or 2) (context_slot context) ≡ true
context_fits HA = refl
context_fits FA = refl
context_fits UA = refl
context_fits US = refl

pub operation_fits : (operation : WriteOperation) → slot_fits (int 1 3) required (operation_slot operation) ≡ true
operation_fits operations.Insert = refl
operation_fits operations.Replace = refl
operation_fits operations.Extend = refl

pub ruleset in_range = (attribute_controls_fit, content_controls_fit, context_fits, operation_fits)
