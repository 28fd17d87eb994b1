-- Simple fields as the contents of their rows.
use Rattle.std.specs.Prelude.{ℕ, zero, suc, ℤ, negsuc, List, [], ◌∷◌, Option, None, Some}
use Rattle.std.specs.Option.{option_map}
use Rattle.vf_base.specs.declared.access.Context.{Context}
use Rattle.vf_base.specs.declared.access.Context.TheVariants.{HA, FA, UA, US}
use Rattle.vf_base.specs.declared.access.FaduId.{FaduId}
use Rattle.vf_base.specs.declared.access.FaduId.TheVariants as fadus
use Rattle.vf_base.specs.declared.action.Actions.{Actions}
use Rattle.vf_base.specs.declared.action.Control.{Control}
use Rattle.vf_base.specs.declared.action.Control.TheVariants.{NotRequired, Shared, Exclusive, NoAccess}
use Rattle.vf_pdu_fields.specs.declared.controls.AttributeControls.{AttributeControls}
use Rattle.vf_pdu_fields.specs.declared.controls.ContentControls.{ContentControls}
use Rattle.vf_pdu_fields.specs.declared.operation.WriteOperation.{WriteOperation}
use Rattle.vf_pdu_fields.specs.declared.operation.WriteOperation.TheVariants as operations
use Rattle.vf_pdu_fields.specs.Content.{Content, Number, Octets, Slot}
use Rattle.vf_pdu_fields.specs.Rows.{natural}

-- a field that is there
abbrev pub num : ℕ → Slot
num n = Some (natural n)

-- a field that may be absent
abbrev pub maybe_num : Option ℕ → Slot
maybe_num n = option_map natural n

abbrev pub maybe_integer : Option ℤ → Slot
maybe_integer n = option_map Number n

abbrev pub maybe_octets : Option (List ℕ) → Slot
maybe_octets o = option_map Octets o

abbrev pub maybe_actions : Option Actions → Slot
maybe_actions actions = option_map (λ set. natural set.value) actions

abbrev pub control_octet : Control → ℕ
control_octet NotRequired = 0
control_octet Shared = 1
control_octet Exclusive = 2
control_octet NoAccess = 3

abbrev pub attribute_controls : AttributeControls → Content
attribute_controls c = Octets (control_octet c.read_attribute ∷ control_octet c.change_attribute ∷ control_octet c.delete ∷ [])

abbrev pub content_controls : ContentControls → Content
content_controls c =
    Octets (control_octet c.read ∷ control_octet c.insert ∷ control_octet c.replace ∷ control_octet c.extend ∷ control_octet c.erase ∷ [])

-- A FADU by its number (profile); there is no unit 0, so that such a request has no value.
abbrev pub fadu_slot : FaduId → Slot
fadu_slot fadus.Begin = num 0
fadu_slot fadus.End = Some (Number (negsuc 0))
fadu_slot fadus.First = Some (Number (negsuc 1))
fadu_slot fadus.Last = Some (Number (negsuc 2))
fadu_slot fadus.Current = Some (Number (negsuc 3))
fadu_slot fadus.Next = Some (Number (negsuc 4))
fadu_slot fadus.Previous = Some (Number (negsuc 5))
fadu_slot (fadus.Number zero) = None
fadu_slot (fadus.Number (suc n)) = num (suc n)

abbrev pub context_slot : Context → Slot
context_slot HA = num 0
context_slot FA = num 1
context_slot UA = num 2
context_slot US = num 3

abbrev pub operation_slot : WriteOperation → Slot
operation_slot operations.Insert = num 1
operation_slot operations.Replace = num 2
operation_slot operations.Extend = num 3
