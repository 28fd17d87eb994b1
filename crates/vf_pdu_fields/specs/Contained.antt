-- What contents are the contents of: simple fields from their slots. Contents of another form than the field's stand for
-- anything, since no PDU has them.
use Rattle.std.specs.Prelude.{ℕ, zero, suc, ℤ, pos, negsuc, Bool, true, List, [], ◌∷◌, get_or, None, Some}
use Rattle.vf_base.specs.declared.access.Context.{Context}
use Rattle.vf_base.specs.declared.access.Context.TheVariants.{HA, FA, UA, US}
use Rattle.vf_base.specs.declared.access.FaduId.{FaduId}
use Rattle.vf_base.specs.declared.access.FaduId.TheVariants as fadus
use Rattle.vf_base.specs.declared.action.Actions.{Actions}
use Rattle.vf_base.specs.declared.action.Control.{Control}
use Rattle.vf_base.specs.declared.action.Control.TheVariants.{NotRequired, Shared, Exclusive, NoAccess}
use Rattle.vf_pdu_fields.specs.declared.controls.AttributeControls.{AttributeControls}
use Rattle.vf_pdu_fields.specs.declared.controls.ContentControls.{ContentControls}
use Rattle.vf_pdu_fields.specs.declared.operation.WriteOperation.{WriteOperation}
use Rattle.vf_pdu_fields.specs.declared.operation.WriteOperation.TheVariants as operations
use Rattle.vf_pdu_fields.specs.Content.{Content, Number, Truth, Octets, Arcs, Fields, Listed, Slots, nil, present, absent, Items, nothing, item, Slot}

abbrev pub there : Slot → Content
there None = Number (pos 0)
there (Some content) = content

-- the slot of this index, from 0 on
abbrev pub slot_in : ℕ → List Slot → Slot
slot_in place all = get_or all place None

-- slots as a list
abbrev pub slot_list : Slots → List Slot
slot_list nil = []
slot_list (present content rest) = Some content ∷ slot_list rest
slot_list (absent rest) = None ∷ slot_list rest

abbrev pub item_list : Items → List Slots
item_list nothing = []
item_list (item first rest) = first ∷ item_list rest

abbrev pub natural_of : ℤ → ℕ
natural_of (pos n) = n
natural_of (negsuc n) = 0

abbrev pub integer_in : Content → ℤ
integer_in (Number n) = n
integer_in _ = pos 0

abbrev pub number_in : Content → ℕ
number_in content = natural_of (integer_in content)

abbrev pub truth_in : Content → Bool
truth_in (Truth truth) = truth
truth_in _ = true

abbrev pub octets_in : Content → List ℕ
octets_in (Octets octets) = octets
octets_in _ = []

abbrev pub arcs_in : Content → List ℕ
arcs_in (Arcs arcs) = arcs
arcs_in _ = []

abbrev pub actions_in : Content → Actions
actions_in content = record { value = number_in content }

abbrev pub inside : Content → List Slot
inside (Fields fields) = slot_list fields
inside _ = []

abbrev pub items_in : Content → List Slots
items_in (Listed items) = item_list items
items_in _ = []

abbrev pub control_in : ℕ → Control
control_in zero = NotRequired
control_in (suc zero) = Shared
control_in (suc (suc zero)) = Exclusive
control_in (suc (suc (suc n))) = NoAccess

abbrev pub octet_in : ℕ → Content → ℕ
octet_in place content = get_or (octets_in content) place 0

abbrev pub attribute_controls_in : Content → AttributeControls
attribute_controls_in content = record {
  read_attribute = control_in (octet_in 0 content);
  change_attribute = control_in (octet_in 1 content);
  delete = control_in (octet_in 2 content);
}

abbrev pub content_controls_in : Content → ContentControls
content_controls_in content = record {
  read = control_in (octet_in 0 content);
  insert = control_in (octet_in 1 content);
  replace = control_in (octet_in 2 content);
  extend = control_in (octet_in 3 content);
  erase = control_in (octet_in 4 content);
}

abbrev pub unit_in : ℕ → FaduId
unit_in zero = fadus.Begin
unit_in (suc n) = fadus.Number (suc n)

abbrev pub fadu_at : ℤ → FaduId
fadu_at (pos n) = unit_in n
fadu_at (negsuc zero) = fadus.End
fadu_at (negsuc (suc zero)) = fadus.First
fadu_at (negsuc (suc (suc zero))) = fadus.Last
fadu_at (negsuc (suc (suc (suc zero)))) = fadus.Current
fadu_at (negsuc (suc (suc (suc (suc zero))))) = fadus.Next
fadu_at (negsuc (suc (suc (suc (suc (suc n)))))) = fadus.Previous

abbrev pub fadu_in : Slot → FaduId
fadu_in None = fadus.Number 0
fadu_in (Some content) = fadu_at (integer_in content)

abbrev pub context_at : ℕ → Context
context_at zero = HA
context_at (suc zero) = FA
context_at (suc (suc zero)) = UA
context_at (suc (suc (suc n))) = US

abbrev pub context_in : Slot → Context
context_in slot = context_at (number_in (there slot))

abbrev pub operation_at : ℕ → WriteOperation
operation_at zero = operations.Insert
operation_at (suc zero) = operations.Insert
operation_at (suc (suc zero)) = operations.Replace
operation_at (suc (suc (suc n))) = operations.Extend

abbrev pub operation_in : Slot → WriteOperation
operation_in slot = operation_at (number_in (there slot))
