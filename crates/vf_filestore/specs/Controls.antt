-- The controls of one holder on each action (ISO 8571-2, concurrency control). Those on the actions that read, change
-- or delete attributes and files come with the selection, the others with the open.
use Rattle.std.specs.Prelude.{Bool, not, ◌||◌, List, [], ◌∷◌, Option, None, Some, if◌then◌else◌}
use Rattle.std.specs.List.{list_all}
use Rattle.vf_attr.specs.Access.{has}
use Rattle.vf_base.specs.declared.action.Action.{Action}
use Rattle.vf_base.specs.declared.action.Action.TheVariants as actions
use Rattle.vf_base.specs.declared.action.Actions.{Actions}
use Rattle.vf_base.specs.declared.action.Control.{Control}
use Rattle.vf_base.specs.declared.action.Control.TheVariants.{NotRequired, Shared}
use Rattle.vf_base.specs.declared.action.Controls.{Controls}
use Rattle.vf_locks.specs.Clash.{is_use}
use Rattle.vf_pdu_fields.specs.declared.controls.AttributeControls.{AttributeControls}
use Rattle.vf_pdu_fields.specs.declared.controls.ContentControls.{ContentControls}

-- absent controls are shared for the actions that are asked for, and not required for the others (profile)
abbrev pub control_for : Actions → Action → Control
control_for asked action = if has asked action then Shared else NotRequired

abbrev pub attribute_controls : Actions → Option AttributeControls → AttributeControls
attribute_controls asked (Some controls) = controls
attribute_controls asked None = record {
  read_attribute = control_for asked actions.ReadAttribute;
  change_attribute = control_for asked actions.ChangeAttribute;
  delete = control_for asked actions.Delete;
}

abbrev pub content_controls : Actions → Option ContentControls → ContentControls
content_controls asked (Some controls) = controls
content_controls asked None = record {
  read = control_for asked actions.Read;
  insert = control_for asked actions.Insert;
  replace = control_for asked actions.Replace;
  extend = control_for asked actions.Extend;
  erase = control_for asked actions.Erase;
}

-- those of a file that is selected and not open
abbrev pub not_opened : ContentControls
not_opened = content_controls (record { value = 0 }) None

-- what an action that is asked for needs: a control by which its holder may do it, shared or exclusive
abbrev pub is_usable : Actions → Action → Control → Bool
is_usable asked action control = not (has asked action) || is_use control

abbrev pub are_all_usable : Actions → List (Action × Control) → Bool
are_all_usable asked controls = list_all (λ (one : Action × Control). is_usable asked one.0 one.1) controls

abbrev pub attributes_usable : Actions → AttributeControls → Bool
attributes_usable asked controls = are_all_usable asked (
    (actions.ReadAttribute, controls.read_attribute) ∷
    (actions.ChangeAttribute, controls.change_attribute) ∷
    (actions.Delete, controls.delete) ∷ [])

abbrev pub contents_usable : Actions → ContentControls → Bool
contents_usable asked controls = are_all_usable asked (
    (actions.Read, controls.read) ∷
    (actions.Insert, controls.insert) ∷
    (actions.Replace, controls.replace) ∷
    (actions.Extend, controls.extend) ∷
    (actions.Erase, controls.erase) ∷ [])

-- both together, in the order of the actions
abbrev pub joined : ContentControls → AttributeControls → Controls
joined contents attributes = record {
  each =
      contents.read ∷ contents.insert ∷ contents.replace ∷ contents.extend ∷ contents.erase
      ∷ attributes.read_attribute ∷ attributes.change_attribute ∷ attributes.delete ∷ [];
}
