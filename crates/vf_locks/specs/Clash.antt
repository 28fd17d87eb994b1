-- When the controls of two holders clash (ISO 8571-2, concurrency control), and what stands against a request.
use Rattle.std.specs.Prelude.{Bool, true, false, ◌&&◌, ◌||◌, List, [], ◌∷◌, Option, None, slice_get, option_and_then}
use Rattle.std.specs.List.{position_from, zip}
use Rattle.std.specs.Option.{option_map, option_or}
use Rattle.vf_base.specs.declared.action.Action.{Action}
use Rattle.vf_base.specs.declared.action.Action.TheVariants.{Read, Insert, Replace, Extend, Erase, ReadAttribute, ChangeAttribute, Delete}
use Rattle.vf_base.specs.declared.action.Control.{Control}
use Rattle.vf_base.specs.declared.action.Control.TheVariants.{NotRequired, Shared, Exclusive, NoAccess}
use Rattle.vf_base.specs.declared.action.Controls.{Controls}
use Rattle.vf_locks.specs.declared.conflict.Conflict.{Conflict}
use Rattle.vf_locks.specs.declared.held.Held.{Held}
use Rattle.vf_locks.specs.declared.holder.Holder.{Holder}
use Rattle.vf_locks.specs.Holders.{others}

-- the holder may do the action
abbrev pub is_use : Control → Bool
is_use NotRequired = false
is_use Shared = true
is_use Exclusive = true
is_use NoAccess = false

-- no other holder may do the action
abbrev pub is_bar : Control → Bool
is_bar NotRequired = false
is_bar Shared = false
is_bar Exclusive = true
is_bar NoAccess = true

-- one side may do what the other bars
abbrev pub clash : Control → Control → Bool
clash one other = (is_use one && is_bar other) || (is_bar one && is_use other)

abbrev pub actions : List Action
actions = Read ∷ Insert ∷ Replace ∷ Extend ∷ Erase ∷ ReadAttribute ∷ ChangeAttribute ∷ Delete ∷ []

-- the lowest action on which the controls clash
abbrev pub lowest_clash : Controls → Controls → Option Action
lowest_clash wanted held = option_and_then (slice_get actions) (position_from (λ (pair : Control × Control). clash pair.0 pair.1) 0 (zip wanted.each held.each))

abbrev pub against : Held → Option Action → Option Conflict
against held action = option_map (λ (action : Action). record { holder = held.holder; action = action }) action

-- the first of these that stands against the controls
abbrev pub first_against : Controls → List Held → Option Conflict
first_against wanted [] = None
first_against wanted (held ∷ later) = option_or (against held (lowest_clash wanted held.controls)) (first_against wanted later)

-- the first other holder that stands against what this one wants, with the lowest action
abbrev pub conflict : Holder → Controls → List Held → Option Conflict
conflict holder wanted helds = first_against wanted (others holder helds)
