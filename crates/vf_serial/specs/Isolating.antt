-- Which open regimes isolate (ISO 8571-2, concurrency control; the rule is profile): while one holds, nobody else does
-- to the file what would change what it reads, or be changed by what it does.
use Rattle.std.specs.Prelude.{Bool, not, ◌&&◌, ◌||◌, if◌then◌else◌}
use Rattle.vf_attr.specs.Access.{has}
use Rattle.vf_base.specs.declared.action.Action.TheVariants as actions
use Rattle.vf_base.specs.declared.action.Action.{Action}
use Rattle.vf_base.specs.declared.action.Actions.{Actions}
use Rattle.vf_base.specs.declared.action.Control.{Control}
use Rattle.vf_base.specs.declared.action.Control.TheVariants.{Shared, Exclusive, NoAccess}
use Rattle.vf_locks.specs.Clash.{is_bar}
use Rattle.vf_pdu_fields.specs.declared.controls.ContentControls.{ContentControls}
use Rattle.vf_filestore.specs.Controls.{contents_usable}
use Rattle.vf_filestore.specs.History.{Regime}

abbrev pub may_read : Actions → Bool
may_read mode = has mode actions.Read

abbrev pub may_change : Actions → Bool
may_change mode =
    has mode actions.Insert || has mode actions.Replace || has mode actions.Extend || has mode actions.Erase

-- nobody else may change the contents
abbrev pub bars_changes : ContentControls → Bool
bars_changes controls = is_bar controls.insert && is_bar controls.replace && is_bar controls.extend && is_bar controls.erase

-- and nobody else may read them either
abbrev pub bars_all : ContentControls → Bool
bars_all controls = is_bar controls.read && bars_changes controls

-- A regime isolates where its controls let it do what its mode has, where one that reads bars all changes, and where
-- one that changes bars reading too.
abbrev pub isolates : Regime → Bool
isolates regime =
    contents_usable regime.mode regime.controls
    && (not (may_read regime.mode) || bars_changes regime.controls)
    && (not (may_change regime.mode) || bars_all regime.controls)

-- The controls by which a mode isolates: what is in it is exclusive where it changes the contents, and else shared, and
-- nobody does what isn't in it.
abbrev pub isolating_control : Actions → Action → Control
isolating_control mode action = if has mode action then (if may_change mode then Exclusive else Shared) else NoAccess

abbrev pub isolating_controls : Actions → ContentControls
isolating_controls mode = record {
  read = isolating_control mode actions.Read;
  insert = isolating_control mode actions.Insert;
  replace = isolating_control mode actions.Replace;
  extend = isolating_control mode actions.Extend;
  erase = isolating_control mode actions.Erase;
}
