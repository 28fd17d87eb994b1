-- The innermost regime of a party (ISO 8571-4, file service regimes; the stages are profile), and the group that waits
-- for its end.
use Rattle.std.specs.Prelude.{ℕ, Bool, List, [], ◌∷◌, ◌++◌, Option, None, Some, is_some, option_map, if◌then◌else◌}
use Rattle.vf_elements.specs.declared.message.Message.{Message}
use Rattle.vf_elements.specs.declared.message.Message.TheVariants as messages
use Rattle.vf_elements.specs.declared.stage.Stage.{Stage}
use Rattle.vf_elements.specs.declared.stage.Stage.TheVariants as stages
use Rattle.vf_pdu.specs.declared.pdu.Pdu.{Pdu}
use Rattle.vf_pdu.specs.declared.pdu.Pdu.TheVariants.{BeginGroupRequest, EndGroupRequest}
use Rattle.vf_filestore.specs.History.{Association, History, Regime, Selection, association, regime, selection}
use Rattle.vf_filestore.specs.State.{StandingParty}
use Rattle.vf_filestore.specs.Transfers.{Movement, Reads, Writes, Transfer, data_end, under_way, was_shown}

abbrev pub moving_stage : Movement → (ended shown : Bool) → Stage
moving_stage (Reads fadu context) ended shown = if shown then stages.Shown else stages.Reading
moving_stage (Writes operation fadu) ended shown = if ended then stages.Written else stages.Writing

abbrev pub stage_by : Option Association → Option Selection → Option Regime → Option Transfer → (ended shown : Bool) → Stage
stage_by association selection regime (Some transfer) ended shown = moving_stage transfer.movement ended shown
stage_by association selection (Some regime) None ended shown = stages.Opened
stage_by association (Some selection) None None ended shown = stages.Selected
stage_by (Some association) None None None ended shown = stages.Associated
stage_by None None None None ended shown = stages.Idle

-- the innermost regime that stands, and how far a transfer in it has come
abbrev pub regime_stage : History → Stage
regime_stage history =
    stage_by (association history) (selection history) (regime history) (under_way history) (is_some (data_end history)) (was_shown history)

-- a group that isn't ended: how many of its items have to succeed, and those that came, in order
pub record Group : Type 0 where
  pub threshold : ℕ
  pub items : List Pdu

abbrev pub with_item : Pdu → Group → Group
with_item item group = record group { items = group.items ++ item ∷ [] }

abbrev pub grouping : Pdu → Option Group → Option Group
grouping (BeginGroupRequest threshold) before = Some (record { threshold = threshold; items = [] })
grouping EndGroupRequest before = None
grouping item before = option_map (with_item item) before

-- the group that is pending, in the order of the trace
abbrev pub pending : List Message → Option Group
pending [] = None
pending (messages.Pdu pdu ∷ earlier) = grouping pdu (pending earlier)
pending (_ ∷ earlier) = pending earlier

-- while a group is pending, that is the stage
abbrev pub stage : StandingParty → Stage
stage party = if is_some (pending party.trace) then stages.Grouping else regime_stage party.history
