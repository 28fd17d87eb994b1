-- What code owes to the end of a group (ISO 8571-3, F-END-GROUP; profile): it says what the filestore says, makes the changes of
-- a group, and keeps who holds each file; and the party goes on.
use Rattle.std.specs.Prelude.{◌≡◌, ℕ, Bool, true, false, List, Some, Result, Ok, Err}
use Rattle.vf_elements.specs.declared.message.Message.{Message}
use Rattle.vf_elements.specs.declared.message.Message.TheVariants as messages
use Rattle.vf_filestore.specs.Aborts.{Setting}
use Rattle.vf_filestore.specs.Conclusion.{Answered}
use Rattle.vf_filestore.specs.Groups.{between}
use Rattle.vf_filestore.specs.HoldersAfter.{Keeps, hearing}
use Rattle.vf_filestore.specs.Records.{changes_by_group}
use Rattle.vf_filestore.specs.Stage.{Group, pending}
use Rattle.vf_filestore.specs.State.{State, StandingParty}
use Rattle.vf_filestore.specs.Transition.{answered, with_message}
use Rattle.vf_locks.specs.Table.{IsAsBefore}
use Rattle.vf_party.specs.Answers.{GoesOn}
use Rattle.vf_party.specs.Items.{AreItems}
use Rattle.vf_party.specs.Quiets.{IsQuiet}
use Rattle.vf_party_steps.specs.Sameness.{unless_same}
use Rattle.vf_party_steps.specs.Steps.{HoldersOfFiles, StandsIn}
use Rattle.vf_party.specs.declared.party.Party.{Party}
use Rattle.vf_party.specs.declared.party.Party.TheVariants as parties
use Rattle.vf_party.specs.declared.quiet.Quiet.{Quiet}
use Rattle.vf_party_steps.specs.declared.step.Step.{Step}
use Rattle.vf_party_steps.specs.declared.step.StepError.{StepError}
use Rattle.vf_party.specs.declared.trying.Trial.{Trial}
use Rattle.vf_pdu.specs.declared.pdu.Pdu.{Pdu}
use Rattle.vf_pdu.specs.declared.pdu.Pdu.TheVariants.{EndGroupRequest}
use Rattle.vf_tables.specs.declared.change.Change.{Change}
use Rattle.vf_tables.specs.declared.tables.Tables.{Tables}

abbrev pub end_message : Message
end_message = messages.Pdu EndGroupRequest

-- the message ends the group that the party is in
abbrev pub ends_group : Party → Message → Bool
ends_group (parties.Grouping grouping) (messages.Pdu EndGroupRequest) = true
ends_group _ _ = false

-- the changes of this group, whose end joins the trace first
abbrev pub changes_at_end : State → StandingParty → Setting → Group → List Change
changes_at_end state party setting group = changes_by_group (hearing state party end_message) (with_message end_message party) setting group

pub record HasEnded (locks : HoldersOfFiles) (link : ℕ) (changes : List Change) (answer : Answered) (step : Step Quiet) : Type 0 where
  pub says : step.said.items ≡ answer.said
  pub differs : step.changes ≡ changes
  pub held : Keeps locks answer.state
  pub goes_on : GoesOn IsQuiet step.state link answer.state

-- so it is in every sound state of which the code has these tables and locks, and in which a party stands that the typed
-- state represents and whose group this is; without memory each file has the holders that it had
abbrev pub IsEnd : Quiet → (threshold : ℕ) → List Pdu → Tables → (before after : HoldersOfFiles) → Setting → Result (Step Quiet) (Quiet × StepError) → Type 0
IsEnd quiet threshold items tables old new setting (Ok step) =
    (state : State) (party : StandingParty) → StandsIn tables old state party → IsQuiet quiet party.link party.history
    → pending party.trace ≡ Some (record { threshold = threshold; items = items }) → AreItems items
    → HasEnded new party.link (changes_at_end state party setting (record { threshold = threshold; items = items })) (answered state party setting end_message) step
IsEnd quiet threshold items tables old new setting (Err back) = IsAsBefore old new

-- a group that is performed, once its items are tried
pub record IsPerformed (tables : Tables) (trial : Trial) (step : Step Quiet) : Type 0 where
  pub next : step.state ≡ trial.quiet
  pub says : step.said.items ≡ between trial.said.items
  pub differs : step.changes ≡ unless_same tables trial.tables trial.changes
