-- What the steps of typed states owe: each concludes a message as the whole filestore does, in every state of which code
-- keeps the tables and the holders, and in which a party stands that the typed state represents (ISO 8571-4; profile).
-- Nothing looks at the party's trace, so that a step is that of a message alone, and that of an item of a group.
use Rattle.std.specs.Prelude.{◌≡◌, ℕ, true, List, ◌∷◌, Some, Result, Ok, Err}
use Rattle.vf_elements.specs.Stages.{takes}
use Rattle.vf_elements.specs.declared.message.Message.{Message}
use Rattle.vf_filestore.specs.Aborts.{Setting}
use Rattle.vf_filestore.specs.Changes.{delta}
use Rattle.vf_filestore.specs.Conclusion.{concluding_entry, taken_up}
use Rattle.vf_filestore.specs.Decision.{Refuses, Grants, message_decision}
use Rattle.vf_filestore.specs.History.{Given, History}
use Rattle.vf_filestore.specs.HoldersAfter.{Keeps, concluded_by}
use Rattle.vf_filestore.specs.Sound.{IsSound}
use Rattle.vf_filestore.specs.Stage.{regime_stage}
use Rattle.vf_filestore.specs.State.{State, StandingParty, party_of}
use Rattle.vf_filestore.specs.Tables.{tables_of}
use Rattle.vf_locks.specs.Table.{IsAsBefore}
use Rattle.vf_locks.specs.declared.held.Held.{Held}
use Rattle.vf_party_steps.specs.declared.step.Step.{Step}
use Rattle.vf_party_steps.specs.declared.step.StepError.{StepError}
use Rattle.vf_party_steps.specs.declared.step.StepError.TheVariants as errors
use Rattle.vf_tables.specs.declared.tables.Tables.{Tables}

-- the holders of all files, as locks have them
abbrev pub HoldersOfFiles : Type 0
HoldersOfFiles = List (List ℕ × List Held)

-- a sound state of which code keeps these tables and locks, and in which this party stands
pub record StandsIn (tables : Tables) (locks : HoldersOfFiles) (state : State) (party : StandingParty) : Type 0 where
  pub sound : IsSound state
  pub kept : tables_of state ≡ tables
  pub held : Keeps locks state
  pub stands : party_of party.link state.parties ≡ Some party

-- which links and histories a typed state represents
abbrev pub Represents : Type 0 → Type 1
Represents S = S → (link : ℕ) → History → Type 0

-- the history of the party once a message is concluded that was given this
abbrev pub history_by : State → StandingParty → Setting → Message → Given → History
history_by state party setting message given = concluding_entry state party setting message given ∷ taken_up state party message

-- A good step grants its message: what is said, the next state, what changes and who holds each file are those of the
-- state in which the message is concluded.
pub record Concludes {New : Type 0} (after : Represents New) (tables : Tables) (locks : HoldersOfFiles)
    (state : State) (party : StandingParty) (setting : Setting) (message : Message) (step : Step New) : Type 0 where
  pub given : Given
  pub granted : message_decision state party setting message ≡ Grants given
  pub said : step.said.items ≡ (concluding_entry state party setting message given).said
  pub next : after step.state party.link (history_by state party setting message given)
  pub changes : step.changes ≡ delta tables (tables_of (concluded_by state party setting message given))
  pub held : Keeps locks (concluded_by state party setting message given)

-- A step that is refused, or has no memory, leaves who holds each file.
abbrev pub MeetsStep : {Old New : Type 0} → Represents New → Tables → (before after : HoldersOfFiles)
    → State → StandingParty → Setting → Message → Result (Step New) (Old × StepError) → Type 0
MeetsStep after tables old new state party setting message (Ok step) = Concludes after tables new state party setting message step
MeetsStep after tables old new state party setting message (Err (back, errors.Refused diagnostic)) =
    (message_decision state party setting message ≡ Refuses diagnostic) × IsAsBefore old new
MeetsStep after tables old new state party setting message (Err (back, errors.NoMemory)) = IsAsBefore old new

-- what a step answers to a message that the stage of its regimes takes
abbrev pub IsStep : {Old New : Type 0} → Represents Old → Represents New → Tables → (before after : HoldersOfFiles)
    → Old → Setting → Message → Result (Step New) (Old × StepError) → Type 0
IsStep represents after tables old new self setting message result =
    (state : State) (party : StandingParty) → StandsIn tables old state party → represents self party.link party.history
    → takes (regime_stage party.history) message ≡ true
    → MeetsStep after tables old new state party setting message result
