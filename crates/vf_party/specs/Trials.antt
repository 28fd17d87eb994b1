-- What code owes to items of a group that it tries (ISO 8571-3, grouping; profile).
use Rattle.std.specs.Prelude.{◌≡◌, ℕ, ◌+◌, List, [], ◌++◌, count_by, flat_map, Option, None, Some, Result, Ok, Err, if◌then◌else◌}
use Rattle.vf_base.specs.declared.diagnostic.Diagnostic.{Diagnostic}
use Rattle.vf_elements.specs.Stages.{takes}
use Rattle.vf_elements.specs.declared.message.Message.{Message}
use Rattle.vf_elements.specs.declared.message.Message.TheVariants as messages
use Rattle.vf_elements.specs.declared.message.Said.{Said}
use Rattle.vf_elements.specs.declared.stage.Stage.{Stage}
use Rattle.vf_filestore.specs.Aborts.{Setting}
use Rattle.vf_filestore.specs.Diagnostics.{below_threshold, plain}
use Rattle.vf_filestore.specs.Groups as groups
use Rattle.vf_filestore.specs.Groups.{is_good, said_in_vain, said_of}
use Rattle.vf_filestore.specs.Records.{changes_by_items}
use Rattle.vf_filestore.specs.State.{State, StandingParty}
use Rattle.vf_party.specs.Items.{AreItems, is_item}
use Rattle.vf_party.specs.Quiets.{IsQuiet}
use Rattle.vf_party.specs.Refusals.{refusal_numbered}
use Rattle.vf_party_steps.specs.Steps.{HoldersOfFiles, StandsIn}
use Rattle.vf_party.specs.declared.quiet.Quiet.{Quiet}
use Rattle.vf_party_steps.specs.declared.step.Step.{Step}
use Rattle.vf_party_steps.specs.declared.step.StepError.{StepError}
use Rattle.vf_party_steps.specs.declared.step.StepError.TheVariants as errors
use Rattle.vf_party.specs.declared.trying.Trial.{Trial}
use Rattle.vf_pdu.specs.declared.pdu.Pdu.{Pdu}
use Rattle.vf_tables.specs.Changes.{after_all}
use Rattle.vf_tables.specs.declared.change.Change.{Change}
use Rattle.vf_tables.specs.declared.tables.Tables.{Tables}

-- ONE ITEM. The request of this number was granted by this step.
pub record IsGoodItem (number : ℕ) (step : Step Quiet) (tables : Tables) (trial : Trial) : Type 0 where
  pub next : trial.quiet ≡ step.state
  pub says : trial.said.items ≡ step.said.items
  pub warns : trial.vain.items ≡ refusal_numbered number (plain below_threshold)
  pub counts : trial.good ≡ 1
  pub changed : trial.changes ≡ step.changes
  pub kept : trial.tables ≡ after_all tables step.changes

-- the request of this number was refused
pub record IsBadItem (quiet : Quiet) (number : ℕ) (diagnostic : Diagnostic) (tables : Tables) (trial : Trial) : Type 0 where
  pub next : trial.quiet ≡ quiet
  pub says : trial.said.items ≡ refusal_numbered number diagnostic
  pub warns : trial.vain.items ≡ refusal_numbered number diagnostic
  pub counts : trial.good ≡ 0
  pub changed : trial.changes ≡ []
  pub kept : trial.tables ≡ tables

-- a request comes to what the step answers
abbrev pub ComesOf : (number : ℕ) → Result (Step Quiet) (Quiet × StepError) → Tables → Trial → Type 0
ComesOf number (Ok step) tables trial = IsGoodItem number step tables trial
ComesOf number (Err (quiet, errors.Refused diagnostic)) tables trial = IsBadItem quiet number diagnostic tables trial
ComesOf number (Err (quiet, errors.NoMemory)) tables trial = ⊥

-- no item was tried
pub record IsUntried (quiet : Quiet) (tables : Tables) (trial : Trial) : Type 0 where
  pub next : trial.quiet ≡ quiet
  pub says : trial.said.items ≡ []
  pub warns : trial.vain.items ≡ []
  pub counts : trial.good ≡ 0
  pub changed : trial.changes ≡ []
  pub kept : trial.tables ≡ tables

-- this came of an item, and then that of later ones
pub record IsJoined (said vain : List Said) (good : ℕ) (changes : List Change) (later trial : Trial) : Type 0 where
  pub next : trial.quiet ≡ later.quiet
  pub says : trial.said.items ≡ said ++ later.said.items
  pub warns : trial.vain.items ≡ vain ++ later.vain.items
  pub counts : trial.good ≡ good + later.good
  pub changed : trial.changes ≡ changes ++ later.changes
  pub kept : trial.tables ≡ later.tables

-- the PDU that a message is
abbrev pub pdu_of : Message → Option Pdu
pdu_of (messages.Pdu pdu) = Some pdu
pdu_of _ = None

-- the item, where it is one and this stage takes it
abbrev pub taken_in : Stage → Pdu → Option Pdu
taken_in stage item = if is_item item then (if takes stage (messages.Pdu item) then Some item else None) else None

-- ITEMS. This came of them in the filestore: what is said to them, in a group that is performed and in one that isn't, how
-- many are good, and what changes; and after them the party of the link stands in the state.
pub record HasTried (locks : HoldersOfFiles) (link : ℕ) (trace : List Message) (changes : List Change) (whole : groups.Trial) (trial : Trial) : Type 0 where
  pub says : trial.said.items ≡ flat_map said_of whole.tried
  pub warns : trial.vain.items ≡ flat_map said_in_vain whole.tried
  pub counts : trial.good ≡ count_by is_good whole.tried
  pub changed : trial.changes ≡ changes
  pub party : StandingParty
  pub linked : party.link ≡ link
  pub traced : party.trace ≡ trace
  pub stands : StandsIn trial.tables locks whole.state party
  pub represented : IsQuiet trial.quiet party.link party.history

abbrev pub AreTriedIn : HoldersOfFiles → Setting → List Pdu → State → StandingParty → Trial → Type 0
AreTriedIn locks setting items state party trial =
    HasTried locks party.link party.trace (changes_by_items party.link setting items state) (groups.trial party.link setting items state) trial

-- what code owes that tries what are items: so it is in every sound state of which it has these tables and locks, and in which a
-- party stands that the typed state represents
abbrev pub AreTried : Quiet → Tables → (before after : HoldersOfFiles) → Setting → List Pdu → Trial → Type 0
AreTried quiet tables old new setting items trial =
    (state : State) (party : StandingParty) → StandsIn tables old state party → IsQuiet quiet party.link party.history → AreItems items
    → AreTriedIn new setting items state party trial
