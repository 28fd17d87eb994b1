-- What a recovery finds of a docket in what code keeps, and how its open stands again (ISO 8571-3, F-RECOVER; profile).
use Rattle.std.specs.Prelude.{◌≡◌, ℕ, ◌-◌, Bool, true, false, not, ◌&&◌, ◌||◌, List, [], ◌∷◌, Option, None, Some, is_none, is_some, length, Result, Ok, Err, if◌then◌else◌, nat_eq, nat_lt}
use Rattle.vf_attr.specs.declared.file.File.{File}
use Rattle.vf_base.specs.declared.access.Context.{Context}
use Rattle.vf_base.specs.declared.access.FaduId.{FaduId}
use Rattle.vf_base.specs.declared.access.FaduId.TheVariants.{Current, Next, Previous}
use Rattle.vf_base.specs.declared.action.Control.{Control}
use Rattle.vf_base.specs.declared.element.Element.{Element}
use Rattle.vf_elements.specs.Stages.{takes}
use Rattle.vf_elements.specs.declared.message.Message.{Message}
use Rattle.vf_elements.specs.declared.message.Message.TheVariants as messages
use Rattle.vf_elements.specs.declared.message.Said.TheVariants as answers
use Rattle.vf_filestore.specs.Aborts.{Setting}
use Rattle.vf_filestore.specs.Controls.{not_opened, attribute_controls}
use Rattle.vf_filestore.specs.Decision.{Aborts, message_decision}
use Rattle.vf_filestore.specs.Diagnostics.{Row, row, first_row, docket_unknown, wrong_state, wrong_transfer}
use Rattle.vf_filestore.specs.Files.{file_named}
use Rattle.vf_filestore.specs.History.{Given, Refused, Showed}
use Rattle.vf_filestore.specs.Keeping.{AreHistoriesKept}
use Rattle.vf_filestore.specs.Recovering.{version_of, version_row}
use Rattle.vf_filestore.specs.Stage.{regime_stage}
use Rattle.vf_filestore.specs.State.{State, StandingParty}
use Rattle.vf_filestore.specs.Units.{recovery_unit, unit_row}
use Rattle.vf_locks.specs.Holders.{controls_of}
use Rattle.vf_locks.specs.Table.{IsAsBefore, held}
use Rattle.vf_locks.specs.declared.holder.Holder.TheVariants as holders
use Rattle.vf_party_steps.specs.Dues.{Says}
use Rattle.vf_party_steps.specs.Reads.{IsReading, dues}
use Rattle.vf_party_steps.specs.Represents.{IsAssociated, IsOpen}
use Rattle.vf_party_steps.specs.Steps.{Concludes, HoldersOfFiles, MeetsStep, Represents, StandsIn}
use Rattle.vf_party_steps.specs.Writes.{IsWriting}
use Rattle.vf_party_steps.specs.declared.due.Due.{Due}
use Rattle.vf_party_steps.specs.declared.recovering.Recovered.{Recovered}
use Rattle.vf_party_steps.specs.declared.recovering.Recovered.TheVariants as recovered
use Rattle.vf_party_steps.specs.declared.states.Associated.{Associated}
use Rattle.vf_party_steps.specs.declared.states.Open.{Open}
use Rattle.vf_party_steps.specs.declared.states.OpenRegime.{OpenRegime}
use Rattle.vf_party_steps.specs.declared.step.Step.{Step}
use Rattle.vf_party_steps.specs.declared.step.StepError.{StepError}
use Rattle.vf_party_steps.specs.declared.step.StepError.TheVariants as errors
use Rattle.vf_party_steps.specs.declared.writing.Writing.{Writing}
use Rattle.vf_pdu.specs.declared.pdu.Pdu.TheVariants.{RecoverRequest, RecoverResponse}
use Rattle.vf_pdu_fields.specs.declared.controls.AttributeControls.{AttributeControls}
use Rattle.vf_pdu_fields.specs.declared.controls.ContentControls.{ContentControls}
use Rattle.vf_pdu_fields.specs.declared.operation.WriteOperation.{WriteOperation}
use Rattle.vf_pdu_fields.specs.declared.operation.WriteOperation.TheVariants as writes
use Rattle.vf_regime_effects.specs.declared.reading.Reading as effects
use Rattle.vf_regime_effects.specs.declared.requests.Writing as requests
use Rattle.vf_regime_effects.specs.declared.requests.Writing.TheVariants as requested
use Rattle.vf_regime_refusals.specs.declared.association.Association.{Association}
use Rattle.vf_regime_refusals.specs.declared.association.Selection.{Selection}
use Rattle.vf_tables.specs.Entries.{docket_of}
use Rattle.vf_tables.specs.declared.change.Change.{Change}
use Rattle.vf_tables.specs.declared.change.Change.TheVariants.{CutStage, PutDocket}
use Rattle.vf_tables.specs.declared.docket.Direction.{Direction}
use Rattle.vf_tables.specs.declared.docket.Direction.TheVariants.{Idle, Read, Write}
use Rattle.vf_tables.specs.declared.docket.Docket.{Docket}
use Rattle.vf_tables.specs.declared.docket.Operation.{Operation}
use Rattle.vf_tables.specs.declared.docket.Operation.TheVariants as operations
use Rattle.vf_tables.specs.declared.docket.Regime.{Regime}
use Rattle.vf_tables.specs.declared.tables.Tables.{Tables}
use Rattle.vf_transfer.specs.Checks.{Receiver, RepresentsReceived}
use Rattle.vf_transfer.specs.Transfer.{Entry, point, standing}
use Rattle.vf_tree.specs.Acts.{Reads, does, shown_of}
use Rattle.vf_tree.specs.FileTree.{octets_of_unit}
use Rattle.vf_tree.specs.TreeRefusal.{TreeRefusal}

-- THE ROW. Tables have one of each docket and of each recoverable open that stands: a docket holds its file itself.
abbrev pub row_held : HoldersOfFiles → (identity : List ℕ) (activity : ℕ) → Option Docket → Option Docket
row_held locks identity activity None = None
row_held locks identity activity (Some docket) =
    if is_some (controls_of (holders.Docket identity activity) (held docket.regime.file locks)) then Some docket else None

abbrev pub docket_row : Tables → HoldersOfFiles → (identity : List ℕ) (activity : ℕ) → Option Docket
docket_row tables locks identity activity = row_held locks identity activity (docket_of identity activity tables)

-- WHAT REFUSES it, by the row
abbrev pub is_idle : Direction → Bool
is_idle Idle = true
is_idle (Read context) = false
is_idle (Write operation) = false

abbrev pub is_numbered_in : Regime → (number : ℕ) → Bool
is_numbered_in regime number = nat_eq number regime.number || is_idle regime.direction && nat_eq number (regime.number - 1)

abbrev pub changed_row_by : Direction → (before now : ℕ) → Row
changed_row_by Idle before now = None
changed_row_by (Read context) before now = version_row before now
changed_row_by (Write operation) before now = None

abbrev pub changed_row_in : List File → Regime → Row
changed_row_in files regime = changed_row_by regime.direction regime.version (version_of (file_named regime.file files))

abbrev pub rows_of : List File → Regime → (number : ℕ) → List Row
rows_of files regime number = row (not (is_numbered_in regime number)) wrong_transfer ∷ changed_row_in files regime ∷ []

abbrev pub rows_in : List File → Option Docket → (number : ℕ) → List Row
rows_in files None number = row true docket_unknown ∷ []
rows_in files (Some docket) number = rows_of files docket.regime number

abbrev pub refusal_in : List File → (units : ℕ) → Option Docket → (number : ℕ) → Row
refusal_in files units found number = first_row (unit_row units recovery_unit ∷ rows_in files found number)

-- THE OPEN that stands again
abbrev pub content_part : List Control → ContentControls
content_part (read ∷ insert ∷ replace ∷ extend ∷ erase ∷ attributes) = record { read = read; insert = insert; replace = replace; extend = extend; erase = erase }
content_part _ = not_opened

abbrev pub attribute_part : List Control → AttributeControls
attribute_part (read ∷ insert ∷ replace ∷ extend ∷ erase ∷ read_attribute ∷ change_attribute ∷ delete ∷ others) = record {
  read_attribute = read_attribute;
  change_attribute = change_attribute;
  delete = delete;
}
attribute_part _ = attribute_controls (record { value = 0 }) None

abbrev pub selection_in : Regime → Selection
selection_in regime = record {
  file = regime.file;
  requested = regime.requested;
  controls = attribute_part regime.controls.each;
  password = regime.password;
}

abbrev pub opened_in : Regime → OpenRegime
opened_in regime = record {
  mode = regime.mode;
  controls = content_part regime.controls.each;
  activity = Some regime.activity;
  position = regime.position;
  done = regime.number - 1;
  last = regime.last;
}

abbrev pub open_by : Associated → Regime → Open
open_by associated regime = record {
  selected = record { associated = associated; selection = selection_in regime };
  regime = opened_in regime;
}

-- A DOCKET IS TAKEN UP of which this is the row, and which nothing refuses.
abbrev pub MeetsTaken : {New : Type 0} → Represents New → Tables → (before after : HoldersOfFiles)
    → State → StandingParty → Setting → Message → Result (Step New) Associated → Type 0
MeetsTaken after tables old new state party setting message (Ok step) = Concludes after tables new state party setting message step
MeetsTaken after tables old new state party setting message (Err back) = IsAsBefore old new

abbrev pub TakesUp : {New : Type 0} → Represents New → Tables → (before after : HoldersOfFiles)
    → Associated → Setting → (activity number : ℕ) → Message → Docket → Result (Step New) Associated → Type 0
TakesUp after tables old new self setting activity number message docket result =
    (state : State) (party : StandingParty) → StandsIn tables old state party → IsAssociated self party.link party.history
    → takes (regime_stage party.history) message ≡ true
    → docket_row tables old self.association.identity activity ≡ Some docket
    → refusal_in tables.files self.association.units (Some docket) number ≡ None
    → MeetsTaken after tables old new state party setting message result

-- WHAT A WRITE HAS RECEIVED once these pieces are taken again, a check after each, and these values after the last
pub record IsFilled (received : Receiver) (pieces : List (List Element)) (after : List Element) : Type 0 where
  pub entries : List Entry
  pub represents : RepresentsReceived received entries
  pub stand : standing 0 entries ≡ record { closed = pieces; after = after }
  pub pointed : point 0 entries ≡ length pieces
  pub counted : received.checks.start ≡ 0

-- the changes of a docket whose write goes on after this check
abbrev pub cut_to : Regime → (check : ℕ) → List Change
cut_to regime check =
    if nat_lt check regime.point then PutDocket (record regime { point = check }) ∷ CutStage regime.identity regime.activity check ∷ [] else []

abbrev pub write_by : Operation → WriteOperation
write_by operations.Insert = writes.Insert
write_by operations.Replace = writes.Replace
write_by operations.Extend = writes.Extend

-- what its request was given, but for the file's version
abbrev pub given_by : (refused : ℕ) → requests.Writing
given_by refused = if nat_eq refused 0 then requested.Granted else requested.Refused 0 refused

-- the write that goes on after this check, with what it has received once more
abbrev pub writing_by : Associated → Regime → Operation → (check : ℕ) → Receiver → Writing
writing_by associated regime operation check received = record {
  regimes = open_by associated regime;
  operation = write_by operation;
  fadu = regime.fadu;
  given = given_by regime.refused;
  received = received;
  octets = octets_of_unit received.values;
  start = check;
  ended = None;
}

-- of a state whose histories are such as a run has
abbrev pub TakesUpKept : {New : Type 0} → Represents New → Tables → (before after : HoldersOfFiles)
    → Associated → Setting → (activity number : ℕ) → Message → Docket → Result (Step New) Associated → Type 0
TakesUpKept after tables old new self setting activity number message docket result =
    (state : State) (party : StandingParty) → StandsIn tables old state party → AreHistoriesKept state
    → IsAssociated self party.link party.history → takes (regime_stage party.history) message ≡ true
    → docket_row tables old self.association.identity activity ≡ Some docket
    → refusal_in tables.files self.association.units (Some docket) number ≡ None
    → MeetsTaken after tables old new state party setting message result

-- WHAT A READ SHOWS again: from the position after it, the next unit and the one before it are the current one.
abbrev pub again : FaduId → FaduId
again Next = Current
again Previous = Current
again id = id

-- the contents show it, since the file is as it was
abbrev pub shown_as : (version : ℕ) → Result (List Element × ℕ) TreeRefusal → Given
shown_as version (Ok answer) = Showed version answer.0 answer.1
shown_as version (Err refusal) = Refused version 0

abbrev pub shown_in : Option File → Regime → Context → Given
shown_in None regime context = Refused regime.version 0
shown_in (Some file) regime context = shown_as regime.version (shown_of (does file.tree regime.position (Reads (again regime.fadu) context)))

-- what its request was given
abbrev pub read_by : Option File → Regime → Context → Given
read_by file regime context = if nat_eq regime.refused 0 then shown_in file regime context else Refused regime.version regime.refused

-- the changes of a docket whose read goes on after this check
abbrev pub put_at : Regime → (check : ℕ) → List Change
put_at regime check = if nat_lt check regime.point then PutDocket (record regime { point = check }) ∷ [] else []

-- what is said where such a read goes on after this check: the response, and what is due then
pub record SaysAgain (association : Association) (regime : Regime) (given : effects.Reading) (check serial : ℕ) (after : Due) (shown : Bool) : Type 0 where
  pub first : Due
  pub said : first.said.items ≡ answers.Pdu (RecoverResponse None (Some regime.number) check true 0) ∷ []
  pub checked : first.check ≡ check
  pub unanswered : first.unacknowledged ≡ 0
  pub numbered : first.serial ≡ serial
  pub says : Says false (dues association given first) first after shown

-- THE STATE that is recovered
abbrev pub IsRecovered : Represents Recovered
IsRecovered (recovered.Open regimes) link history = IsOpen regimes link history
IsRecovered (recovered.Reading reading) link history = IsReading reading link history
IsRecovered (recovered.Writing writing) link history = IsWriting writing link history

-- as what is taken up
abbrev pub step_as : {New : Type 0} → (New → Recovered) → Result (Step New) Associated → Result (Step Recovered) (Associated × StepError)
step_as made (Ok step) = Ok (record { state = made step.state; said = step.said; changes = step.changes })
step_as made (Err back) = Err (back, errors.NoMemory)

-- THE TOKEN: by the recovery of this docket a read goes on
abbrev pub is_read : Direction → Bool
is_read Idle = false
is_read (Read context) = true
is_read (Write operation) = false

abbrev pub is_read_row : Option Docket → Bool
is_read_row None = false
is_read_row (Some docket) = is_read docket.regime.direction

-- a read that nothing refuses would go on
abbrev pub would_read : Tables → HoldersOfFiles → Association → (activity number : ℕ) → Bool
would_read tables locks association activity number =
    let found = docket_row tables locks association.identity activity in
    is_read_row found && is_none (refusal_in tables.files association.units found number)

-- and without the token the recovery is aborted then
abbrev pub AbortsRead : Tables → HoldersOfFiles → Associated → (activity number point : ℕ) → (reads : Bool) → Type 0
AbortsRead tables locks self activity number point reads =
    (state : State) (party : StandingParty) (setting : Setting) → StandsIn tables locks state party → IsAssociated self party.link party.history
    → reads ≡ true → setting.token ≡ false → message_decision state party setting (messages.Pdu (RecoverRequest activity number point)) ≡ Aborts wrong_state

-- A step as `IsStep` has it, in a state whose histories are such as a run has.
abbrev pub IsKeptStep : {Old New : Type 0} → Represents Old → Represents New → Tables → (before after : HoldersOfFiles)
    → Old → Setting → Message → Result (Step New) (Old × StepError) → Type 0
IsKeptStep represents after tables old new self setting message result =
    (state : State) (party : StandingParty) → StandsIn tables old state party → AreHistoriesKept state → represents self party.link party.history
    → takes (regime_stage party.history) message ≡ true
    → MeetsStep after tables old new state party setting message result

-- WHAT REFUSES it by the row, as an error; nothing is said of the want of memory
abbrev pub IsRefusedBy : Row → StepError → Type 0
IsRefusedBy refusal (errors.Refused diagnostic) = refusal ≡ Some diagnostic
IsRefusedBy refusal errors.NoMemory = Unit {0}

-- A docket that nothing refuses is taken up, in whatever it retains.
abbrev pub IsTakenUp : Tables → (before after : HoldersOfFiles)
    → Associated → Setting → (activity number : ℕ) → Message → Docket → Result (Step Recovered) (Associated × StepError) → Type 0
IsTakenUp tables old new self setting activity number message docket result =
    (state : State) (party : StandingParty) → StandsIn tables old state party → AreHistoriesKept state
    → IsAssociated self party.link party.history → takes (regime_stage party.history) message ≡ true
    → docket_row tables old self.association.identity activity ≡ Some docket
    → refusal_in tables.files self.association.units (Some docket) number ≡ None
    → MeetsStep IsRecovered tables old new state party setting message result
