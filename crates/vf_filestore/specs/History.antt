-- The history of a party (profile): the messages that it has had concluded, the newest first. What a party is in the
-- middle of is no state of its own; it is read off the history, of which each filter keeps what the entries make of it,
-- from the oldest on (ISO 8571-4, file service regimes).
use Rattle.std.specs.Prelude.{ℕ, ◌+◌, Bool, List, [], ◌∷◌, Option, None, Some, unwrap_or, option_map}
use Rattle.vf_base.specs.declared.action.Actions.{Actions}
use Rattle.vf_base.specs.declared.diagnostic.Diagnostic.{Diagnostic}
use Rattle.vf_base.specs.declared.element.Element.{Element}
use Rattle.vf_elements.specs.declared.message.Message.{Message}
use Rattle.vf_elements.specs.declared.message.Message.TheVariants as messages
use Rattle.vf_elements.specs.declared.message.Said.{Said}
use Rattle.vf_elements.specs.declared.message.Said.TheVariants as answers
use Rattle.vf_pdu.specs.declared.pdu.Pdu.TheVariants.{InitializeRequest, InitializeResponse, SelectRequest, CreateRequest, DeselectRequest, DeleteRequest, ChangeAttribRequest, OpenRequest, CloseRequest, TransferEndRequest, TransferEndResponse, CancelRequest}
use Rattle.vf_pdu_fields.specs.declared.controls.AttributeControls.{AttributeControls}
use Rattle.vf_pdu_fields.specs.declared.controls.ContentControls.{ContentControls}
use Rattle.vf_filestore.specs.Controls.{attribute_controls, content_controls}
use Rattle.vf_filestore.specs.Diagnostics.{cancelled}

-- What a concluded message was given beside its answer.
pub data Given : Type 0 where
  Nothing : Given
  -- F-CREATE made a file; without this it selected one that was there
  Made : Given
  -- a transfer that its request refuses, which goes on and performs nothing: the file's version then, and the number of
  -- the diagnostic, which has nothing else
  Refused : (version number : ℕ) → Given
  -- F-READ: the file's version, the elements that are shown, and the position that it sets
  Showed : (version : ℕ) → (elements : List Element) → (position : ℕ) → Given
  -- F-LOCATE found this position, or the contents were changed and this is the position after it
  Placed : (position : ℕ) → Given
  -- F-RECOVER: whether a transfer goes on, and after which check
  Resumed : (goes_on : Bool) → (point : ℕ) → Given

-- A concluded message: its number among all that were concluded in the run, when, the message, what was said, and what
-- it was given. Each item of a group that is performed is one. The number names what the message began: the regime of
-- an open, the file of a create.
pub record Entry : Type 0 where
  pub ordinal : ℕ
  pub moment : ℕ
  pub message : Message
  pub said : List Said
  pub given : Given

abbrev pub History : Type 0
History = List Entry

-- what the entries make of a first value, the oldest entry first
abbrev pub read_off : {A : Type 0} → (Entry → A → A) → A → History → A
read_off step first [] = first
read_off step first (entry ∷ earlier) = step entry (read_off step first earlier)

-- an initiator that names no identity is this one
abbrev pub guest : List ℕ
guest = 103 ∷ 117 ∷ 101 ∷ 115 ∷ 116 ∷ []

-- who is at the other end, and what was agreed with it: functional units, and how many checks may be open
pub record Association : Type 0 where
  pub identity : List ℕ
  pub units : ℕ
  pub window : ℕ

abbrev pub agreeing : Option (List ℕ) → List Said → Option Association → Option Association
agreeing identity (answers.Pdu (InitializeResponse diagnostic units window) ∷ later) before =
    Some (record { identity = unwrap_or identity guest; units = units; window = window })
agreeing identity _ before = before

abbrev pub associating : Message → List Said → Option Association → Option Association
associating (messages.Pdu (InitializeRequest units identity password window)) said before = agreeing identity said before
associating _ said before = before

-- the association that stands: what its answer gave. F-TERMINATE ends the party, and so its history.
abbrev pub association : History → Option Association
association = read_off (λ entry before. associating entry.message entry.said before) None

-- the selected file, by its name now, and what was asked for it
pub record Selection : Type 0 where
  pub file : List ℕ
  pub requested : Actions
  pub controls : AttributeControls
  pub password : Option (List ℕ)

abbrev pub selected : (file : List ℕ) → Actions → Option AttributeControls → Option (List ℕ) → Option Selection
selected file requested controls password = Some (record {
  file = file;
  requested = requested;
  controls = attribute_controls requested controls;
  password = password;
})

abbrev pub renamed : Option (List ℕ) → Selection → Selection
renamed name selection = record selection { file = unwrap_or name selection.file }

abbrev pub selecting : Message → Option Selection → Option Selection
selecting (messages.Pdu (SelectRequest name requested controls password)) before = selected name requested controls password
selecting (messages.Pdu (CreateRequest over name contents permitted terms requested controls password)) before =
    selected name requested controls password
selecting (messages.Pdu (ChangeAttribRequest name permitted terms others)) before = option_map (renamed name) before
selecting (messages.Pdu DeselectRequest) before = None
selecting (messages.Pdu DeleteRequest) before = None
selecting _ before = before

-- the selection that stands
abbrev pub selection : History → Option Selection
selection = read_off (λ entry before. selecting entry.message before) None

-- An open regime, by the number of its open; with an activity it is recoverable.
pub record Regime : Type 0 where
  pub number : ℕ
  pub mode : Actions
  pub controls : ContentControls
  pub activity : Option ℕ

abbrev pub opening : (ordinal : ℕ) → Message → Option Regime → Option Regime
opening ordinal (messages.Pdu (OpenRequest mode contents controls activity)) before = Some (record {
  number = ordinal;
  mode = record { value = mode };
  controls = content_controls (record { value = mode }) controls;
  activity = activity;
})
opening ordinal (messages.Pdu CloseRequest) before = None
opening ordinal _ before = before

-- the open regime that stands
abbrev pub regime : History → Option Regime
regime = read_off (λ entry before. opening entry.ordinal entry.message before) None

abbrev pub placed_by : Given → ℕ → ℕ
placed_by (Placed position) before = position
placed_by (Showed version elements position) before = position
placed_by _ before = before

abbrev pub placing : Message → Given → ℕ → ℕ
placing (messages.Pdu (OpenRequest mode contents controls activity)) given before = 0
placing _ given before = placed_by given before

-- the position in the open file: its begin, or the last one that was given since
abbrev pub position : History → ℕ
position = read_off (λ entry before. placing entry.message entry.given before) 0

abbrev pub counting : Message → ℕ → ℕ
counting (messages.Pdu (OpenRequest mode contents controls activity)) before = 0
counting (messages.Pdu TransferEndRequest) before = before + 1
counting (messages.Pdu (CancelRequest diagnostic)) before = before + 1
counting _ before = before

-- How many transfers of the open regime are concluded. The one under way, or the next one, has the number after it.
abbrev pub done : History → ℕ
done = read_off (λ entry before. counting entry.message before) 0

abbrev pub number_of : Option Diagnostic → ℕ
number_of None = 0
number_of (Some diagnostic) = diagnostic.number

abbrev pub answered_end : List Said → ℕ
answered_end (answers.Pdu (TransferEndResponse diagnostic) ∷ later) = number_of diagnostic
answered_end _ = 0

abbrev pub concluding : Message → List Said → ℕ → ℕ
concluding (messages.Pdu (OpenRequest mode contents controls activity)) said before = 0
concluding (messages.Pdu TransferEndRequest) said before = answered_end said
concluding (messages.Pdu (CancelRequest diagnostic)) said before = cancelled
concluding _ said before = before

-- how the last transfer of the open regime ended: 0, the number of its diagnostic, or that of a cancel
abbrev pub last : History → ℕ
last = read_off (λ entry before. concluding entry.message entry.said before) 0
