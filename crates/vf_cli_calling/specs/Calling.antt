-- The calling end that a script keeps on a link (profile): what it sends to say something, and what it hears.
use Rattle.std.specs.Prelude.{◌≡◌, ◌⊎◌, ℕ, ◌+◌, Bool, true, false, List, [], ◌∷◌, ◌++◌, Option, None, Some, if◌then◌else◌}
use Rattle.std.specs.Option.{option_map}
use Rattle.vf_elements.specs.declared.message.Message.{Message}
use Rattle.vf_elements.specs.declared.message.Message.TheVariants as messages
use Rattle.vf_pdu.specs.declared.pdu.Pdu.{Pdu}
use Rattle.vf_pdu.specs.declared.pdu.Pdu.TheVariants as pdus
use Rattle.vf_session.specs.Trace.{next}
use Rattle.vf_session.specs.declared.units.TokenSide.TheVariants.{Initiator}
use Rattle.vf_stack.specs.Association.{Association, beginning}
use Rattle.vf_stack.specs.Receiving.{piece_received}
use Rattle.vf_stack.specs.Sending.{May, octets_sent, with_request}
use Rattle.vf_stack.specs.declared.indication.Indication.{Indication}
use Rattle.vf_stack.specs.declared.indication.Indication.TheVariants as indications
use Rattle.vf_stack.specs.declared.indication.Item.TheVariants as items
use Rattle.vf_stack.specs.declared.request.Request.{Request}
use Rattle.vf_stack.specs.declared.request.Request.TheVariants.{Associate, Release, Item, Check, Acknowledge, Restart, Cancel, Abort, Pass}
use Rattle.vf_cli_calling.specs.Bases.{first, serial_at, serial_of}
use Rattle.vf_cli_calling.specs.Lines.{heard_line}
use Rattle.vf_cli_calling.specs.declared.base.Base.{Base}

-- a calling end: its association, whether it proposes sync, and the base of its last transfer
pub record Calling : Type 0 where
  pub association : Association
  pub sync : Bool
  pub base : Base

abbrev pub begun : Bool → Calling
begun sync = record { association = beginning; sync = sync; base = first }

abbrev pub next_of : Calling → ℕ
next_of caller = next caller.association.exchange.trace

-- THE REQUEST by which a message is said: by its carriage (ISO 8571-4). With sync an F-RESTART is a resynchronization, from the
-- number that the next check then has.
abbrev pub restart_by : (sync : Bool) → Option ℕ → Pdu → Option Request
restart_by true serial pdu = option_map (λ (serial : ℕ). Restart serial pdu) serial
restart_by false serial pdu = Some (Item (items.Pdu pdu))

abbrev pub restart_of : (sync : Bool) → Base → (point : ℕ) → Option Request
restart_of sync base point = restart_by sync (serial_at (base.next + point) base.point) (pdus.RestartRequest point)

abbrev pub pdu_request : (sync : Bool) → Base → Pdu → Option Request
pdu_request sync base (pdus.InitializeRequest units identity password window) = Some (Associate sync (pdus.InitializeRequest units identity password window))
pdu_request sync base pdus.TerminateRequest = Some (Release pdus.TerminateRequest)
pdu_request sync base (pdus.CancelRequest diagnostic) = Some (Cancel (pdus.CancelRequest diagnostic))
pdu_request sync base (pdus.UserAbort number) = Some (Abort (Some (pdus.UserAbort number)))
pdu_request sync base (pdus.ProviderAbort number place) = Some (Abort (Some (pdus.ProviderAbort number place)))
pdu_request sync base (pdus.RestartRequest point) = restart_of sync base point
pdu_request sync base pdu = Some (Item (items.Pdu pdu))

abbrev pub request_of : (sync : Bool) → Base → Message → Option Request
request_of sync base (messages.Pdu pdu) = pdu_request sync base pdu
request_of sync base (messages.Element element) = Some (Item (items.Element element))
request_of sync base message = None

-- A request is sent where it may be, and else nothing.
abbrev pub with_sent : Calling → Request → Calling
with_sent caller request = record caller { association = with_request Initiator caller.association request }

abbrev pub MaySend : Calling → Request → Type 0
MaySend caller request = May Initiator caller.sync caller.association request

abbrev pub SendsOne : Calling → Request → List ℕ → Calling → Type 0
SendsOne caller request octets later =
    (MaySend caller request × (octets ≡ octets_sent Initiator caller.association request) × (later ≡ with_sent caller request))
    ⊎ ((MaySend caller request → ⊥) × (octets ≡ []) × (later ≡ caller))

abbrev pub Sends : Calling → Option Request → List ℕ → Calling → Type 0
Sends caller None octets later = (octets ≡ []) × (later ≡ caller)
Sends caller (Some request) octets later = SendsOne caller request octets later

-- A transfer begins where F-READ or F-WRITE is sent.
abbrev pub pdu_begins : Pdu → Bool
pdu_begins (pdus.ReadRequest fadu context) = true
pdu_begins (pdus.WriteRequest operation fadu) = true
pdu_begins pdu = false

abbrev pub begins_transfer : Message → Bool
begins_transfer (messages.Pdu pdu) = pdu_begins pdu
begins_transfer message = false

abbrev pub with_base : Calling → (point : ℕ) → Calling
with_base caller point = record caller { base = record { next = next_of caller; point = point } }

abbrev pub begun_by : Calling → Message → Calling
begun_by caller message = if begins_transfer message then with_base caller 0 else caller

abbrev pub SaysRequest : Calling → Message → Option Request → List ℕ → Calling → Type 0
SaysRequest caller message None octets later = (octets ≡ []) × (later ≡ caller)
SaysRequest caller message (Some request) octets later =
    (MaySend caller request × (octets ≡ octets_sent Initiator caller.association request) × (later ≡ begun_by (with_sent caller request) message))
    ⊎ ((MaySend caller request → ⊥) × (octets ≡ []) × (later ≡ caller))

abbrev pub Says : Calling → Message → List ℕ → Calling → Type 0
Says caller message octets later = SaysRequest caller message (request_of caller.sync caller.base message) octets later

-- messages, each when its turn comes
abbrev pub SaysAll : Calling → List Message → List ℕ → Calling → Type 0
SaysAll caller [] octets later = (octets ≡ []) × (later ≡ caller)
SaysAll caller (message ∷ others) octets later =
    (before after : List ℕ) × (between : Calling) × Says caller message before between × SaysAll between others after later × (octets ≡ before ++ after)

-- The next check has the next number. An acknowledgement names a check of the last transfer.
abbrev pub SaysCheck : Calling → List ℕ → Calling → Type 0
SaysCheck caller octets later = SendsOne caller (Check (next_of caller)) octets later

abbrev pub SaysAcknowledgement : Calling → (point : ℕ) → List ℕ → Calling → Type 0
SaysAcknowledgement caller point octets later = Sends caller (option_map (λ (serial : ℕ). Acknowledge serial) (serial_of caller.base point)) octets later

-- So does a restart, which is F-RESTART.
abbrev pub SaysRestart : Calling → (point : ℕ) → List ℕ → Calling → Type 0
SaysRestart caller point octets later = Says caller (messages.Pdu (pdus.RestartRequest point)) octets later

abbrev pub SaysPass : Calling → List ℕ → Calling → Type 0
SaysPass caller octets later = SendsOne caller Pass octets later

-- WHAT IT HEARS, octet by octet: the lines of what these tell. A transfer that goes on after a recovery has that point.
abbrev pub pdu_point : Pdu → Option ℕ
pdu_point (pdus.RecoverResponse diagnostic number point true last) = Some point
pdu_point pdu = None

abbrev pub point_of : Indication → Option ℕ
point_of (indications.Item (items.Pdu pdu)) = pdu_point pdu
point_of indication = None

abbrev pub noted_at : Calling → Option ℕ → Calling
noted_at caller None = caller
noted_at caller (Some point) = with_base caller point

abbrev pub noted : Calling → Indication → Calling
noted caller indication = noted_at caller (point_of indication)

pub record Heard : Type 0 where
  pub lines : List ℕ
  pub caller : Calling

abbrev pub preceded : List ℕ → Heard → Heard
preceded lines heard = record { lines = lines ++ heard.lines; caller = heard.caller }

abbrev pub told : (link : ℕ) → Calling → List Indication → Heard
told link caller [] = record { lines = []; caller = caller }
told link caller (indication ∷ later) =
    let now = noted caller indication in preceded (heard_line link now.base indication) (told link now later)

-- (What its transport would answer isn't sent: a responder says nothing that its transport answers.)
abbrev pub octet_heard : (link : ℕ) → Calling → (octet : ℕ) → Heard
octet_heard link caller octet =
    let fed = piece_received Initiator caller.association (octet ∷ []) in told link (record caller { association = fed.association }) fed.indications

abbrev pub hearing : (link : ℕ) → Calling → List ℕ → Heard
hearing link caller [] = record { lines = []; caller = caller }
hearing link caller (octet ∷ octets) =
    let first = octet_heard link caller octet in preceded first.lines (hearing link first.caller octets)
