-- The transfer of an open regime (ISO 8571-3, data transfer, checkpointing and restart; profile), read off the history:
-- what its request was, and what happened in it since.
use Rattle.std.specs.Prelude.{ℕ, Bool, true, false, ◌||◌, List, [], ◌∷◌, Option, None, Some}
use Rattle.vf_base.specs.declared.access.Context.{Context}
use Rattle.vf_base.specs.declared.access.FaduId.{FaduId}
use Rattle.vf_base.specs.declared.diagnostic.Diagnostic.{Diagnostic}
use Rattle.vf_base.specs.declared.element.Element.{Element}
use Rattle.vf_elements.specs.declared.message.Message.{Message}
use Rattle.vf_elements.specs.declared.message.Message.TheVariants as messages
use Rattle.vf_elements.specs.declared.message.Said.{Said}
use Rattle.vf_elements.specs.declared.message.Said.TheVariants as answers
use Rattle.vf_pdu.specs.declared.pdu.Pdu.TheVariants.{RecoverRequest, ReadRequest, WriteRequest, DataEnd, TransferEndRequest, CancelRequest, RestartRequest}
use Rattle.vf_pdu_fields.specs.declared.operation.WriteOperation.{WriteOperation}
use Rattle.vf_transfer.specs.Transfer as transfer
use Rattle.vf_filestore.specs.Diagnostics.{plain}
use Rattle.vf_filestore.specs.History.{History, Given, Refused, Resumed, read_off}

pub data Movement : Type 0 where
  Reads : (fadu : FaduId) → (context : Context) → Movement
  Writes : (operation : WriteOperation) → (fadu : FaduId) → Movement

pub record Transfer : Type 0 where
  pub movement : Movement
  pub given : Given

abbrev pub transferring : Message → Given → Option Transfer → Option Transfer
transferring (messages.Pdu (ReadRequest fadu context)) given before = Some (record { movement = Reads fadu context; given = given })
transferring (messages.Pdu (WriteRequest operation fadu)) given before =
    Some (record { movement = Writes operation fadu; given = given })
transferring (messages.Pdu TransferEndRequest) given before = None
transferring (messages.Pdu (CancelRequest diagnostic)) given before = None
transferring _ given before = before

-- the transfer that is under way, with what its request was given
abbrev pub under_way : History → Option Transfer
under_way = read_off (λ entry before. transferring entry.message entry.given before) None

-- why its request was refused, if it was
abbrev pub refusal_of : Given → Option Diagnostic
refusal_of (Refused version number) = Some (plain number)
refusal_of _ = None

-- What is said in a transfer happens in it, after the message that it answers.
abbrev pub with_said : List Said → List transfer.Entry → List transfer.Entry
with_said [] earlier = earlier
with_said (answers.Element element ∷ later) earlier = with_said later (transfer.Value element ∷ earlier)
with_said (answers.Check point ∷ later) earlier = with_said later (transfer.Check ∷ earlier)
with_said (answers.Acknowledge point ∷ later) earlier = with_said later (transfer.Acknowledgement point ∷ earlier)
with_said (answers.Pdu pdu ∷ later) earlier = with_said later earlier
with_said (answers.Abort number place ∷ later) earlier = with_said later earlier

-- a recovery by which a transfer goes on is as a restart at its point
abbrev pub resumed : Given → List transfer.Entry → List transfer.Entry
resumed (Resumed true point) earlier = transfer.Restart point ∷ earlier
resumed _ earlier = earlier

abbrev pub with_heard : Message → Given → List transfer.Entry → List transfer.Entry
with_heard (messages.Pdu (ReadRequest fadu context)) given earlier = []
with_heard (messages.Pdu (WriteRequest operation fadu)) given earlier = []
with_heard (messages.Pdu (RecoverRequest activity number point)) given earlier = resumed given earlier
with_heard (messages.Pdu (RestartRequest point)) given earlier = transfer.Restart point ∷ earlier
with_heard (messages.Restart point) given earlier = transfer.Restart point ∷ earlier
with_heard (messages.Element element) given earlier = transfer.Value element ∷ earlier
with_heard messages.Check given earlier = transfer.Check ∷ earlier
with_heard (messages.Acknowledge point) given earlier = transfer.Acknowledgement point ∷ earlier
with_heard _ given earlier = earlier

-- what happened in the last transfer, the latest first
abbrev pub happened : History → List transfer.Entry
happened = read_off (λ entry earlier. with_said entry.said (with_heard entry.message entry.given earlier)) []

-- the values of the last transfer that stand, in order
abbrev pub survivors : History → List Element
survivors history = transfer.survivors 0 (happened history)

-- the number of its last check that stands
abbrev pub last_check : History → ℕ
last_check history = transfer.last_check 0 (happened history)

-- its last check that stands and is acknowledged
abbrev pub point : History → ℕ
point history = transfer.point 0 (happened history)

-- the values before that check
abbrev pub front : History → List Element
front history = transfer.front 0 (happened history)

abbrev pub recovered_at : Given → ℕ → ℕ
recovered_at (Resumed true point) before = point
recovered_at _ before = before

abbrev pub starting : Message → Given → ℕ → ℕ
starting (messages.Pdu (ReadRequest fadu context)) given before = 0
starting (messages.Pdu (WriteRequest operation fadu)) given before = 0
starting (messages.Pdu (RecoverRequest activity number point)) given before = recovered_at given before
starting _ given before = before

-- the point of its last recovery, else its start, 0: there is no way back from there
abbrev pub start : History → ℕ
start = read_off (λ entry before. starting entry.message entry.given before) 0

-- a restart and a recovery forget the end of the values
abbrev pub ending : Message → Option (Option Diagnostic) → Option (Option Diagnostic)
ending (messages.Pdu (WriteRequest operation fadu)) before = None
ending (messages.Pdu (RestartRequest point)) before = None
ending (messages.Restart point) before = None
ending (messages.Pdu (RecoverRequest activity number point)) before = None
ending (messages.Pdu (DataEnd diagnostic)) before = Some diagnostic
ending _ before = before

-- the initiator's end of the values of a write, with its diagnostic, if there was one
abbrev pub data_end : History → Option (Option Diagnostic)
data_end = read_off (λ entry before. ending entry.message before) None

abbrev pub has_data_end : List Said → Bool
has_data_end [] = false
has_data_end (answers.Pdu (DataEnd diagnostic) ∷ later) = true
has_data_end (_ ∷ later) = has_data_end later

abbrev pub showing : Message → List Said → Bool → Bool
showing (messages.Pdu (ReadRequest fadu context)) said before = has_data_end said
showing (messages.Pdu (RestartRequest point)) said before = has_data_end said
showing (messages.Restart point) said before = has_data_end said
showing (messages.Pdu (RecoverRequest activity number point)) said before = has_data_end said
showing _ said before = before || has_data_end said

-- the end of the values of a read was said
abbrev pub was_shown : History → Bool
was_shown = read_off (λ entry before. showing entry.message entry.said before) false
