-- Examples of what is received: what is told, and how receiving goes on or ends.
use Rattle.std.specs.Prelude.{◌≡◌, false, true, List, [], ◌∷◌, None, Some, Ok, Err}
use Rattle.vf_elements.specs.declared.message.Message.TheVariants as messages
use Rattle.vf_pdu.specs.declared.pdu.Pdu.TheVariants.{CancelRequest, DataEnd}
use Rattle.vf_session.specs.Trace.{with_received}
use Rattle.vf_session.specs.declared.errors.SessionError.TheVariants.{Token}
use Rattle.vf_session.specs.declared.meaning.SpduMeaning.TheVariants.{Tells, Faulty}
use Rattle.vf_session.specs.declared.parameters.SayParameters.TheVariants as head
use Rattle.vf_session.specs.declared.units.ResyncKind.TheVariants as kinds
use Rattle.vf_session.specs.declared.units.SessionSay.TheVariants as say
use Rattle.vf_session.specs.declared.units.SessionSay.{SessionSay}
use Rattle.vf_session.specs.declared.units.TokenSide.TheVariants.{Responder}
use Rattle.vf_stack.specs.Association.{Exchange, beginning}
use Rattle.vf_stack.specs.Carriage.{item_told, pdu_told, single_told}
use Rattle.vf_stack.specs.Faults.{misplaced}
use Rattle.vf_stack.specs.Receiving.{Received, each, meaning_received, received_next, stopped_by, unit_received}
use Rattle.vf_stack.specs.declared.ending.Ending.TheVariants.{Open, Broken, Refused}
use Rattle.vf_stack.specs.declared.ending.Ending.{Ending}
use Rattle.vf_stack.specs.declared.indication.FaultName.TheVariants as names
use Rattle.vf_stack.specs.declared.indication.Indication.TheVariants as indications
use Rattle.vf_stack.specs.declared.indication.Indication.TheVariants.{Abort, Cancel, Check, Fault, Item}
use Rattle.vf_stack.specs.declared.indication.Indication.{Indication}
use Rattle.vf_stack.specs.declared.indication.Item.TheVariants as items
use Rattle.vf_stack.specs.declared.indication.Layer.TheVariants.{Transport, Session}
use Rattle.vf_tpkt.specs.declared.error.TpktError.TheVariants.{Length}
use Rattle.vf_tpkt.specs.declared.unit.Unit.TheVariants as transport

-- the called end, of which nothing has been received yet
abbrev pub first : Exchange
first = beginning.exchange

-- What was told, with the trace as it was, and how receiving ended.
abbrev pub told : List Indication → Ending → Received
told indications ending = record { indications = indications; exchange = record first { ending = ending } }

abbrev pub joined_by : List Indication → SessionSay → Received
joined_by indications unit = record { indications = indications; exchange = record { trace = with_received Responder unit []; ending = Open } }

pub record ReceivedExamples : Type 0 where
  pub connection : received_next Responder first transport.Connected ≡ told [] Open
  pub disconnection : each (received_next Responder) first (transport.Ended ∷ transport.Connected ∷ []) ≡ told [] Broken
  pub bad_packet : stopped_by first (Some (Length 15)) ≡ told (Fault Transport names.Length 15 ∷ []) Refused
  pub bad_packet_after_end : stopped_by (record first { ending = Broken }) (Some (Length 15)) ≡ told [] Broken
  pub token_fault : meaning_received Responder first 2 (Faulty Token) ≡ told (Fault Session names.Token 2 ∷ []) Refused
  pub check : meaning_received Responder first 2 (Tells (say.Check 7)) ≡ joined_by (Check 7 ∷ []) (say.Check 7)
  pub token : unit_received Responder first (say.Token Responder) ≡ joined_by [] (say.Token Responder)

-- What a value or a unit tells by its PDU.
pub record CarriageExamples : Type 0 where
  pub data_end : item_told true (Ok (messages.Pdu (DataEnd None))) ≡ Ok (Item (items.Pdu (DataEnd None)))
  pub cancel_in_data : item_told false (Ok (messages.Pdu (CancelRequest None))) ≡ Ok (Item (items.Pdu (CancelRequest None)))
  pub cancel_in_data_with_sync : item_told true (Ok (messages.Pdu (CancelRequest None))) ≡ Err misplaced
  pub cancel : pdu_told None (head.Resync kinds.Abandon 0 None) (CancelRequest None) ≡ Ok (Cancel (CancelRequest None))
  pub cancel_in_restart : pdu_told None (head.Resync kinds.Restart 3 None) (CancelRequest None) ≡ Err misplaced
  pub cancel_in_release : pdu_told None head.Finish (CancelRequest None) ≡ Err misplaced
  pub refusal_without_pdu : single_told None head.Refuse [] ≡ Ok (indications.Refused None)
  pub abort_without_pdu : single_told None head.Abort [] ≡ Ok (Abort None)
  pub release_without_pdu : single_told None head.Finish [] ≡ Err misplaced
