-- What comes of a message looks at a party's history and link, and at files, dockets and users: not at traces.
use Rattle.std.proofs.Common.{◌≡◌, ℕ, List, Option, None, Some, refl, ap}
use Rattle.vf_attr.specs.declared.stamp.Stamp.{Stamp}
use Rattle.vf_elements.specs.declared.message.Message.{Message}
use Rattle.vf_elements.specs.declared.message.Message.TheVariants as messages
use Rattle.vf_pdu.specs.declared.pdu.Pdu.{Pdu}
use Rattle.vf_pdu.specs.declared.pdu.Pdu.TheVariants.{TransferEndRequest, CancelRequest, TransferEndResponse}
use Rattle.vf_filestore.specs.Aborts.{Setting}
use Rattle.vf_filestore.specs.Conclusion.{concluding_entry, taken_up}
use Rattle.vf_filestore.specs.Due.{with_due}
use Rattle.vf_filestore.specs.Effects.{files_after, files_by, put_where}
use Rattle.vf_filestore.specs.Ending.{Ending, cancel_ending, cancel_in, cancel_of, ending_in, ending_of, ending_unless, in_silence, stamp_of, transfer_ending}
use Rattle.vf_filestore.specs.History.{Given}
use Rattle.vf_filestore.specs.Replies.{replies, request_replies, reply}
use Rattle.vf_filestore.specs.State.{State, StandingParty, name_in}
use Rattle.vf_filestore.specs.Transfers.{Movement, Reads, Writes, Transfer, refusal_of, under_way}

-- the same state with other parties, and the same party with another trace
abbrev pub with_parties : State → List StandingParty → State
with_parties state parties = record state { parties = parties }

abbrev pub with_trace : StandingParty → List Message → StandingParty
with_trace party trace = record party { trace = trace }

module _ (state : State) (party : StandingParty) (parties : List StandingParty) (trace : List Message) where
  ending_of_same : (stamp : Stamp) (movement : Movement) → ending_of (with_parties state parties) (with_trace party trace) stamp movement ≡ ending_of state party stamp movement
  ending_of_same stamp (Reads fadu context) = refl
  ending_of_same stamp (Writes operation fadu) = refl

  ending_in_same : (stamp : Stamp) (one : Option Transfer) → ending_in (with_parties state parties) (with_trace party trace) stamp one ≡ ending_in state party stamp one
  ending_in_same stamp None = refl
  ending_in_same stamp (Some transfer) = ap (ending_unless (refusal_of transfer.given)) (ending_of_same stamp transfer.movement)

  pub ending_same : (moment : ℕ) → transfer_ending (with_parties state parties) (with_trace party trace) moment ≡ transfer_ending state party moment
  ending_same moment = ending_in_same (stamp_of party moment) (under_way party.history)

  cancel_of_same : (stamp : Stamp) (movement : Movement) → cancel_of (with_parties state parties) (with_trace party trace) stamp movement ≡ cancel_of state party stamp movement
  cancel_of_same stamp (Reads fadu context) = refl
  cancel_of_same stamp (Writes operation fadu) = refl

  cancel_in_same : (stamp : Stamp) (one : Option Transfer) → cancel_in (with_parties state parties) (with_trace party trace) stamp one ≡ cancel_in state party stamp one
  cancel_in_same stamp None = refl
  cancel_in_same stamp (Some transfer) = ap (λ ending. in_silence (ending_unless (refusal_of transfer.given) ending)) (cancel_of_same stamp transfer.movement)

  pub cancel_same : (moment : ℕ) → cancel_ending (with_parties state parties) (with_trace party trace) moment ≡ cancel_ending state party moment
  cancel_same moment = cancel_in_same (stamp_of party moment) (under_way party.history)

  files_by_same : (moment : ℕ) (given : Given) (request : Pdu) → files_by (with_parties state parties) (with_trace party trace) moment given request ≡ files_by state party moment given request
  files_by_same moment given TransferEndRequest =
      ap (λ (ending : Ending). put_where (name_in party.history) ending.file state.files) (ending_same moment)
  files_by_same moment given (CancelRequest diagnostic) =
      ap (λ (ending : Ending). put_where (name_in party.history) ending.file state.files) (cancel_same moment)
  files_by_same moment given request = refl

  pub files_same : (moment : ℕ) (given : Given) (message : Message) → files_after (with_parties state parties) (with_trace party trace) moment given message ≡ files_after state party moment given message
  files_same moment given (messages.Pdu request) = files_by_same moment given request
  files_same moment given message = refl

  request_replies_same : (setting : Setting) (given : Given) (request : Pdu) → request_replies (with_parties state parties) (with_trace party trace) setting given request ≡ request_replies state party setting given request
  request_replies_same setting given TransferEndRequest =
      ap (λ (ending : Ending). reply (TransferEndResponse ending.refused)) (ending_same setting.moment)
  request_replies_same setting given request = refl

  pub replies_same : (setting : Setting) (given : Given) (message : Message) → replies (with_parties state parties) (with_trace party trace) setting given message ≡ replies state party setting given message
  replies_same setting given (messages.Pdu request) = request_replies_same setting given request
  replies_same setting given message = refl

  taken_request_same : (request : Pdu) → taken_up (with_parties state parties) (with_trace party trace) (messages.Pdu request) ≡ taken_up state party (messages.Pdu request)
  taken_request_same request = refl

  pub taken_same : (message : Message) → taken_up (with_parties state parties) (with_trace party trace) message ≡ taken_up state party message
  taken_same message = refl

  pub entry_same : (setting : Setting) (message : Message) (given : Given)
      → concluding_entry (with_parties state parties) (with_trace party trace) setting message given ≡ concluding_entry state party setting message given
  entry_same setting message given =
      λ i. with_due (taken_same message i) setting.serial (record {
        ordinal = state.concluded;
        moment = setting.moment;
        message = message;
        said = replies_same setting given message i;
        given = given;
      })
