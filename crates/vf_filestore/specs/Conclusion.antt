-- What a granted message leaves (profile): an entry joins the history of its party, with what is due after the reply,
-- and the files are as its effect leaves them. A recovery first takes up what its docket retains.
use Rattle.std.specs.Prelude.{ℕ, ◌+◌, Bool, true, false, List, [], ◌∷◌, ◌++◌, Option, None, Some, if◌then◌else◌}
use Rattle.vf_elements.specs.declared.message.Message.{Message}
use Rattle.vf_elements.specs.declared.message.Message.TheVariants as messages
use Rattle.vf_elements.specs.declared.message.Said.{Said}
use Rattle.vf_elements.specs.declared.message.Said.TheVariants as answers
use Rattle.vf_pdu.specs.declared.pdu.Pdu.TheVariants.{RecoverRequest}
use Rattle.vf_filestore.specs.Aborts.{Setting}
use Rattle.vf_filestore.specs.Dockets.{broken}
use Rattle.vf_filestore.specs.Due.{with_due}
use Rattle.vf_filestore.specs.Effects.{files_after}
use Rattle.vf_filestore.specs.History.{Entry, Given, History}
use Rattle.vf_filestore.specs.Replies.{replies}
use Rattle.vf_filestore.specs.State.{Docket, State, StandingParty, docket_of, identity_of, with_party, without_docket}

-- what is said on the party's link, and the state after it
pub record Answered : Type 0 where
  pub said : List Said
  pub state : State

abbrev pub history_of : Option Docket → History
history_of None = []
history_of (Some docket) = docket.history

-- the history to which the entry is added
abbrev pub taken_up : State → StandingParty → Message → History
taken_up state party (messages.Pdu (RecoverRequest activity number point)) =
    history_of (docket_of (identity_of party) activity state.dockets) ++ party.history
taken_up state party _ = party.history

abbrev pub dockets_after : StandingParty → Message → List Docket → List Docket
dockets_after party (messages.Pdu (RecoverRequest activity number point)) dockets = without_docket (identity_of party) activity dockets
dockets_after party _ dockets = dockets

abbrev pub entry_of : State → StandingParty → Setting → Message → Given → Entry
entry_of state party setting message given = record {
  ordinal = state.concluded;
  moment = setting.moment;
  message = message;
  said = replies state party setting given message;
  given = given;
}

-- the entry with what is due after its reply
abbrev pub concluding_entry : State → StandingParty → Setting → Message → Given → Entry
concluding_entry state party setting message given =
    with_due (taken_up state party message) setting.serial (entry_of state party setting message given)

-- the state in which the message is concluded by this entry
abbrev pub concluded : State → StandingParty → Entry → State
concluded state party entry = record state {
  files = files_after state party entry.moment entry.given entry.message;
  parties = with_party (record party { history = entry ∷ taken_up state party entry.message }) state.parties;
  dockets = dockets_after party entry.message state.dockets;
  concluded = state.concluded + 1;
}

abbrev pub has_abort : List Said → Bool
has_abort [] = false
has_abort (answers.Abort number place ∷ later) = true
has_abort (_ ∷ later) = has_abort later

-- where an abort stands in the place of a check that is due, the party is gone after it
abbrev pub gone_where_aborted : (link : ℕ) → List Said → State → State
gone_where_aborted link said state = if has_abort said then broken link state else state

abbrev pub grants : State → StandingParty → Setting → Message → Given → Answered
grants state party setting message given =
    let entry = concluding_entry state party setting message given in
    record { said = entry.said; state = gone_where_aborted party.link entry.said (concluded state party entry) }
