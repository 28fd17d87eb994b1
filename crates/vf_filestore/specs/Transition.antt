-- One transition of the whole filestore: a party takes a message (ISO 8571-4; profile). What is said on which link, and
-- the state after it.
use Rattle.std.specs.Prelude.{ℕ, Bool, true, false, List, [], ◌∷◌, ◌++◌, map, find, Option, None, Some, if◌then◌else◌}
use Rattle.vf_elements.specs.Stages.{takes}
use Rattle.vf_elements.specs.declared.message.Message.{Message}
use Rattle.vf_elements.specs.declared.message.Message.TheVariants as messages
use Rattle.vf_elements.specs.declared.message.Said.{Said}
use Rattle.vf_elements.specs.declared.message.Said.TheVariants as answers
use Rattle.vf_pdu.specs.declared.pdu.Pdu.TheVariants.{InitializeRequest, TerminateResponse, RecoverRequest}
use Rattle.vf_filestore.specs.Aborts.{Setting}
use Rattle.vf_filestore.specs.Conclusion.{Answered, grants}
use Rattle.vf_filestore.specs.Decision.{Decision, Aborts, Refuses, Grants, Waits, Groups, Ends, Leaves, decision}
use Rattle.vf_filestore.specs.Diagnostics.{superseded}
use Rattle.vf_filestore.specs.Dockets.{broken}
use Rattle.vf_filestore.specs.Groups.{groups}
use Rattle.vf_filestore.specs.Opening.{is_at}
use Rattle.vf_filestore.specs.Replies.{refusal, reply}
use Rattle.vf_filestore.specs.Stage.{stage}
use Rattle.vf_filestore.specs.State.{State, StandingParty, identity_of, party_of, with_party}

-- this is said, and the party is gone
abbrev pub leaves : State → StandingParty → List Said → Answered
leaves state party said = record { said = said; state = broken party.link state }

abbrev pub aborts : State → StandingParty → (number place : ℕ) → Answered
aborts state party number place = leaves state party (answers.Abort number place ∷ [])

-- an association that is refused doesn't stand
abbrev pub associates : Message → Bool
associates (messages.Pdu (InitializeRequest units identity password window)) = true
associates _ = false

abbrev pub refuses : State → StandingParty → Message → List Said → Answered
refuses state party message said = if associates message then leaves state party said else record { said = said; state = state }

-- what comes of a message that is in the trace, one case a decision
abbrev pub met : State → StandingParty → Setting → Message → Decision → Answered
met state party setting message (Aborts number) = aborts state party number 0
met state party setting message (Refuses diagnostic) = refuses state party message (refusal diagnostic message)
met state party setting message (Grants given) = grants state party setting message given
met state party setting message Waits = record { said = []; state = state }
met state party setting message (Groups group) = groups state party setting group
met state party setting message Ends = leaves state party (reply TerminateResponse)
met state party setting message Leaves = leaves state party []

-- the party with the message in its trace
abbrev pub with_message : Message → StandingParty → StandingParty
with_message message party = record party { trace = message ∷ party.trace }

-- What a party answers to a message. The message joins the trace, whatever comes of it.
abbrev pub answered : State → StandingParty → Setting → Message → Answered
answered state party setting message =
    let heard = with_message message party in
    met (record state { parties = with_party heard state.parties }) heard setting message (decision state party setting message)

-- An association that stands with the identity and the activity that a recovery asks for gives way to it.
abbrev pub superseded_by : State → StandingParty → Message → Option StandingParty
superseded_by state party (messages.Pdu (RecoverRequest activity number point)) =
    if takes (stage party) (messages.Pdu (RecoverRequest activity number point))
    then find (is_at (identity_of party) activity) state.parties else None
superseded_by state party _ = None

-- what is said, and on which link
pub record Sent : Type 0 where
  pub link : ℕ
  pub said : Said

abbrev pub sent_on : (link : ℕ) → Said → Sent
sent_on link said = record { link = link; said = said }

abbrev pub on_link : (link : ℕ) → List Said → List Sent
on_link link said = map (sent_on link) said

pub record Turn : Type 0 where
  pub sent : List Sent
  pub state : State

abbrev pub turn_of : StandingParty → Answered → Turn
turn_of party answered = record { sent = on_link party.link answered.said; state = answered.state }

-- the party takes the message after what was sent to others
abbrev pub then_answered : List Sent → State → StandingParty → Setting → Message → Turn
then_answered sent state party setting message =
    let turn = turn_of party (answered state party setting message) in record turn { sent = sent ++ turn.sent }

abbrev pub taking_over : Option StandingParty → State → StandingParty → Setting → Message → Turn
taking_over None state party setting message = then_answered [] state party setting message
taking_over (Some other) state party setting message =
    let first = turn_of other (aborts state other superseded 0) in then_answered first.sent first.state party setting message

abbrev pub transition_of : State → Setting → Message → Option StandingParty → Turn
transition_of state setting message None = record { sent = []; state = state }
transition_of state setting message (Some party) = taking_over (superseded_by state party message) state party setting message

-- The transition by a message on a link; on one where no party stands it is nothing.
abbrev pub transition : State → (link : ℕ) → Setting → Message → Turn
transition state link setting message = transition_of state setting message (party_of link state.parties)

abbrev pub fault_of : State → (number place : ℕ) → Option StandingParty → Turn
fault_of state number place None = record { sent = []; state = state }
fault_of state number place (Some party) = turn_of party (aborts state party number place)

-- Octets on a link that are no message: an abort tells which fault they have, and where (profile).
abbrev pub fault : State → (link : ℕ) (number place : ℕ) → Turn
fault state link number place = fault_of state number place (party_of link state.parties)
