-- What the responder answers to one thing: an octet, an indication that it tells, an arrival or an end (profile).
use Rattle.std.specs.Prelude.{ℕ, Bool, true, false, ◌&&◌, not, List, [], ◌∷◌, ◌++◌, length, Option, None, Some, if◌then◌else◌, nat_lt}
use Rattle.std.specs.List.{flat_map}
use Rattle.vf_filestore.specs.Aborts.{Setting}
use Rattle.vf_filestore.specs.Conclusion.{Answered}
use Rattle.vf_filestore.specs.Diagnostics.{superseded}
use Rattle.vf_filestore.specs.Runs.{arrives}
use Rattle.vf_filestore.specs.State.{State, StandingParty, party_of}
use Rattle.vf_filestore.specs.Transition.{aborts, answered, leaves, superseded_by}
use Rattle.vf_session.specs.Sending.{holds_token}
use Rattle.vf_session.specs.Trace.{next, state as state_of}
use Rattle.vf_session.specs.declared.units.TokenSide.TheVariants.{Responder}
use Rattle.vf_stack.specs.Association.{Association, beginning, is_ended}
use Rattle.vf_stack.specs.Receiving.{piece_received}
use Rattle.vf_stack.specs.declared.indication.Indication.{Indication}
use Rattle.vf_stack.specs.declared.indication.Indication.TheVariants as indications
use Rattle.vf_responder.specs.Meanings.{Meaning, Takes, Faults, Nothing, meaning, sync_of, transfer_check}
use Rattle.vf_responder.specs.Replies.{sending_all}
use Rattle.vf_responder.specs.Serving.{Serving, stands, with_association}
use Rattle.vf_responder.specs.declared.event.Reply.{Reply}

-- what is spoken on links, each time with whether the link is shut after it, and the state then
pub record Answer : Type 0 where
  pub spoken : List Reply
  pub state : Serving

abbrev pub is_silent : List ℕ → Bool
is_silent [] = true
is_silent (octet ∷ octets) = false

abbrev pub speaking : (link : ℕ) → List ℕ → (shut : Bool) → List Reply
speaking link octets shut =
    if is_silent octets && not shut then [] else record { link = link; octets = octets; shut = shut } ∷ []

-- the state after the last of these answers, and all that they say
abbrev pub at_end : Serving → List Answer → Serving
at_end state [] = state
at_end state (answer ∷ answers) = at_end answer.state answers

abbrev pub spoken_in : List Answer → List Reply
spoken_in answers = flat_map (λ (answer : Answer). answer.spoken) answers

-- A PARTY SAYS something in answer to an indication. Its link is shut where it is gone.
abbrev pub says : (link : ℕ) → Indication → Serving → Answered → Answer
says link indication serving given =
    let out = sending_all indication (serving.associations link) given.said in
    record {
      spoken = speaking link out.octets (not (stands link given.state));
      state = with_association link out.association (record serving { filestore = given.state });
    }

-- What the session says of the moment, as it was left by what was said before.
abbrev pub setting_at : (moment : ℕ) → Association → Indication → Setting
setting_at moment association indication = record {
  moment = moment;
  serial = next association.exchange.trace;
  token = holds_token Responder (state_of Responder association.exchange.trace);
  sync = sync_of indication;
}

abbrev pub given_to : State → StandingParty → Setting → Meaning → Answered
given_to state party setting (Takes message) = answered state party setting message
given_to state party setting (Faults number place) = aborts state party number place
given_to state party setting Nothing = record { said = []; state = state }

-- An association that stands with the identity and the activity that a recovery asks for is first told so on its own link,
-- and is gone.
abbrev pub in_the_way : State → StandingParty → Meaning → Option StandingParty
in_the_way state party (Takes message) = superseded_by state party message
in_the_way state party meant = None

abbrev pub giving_way : Serving → Option StandingParty → List Answer
giving_way serving None = []
giving_way serving (Some other) = says other.link (indications.Abort None) serving (aborts serving.filestore other superseded 0) ∷ []

abbrev pub answering : (moment : ℕ) → Indication → Serving → StandingParty → Meaning → List Answer
answering moment indication serving party meant =
    let first = giving_way serving (in_the_way serving.filestore party meant) in
    let now = at_end serving first in
    let setting = setting_at moment (now.associations party.link) indication in
    first ++ says party.link indication now (given_to now.filestore party setting meant) ∷ []

-- AN INDICATION on a link. On one where no party stands it is nothing.
abbrev pub answering_on : (moment : ℕ) → Indication → Serving → Option StandingParty → List Answer
answering_on moment indication serving None = []
answering_on moment indication serving (Some party) =
    let trace = (serving.associations party.link).exchange.trace in
    answering moment indication serving party (meaning (next trace) (transfer_check party.history) indication)

abbrev pub told : (moment link : ℕ) → Serving → Indication → List Answer
told moment link serving indication = answering_on moment indication serving (party_of link serving.filestore.parties)

abbrev pub told_all : (moment link : ℕ) → Serving → List Indication → List Answer
told_all moment link serving [] = []
told_all moment link serving (indication ∷ later) =
    let first = told moment link serving indication in first ++ told_all moment link (at_end serving first) later

-- AN OCTET. Transport may answer it by itself; then its indications take their turns; and where nothing more is received
-- (after an abort, a DR or ER, a fault of transport), the association breaks and its link is shut.
abbrev pub breaking : Serving → Option StandingParty → List Answer
breaking serving None = []
breaking serving (Some party) =
    if is_ended (serving.associations party.link).exchange.ending
    then says party.link (indications.Abort None) serving (leaves serving.filestore party []) ∷ [] else []

abbrev pub after_octet : (link : ℕ) → Serving → List Answer
after_octet link serving = breaking serving (party_of link serving.filestore.parties)

abbrev pub with_octet : (link octet : ℕ) → Serving → Answer × List Indication
with_octet link octet serving =
    let fed = piece_received Responder (serving.associations link) (octet ∷ []) in
    (record { spoken = speaking link fed.answers false; state = with_association link fed.association serving }, fed.indications)

abbrev pub octet_heard : (moment link : ℕ) → Serving → (octet : ℕ) → List Answer
octet_heard moment link serving octet =
    let heard = with_octet link octet serving in
    let turns = told_all moment link heard.0.state heard.1 in
    heard.0 ∷ turns ++ after_octet link (at_end heard.0.state turns)

-- What is said is said before the next octet is heard. On a link that doesn't stand octets are nothing.
abbrev pub octets_heard : (moment link : ℕ) → Serving → List ℕ → List Answer
octets_heard moment link serving [] = []
octets_heard moment link serving (octet ∷ later) =
    if stands link serving.filestore then (let first = octet_heard moment link serving octet in first ++ octets_heard moment link (at_end serving first) later)
    else []

-- AN ARRIVAL. A link is shut at once where 64 stand (profile).
abbrev pub most_links : ℕ
most_links = 64

abbrev pub arrival : (link : ℕ) → Serving → Answer
arrival link serving =
    if nat_lt (length serving.filestore.parties) most_links
    then record { spoken = []; state = with_association link beginning (record serving { filestore = arrives link serving.filestore }) }
    else record { spoken = speaking link [] true; state = serving }

-- AN END, which no word answers.
abbrev pub ended : Serving → Option StandingParty → List Answer
ended serving None = []
ended serving (Some party) =
    (let answer : Answer = record { spoken = []; state = record serving { filestore = (leaves serving.filestore party []).state } } in answer) ∷ []
