-- What is answered to an event leaves alone a link on which no party stands, unless it arrives: nothing is spoken on it, and none comes to stand on it.
use Rattle.std.proofs.Common.{◌≡◌, ℕ, Bool, true, false, cond, not, is_some, List, [], ◌∷◌, ◌++◌, length, nat_eq, nat_lt, Option, None, Some, refl, ap, sym, subst, ◌∙◌, ◌&&◌}
use Rattle.std.specs.Prelude.{IfSome, find}
use Rattle.std.specs.List.{AllByRecursion}
use Rattle.vf_base.specs.declared.events.ScriptEvent.{ScriptEvent}
use Rattle.vf_base.specs.declared.events.ScriptEvent.TheVariants.{Arrived, Octets, Ended}
use Rattle.vf_elements.specs.Stages.{takes}
use Rattle.vf_elements.specs.declared.message.Message.{Message}
use Rattle.vf_elements.specs.declared.message.Message.TheVariants as messages
use Rattle.vf_filestore.proofs.Lists.{all_append, flat_map-append}
use Rattle.vf_filestore.proofs.Parties.{IsOff, Located, located}
use Rattle.vf_filestore.specs.Aborts.{Setting}
use Rattle.vf_filestore.specs.Conclusion.{Answered}
use Rattle.vf_filestore.specs.Diagnostics.{superseded}
use Rattle.vf_filestore.specs.Opening.{is_at}
use Rattle.vf_filestore.specs.Stage.{stage}
use Rattle.vf_filestore.specs.State.{State, StandingParty, arrived, identity_of, is_of_link, party_of}
use Rattle.vf_filestore.specs.Transition.{aborts, leaves, superseded_by}
use Rattle.vf_pdu.specs.declared.pdu.Pdu.TheVariants.{RecoverRequest}
use Rattle.vf_stack.specs.Association.{is_ended}
use Rattle.vf_stack.specs.declared.indication.Indication.{Indication}
use Rattle.vf_stack.specs.declared.indication.Indication.TheVariants as indications
use Rattle.vf_responder.proofs.Absent.{IsAbsent, aborts_absent, absent_of, answered_absent, broken_gone, found_off, leaves_absent}
use Rattle.vf_responder.specs.Answers.{Answer, answering, answering_on, arrival, at_end, breaking, ended, given_to, giving_way, in_the_way, is_silent, most_links, octet_heard, octets_heard, says, setting_at, speaking, spoken_in, told, told_all, with_octet}
use Rattle.vf_responder.specs.Meanings.{Meaning, Takes, Faults, Nothing}
use Rattle.vf_responder.specs.Run.{trail}
use Rattle.vf_responder.specs.Serving.{Serving, stands}
use Rattle.vf_responder.specs.declared.event.Reply.{Reply}

abbrev pub IsElsewhere : ℕ → Reply → Type 0
IsElsewhere link reply = nat_eq reply.link link ≡ false

-- these answers say nothing on the link, and no party stands on it after them
pub record Avoids (link : ℕ) (serving : Serving) (answers : List Answer) : Type 0 where
  pub elsewhere : AllByRecursion (IsElsewhere link) (spoken_in answers)
  pub absent : IsAbsent link (at_end serving answers).filestore

pub at_end-append : (serving : Serving) (first later : List Answer) → at_end serving (first ++ later) ≡ at_end (at_end serving first) later
at_end-append serving [] later = refl
at_end-append serving (answer ∷ first) later = at_end-append answer.state first later

pub spoken_in-append : (first later : List Answer) → spoken_in (first ++ later) ≡ spoken_in first ++ spoken_in later
spoken_in-append first later = flat_map-append (λ (answer : Answer). answer.spoken) first later

none_avoids : (link : ℕ) (serving : Serving) → IsAbsent link serving.filestore → Avoids link serving []
none_avoids link serving off = record { elsewhere = tt; absent = off }

joined_avoids : (link : ℕ) (serving : Serving) (first later : List Answer) → Avoids link serving first → Avoids link (at_end serving first) later
    → Avoids link serving (first ++ later)
joined_avoids link serving first later one other = record {
  elsewhere = subst (AllByRecursion (IsElsewhere link)) (sym (spoken_in-append first later))
      (all_append (IsElsewhere link) (spoken_in first) (spoken_in later) one.elsewhere other.elsewhere);
  absent = subst (λ (end : Serving). IsAbsent link end.filestore) (sym (at_end-append serving first later)) other.absent;
}

speaking_elsewhere : (link on : ℕ) (octets : List ℕ) (shut : Bool) → nat_eq on link ≡ false → AllByRecursion (IsElsewhere link) (speaking on octets shut)
speaking_elsewhere link on octets shut other = by (is_silent octets && not shut)
  where
    by : (b : Bool) → AllByRecursion (IsElsewhere link) (cond b [] ((let reply : Reply = record { link = on; octets = octets; shut = shut } in reply) ∷ []))
    by true = tt
    by false = (other, tt)

one_avoids : (link : ℕ) (serving : Serving) (answer : Answer) → AllByRecursion (IsElsewhere link) answer.spoken → IsAbsent link answer.state.filestore
    → Avoids link serving (answer ∷ [])
one_avoids link serving answer elsewhere off = record {
  elsewhere = all_append (IsElsewhere link) answer.spoken [] elsewhere tt;
  absent = off;
}

says_avoids : (link : ℕ) (indication : Indication) (serving now : Serving) (party : StandingParty) (given : Answered) → IsOff link party → IsAbsent link given.state
    → Avoids link serving (says party.link indication now given ∷ [])
says_avoids link indication serving now party given off absent =
    one_avoids link serving (says party.link indication now given) (speaking_elsewhere link party.link _ _ off) absent

superseded_off : (link : ℕ) (state : State) (party : StandingParty) (message : Message) → IsAbsent link state → IfSome (superseded_by state party message) (IsOff link)
superseded_off link state party (messages.Pdu (RecoverRequest activity number point)) off =
    by (takes (stage party) (messages.Pdu (RecoverRequest activity number point))) (find (is_at (identity_of party) activity) state.parties) refl
  where
    by : (b : Bool) (found : Option StandingParty) → find (is_at (identity_of party) activity) state.parties ≡ found → IfSome (cond b found None) (IsOff link)
    by true None is = tt
    by true (Some other) is = found_off link (is_at (identity_of party) activity) state.parties other is off
    by false found is = tt
superseded_off link state party message off = tt

way_off : (link : ℕ) (state : State) (party : StandingParty) (meant : Meaning) → IsAbsent link state → IfSome (in_the_way state party meant) (IsOff link)
way_off link state party (Takes message) off = superseded_off link state party message off
way_off link state party (Faults number place) off = tt
way_off link state party Nothing off = tt

way_avoids : (link : ℕ) (serving : Serving) (other : Option StandingParty) → IfSome other (IsOff link) → IsAbsent link serving.filestore → Avoids link serving (giving_way serving other)
way_avoids link serving None is off = none_avoids link serving off
way_avoids link serving (Some other) is off =
    says_avoids link (indications.Abort None) serving serving other (aborts serving.filestore other superseded 0) is (aborts_absent link serving.filestore other superseded 0 off)

given_absent : (link : ℕ) (state : State) (party : StandingParty) (setting : Setting) (meant : Meaning) → IsAbsent link state → IsAbsent link (given_to state party setting meant).state
given_absent link state party setting (Takes message) off = answered_absent link state party setting message off
given_absent link state party setting (Faults number place) off = aborts_absent link state party number place off
given_absent link state party setting Nothing off = off

answering_avoids : (link moment : ℕ) (indication : Indication) (serving : Serving) (party : StandingParty) (meant : Meaning) → IsOff link party → IsAbsent link serving.filestore
    → Avoids link serving (answering moment indication serving party meant)
answering_avoids link moment indication serving party meant is off =
    let first = giving_way serving (in_the_way serving.filestore party meant) in
    let way = way_avoids link serving (in_the_way serving.filestore party meant) (way_off link serving.filestore party meant off) off in
    let now = at_end serving first in
    joined_avoids link serving first _ way
    (says_avoids link indication now now party _ is (given_absent link now.filestore party (setting_at moment (now.associations party.link) indication) meant way.absent))

on_avoids : (link moment : ℕ) (indication : Indication) (serving : Serving) (party : Option StandingParty) → IfSome party (IsOff link) → IsAbsent link serving.filestore
    → Avoids link serving (answering_on moment indication serving party)
on_avoids link moment indication serving None is off = none_avoids link serving off
on_avoids link moment indication serving (Some party) is off = answering_avoids link moment indication serving party _ is off

party_off : (link on : ℕ) (parties : List StandingParty) → AllByRecursion (IsOff link) parties → IfSome (party_of on parties) (IsOff link)
party_off link on parties off = by (party_of on parties) refl
  where
    by : (party : Option StandingParty) → party_of on parties ≡ party → IfSome party (IsOff link)
    by None is = tt
    by (Some party) is = found_off link (is_of_link on) parties party is off

told_avoids : (link moment on : ℕ) (serving : Serving) (indication : Indication) → IsAbsent link serving.filestore → Avoids link serving (told moment on serving indication)
told_avoids link moment on serving indication off =
    on_avoids link moment indication serving (party_of on serving.filestore.parties) (party_off link on serving.filestore.parties off) off

all_avoid : (link moment on : ℕ) (serving : Serving) (indications : List Indication) → IsAbsent link serving.filestore → Avoids link serving (told_all moment on serving indications)
all_avoid link moment on serving [] off = none_avoids link serving off
all_avoid link moment on serving (indication ∷ later) off =
    after_one link moment on serving indication later (told_avoids link moment on serving indication off) (λ state. all_avoid link moment on state later)
  where
    after_one : (link moment on : ℕ) (serving : Serving) (indication : Indication) (later : List Indication) → Avoids link serving (told moment on serving indication)
        → ((state : Serving) → IsAbsent link state.filestore → Avoids link state (told_all moment on state later))
        → Avoids link serving (told_all moment on serving (indication ∷ later))
    after_one link moment on serving indication later one rest =
        let first : List Answer = told moment on serving indication in
        joined_avoids link serving first (told_all moment on (at_end serving first) later) one (rest (at_end serving first) one.absent)

breaking_avoids : (link : ℕ) (serving : Serving) (party : Option StandingParty) → IfSome party (IsOff link) → IsAbsent link serving.filestore → Avoids link serving (breaking serving party)
breaking_avoids link serving None is off = none_avoids link serving off
breaking_avoids link serving (Some party) is off = by (is_ended (serving.associations party.link).exchange.ending)
  where
    by : (b : Bool) → Avoids link serving (cond b (says party.link (indications.Abort None) serving (leaves serving.filestore party []) ∷ []) [])
    by true = says_avoids link (indications.Abort None) serving serving party (leaves serving.filestore party []) is (leaves_absent link serving.filestore party [] off)
    by false = none_avoids link serving off

octet_avoids : (link moment on octet : ℕ) (serving : Serving) → nat_eq on link ≡ false → IsAbsent link serving.filestore → Avoids link serving (octet_heard moment on serving octet)
octet_avoids link moment on octet serving other off =
    let heard = with_octet on octet serving in
    let turns = told_all moment on heard.0.state heard.1 in
    let first : Avoids link serving (heard.0 ∷ []) = one_avoids link serving heard.0 (speaking_elsewhere link on _ false other) off in
    let told : Avoids link heard.0.state turns = all_avoid link moment on heard.0.state heard.1 off in
    let last = breaking_avoids link (at_end heard.0.state turns) (party_of on (at_end heard.0.state turns).filestore.parties)
    (party_off link on (at_end heard.0.state turns).filestore.parties told.absent) told.absent in
    joined_avoids link serving (heard.0 ∷ []) _ first (joined_avoids link heard.0.state turns _ told last)

octets_avoid : (link moment on : ℕ) (serving : Serving) (octets : List ℕ) → IsAbsent link serving.filestore → Avoids link serving (octets_heard moment on serving octets)
octets_avoid link moment on serving [] off = none_avoids link serving off
octets_avoid link moment on serving (octet ∷ later) off =
    by (party_of on serving.filestore.parties) refl (λ state. octets_avoid link moment on state later)
  where
    by : (party : Option StandingParty) → party_of on serving.filestore.parties ≡ party
        → ((state : Serving) → IsAbsent link state.filestore → Avoids link state (octets_heard moment on state later))
        → Avoids link serving (cond (is_some party) (let first = octet_heard moment on serving octet in first ++ octets_heard moment on (at_end serving first) later) [])
    by None is rest = none_avoids link serving off
    by (Some party) is rest =
        let same : party.link ≡ on = Located.same (located on serving.filestore.parties party is) in
        let other : nat_eq on link ≡ false = ap (λ n. nat_eq n link) (sym same) ∙ found_off link (is_of_link on) serving.filestore.parties party is off in
        let first = octet_avoids link moment on octet serving other off in
        joined_avoids link serving _ _ first (rest _ first.absent)

ended_avoids : (link : ℕ) (serving : Serving) (party : Option StandingParty) → IsAbsent link serving.filestore → Avoids link serving (ended serving party)
ended_avoids link serving None off = none_avoids link serving off
ended_avoids link serving (Some party) off = record { elsewhere = tt; absent = leaves_absent link serving.filestore party [] off }

either_avoids : (link : ℕ) (serving : Serving) (b : Bool) (one other : Answer) → Avoids link serving (one ∷ []) → Avoids link serving (other ∷ [])
    → Avoids link serving (cond b one other ∷ [])
either_avoids link serving true one other off off' = off
either_avoids link serving false one other off off' = off'

arrival_avoids : (link new : ℕ) (serving : Serving) → nat_eq new link ≡ false → IsAbsent link serving.filestore → Avoids link serving (arrival new serving ∷ [])
arrival_avoids link new serving other off =
    either_avoids link serving (nat_lt (length serving.filestore.parties) most_links) _ _
    (one_avoids link serving _ tt (all_append (IsOff link) serving.filestore.parties (arrived new ∷ []) off (other, tt)))
    (one_avoids link serving _ (speaking_elsewhere link new [] true other) off)

-- the link doesn't arrive in this event
abbrev pub IsNoArrival : ℕ → ScriptEvent → Type 0
IsNoArrival link (Arrived new) = nat_eq new link ≡ false
IsNoArrival link (Octets on moment octets) = Unit {0}
IsNoArrival link (Ended on) = Unit {0}

pub trail_avoids : (link : ℕ) (event : ScriptEvent) (serving : Serving) → IsNoArrival link event → IsAbsent link serving.filestore → Avoids link serving (trail event serving)
trail_avoids link (Arrived new) serving other off = by (stands new serving.filestore)
  where
    by : (b : Bool) → Avoids link serving (cond b [] (arrival new serving ∷ []))
    by true = none_avoids link serving off
    by false = arrival_avoids link new serving other off
trail_avoids link (Octets on moment octets) serving other off = octets_avoid link moment on serving octets off
trail_avoids link (Ended on) serving other off = ended_avoids link serving (party_of on serving.filestore.parties) off

-- AN END. Nothing is said, and no party stands on the link.
pub end_is_silent : (link : ℕ) (serving : Serving) → spoken_in (trail (Ended link) serving) ≡ []
end_is_silent link serving = by (party_of link serving.filestore.parties)
  where
    by : (party : Option StandingParty) → spoken_in (ended serving party) ≡ []
    by None = refl
    by (Some party) = refl

pub end_is_absent : (link : ℕ) (serving : Serving) → IsAbsent link (at_end serving (trail (Ended link) serving)).filestore
end_is_absent link serving = by (party_of link serving.filestore.parties) refl
  where
    by : (party : Option StandingParty) → party_of link serving.filestore.parties ≡ party → IsAbsent link (at_end serving (ended serving party)).filestore
    by None is = absent_of link serving.filestore.parties (ap is_some is)
    by (Some party) is =
        let same : party.link ≡ link = Located.same (located link serving.filestore.parties party is) in
        subst (λ gone. IsAbsent link (leaves serving.filestore (record party { link = gone }) []).state) (sym same) (broken_gone link serving.filestore.parties)
