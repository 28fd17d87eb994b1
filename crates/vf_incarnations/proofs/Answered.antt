-- Each answer of a run of the responder is what the filestore does to the event that it is to.
use Rattle.std.proofs.Common.{◌≡◌, ◌∙◌, ℕ, zero, suc, Bool, true, false, inl, inr, List, [], ◌∷◌, ◌++◌, take, Option, None, Some, refl, ap, sym, subst}
use Rattle.std.specs.List.{AllByRecursion}
use Rattle.std.specs.Prelude.{IfSome, is_some, nat_lt, length, if◌then◌else◌}
use Rattle.vf_base.specs.declared.events.ScriptEvent.{ScriptEvent}
use Rattle.vf_base.specs.declared.events.ScriptEvent.TheVariants as script
use Rattle.vf_elements.specs.declared.message.Message.{Message}
use Rattle.vf_elements.specs.declared.message.Message.TheVariants.{Break}
use Rattle.vf_filestore.proofs.Decisions.{broken_same}
use Rattle.vf_filestore.proofs.GivingWay.{answers_follow}
use Rattle.vf_filestore.proofs.Parties.{located}
use Rattle.vf_filestore.proofs.RangedStates.{runs_make}
use Rattle.vf_filestore.specs.Aborts.{Setting}
use Rattle.vf_filestore.specs.Conclusion.{Answered}
use Rattle.vf_filestore.specs.Decision.{Decision, Leaves, decision_in}
use Rattle.vf_filestore.specs.Diagnostics.{superseded}
use Rattle.vf_filestore.specs.Dockets.{broken}
use Rattle.vf_filestore.specs.GivingWay.{IsInWay, turn_after}
use Rattle.vf_filestore.specs.Laws.{IsNew}
use Rattle.vf_filestore.specs.Ranges.{IsReached, WasRead}
use Rattle.vf_filestore.specs.Records.{given_way}
use Rattle.vf_filestore.specs.Runs.{Event, Arrives, Takes, Faults, after_event, arrives}
use Rattle.vf_filestore.specs.Sound.{IsSound}
use Rattle.vf_filestore.specs.Stage.{Group, pending}
use Rattle.vf_filestore.specs.State.{State, StandingParty, party_of, with_party}
use Rattle.vf_filestore.specs.Transition.{Turn, aborts, answered, fault_of, leaves, met, on_link, superseded_by, transition, transition_of, turn_of, with_message}
use Rattle.vf_session.specs.Trace.{next}
use Rattle.vf_session.specs.declared.units.TokenSide.TheVariants.{Responder}
use Rattle.vf_stack.proofs.ReadLemmas.{piece-read}
use Rattle.vf_stack.specs.Association.{beginning, is_ended}
use Rattle.vf_stack.specs.declared.indication.Indication.{Indication}
use Rattle.vf_stack.specs.declared.indication.Indication.TheVariants as indications
use Rattle.vf_responder.proofs.ReadLemmas.{all-read}
use Rattle.vf_responder.specs.Answers.{Answer, after_octet, answering, answering_on, arrival, at_end, breaking, ended, giving_way, most_links, octet_heard, octets_heard, says, setting_at, speaking, told, told_all, with_octet}
use Rattle.vf_responder.specs.AnswersTo.{any_setting, to_arrival, to_break, to_ending, to_event, to_indication, to_indication_of, to_indications, to_meant, to_octet, to_octets, to_way}
use Rattle.vf_responder.specs.Meanings.{Meaning, meaning, transfer_check}
use Rattle.vf_responder.specs.Meanings as meant
use Rattle.vf_responder.specs.Run.{run, trail}
use Rattle.vf_responder.specs.Serving.{Serving, stands, with_association}
use Rattle.vf_responder.specs.Steps.{IsReadMeaning, IsReadTold}
use Rattle.vf_incarnations.specs.Laws.{AreTo, Does, EventsAreAnswered, IsTo}
use Rattle.vf_incarnations.specs.Messages.{to_events}

-- ---- answers one after another

pub to-join : (serving : Serving) (first second : List Answer) (events others : List (Option Event)) → AreTo serving first events → AreTo (at_end serving first) second others
    → AreTo serving (first ++ second) (events ++ others)
to-join serving [] second [] others one more = more
to-join serving [] second (event ∷ events) others one more = absurd one
to-join serving (answer ∷ first) second [] others one more = absurd one
to-join serving (answer ∷ first) second (event ∷ events) others one more = (one.0, to-join answer.state first second events others one.1 more)

pub to-take : (count : ℕ) (serving : Serving) (answers : List Answer) (events : List (Option Event)) → AreTo serving answers events → AreTo serving (take count answers) (take count events)
to-take zero serving answers events are = tt
to-take (suc count) serving [] [] are = tt
to-take (suc count) serving [] (event ∷ events) are = absurd are
to-take (suc count) serving (answer ∷ answers) [] are = absurd are
to-take (suc count) serving (answer ∷ answers) (event ∷ events) are = (are.0, to-take count answer.state answers events are.1)

-- what is reached stays so
event-reached : (event : Event) (state : State) → IsNew event state → WasRead event → IsReached state → IsReached (after_event state event).state
event-reached event state new read reached = (runs_make (event ∷ []) state (new, tt) (read, tt) reached).1

one-reached : (serving : Serving) (answer : Answer) (event : Option Event) → IsTo serving answer event → IsReached serving.filestore → IsReached answer.state.filestore
one-reached serving answer None same reached = subst IsReached (sym same) reached
one-reached serving answer (Some event) does reached = subst IsReached (sym does.leads) (event-reached event serving.filestore does.new does.read reached)

pub to-reached : (serving : Serving) (answers : List Answer) (events : List (Option Event)) → AreTo serving answers events → IsReached serving.filestore → IsReached (at_end serving answers).filestore
to-reached serving [] [] are reached = reached
to-reached serving [] (event ∷ events) are reached = absurd are
to-reached serving (answer ∷ answers) [] are reached = absurd are
to-reached serving (answer ∷ answers) (event ∷ events) are reached = to-reached answer.state answers events are.1 (one-reached serving answer event are.0 reached)

-- what a party says to one event
says-to : (serving : Serving) (link : ℕ) (indication : Indication) (given : Answered) (event : Event) → IsNew event serving.filestore → WasRead event
    → after_event serving.filestore event ≡ record { sent = on_link link given.said; state = given.state } → Does serving (says link indication serving given) event
says-to serving link indication given event new read turn = record {
  new = new;
  read = read;
  leads = sym (ap (λ (t : Turn). t.state) turn);
  says = inr (record { link = link; indication = indication; given = given; said = refl; sends = ap (λ (t : Turn). t.sent) turn });
}

-- ---- messages

takes-to : (moment : ℕ) (indication : Indication) (serving : Serving) (party : StandingParty) (message : Message) (way : Option StandingParty)
    → (let now = at_end serving (giving_way serving way) in
    let setting = setting_at moment (now.associations party.link) indication in
    IfSome way (IsInWay serving.filestore party.link) → WasRead (Takes party.link setting message)
    → transition (given_way way serving.filestore) party.link setting message ≡ turn_after None (given_way way serving.filestore) party.link party setting message
    → AreTo serving (giving_way serving way ++ says party.link indication now (answered now.filestore party setting message) ∷ [])
    (to_way way ++ Some (Takes party.link setting message) ∷ []))
takes-to moment indication serving party message None in_way read turn =
    let setting = setting_at moment (serving.associations party.link) indication in
    (says-to serving party.link indication (answered serving.filestore party setting message) (Takes party.link setting message) tt read turn, tt)
takes-to moment indication serving party message (Some other) in_way read turn =
    let first = aborts serving.filestore other superseded 0 in
    let now = (says other.link (indications.Abort None) serving first).state in
    let setting = setting_at moment (now.associations party.link) indication in (
      says-to serving other.link (indications.Abort None) first (Faults other.link superseded 0) tt tt (ap (λ (found : Option StandingParty). fault_of serving.filestore superseded 0 found) in_way.stands),
      (says-to now party.link indication (answered now.filestore party setting message) (Takes party.link setting message) tt read turn, tt),
    )

meant-to : (moment : ℕ) (indication : Indication) (serving : Serving) (party : StandingParty) (is : Meaning) → IsReadMeaning is → IsReached serving.filestore
    → party_of party.link serving.filestore.parties ≡ Some party → AreTo serving (answering moment indication serving party is) (to_meant moment indication serving party is)
meant-to moment indication serving party (meant.Takes message) read reached found =
    let way = superseded_by serving.filestore party message in
    let now = at_end serving (giving_way serving way) in
    let setting = setting_at moment (now.associations party.link) indication in
    let follows = answers_follow serving.filestore party.link party setting message reached.sound found in
    takes-to moment indication serving party message way follows.in_way read follows.alone
meant-to moment indication serving party (meant.Faults number place) read reached found = (
  says-to serving party.link indication (aborts serving.filestore party number place) (Faults party.link number place) tt tt
      (ap (λ (found : Option StandingParty). fault_of serving.filestore number place found) found),
  tt,
)
meant-to moment indication serving party meant.Nothing read reached found = (refl, tt)

-- the party of a link is that of its own link
own-link : (link : ℕ) (state : State) (party : StandingParty) → party_of link state.parties ≡ Some party → party_of party.link state.parties ≡ Some party
own-link link state party found = subst (λ (n : ℕ). party_of n state.parties ≡ Some party) (sym (located link state.parties party found).same) found

told-to : (moment link : ℕ) (indication : Indication) (serving : Serving) (party : Option StandingParty) → IsReadTold indication → IsReached serving.filestore
    → party_of link serving.filestore.parties ≡ party → AreTo serving (answering_on moment indication serving party) (to_indication_of moment indication serving party)
told-to moment link indication serving None read reached found = tt
told-to moment link indication serving (Some party) read reached found =
    let number = next (serving.associations party.link).exchange.trace in
    let last = transfer_check party.history in
    meant-to moment indication serving party (meaning number last indication) (read number last) reached (own-link link serving.filestore party found)

all-to : (moment link : ℕ) (serving : Serving) (all : List Indication) → AllByRecursion IsReadTold all → IsReached serving.filestore
    → AreTo serving (told_all moment link serving all) (to_indications moment link serving all)
all-to moment link serving [] read reached = tt
all-to moment link serving (indication ∷ later) read reached =
    let first = told moment link serving indication in
    let now = at_end serving first in
    let one = told-to moment link indication serving (party_of link serving.filestore.parties) read.0 reached refl in
    to-join serving first (told_all moment link now later) (to_indication moment link serving indication) (to_indications moment link now later) one
    (all-to moment link now later read.1 (to-reached serving first (to_indication moment link serving indication) one reached))

-- ---- breaks

break-decided : (group : Option Group) (state : State) (party : StandingParty) (setting : Setting) → decision_in group state party setting Break ≡ Leaves
break-decided None state party setting = refl
break-decided (Some group) state party setting = refl

break-turn : (state : State) (party : StandingParty) (setting : Setting) → IsSound state → party_of party.link state.parties ≡ Some party
    → transition state party.link setting Break ≡ record { sent = []; state = broken party.link state }
break-turn state party setting sound found =
    let heard = with_message Break party in
    ap (λ (one : Option StandingParty). transition_of state setting Break one) found
    ∙ ap (λ (one : Decision). turn_of party (met (record state { parties = with_party heard state.parties }) heard setting Break one)) (break-decided (pending party.trace) state party setting)
    ∙ ap (λ (one : State). turn_of party (record { said = []; state = one })) (broken_same state party.link party (Break ∷ party.trace) sound.linked found)

ending-to : (serving : Serving) (party : StandingParty) (over : Bool) → IsReached serving.filestore → party_of party.link serving.filestore.parties ≡ Some party
    → AreTo serving (if over then says party.link (indications.Abort None) serving (leaves serving.filestore party []) ∷ [] else []) (if over then to_break (Some party) else [])
ending-to serving party false reached found = tt
ending-to serving party true reached found = (
  says-to serving party.link (indications.Abort None) (leaves serving.filestore party []) (Takes party.link any_setting Break) tt tt
      (break-turn serving.filestore party any_setting reached.sound found),
  tt,
)

breaking-to : (link : ℕ) (serving : Serving) (party : Option StandingParty) → IsReached serving.filestore → party_of link serving.filestore.parties ≡ party
    → AreTo serving (breaking serving party) (to_ending serving party)
breaking-to link serving None reached found = tt
breaking-to link serving (Some party) reached found =
    ending-to serving party (is_ended (serving.associations party.link).exchange.ending) reached (own-link link serving.filestore party found)

-- ---- octets

octet-to : (moment link octet : ℕ) (serving : Serving) → IsReached serving.filestore → AreTo serving (octet_heard moment link serving octet) (to_octet moment link serving octet)
octet-to moment link octet serving reached =
    let heard = with_octet link octet serving in
    let turns = told_all moment link heard.0.state heard.1 in
    let now = at_end heard.0.state turns in
    let read = all-read heard.1 (piece-read Responder (serving.associations link) (octet ∷ [])) in
    let middle = all-to moment link heard.0.state heard.1 read reached in (
      refl,
      to-join heard.0.state turns (after_octet link now) (to_indications moment link heard.0.state heard.1) (to_ending now (party_of link now.filestore.parties)) middle
          (breaking-to link now (party_of link now.filestore.parties) (to-reached heard.0.state turns (to_indications moment link heard.0.state heard.1) middle reached) refl),
    )

octets-by : (moment link octet : ℕ) (later : List ℕ) (serving : Serving) (standing : Bool) → IsReached serving.filestore
    → ((now : Serving) → IsReached now.filestore → AreTo now (octets_heard moment link now later) (to_octets moment link now later))
    → (let first = octet_heard moment link serving octet in
    AreTo serving (if standing then first ++ octets_heard moment link (at_end serving first) later else [])
    (if standing then to_octet moment link serving octet ++ to_octets moment link (at_end serving first) later else []))
octets-by moment link octet later serving false reached rest = tt
octets-by moment link octet later serving true reached rest =
    let first = octet_heard moment link serving octet in
    let one = octet-to moment link octet serving reached in
    to-join serving first (octets_heard moment link (at_end serving first) later) (to_octet moment link serving octet) (to_octets moment link (at_end serving first) later) one
    (rest (at_end serving first) (to-reached serving first (to_octet moment link serving octet) one reached))

octets-to : (moment link : ℕ) (octets : List ℕ) (serving : Serving) → IsReached serving.filestore → AreTo serving (octets_heard moment link serving octets) (to_octets moment link serving octets)
octets-to moment link [] serving reached = tt
octets-to moment link (octet ∷ later) serving reached =
    octets-by moment link octet later serving (stands link serving.filestore) reached (λ now so. octets-to moment link later now so)

-- ---- arrivals and ends

abbrev arrival_in : (room : Bool) (link : ℕ) → Serving → Answer
arrival_in room link serving =
    if room then record { spoken = []; state = with_association link beginning (record serving { filestore = arrives link serving.filestore }) }
    else record { spoken = speaking link [] true; state = serving }

arrival-by : (link : ℕ) (serving : Serving) (room : Bool) → party_of link serving.filestore.parties ≡ None
    → IsTo serving (arrival_in room link serving) (if room then Some (Arrives link) else None)
arrival-by link serving true none = record { new = none; read = tt; leads = refl; says = inl refl }
arrival-by link serving false none = refl

arrivals-to : (link : ℕ) (serving : Serving) (party : Option StandingParty) → party_of link serving.filestore.parties ≡ party
    → AreTo serving (if is_some party then [] else arrival link serving ∷ []) (if is_some party then [] else to_arrival link serving ∷ [])
arrivals-to link serving None none = (arrival-by link serving (nat_lt (length serving.filestore.parties) most_links) none, tt)
arrivals-to link serving (Some party) found = tt

ends-to : (link : ℕ) (serving : Serving) (party : Option StandingParty) → party_of link serving.filestore.parties ≡ party → IsReached serving.filestore
    → AreTo serving (ended serving party) (to_break party)
ends-to link serving None none reached = tt
ends-to link serving (Some party) found reached =
    let turn = break-turn serving.filestore party any_setting reached.sound (own-link link serving.filestore party found) in
    (record { new = tt; read = tt; leads = sym (ap (λ (t : Turn). t.state) turn); says = inl (ap (λ (t : Turn). t.sent) turn) }, tt)

pub event-to : (event : ScriptEvent) (serving : Serving) → IsReached serving.filestore → AreTo serving (trail event serving) (to_event event serving)
event-to (script.Arrived link) serving reached = arrivals-to link serving (party_of link serving.filestore.parties) refl
event-to (script.Octets link moment octets) serving reached = octets-to moment link octets serving reached
event-to (script.Ended link) serving reached = ends-to link serving (party_of link serving.filestore.parties) refl reached

pub events_are_answered : EventsAreAnswered
events_are_answered [] serving reached = tt
events_are_answered (event ∷ events) serving reached =
    let first = trail event serving in
    let one = event-to event serving reached in
    to-join serving first (run events (at_end serving first)) (to_event event serving) (to_events events (at_end serving first)) one
    (events_are_answered events (at_end serving first) (to-reached serving first (to_event event serving) one reached))
