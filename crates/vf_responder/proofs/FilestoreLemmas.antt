-- The answers of the responder, each by messages of a run of the filestore.
use Rattle.std.proofs.Common.{◌≡◌, ℕ, Bool, true, false, inl, inr, List, [], ◌∷◌, ◌++◌, Option, None, Some, refl, ap, sym, subst, ◌∙◌, append_assoc}
use Rattle.std.specs.Prelude.{is_some, nat_lt, length, if◌then◌else◌}
use Rattle.vf_base.specs.declared.events.ScriptEvent.{ScriptEvent}
use Rattle.vf_base.specs.declared.events.ScriptEvent.TheVariants.{Arrived, Octets, Ended}
use Rattle.vf_elements.specs.declared.message.Message.{Message}
use Rattle.vf_elements.specs.declared.message.Message.TheVariants as messages
use Rattle.vf_filestore.proofs.Decisions.{broken_same}
use Rattle.vf_filestore.proofs.GivingWay.{answers_follow}
use Rattle.vf_filestore.proofs.Parties.{located}
use Rattle.vf_filestore.proofs.Transitions.{breaks_sound, faults_sound, runs_sound, transitions_sound}
use Rattle.vf_filestore.specs.Aborts.{Setting}
use Rattle.vf_filestore.specs.Conclusion.{Answered}
use Rattle.vf_filestore.specs.Decision.{Decision, Leaves, decision_in}
use Rattle.vf_filestore.specs.Diagnostics.{superseded}
use Rattle.vf_filestore.specs.Dockets.{broken}
use Rattle.vf_filestore.specs.GivingWay.{turn_after}
use Rattle.vf_filestore.specs.Records.{given_way}
use Rattle.vf_filestore.specs.Runs.{Event, Arrives, Takes, Faults, after_event, arrives, before}
use Rattle.vf_filestore.specs.Runs as filestore
use Rattle.vf_filestore.specs.Sound.{IsSound}
use Rattle.vf_filestore.specs.Stage.{Group, pending}
use Rattle.vf_filestore.specs.State.{State, StandingParty, party_of, with_party}
use Rattle.vf_filestore.specs.Transition.{Sent, Turn, aborts, answered, fault_of, leaves, met, on_link, superseded_by, transition, transition_of, turn_of, with_message}
use Rattle.vf_session.specs.Trace.{next}
use Rattle.vf_stack.specs.Association.{beginning, is_ended}
use Rattle.vf_stack.specs.declared.indication.Indication.{Indication}
use Rattle.vf_stack.specs.declared.indication.Indication.TheVariants as indications
use Rattle.vf_responder.proofs.ChainLemmas.{at_end-join}
use Rattle.vf_responder.specs.Answers.{Answer, after_octet, answering, answering_on, arrival, at_end, breaking, ended, giving_way, most_links, octet_heard, octets_heard, says, setting_at, speaking, told, told_all, with_octet}
use Rattle.vf_responder.specs.FilestoreRuns.{Carries, IsFilestoreRun}
use Rattle.vf_responder.specs.Meanings.{Meaning, meaning, transfer_check}
use Rattle.vf_responder.specs.Meanings as meanings
use Rattle.vf_responder.specs.Run.{run, trail}
use Rattle.vf_responder.specs.Serving.{Serving, stands, with_association}

-- ---- runs one after another

before-twice : (first second : List Sent) (turn : Turn) → before first (before second turn) ≡ before (first ++ second) turn
before-twice first second turn = ap (λ (sent : List Sent). record turn { sent = sent }) (sym (append_assoc first second turn.sent))

run-join : (first second : List Event) (state : State)
    → filestore.run (first ++ second) state ≡ before (filestore.run first state).sent (filestore.run second (filestore.run first state).state)
run-join [] second state = refl
run-join (event ∷ first) second state =
    let turn = after_event state event in
    ap (λ (later : Turn). before turn.sent later) (run-join first second turn.state)
    ∙ before-twice turn.sent (filestore.run first turn.state).sent (filestore.run second (filestore.run first turn.state).state)

carries-join : (serving : Serving) (first second : List Answer) (sent more : List Sent) → Carries serving first sent → Carries (at_end serving first) second more → Carries serving (first ++ second) (sent ++ more)
carries-join serving [] second sent more none later = subst (λ (all : List Sent). Carries serving second (all ++ more)) (sym none) later
carries-join serving (answer ∷ first) second sent more one later =
    (one.0, one.1 ++ more, ap (λ (all : List Sent). all ++ more) one.2 ∙ append_assoc one.0 one.1 more, one.3, carries-join answer.state first second one.1 more one.4 later)

-- what a state leads to so, which is sound again
pub record Leads (serving : Serving) (answers : List Answer) : Type 0 where
  pub is : IsFilestoreRun serving answers
  pub sound : IsSound (at_end serving answers).filestore

leads-none : (serving : Serving) → IsSound serving.filestore → Leads serving []
leads-none serving sound = record { is = record { messages = []; state = refl; carries = refl }; sound = sound }

joined : (serving : Serving) (first second : List Answer) → Leads serving first → Leads (at_end serving first) second → Leads serving (first ++ second)
joined serving first second one other =
    let end : (at_end serving (first ++ second)).filestore ≡ (at_end (at_end serving first) second).filestore = ap (λ (s : Serving). s.filestore) (at_end-join serving first second) in
    let both = run-join one.is.messages other.is.messages serving.filestore in
    let now = filestore.run one.is.messages serving.filestore in
    let later : filestore.run other.is.messages (at_end serving first).filestore ≡ filestore.run other.is.messages now.state = ap (λ (s : State). filestore.run other.is.messages s) one.is.state in
    record {
      is = record {
        messages = one.is.messages ++ other.is.messages;
        state = end ∙ other.is.state ∙ ap (λ (t : Turn). t.state) later ∙ sym (ap (λ (t : Turn). t.state) both);
        carries =
            subst (λ (sent : List Sent). Carries serving (first ++ second) sent) (sym (ap (λ (t : Turn). t.sent) both))
            (carries-join serving first second now.sent (filestore.run other.is.messages now.state).sent one.is.carries
            (subst (λ (sent : List Sent). Carries (at_end serving first) second sent) (ap (λ (t : Turn). t.sent) later) other.is.carries));
      };
      sound = subst IsSound (sym end) other.sound;
    }

-- an answer that leaves the filestore alone
still : (serving : Serving) (answer : Answer) → answer.state.filestore ≡ serving.filestore → IsSound serving.filestore → Leads serving (answer ∷ [])
still serving answer same sound = record {
  is = record { messages = []; state = same; carries = ([], [], refl, inl refl, refl) };
  sound = subst IsSound (sym same) sound;
}

-- what a party says to one message
says-one : (serving : Serving) (link : ℕ) (indication : Indication) (given : Answered) (event : Event) → after_event serving.filestore event ≡ record { sent = on_link link given.said; state = given.state }
    → IsSound (after_event serving.filestore event).state → Leads serving (says link indication serving given ∷ [])
says-one serving link indication given event turn sound = record {
  is = record {
    messages = event ∷ [];
    state = sym (ap (λ (t : Turn). t.state) turn);
    carries = (on_link link given.said, [], ap (λ (t : Turn). t.sent ++ []) turn, inr (record { link = link; indication = indication; given = given; said = refl; sends = refl }), refl);
  };
  sound = subst IsSound (ap (λ (t : Turn). t.state) turn) sound;
}

-- ---- messages

takes-by : (serving : Serving) (indication : Indication) (party : StandingParty) (setting : Setting) (message : Message) (way : Option StandingParty) → IsSound serving.filestore
    → transition serving.filestore party.link setting message ≡ turn_after way (given_way way serving.filestore) party.link party setting message
    → (let now = at_end serving (giving_way serving way) in Leads serving (giving_way serving way ++ says party.link indication now (answered now.filestore party setting message) ∷ []))
takes-by serving indication party setting message None sound turn =
    says-one serving party.link indication (answered serving.filestore party setting message) (Takes party.link setting message) turn (transitions_sound serving.filestore party.link setting message sound)
takes-by serving indication party setting message (Some other) sound turn =
    let first = aborts serving.filestore other superseded 0 in
    let now = (says other.link (indications.Abort None) serving first).state in
    let given = answered now.filestore party setting message in
    record {
      is = record {
        messages = Takes party.link setting message ∷ [];
        state = sym (ap (λ (t : Turn). t.state) turn);
        carries = (
          on_link other.link first.said,
          on_link party.link given.said ++ [],
          ap (λ (t : Turn). t.sent ++ []) turn,
          inr (record { link = other.link; indication = indications.Abort None; given = first; said = refl; sends = refl }),
          (on_link party.link given.said, [], refl, inr (record { link = party.link; indication = indication; given = given; said = refl; sends = refl }), refl),
        );
      };
      sound = subst IsSound (ap (λ (t : Turn). t.state) turn) (transitions_sound serving.filestore party.link setting message sound);
    }

answering-leads : (moment : ℕ) (indication : Indication) (serving : Serving) (party : StandingParty) (meant : Meaning) → IsSound serving.filestore → party_of party.link serving.filestore.parties ≡ Some party
    → Leads serving (answering moment indication serving party meant)
answering-leads moment indication serving party (meanings.Takes message) sound found =
    let way = superseded_by serving.filestore party message in
    let now = at_end serving (giving_way serving way) in
    let setting = setting_at moment (now.associations party.link) indication in
    takes-by serving indication party setting message way sound (answers_follow serving.filestore party.link party setting message sound found).turn
answering-leads moment indication serving party (meanings.Faults number place) sound found =
    says-one serving party.link indication (aborts serving.filestore party number place) (Faults party.link number place)
    (ap (λ (found : Option StandingParty). fault_of serving.filestore number place found) found) (faults_sound serving.filestore party.link number place sound)
answering-leads moment indication serving party meanings.Nothing sound found =
    still serving (says party.link indication serving (record { said = []; state = serving.filestore })) refl sound

-- the party of a link is that of its own link
own-link : (link : ℕ) (state : State) (party : StandingParty) → party_of link state.parties ≡ Some party → party_of party.link state.parties ≡ Some party
own-link link state party found = subst (λ (n : ℕ). party_of n state.parties ≡ Some party) (sym (located link state.parties party found).same) found

told-by : (moment link : ℕ) (indication : Indication) (serving : Serving) (party : Option StandingParty) → IsSound serving.filestore → party_of link serving.filestore.parties ≡ party
    → Leads serving (answering_on moment indication serving party)
told-by moment link indication serving None sound found = leads-none serving sound
told-by moment link indication serving (Some party) sound found =
    answering-leads moment indication serving party (meaning (next (serving.associations party.link).exchange.trace) (transfer_check party.history) indication) sound (own-link link serving.filestore party found)

told-leads : (moment link : ℕ) (serving : Serving) (all : List Indication) → IsSound serving.filestore → Leads serving (told_all moment link serving all)
told-leads moment link serving [] sound = leads-none serving sound
told-leads moment link serving (indication ∷ later) sound =
    let first = told moment link serving indication in
    let one = told-by moment link indication serving (party_of link serving.filestore.parties) sound refl in
    joined serving first (told_all moment link (at_end serving first) later) one (told-leads moment link (at_end serving first) later one.sound)

-- ---- breaks

break-decided : (group : Option Group) (state : State) (party : StandingParty) (setting : Setting) → decision_in group state party setting messages.Break ≡ Leaves
break-decided None state party setting = refl
break-decided (Some group) state party setting = refl

break-turn : (state : State) (party : StandingParty) (setting : Setting) → IsSound state → party_of party.link state.parties ≡ Some party
    → transition state party.link setting messages.Break ≡ record { sent = []; state = broken party.link state }
break-turn state party setting sound found =
    let heard = with_message messages.Break party in
    ap (λ (one : Option StandingParty). transition_of state setting messages.Break one) found
    ∙ ap (λ (one : Decision). turn_of party (met (record state { parties = with_party heard state.parties }) heard setting messages.Break one)) (break-decided (pending party.trace) state party setting)
    ∙ ap (λ (one : State). turn_of party (record { said = []; state = one })) (broken_same state party.link party (messages.Break ∷ party.trace) sound.linked found)

abbrev any_setting : Setting
any_setting = record { moment = 0; serial = 0; token = false; sync = false }

breaks-by : (serving : Serving) (party : StandingParty) (over : Bool) → IsSound serving.filestore → party_of party.link serving.filestore.parties ≡ Some party
    → Leads serving (if over then says party.link (indications.Abort None) serving (leaves serving.filestore party []) ∷ [] else [])
breaks-by serving party false sound found = leads-none serving sound
breaks-by serving party true sound found =
    let turn = break-turn serving.filestore party any_setting sound found in
    says-one serving party.link (indications.Abort None) (leaves serving.filestore party []) (Takes party.link any_setting messages.Break) turn
    (transitions_sound serving.filestore party.link any_setting messages.Break sound)

breaking-leads : (link : ℕ) (serving : Serving) (party : Option StandingParty) → IsSound serving.filestore → party_of link serving.filestore.parties ≡ party → Leads serving (breaking serving party)
breaking-leads link serving None sound found = leads-none serving sound
breaking-leads link serving (Some party) sound found =
    breaks-by serving party (is_ended (serving.associations party.link).exchange.ending) sound (own-link link serving.filestore party found)

-- ---- octets

octet-leads : (moment link octet : ℕ) (serving : Serving) → IsSound serving.filestore → Leads serving (octet_heard moment link serving octet)
octet-leads moment link octet serving sound =
    let heard = with_octet link octet serving in
    let turns = told_all moment link heard.0.state heard.1 in
    let now = at_end heard.0.state turns in
    let middle = told-leads moment link heard.0.state heard.1 sound in
    joined serving (heard.0 ∷ []) (turns ++ after_octet link now) (still serving heard.0 refl sound)
    (joined heard.0.state turns (after_octet link now) middle (breaking-leads link now (party_of link now.filestore.parties) middle.sound refl))

octets-by : (moment link octet : ℕ) (later : List ℕ) (serving : Serving) (standing : Bool) → IsSound serving.filestore
    → ((now : Serving) → IsSound now.filestore → Leads now (octets_heard moment link now later))
    → (let first = octet_heard moment link serving octet in Leads serving (if standing then first ++ octets_heard moment link (at_end serving first) later else []))
octets-by moment link octet later serving false sound rest = leads-none serving sound
octets-by moment link octet later serving true sound rest =
    let first = octet_heard moment link serving octet in
    let one = octet-leads moment link octet serving sound in
    joined serving first (octets_heard moment link (at_end serving first) later) one (rest (at_end serving first) one.sound)

octets-lead : (moment link : ℕ) (octets : List ℕ) (serving : Serving) → IsSound serving.filestore → Leads serving (octets_heard moment link serving octets)
octets-lead moment link [] serving sound = leads-none serving sound
octets-lead moment link (octet ∷ later) serving sound =
    octets-by moment link octet later serving (stands link serving.filestore) sound (λ now so. octets-lead moment link later now so)

-- ---- arrivals and ends

abbrev arrival_in : (room : Bool) (link : ℕ) → Serving → Answer
arrival_in room link serving =
    if room then record { spoken = []; state = with_association link beginning (record serving { filestore = arrives link serving.filestore }) }
    else record { spoken = speaking link [] true; state = serving }

arrival-by : (link : ℕ) (serving : Serving) (room : Bool) → nat_lt (length serving.filestore.parties) most_links ≡ room → party_of link serving.filestore.parties ≡ None → IsSound serving.filestore
    → Leads serving (arrival link serving ∷ [])
arrival-by link serving true room none sound =
    subst (λ (b : Bool). Leads serving (arrival_in b link serving ∷ [])) (sym room)
    (record {
      is = record { messages = Arrives link ∷ []; state = refl; carries = ([], [], refl, inl refl, refl) };
      sound = runs_sound (Arrives link ∷ []) serving.filestore (none, tt) sound;
    })
arrival-by link serving false room none sound =
    subst (λ (b : Bool). Leads serving (arrival_in b link serving ∷ [])) (sym room)
    (still serving (arrival_in false link serving) refl sound)

arrivals-lead : (link : ℕ) (serving : Serving) (party : Option StandingParty) → party_of link serving.filestore.parties ≡ party → IsSound serving.filestore
    → Leads serving (if is_some party then [] else arrival link serving ∷ [])
arrivals-lead link serving None none sound = arrival-by link serving (nat_lt (length serving.filestore.parties) most_links) refl none sound
arrivals-lead link serving (Some party) found sound = leads-none serving sound

ends-lead : (link : ℕ) (serving : Serving) (party : Option StandingParty) → party_of link serving.filestore.parties ≡ party → IsSound serving.filestore → Leads serving (ended serving party)
ends-lead link serving None none sound = leads-none serving sound
ends-lead link serving (Some party) found sound =
    let turn = break-turn serving.filestore party any_setting sound (own-link link serving.filestore party found) in
    record {
      is = record {
        messages = Takes party.link any_setting messages.Break ∷ [];
        state = sym (ap (λ (t : Turn). t.state) turn);
        carries = ([], [], ap (λ (t : Turn). t.sent ++ []) turn, inl refl, refl);
      };
      sound = breaks_sound serving.filestore party.link sound;
    }

trail-leads : (event : ScriptEvent) (serving : Serving) → IsSound serving.filestore → Leads serving (trail event serving)
trail-leads (Arrived link) serving sound = arrivals-lead link serving (party_of link serving.filestore.parties) refl sound
trail-leads (Octets link moment octets) serving sound = octets-lead moment link octets serving sound
trail-leads (Ended link) serving sound = ends-lead link serving (party_of link serving.filestore.parties) refl sound

pub runs-lead : (events : List ScriptEvent) (serving : Serving) → IsSound serving.filestore → Leads serving (run events serving)
runs-lead [] serving sound = leads-none serving sound
runs-lead (event ∷ events) serving sound =
    let first = trail event serving in
    let one = trail-leads event serving sound in
    joined serving first (run events (at_end serving first)) one (runs-lead events (at_end serving first) one.sound)
