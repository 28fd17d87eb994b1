-- All that is said in a state in which all that is said has a value has one, and it stays so with every message that was
-- read, and with each fault, break, stop and drop.
use Rattle.std.proofs.Common.{◌≡◌, ℕ, Bool, true, false, cond, not, List, [], ◌∷◌, ◌++◌, Option, None, Some, refl, subst, arith}
use Rattle.std.specs.Prelude.{count_by, flat_map, nat_eq, nat_le}
use Rattle.std.specs.List.{AllByRecursion}
use Rattle.vf_elements.specs.declared.message.Message.{Message}
use Rattle.vf_elements.specs.declared.message.Message.TheVariants as messages
use Rattle.vf_elements.specs.declared.message.Said.{Said}
use Rattle.vf_pdu.specs.PduMeaning.{IsInRange}
use Rattle.vf_pdu.specs.PduRows.{row_of}
use Rattle.vf_pdu.specs.declared.pdu.Pdu.{Pdu}
use Rattle.vf_pdu.specs.declared.pdu.Pdu.TheVariants.{EndGroupResponse}
use Rattle.vf_tables.specs.Fitting.{is_activity}
use Rattle.vf_filestore.specs.Aborts.{Setting}
use Rattle.vf_filestore.specs.Conclusion.{Answered, concluding_entry, grants, taken_up}
use Rattle.vf_filestore.specs.Decision.{Decision, Aborts, Refuses, Grants, Waits, Groups, Ends, Leaves, decision, trial_decision}
use Rattle.vf_filestore.specs.Diagnostics.{below_threshold, plain, superseded, wrong_regime}
use Rattle.vf_filestore.specs.Dockets.{broken}
use Rattle.vf_filestore.specs.Ending.{stamp_of}
use Rattle.vf_filestore.specs.Groups.{Tried, Trial, between, groups, is_good, said_in_vain, said_of, trial, trial_by, trial_step}
use Rattle.vf_filestore.specs.Keeping.{EachAfter, IsFilled}
use Rattle.vf_filestore.specs.Ranges.{IsRangedFile, IsRead, IsReadEntry, WasRead}
use Rattle.vf_filestore.specs.Replies.{refusal, refusal_of_request, reply}
use Rattle.vf_filestore.specs.Runs.{Event, Arrives, Takes, Faults, Stops, after_event, arrives}
use Rattle.vf_filestore.specs.Sayable.{AreSayable, AreSentSayable, BeginsTelling, BreaksGoOnTelling, CanTell, DropsGoOnTelling, FaultsAreSayable, FaultsGoOnTelling, IsLink, IsMoment, IsReadWhole, IsSayable, IsTellable, IsToldEntry, IsToldFile, IsToldStamp, IsToldState, MessagesGoOnTelling, RunsAreSayable, SaidIsSayable, StopsGoOnTelling}
use Rattle.vf_filestore.specs.Sound.{HasItems, IsItem, IsLimited, IsSound, IsSoundDocket, IsSoundParty}
use Rattle.vf_filestore.specs.Stage.{Group, pending}
use Rattle.vf_filestore.specs.State.{Docket, State, StandingParty, arrived, is_of_link, party_of, with_party}
use Rattle.vf_filestore.specs.Transition.{Sent, answered, associates, fault_of, leaves, met, on_link, refuses, sent_on, superseded_by, taking_over, transition_of}
use Rattle.vf_filestore.proofs.Broken.{broken_sound}
use Rattle.vf_filestore.proofs.Concluded.{grants_sound, granting_request}
use Rattle.vf_filestore.proofs.Decisions.{decided_taken, grouped_as, grouped_items, heard_sound, item_asks, party_sound, put_again, traced, trial_taken}
use Rattle.vf_filestore.proofs.FilesLater.{message_goes}
use Rattle.vf_filestore.proofs.HistoriesStay.{broken_each, dropped_each, granted_each, heard_each, stopped_each}
use Rattle.vf_filestore.proofs.Lasting.{Lasts}
use Rattle.vf_filestore.proofs.Lists.{all-filter, all_append, all_both, all_left, all_map, all_right, all_weaker}
use Rattle.vf_filestore.proofs.Owned.{found_all}
use Rattle.vf_filestore.proofs.Parties.{located}
use Rattle.vf_filestore.proofs.Preserved.{IsDue, StaysIn, faults_in, granted_in, no_item, pending_allowed, transitions_in}
use Rattle.vf_filestore.proofs.RangedRows.{activity_ranged}
use Rattle.vf_filestore.proofs.RangedStates.{IsStored, begins_reached, breaks_reached, drops_reached, event_reached, faults_reached, messages_reached, stops_reached, stored_stays}
use Rattle.vf_filestore.proofs.ReadHistories.{all_active}
use Rattle.vf_filestore.proofs.Same.{with_parties, with_trace}
use Rattle.vf_filestore.proofs.Traced.{traced_found, traced_heard, traced_next, traced_without}
use Rattle.vf_filestore.proofs.Transitions.{still_there}
use Rattle.vf_filestore.proofs.ToldDecisions.{Gives, IsKnown, IsKnownDocket, IsKnownFile, IsKnownHistory, IsToldDecision, Tells, decision_told, message_told, trial_told}
use Rattle.vf_filestore.proofs.ToldFiles.{IsToldChange, IsToldNew, identity_named, read_brings, told_survives}
use Rattle.vf_filestore.proofs.ToldReplies.{abort_told, entry_told, message_refused, request_refused, terminate_told}

-- ---- what is known of a party, and of the state in which it stands

abbrev IsLinked : StandingParty → Type 0
IsLinked party = IsLink party.link

abbrev IsTimed : Setting → Type 0
IsTimed setting = IsMoment setting.moment

-- all that stays, beside what is sound
abbrev IsTelling : State → Type 0
IsTelling state = IsStored state × IsToldState state

whole_read : (message : Message) → IsReadWhole message → IsRead message
whole_read (messages.Restart point) is = tt
whole_read (messages.Pdu pdu) is = is
whole_read (messages.Element element) is = is
whole_read messages.Check is = tt
whole_read (messages.Acknowledge point) is = tt
whole_read messages.Break is = tt

files_known : (state : State) → IsSound state → IsTelling state → AllByRecursion IsKnownFile state.files
files_known state sound telling =
    all_both (λ file. IsLimited file × IsFilled file) (λ file. IsRangedFile file × IsToldFile file) IsKnownFile state.files
    (λ file first second. record { limited = first.0; filled = first.1; ranged = second.0; told = second.1 })
    (all_both IsLimited IsFilled (λ file. IsLimited file × IsFilled file) state.files (λ file one other. (one, other)) sound.limited.each telling.0.0.files.files)
    (all_both IsRangedFile IsToldFile (λ file. IsRangedFile file × IsToldFile file) state.files (λ file one other. (one, other)) telling.0.1.files telling.1.files)

abbrev IsTakenDocket : Docket → Type 0
IsTakenDocket docket = EachAfter IsReadEntry docket.history × EachAfter IsToldEntry docket.history

dockets_known : (state : State) → IsSound state → IsTelling state → AllByRecursion IsKnownDocket state.dockets
dockets_known state sound telling =
    all_both (IsSoundDocket state.files) IsTakenDocket IsKnownDocket state.dockets
    (λ docket sound taken. record {
      active = activity_ranged docket _ sound.opened (all_active docket.history taken.0);
      known = record { nested = sound.sound.nested; read = taken.0; told = taken.1 };
    }) sound.dockets
    (all_both (λ (docket : Docket). EachAfter IsReadEntry docket.history) (λ (docket : Docket). EachAfter IsToldEntry docket.history) IsTakenDocket state.dockets
    (λ docket one other. (one, other)) telling.0.1.histories.dockets telling.1.histories.dockets)

knows : (state : State) (party : StandingParty) → IsSound state → IsTelling state → IsKnownHistory party.history → IsKnown state party
knows state party sound telling own =
    let dockets = dockets_known state sound telling in
    record {
      files = files_known state sound telling;
      links = telling.1.links;
      actives = all_weaker IsKnownDocket (λ (docket : Docket). is_activity docket.activity ≡ true) state.dockets (λ docket known. known.active) dockets;
      dockets = dockets;
      own = own;
    }

-- one of a list of parties
among : (P : StandingParty → Type 0) (parties before after : List StandingParty) (party : StandingParty) → parties ≡ before ++ party ∷ after → AllByRecursion P parties → P party
among P parties before after party is all = (all_right P before (party ∷ after) (subst (λ (parties : List StandingParty). AllByRecursion P parties) is all)).0

knows_among : (state : State) (party : StandingParty) (before after : List StandingParty) → IsSound state → IsTelling state → state.parties ≡ before ++ party ∷ after → IsKnown state party
knows_among state party before after sound telling is =
    knows state party sound telling (record {
      nested = (among (IsSoundParty state.files) state.parties before after party is sound.parties).sound.nested;
      read = among (λ (party : StandingParty). EachAfter IsReadEntry party.history) state.parties before after party is telling.0.1.histories.parties;
      told = among (λ (party : StandingParty). EachAfter IsToldEntry party.history) state.parties before after party is telling.1.histories.parties;
    })

knows_found : (state : State) (link : ℕ) (party : StandingParty) → IsSound state → IsTelling state → party_of link state.parties ≡ Some party → IsKnown state party
knows_found state link party sound telling found =
    let at = located link state.parties party found in
    knows_among state party at.before at.after sound telling at.is

-- ---- it stays so

told_lasts : Lasts IsToldEntry
told_lasts earlier other entry alike counted at told = record { said = told.said; given = told.given }

put_linked : (next : StandingParty) (parties : List StandingParty) → IsLinked next → AllByRecursion IsLinked parties → AllByRecursion IsLinked (with_party next parties)
put_linked next [] own all = tt
put_linked next (party ∷ parties) own all = by (nat_eq party.link next.link) (put_linked next parties own all.1)
  where
    by : (b : Bool) → AllByRecursion IsLinked (with_party next parties) → AllByRecursion IsLinked (cond b (next ∷ parties) (party ∷ with_party next parties))
    by true rest = (own, all.1)
    by false rest = (all.0, rest)

told_stays : StaysIn IsTimed IsReadWhole IsTelling
told_stays = record {
  breaks = λ link state sound telling. (
    stored_stays.breaks link state sound telling.0,
    record {
      links = all-filter IsLinked (λ party. not (is_of_link link party)) state.parties telling.1.links;
      files = telling.1.files;
      histories = broken_each IsToldEntry told_lasts link state sound telling.1.histories;
      traces = traced_without IsReadWhole state.parties link telling.1.traces;
    },
  );
  hears = λ state link party message read telling found. (
    stored_stays.hears state link party message (whole_read message read) telling.0 found,
    record {
      links = put_linked (with_trace party (message ∷ party.trace)) state.parties (found_all IsLinked (is_of_link link) state.parties party found telling.1.links) telling.1.links;
      files = telling.1.files;
      histories = heard_each IsToldEntry state link party (message ∷ party.trace) telling.1.histories found;
      traces = traced_heard IsReadWhole state.parties link party message read telling.1.traces found;
    },
  );
  traces = λ state link party telling found. traced_found IsReadWhole state.parties link party telling.1.traces found;
  grants = λ state party setting message given trace before after timed sound telling sound_after is read traces granting due.
      let known = knows_among state party before after sound telling is in
      let tells = subst (IsToldDecision (Tells message)) due.decided (message_told state party known setting message read) in
      let stamped : IsToldStamp (stamp_of party setting.moment) = record { moment = timed; identity = identity_named party known.own.read } in
      let next : StandingParty = record party { trace = trace; history = concluding_entry state party setting message given ∷ taken_up state party message } in
      let linked = subst (λ (parties : List StandingParty). AllByRecursion IsLinked parties) is telling.1.links in
      let here = all_right IsLinked before (party ∷ after) linked in (
        stored_stays.grants state party setting message given trace before after sound telling.0 sound_after is (whole_read message read) (all_weaker IsReadWhole IsRead trace whole_read traces) granting due,
        record {
          links = all_append IsLinked before (next ∷ after) (all_left IsLinked before (party ∷ after) linked) here;
          files = message_goes IsToldStamp IsToldChange IsToldNew IsToldFile told_survives state party setting.moment given message stamped (read_brings message read) telling.1.files;
          histories = granted_each IsToldEntry told_lasts state party setting message given trace before after sound telling.1.histories is due.taken (entry_told state party known setting message given read tells);
          traces = traced_next IsReadWhole state.parties before after party next is traces telling.1.traces;
        },
      );
}

-- ---- what is said

refuses_said : (state : State) (party : StandingParty) (message : Message) (said : List Said) → AreSayable said → AreSayable (refuses state party message said).said
refuses_said state party message said told = by (associates message)
  where
    by : (b : Bool) → AreSayable (cond b (leaves state party said) (record { said = said; state = state })).said
    by true = told
    by false = told

abbrev IsToldItem : Tried → Type 0
IsToldItem one = AreSayable one.said

tried_said : (all : List Tried) → AllByRecursion IsToldItem all → AreSayable (flat_map said_of all)
tried_said [] told = tt
tried_said (one ∷ all) told = all_append IsSayable one.said (flat_map said_of all) told.0 (tried_said all told.1)

in_vain : (all : List Tried) → AllByRecursion IsToldItem all → AreSayable (flat_map said_in_vain all)
in_vain [] told = tt
in_vain (one ∷ all) told = by (is_good one) (in_vain all told.1)
  where
    by : (b : Bool) → AreSayable (flat_map said_in_vain all) → AreSayable (cond b (refusal_of_request (plain below_threshold) one.item) one.said ++ flat_map said_in_vain all)
    by true rest = all_append IsSayable (refusal_of_request (plain below_threshold) one.item) (flat_map said_in_vain all) (request_refused (plain below_threshold) one.item refl) rest
    by false rest = all_append IsSayable one.said (flat_map said_in_vain all) told.0 rest

between_said : (said : List Said) → AreSayable said → AreSayable (between said)
unfolding row_of
between_said said told = (refl, all_append IsSayable said (reply EndGroupResponse) told (refl, tt))

-- items of a group
step_said : (later : State → Trial) → ((state : State) → IsSound state → IsTelling state → AllByRecursion IsToldItem (later state).tried) → (state : State) (link : ℕ) (party : StandingParty) (setting : Setting) → IsTimed setting
    → (item : Pdu) → IsItem item → IsInRange item → IsSound state → IsTelling state → party_of link state.parties ≡ Some party → (one : Decision) → trial_decision state party setting item ≡ one
    → AllByRecursion IsToldItem (trial_step later setting item state party one).tried
step_said later says state link party setting timed item is_item read sound telling found (Grants given) is =
    let known = knows_found state link party sound telling found in
    let taken = trial_taken state party setting item given is in
    let own = party_sound state link party sound found in
    let granting = granting_request state party setting item given sound own taken.1 taken.0 (item_asks item party.history is_item) in
    let again = put_again link state.parties party found in
    let tells = subst (IsToldDecision (Gives item)) is (trial_told state party known setting item read) in
    let due : IsDue state party setting (messages.Pdu item) given = record { taken = taken.0; decided = taken.1; spared = λ never. absurd (no_item item is_item never) } in (
      (entry_told state party known setting (messages.Pdu item) given read tells).said,
      says (grants state party setting (messages.Pdu item) given).state
          (grants_sound state link party setting (messages.Pdu item) given state.parties party.trace sound found again own.grouped granting)
          (granted_in IsTimed IsReadWhole IsTelling told_stays state link party setting timed (messages.Pdu item) given state.parties party.trace sound telling found again own.grouped read
          (told_stays.traces state link party telling found) granting due),
    )
step_said later says state link party setting timed item is_item read sound telling found (Refuses diagnostic) is =
    let known = knows_found state link party sound telling found in
    let told = subst (IsToldDecision (Gives item)) is (trial_told state party known setting item read) in
    (request_refused diagnostic item told, says state sound telling)
step_said later says state link party setting timed item is_item read sound telling found (Aborts number) is = (request_refused (plain wrong_regime) item refl, says state sound telling)
step_said later says state link party setting timed item is_item read sound telling found Waits is = (request_refused (plain wrong_regime) item refl, says state sound telling)
step_said later says state link party setting timed item is_item read sound telling found (Groups group) is = (request_refused (plain wrong_regime) item refl, says state sound telling)
step_said later says state link party setting timed item is_item read sound telling found Ends is = (request_refused (plain wrong_regime) item refl, says state sound telling)
step_said later says state link party setting timed item is_item read sound telling found Leaves is = (request_refused (plain wrong_regime) item refl, says state sound telling)

trial_said : (link : ℕ) (setting : Setting) → IsTimed setting → (items : List Pdu) (state : State) → AllByRecursion IsItem items → AllByRecursion IsInRange items → IsSound state → IsTelling state
    → AllByRecursion IsToldItem (trial link setting items state).tried
trial_said link setting timed [] state are read sound telling = tt
trial_said link setting timed (item ∷ items) state are read sound telling = by (λ state sound telling. trial_said link setting timed items state are.1 read.1 sound telling) (party_of link state.parties) refl
  where
    by : ((state : State) → IsSound state → IsTelling state → AllByRecursion IsToldItem (trial link setting items state).tried) → (found : Option StandingParty) → party_of link state.parties ≡ found
        → AllByRecursion IsToldItem (trial_by (trial link setting items) setting item state found).tried
    by says None is = says state sound telling
    by says (Some party) is = step_said (trial link setting items) says state link party setting timed item are.0 read.0 sound telling is (trial_decision state party setting item) refl

groups_said : (state : State) (party : StandingParty) (setting : Setting) → IsTimed setting → (group : Group) → HasItems group → AllByRecursion IsInRange group.items → IsSound state → IsTelling state
    → AreSayable (groups state party setting group).said
groups_said state party setting timed group items read sound telling = by (nat_le group.threshold (count_by is_good (trial party.link setting group.items state).tried))
  where
    told : AllByRecursion IsToldItem (trial party.link setting group.items state).tried
    told = trial_said party.link setting timed group.items state items read sound telling

    by : (b : Bool) → AreSayable (cond {A = Answered} b
        (record { said = between (flat_map said_of (trial party.link setting group.items state).tried); state = (trial party.link setting group.items state).state })
        (record { said = between (flat_map said_in_vain (trial party.link setting group.items state).tried); state = state })).said
    by true = between_said (flat_map said_of (trial party.link setting group.items state).tried) (tried_said (trial party.link setting group.items state).tried told)
    by false = between_said (flat_map said_in_vain (trial party.link setting group.items state).tried) (in_vain (trial party.link setting group.items state).tried told)

answered_said : (state : State) (link : ℕ) (party : StandingParty) (setting : Setting) → IsTimed setting → (message : Message) → IsReadWhole message → IsSound state → IsTelling state → party_of link state.parties ≡ Some party
    → AreSayable (answered state party setting message).said
answered_said state link party setting timed message read sound telling found = by (decision state party setting message) refl
  where
    own : IsSoundParty state.files party
    own = party_sound state link party sound found

    known : IsKnown state party
    known = knows_found state link party sound telling found

    heard : IsTelling (with_parties state (with_party (with_trace party (message ∷ party.trace)) state.parties))
    heard = told_stays.hears state link party message read telling found

    heard_known : IsKnown (with_parties state (with_party (with_trace party (message ∷ party.trace)) state.parties)) (with_trace party (message ∷ party.trace))
    heard_known = record { files = known.files; links = heard.1.links; actives = known.actives; dockets = known.dockets; own = known.own }

    told : (one : Decision) → decision state party setting message ≡ one → IsToldDecision (Tells message) one
    told one is = subst (IsToldDecision (Tells message)) is (decision_told state party known setting message read)

    by : (one : Decision) → decision state party setting message ≡ one
        → AreSayable (met (with_parties state (with_party (with_trace party (message ∷ party.trace)) state.parties)) (with_trace party (message ∷ party.trace)) setting message one).said
    by (Aborts number) is = (abort_told number (told (Aborts number) is), tt)
    by (Refuses diagnostic) is =
        refuses_said (with_parties state (with_party (with_trace party (message ∷ party.trace)) state.parties)) (with_trace party (message ∷ party.trace)) message (refusal diagnostic message)
        (message_refused diagnostic message (told (Refuses diagnostic) is))
    by (Grants given) is =
        (entry_told (with_parties state (with_party (with_trace party (message ∷ party.trace)) state.parties)) (with_trace party (message ∷ party.trace)) heard_known setting message given read (told (Grants given) is)).said
    by Waits is = tt
    by (Groups group) is =
        let taken = decided_taken state party setting message (Groups group) is (λ number e. cc) in
        groups_said (with_parties state (with_party (with_trace party (message ∷ party.trace)) state.parties)) (with_trace party (message ∷ party.trace)) setting timed group
        (grouped_items state party setting message group (pending party.trace) own.grouped taken.1)
        (grouped_as (λ (group : Group). AllByRecursion IsInRange group.items) state party setting message group (pending party.trace)
        (pending_allowed IsReadWhole party.trace (told_stays.traces state link party telling found)) taken.1)
        (heard_sound state link party (message ∷ party.trace) sound found (traced party message own.grouped taken.0)) heard
    by Ends is = terminate_told
    by Leaves is = tt

-- ---- what is sent

sent_told : (link : ℕ) (said : List Said) → AreSayable said → AreSentSayable (on_link link said)
sent_told link said told = all_map (sent_on link) (λ (sent : Sent). IsSayable sent.said) said told

taking_told : (state : State) (link : ℕ) (party : StandingParty) (setting : Setting) → IsTimed setting → (message : Message) → IsReadWhole message → IsSound state → IsTelling state → party_of link state.parties ≡ Some party
    → (one : Option StandingParty) → superseded_by state party message ≡ one → AreSentSayable (taking_over one state party setting message).sent
taking_told state link party setting timed message read sound telling found None is =
    sent_told party.link (answered state party setting message).said (answered_said state link party setting timed message read sound telling found)
taking_told state link party setting timed message read sound telling found (Some other) is =
    let before = broken other.link state in
    let said = (answered before party setting message).said in (
      abort_told superseded (omega arith),
      sent_told party.link said (answered_said before link party setting timed message read (broken_sound other.link state sound) (told_stays.breaks other.link state sound telling) (still_there state link party other message sound found is)),
    )

pub said_sayable : SaidIsSayable
said_sayable state link setting message timed read can = by (party_of link state.parties) refl
  where
    by : (one : Option StandingParty) → party_of link state.parties ≡ one → AreSentSayable (transition_of state setting message one).sent
    by None is = tt
    by (Some party) is =
        taking_told state link party setting timed message read can.reached.sound ((can.reached.kept, can.reached.ranged), can.told) is (superseded_by state party message) refl

pub faults_sayable : FaultsAreSayable
faults_sayable state link number place told = by (party_of link state.parties)
  where
    by : (one : Option StandingParty) → AreSentSayable (fault_of state number place one).sent
    by None = tt
    by (Some party) = (told, tt)

-- ---- states go on

stored_of : (state : State) → CanTell state → IsTelling state
stored_of state can = ((can.reached.kept, can.reached.ranged), can.told)

pub begins_telling : BeginsTelling
begins_telling users files filed limited others others_ranged filled ranged told = record {
  reached = begins_reached users files filed limited others others_ranged filled ranged;
  told = record { links = tt; files = told; histories = record { parties = tt; dockets = tt }; traces = tt };
}

pub messages_telling : MessagesGoOnTelling
messages_telling state link setting message timed read can = record {
  reached = messages_reached state link setting message (whole_read message read) can.reached;
  told = (transitions_in IsTimed IsReadWhole IsTelling told_stays state link setting timed message read can.reached.sound (stored_of state can)).1;
}

pub faults_telling : FaultsGoOnTelling
faults_telling state link number place can = record {
  reached = faults_reached state link number place can.reached;
  told = (faults_in IsTimed IsReadWhole IsTelling told_stays state link number place can.reached.sound (stored_of state can)).1;
}

pub breaks_telling : BreaksGoOnTelling
breaks_telling state link can = record {
  reached = breaks_reached state link can.reached;
  told = (told_stays.breaks link state can.reached.sound (stored_of state can)).1;
}

pub stops_telling : StopsGoOnTelling
stops_telling state can = record {
  reached = stops_reached state can.reached;
  told = record { links = tt; files = can.told.files; histories = stopped_each IsToldEntry told_lasts state can.reached.sound can.told.histories; traces = tt };
}

pub drops_telling : DropsGoOnTelling
drops_telling state identity activity can = record {
  reached = drops_reached state identity activity can.reached;
  told = record {
    links = can.told.links;
    files = can.told.files;
    histories = dropped_each IsToldEntry state identity activity can.told.histories;
    traces = can.told.traces;
  };
}

-- ---- runs

arrives_told : (state : State) (link : ℕ) → IsLink link → IsToldState state → IsToldState (arrives link state)
arrives_told state link is told = record {
  links = all_append IsLinked state.parties (arrived link ∷ []) told.links (is, tt);
  files = told.files;
  histories = record {
    parties = all_append (λ (party : StandingParty). EachAfter IsToldEntry party.history) state.parties (arrived link ∷ []) told.histories.parties (tt, tt);
    dockets = told.histories.dockets;
  };
  traces = all_append (λ (party : StandingParty). AllByRecursion IsReadWhole party.trace) state.parties (arrived link ∷ []) told.traces (tt, tt);
}

event_read : (event : Event) → IsTellable event → WasRead event
event_read (Arrives link) is = tt
event_read (Takes link setting message) is = whole_read message is.1
event_read (Faults link number place) is = tt
event_read Stops is = tt

event_told : (state : State) (event : Event) → IsTellable event → CanTell state → IsToldState (after_event state event).state
event_told state (Arrives link) is can = arrives_told state link is can.told
event_told state (Takes link setting message) is can = (messages_telling state link setting message is.0 is.1 can).told
event_told state (Faults link number place) is can = (faults_telling state link number place can).told
event_told state Stops is can = (stops_telling state can).told

event_sent : (state : State) (event : Event) → IsTellable event → CanTell state → AreSentSayable (after_event state event).sent
event_sent state (Arrives link) is can = tt
event_sent state (Takes link setting message) is can = said_sayable state link setting message is.0 is.1 can
event_sent state (Faults link number place) is can = faults_sayable state link number place is
event_sent state Stops is can = tt

pub runs_sayable : RunsAreSayable
runs_sayable [] state new are can = (tt, can)
runs_sayable (event ∷ events) state new are can =
    let next = (after_event state event).state in
    let goes : CanTell next = record { reached = event_reached state event new.0 (event_read event are.0) can.reached; told = event_told state event are.0 can } in
    let rest = runs_sayable events next new.1 are.1 goes in
    (all_append (λ (sent : Sent). IsSayable sent.said) (after_event state event).sent _ (event_sent state event are.0 can) rest.0, rest.1)
