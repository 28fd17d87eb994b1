-- Each state of a run whose messages were read has its fields in their ranges, and so the changes by each message make the
-- tables after it.
use Rattle.std.proofs.Common.{◌≡◌, ℕ, Bool, true, false, cond, not, ◌&&◌, List, [], ◌∷◌, ◌++◌, Option, None, Some, refl, ap, ◌∙◌}
use Rattle.std.specs.Prelude.{flat_map}
use Rattle.std.specs.List.{AllByRecursion}
use Rattle.std.proofs.lemmas.List.{append-nil}
use Rattle.vf_elements.specs.Stages.{takes}
use Rattle.vf_elements.specs.declared.message.Message.{Message}
use Rattle.vf_elements.specs.declared.message.Message.TheVariants as messages
use Rattle.vf_elements.specs.declared.stage.Stage.TheVariants as stages
use Rattle.vf_pdu.specs.declared.pdu.Pdu.{Pdu}
use Rattle.vf_pdu.specs.declared.pdu.Pdu.TheVariants.{ReadRequest, WriteRequest}
use Rattle.vf_tables.specs.Changes.{after_all}
use Rattle.vf_tables.specs.Fitting.{all_fit}
use Rattle.vf_tables.specs.Making.{made_of}
use Rattle.vf_tables.specs.Validity.{is_valid}
use Rattle.vf_tables.specs.declared.change.Change.{Change}
use Rattle.vf_tables.specs.declared.tables.Tables.{Tables}
use Rattle.vf_filestore.specs.Aborts as aborting
use Rattle.vf_filestore.specs.Aborts.{Setting, abort_where, first_abort, is_spent}
use Rattle.vf_filestore.specs.Changes.{delta}
use Rattle.vf_filestore.specs.Conclusion.{concluding_entry, taken_up}
use Rattle.vf_filestore.specs.Decision.{Decision, Aborts, Refuses, Grants, Waits, Groups, Ends, Leaves, decision}
use Rattle.vf_filestore.specs.Diagnostics.{numbers_spent, wrong_state}
use Rattle.vf_filestore.specs.Dockets.{broken, docket_left_by, dropped}
use Rattle.vf_filestore.specs.Groups.{groups, trial}
use Rattle.vf_filestore.specs.History.{Given}
use Rattle.vf_filestore.specs.Keeping.{EachAfter, HasFew, HasFewTerms, IsKept}
use Rattle.vf_filestore.specs.Laws.{IsNew}
use Rattle.vf_filestore.specs.Ranges.{AreShort, BeginsReached, BreaksStayReached, DropsMake, DropsStayReached, FaultsStayReached, IsMade, IsRangedFile, IsRanged, IsReached, IsRead, IsReadEntry, IsUnspentIn, MessagesStayReached, ReadMessagesFit, ReadMessagesMake, RunsMake, StopsStayReached, WasRead, is_of_class}
use Rattle.vf_filestore.specs.Records.{changes_between, changes_by, changes_by_items, changes_of_party, changes_where, given_way, where_any}
use Rattle.vf_filestore.specs.Runs.{Event, Arrives, Takes, Faults, Stops, after_event, arrives}
use Rattle.vf_filestore.specs.Sound.{IsItem, IsSound}
use Rattle.vf_filestore.specs.Stage.{Group, pending}
use Rattle.vf_filestore.specs.State.{Docket, State, StandingParty, arrived, party_of, units_of, with_party}
use Rattle.vf_filestore.specs.Tables.{tables_of}
use Rattle.vf_filestore.specs.Transition.{answered, fault, superseded_by, transition}
use Rattle.vf_filestore.specs.Units.{has_checks}
use Rattle.vf_filestore.proofs.Decisions.{answered_sound, decided_taken, grouped_as, grouped_items, heard_sound, or_none, party_sound, traced, trial_sound, where_none}
use Rattle.vf_filestore.proofs.FilesLater.{ChangesTerms, IsAnyStamp, NewTerms, brings_terms, message_goes}
use Rattle.vf_filestore.proofs.FilesOf.{files_survive}
use Rattle.vf_filestore.proofs.HistoriesStay.{broken_each, dropped_each, granted_each, heard_each, stopped_each}
use Rattle.vf_filestore.proofs.Kept.{ordered, same_tables, stops_keep}
use Rattle.vf_filestore.proofs.KeptStates.{begins_kept, breaks_stay, drops_stay, event_kept, kept_stays, kept_valid, stops_stay}
use Rattle.vf_filestore.proofs.Leading.{both}
use Rattle.vf_filestore.proofs.Lists.{all_append, all_weaker, flat_map-append}
use Rattle.vf_filestore.proofs.Preserved.{IsDue, Stays, answered_stays, faults_stay, pending_allowed, transitions_stay, trial_stays}
use Rattle.vf_filestore.proofs.Ranged.{IsFine, all_fitting, delta_fine, differences_fit, kept_fine}
use Rattle.vf_filestore.proofs.RangedRows.{reached_kept}
use Rattle.vf_filestore.proofs.ReadHistories.{read_lasts}
use Rattle.vf_filestore.proofs.ReadMessages.{read_few, read_short}
use Rattle.vf_filestore.proofs.Recorded.{drops_lead, faults_keep, messages_lead}
use Rattle.vf_filestore.proofs.Same.{with_parties, with_trace}
use Rattle.vf_filestore.proofs.Traced.{traced_found, traced_heard, traced_next, traced_without}
use Rattle.vf_filestore.proofs.Transitions.{begins_sound, breaks_sound, drops_sound, event_sound, faults_sound, stops_sound, still_there, transitions_sound}
use Rattle.vf_filestore.proofs.UnitsMade.{makes_of_class}

-- ---- entries of messages that were read

unspent_request : (state : State) (party : StandingParty) (setting : Setting) (request : Pdu) → (takes stages.Grouping (messages.Pdu request) ≡ false → first_abort (aborting.request_aborts party setting request) ≡ None)
    → IsUnspentIn (taken_up state party (messages.Pdu request)) (messages.Pdu request)
unspent_request state party setting (ReadRequest fadu context) spared =
    let first = abort_where (has_checks (units_of party) && not setting.token) wrong_state in
    let second = abort_where (is_spent party.history) numbers_spent in
    let later = (or_none first (first_abort (second ∷ [])) (spared refl)).1 in
    where_none (is_spent party.history) numbers_spent (or_none second None later).0
unspent_request state party setting (WriteRequest operation fadu) spared =
    where_none (is_spent party.history) numbers_spent (or_none (abort_where (is_spent party.history) numbers_spent) None (spared refl)).0
unspent_request state party setting request spared = tt

unspent : (state : State) (party : StandingParty) (setting : Setting) (message : Message) → (takes stages.Grouping message ≡ false → first_abort (aborting.aborts party setting message) ≡ None)
    → IsUnspentIn (taken_up state party message) message
unspent state party setting (messages.Pdu request) spared = unspent_request state party setting request spared
unspent state party setting message spared = tt

entry_read : (state : State) (party : StandingParty) (setting : Setting) (message : Message) (given : Given) → IsRead message → IsDue state party setting message given → IsReadEntry (taken_up state party message) (concluding_entry state party setting message given)
entry_read state party setting message given read due = record { read = read; unspent = unspent state party setting message due.spared }

-- ---- states

ranged_stays : Stays IsRead IsRanged
ranged_stays = record {
  breaks = λ link state sound ranged. record {
    others = ranged.others;
    files = ranged.files;
    histories = broken_each IsReadEntry read_lasts link state sound ranged.histories;
    traces = traced_without IsRead state.parties link ranged.traces;
  };
  hears = λ state link party message read ranged found. record {
    others = ranged.others;
    files = ranged.files;
    histories = heard_each IsReadEntry state link party (message ∷ party.trace) ranged.histories found;
    traces = traced_heard IsRead state.parties link party message read ranged.traces found;
  };
  traces = λ state link party ranged found. traced_found IsRead state.parties link party ranged.traces found;
  grants = λ state party setting message given trace before after sound ranged sound_after is read traces granting due. record {
    others = ranged.others;
    files = message_goes IsAnyStamp (ChangesTerms AreShort) (NewTerms AreShort) IsRangedFile (files_survive AreShort is_of_class makes_of_class) state party setting.moment given message tt
        (brings_terms AreShort message (read_short message read)) ranged.files;
    histories = granted_each IsReadEntry read_lasts state party setting message given trace before after sound ranged.histories is due.taken (entry_read state party setting message given read due);
    traces = traced_next IsRead state.parties before after party (record party { trace = trace; history = concluding_entry state party setting message given ∷ taken_up state party message }) is traces ranged.traces;
  };
}

-- all that a store keeps, beside what is sound
abbrev pub IsStored : State → Type 0
IsStored state = IsKept state × IsRanged state

pub stored_stays : Stays IsRead IsStored
stored_stays = record {
  breaks = λ link state sound stored. (breaks_stay state link sound stored.0, ranged_stays.breaks link state sound stored.1);
  hears = λ state link party message read stored found. (kept_stays.hears state link party message (read_few message read) stored.0 found, ranged_stays.hears state link party message read stored.1 found);
  traces = λ state link party stored found. ranged_stays.traces state link party stored.1 found;
  grants = λ state party setting message given trace before after sound stored sound_after is read traces granting due. (
    kept_stays.grants state party setting message given trace before after sound stored.0 sound_after is (read_few message read) (all_weaker IsRead HasFewTerms trace read_few traces) granting due,
    ranged_stays.grants state party setting message given trace before after sound stored.1 sound_after is read traces granting due,
  );
}

reached : (state : State) → IsSound state → IsStored state → IsReached state
reached state sound stored = record { sound = sound; kept = stored.0; ranged = stored.1 }

pub messages_reached : MessagesStayReached
messages_reached state link setting message read is =
    reached (transition state link setting message).state (transitions_sound state link setting message is.sound)
    (transitions_stay IsRead IsStored stored_stays state link setting message read is.sound (is.kept, is.ranged))

pub faults_reached : FaultsStayReached
faults_reached state link number place is =
    reached (fault state link number place).state (faults_sound state link number place is.sound) (faults_stay IsRead IsStored stored_stays state link number place is.sound (is.kept, is.ranged))

pub breaks_reached : BreaksStayReached
breaks_reached state link is = reached (broken link state) (breaks_sound state link is.sound) (stored_stays.breaks link state is.sound (is.kept, is.ranged))

pub stops_reached : StopsStayReached
stops_reached state is = record {
  sound = stops_sound state is.sound;
  kept = stops_stay state is.sound is.kept;
  ranged = record { others = is.ranged.others; files = is.ranged.files; histories = stopped_each IsReadEntry read_lasts state is.sound is.ranged.histories; traces = tt };
}

pub drops_reached : DropsStayReached
drops_reached state identity activity is = record {
  sound = drops_sound state identity activity is.sound;
  kept = drops_stay state identity activity is.kept;
  ranged = record {
    others = is.ranged.others;
    files = is.ranged.files;
    histories = dropped_each IsReadEntry state identity activity is.ranged.histories;
    traces = is.ranged.traces;
  };
}

pub begins_reached : BeginsReached
begins_reached users files filed limited others others_ranged filled ranged = record {
  sound = begins_sound users files filed limited;
  kept = begins_kept users files others filled;
  ranged = record { others = others_ranged; files = ranged; histories = record { parties = tt; dockets = tt }; traces = tt };
}

-- ---- changes by items of a group

-- the changes from a reached state to another
between_fine : (state next : State) → IsReached state → IsReached next → AllByRecursion IsFine (changes_between state next)
between_fine state next is is_next =
    delta_fine (tables_of state) (tables_of next) (kept_fine (tables_of state) (reached_kept state is)) (kept_fine (tables_of next) (reached_kept next is_next))

abbrev IsReadItem : Pdu → Type 0
IsReadItem item = IsRead (messages.Pdu item)

trial_reached : (link : ℕ) (setting : Setting) (items : List Pdu) (state : State) → AllByRecursion IsItem items → AllByRecursion IsReadItem items → IsReached state → IsReached (trial link setting items state).state
trial_reached link setting items state are read is =
    reached (trial link setting items state).state (trial_sound link setting items state are is.sound) (trial_stays IsRead IsStored stored_stays link setting items state are read is.sound (is.kept, is.ranged))

items_fine : (link : ℕ) (setting : Setting) (items : List Pdu) (state : State) → AllByRecursion IsItem items → AllByRecursion IsReadItem items → IsReached state → AllByRecursion IsFine (changes_by_items link setting items state)
items_fine link setting [] state are read is = tt
items_fine link setting (item ∷ items) state are read is =
    let next = (trial link setting (item ∷ []) state).state in
    let is_next = trial_reached link setting (item ∷ []) state (are.0, tt) (read.0, tt) is in
    all_append IsFine (changes_between state next) (changes_by_items link setting items next) (between_fine state next is is_next) (items_fine link setting items next are.1 read.1 is_next)

any_fine : (changes others : List Change) → AllByRecursion IsFine others → AllByRecursion IsFine (where_any changes others)
any_fine [] others fine = tt
any_fine (change ∷ changes) others fine = fine

-- ---- changes by messages

group_fine : (state : State) (link : ℕ) (party : StandingParty) (setting : Setting) (message : Message) (group : Group) → IsRead message → IsReached state → party_of link state.parties ≡ Some party
    → decision state party setting message ≡ Groups group → AllByRecursion IsFine (changes_where state party setting message (Groups group))
group_fine state link party setting message group read is found ends =
    let own = party_sound state link party is.sound found in
    let taken = decided_taken state party setting message (Groups group) ends (λ number e. cc) in
    let items = grouped_items state party setting message group (pending party.trace) own.grouped taken.1 in
    let read_items = grouped_as (λ (group : Group). AllByRecursion IsReadItem group.items) state party setting message group (pending party.trace)
    (pending_allowed IsRead party.trace (ranged_stays.traces state link party is.ranged found)) taken.1 in
    let heard = with_parties state (with_party (with_trace party (message ∷ party.trace)) state.parties) in
    let is_heard = reached heard (heard_sound state link party (message ∷ party.trace) is.sound found (traced party message own.grouped taken.0)) (stored_stays.hears state link party message read (is.kept, is.ranged) found) in
    any_fine (changes_between heard (groups heard (with_trace party (message ∷ party.trace)) setting group).state) (changes_by_items party.link setting group.items heard)
    (items_fine party.link setting group.items heard items read_items is_heard)

-- another decision leads from a reached state to another
alone_fine : (state : State) (link : ℕ) (party : StandingParty) (setting : Setting) (message : Message) → IsRead message → IsReached state → party_of link state.parties ≡ Some party
    → AllByRecursion IsFine (changes_between state (answered state party setting message).state)
alone_fine state link party setting message read is found =
    between_fine state (answered state party setting message).state is
    (reached (answered state party setting message).state (answered_sound state link party setting message is.sound found) (answered_stays IsRead IsStored stored_stays state link party setting message read is.sound (is.kept, is.ranged) found))

where_fine : (state : State) (link : ℕ) (party : StandingParty) (setting : Setting) (message : Message) → IsRead message → IsReached state → party_of link state.parties ≡ Some party
    → (one : Decision) → decision state party setting message ≡ one → AllByRecursion IsFine (changes_where state party setting message one)
where_fine state link party setting message read is found (Groups group) ends = group_fine state link party setting message group read is found ends
where_fine state link party setting message read is found (Aborts number) ends = alone_fine state link party setting message read is found
where_fine state link party setting message read is found (Refuses diagnostic) ends = alone_fine state link party setting message read is found
where_fine state link party setting message read is found (Grants given) ends = alone_fine state link party setting message read is found
where_fine state link party setting message read is found Waits ends = alone_fine state link party setting message read is found
where_fine state link party setting message read is found Ends ends = alone_fine state link party setting message read is found
where_fine state link party setting message read is found Leaves ends = alone_fine state link party setting message read is found

taken_fine : (state : State) (link : ℕ) (party : StandingParty) (setting : Setting) (message : Message) → IsRead message → IsReached state → party_of link state.parties ≡ Some party
    → (one : Option StandingParty) → superseded_by state party message ≡ one
    → AllByRecursion IsFine (changes_where (given_way one state) party setting message (decision (given_way one state) party setting message))
taken_fine state link party setting message read is found None gives_way = where_fine state link party setting message read is found (decision state party setting message) refl
taken_fine state link party setting message read is found (Some other) gives_way =
    let before = broken other.link state in
    where_fine before link party setting message read (breaks_reached state other.link is) (still_there state link party other message is.sound found gives_way) (decision before party setting message) refl

changes_fine : (state : State) (link : ℕ) (setting : Setting) (message : Message) → IsRead message → IsReached state → AllByRecursion IsFine (changes_by state link setting message)
changes_fine state link setting message read is = by (party_of link state.parties) refl
  where
    by : (one : Option StandingParty) → party_of link state.parties ≡ one → AllByRecursion IsFine (changes_of_party state setting message one)
    by None found = tt
    by (Some party) found = taken_fine state link party setting message read is found (superseded_by state party message) refl

pub read_messages_fit : ReadMessagesFit
read_messages_fit state link setting message read is =
    all_fitting (tables_of state) (changes_by state link setting message) (changes_fine state link setting message read is) (messages_lead state link setting message is.sound).stand

-- ---- what they make

-- changes that fit and lead to valid tables
made : (tables later : Tables) (changes : List Change) → all_fit tables changes ≡ true → after_all tables changes ≡ later → is_valid later ≡ true → made_of tables changes ≡ Some later
made tables later changes fit lead valid =
    let all = both (all_fit tables changes) (is_valid (after_all tables changes)) fit (ap is_valid lead ∙ valid) in
    ap (λ (b : Bool). cond b (Some (after_all tables changes)) None) all ∙ ap (λ (one : Tables). Some one) lead

reached_valid : (state : State) → IsReached state → is_valid (tables_of state) ≡ true
reached_valid state is = kept_valid state is.sound is.kept

pub read_messages_make : ReadMessagesMake
read_messages_make state link setting message read is =
    made (tables_of state) (tables_of (transition state link setting message).state) (changes_by state link setting message) (read_messages_fit state link setting message read is)
    (messages_lead state link setting message is.sound).lead (reached_valid (transition state link setting message).state (messages_reached state link setting message read is))

pub drops_make : DropsMake
drops_make state identity activity is =
    let later = dropped identity activity state in
    let is_later = drops_reached state identity activity is in
    let lead = drops_lead state identity activity is.sound in
    made (tables_of state) (tables_of later) (delta (tables_of state) (tables_of later))
    (differences_fit (tables_of state) (tables_of later) (reached_kept state is) (reached_kept later is_later) lead.stand) lead.lead (reached_valid later is_later)

-- ---- runs

arrives_ranged : (state : State) (link : ℕ) → IsRanged state → IsRanged (arrives link state)
arrives_ranged state link ranged = record {
  others = ranged.others;
  files = ranged.files;
  histories = record { parties = all_append (λ (party : StandingParty). EachAfter IsReadEntry party.history) state.parties (arrived link ∷ []) ranged.histories.parties (tt, tt); dockets = ranged.histories.dockets };
  traces = all_append (λ (party : StandingParty). AllByRecursion IsRead party.trace) state.parties (arrived link ∷ []) ranged.traces (tt, tt);
}

-- a party that arrives has nothing that is kept
arrives_keeps : (state : State) (link : ℕ) → tables_of (arrives link state) ≡ tables_of state
arrives_keeps state link =
    same_tables state (arrives link state) refl refl refl
    (ap (λ (left : List Docket). ordered [] (state.dockets ++ left)) (flat_map-append docket_left_by state.parties (arrived link ∷ []) ∙ append-nil (flat_map docket_left_by state.parties)))

event_ranged : (state : State) (event : Event) → WasRead event → IsReached state → IsRanged (after_event state event).state
event_ranged state (Arrives link) read is = arrives_ranged state link is.ranged
event_ranged state (Takes link setting message) read is = (messages_reached state link setting message read is).ranged
event_ranged state (Faults link number place) read is = (faults_reached state link number place is).ranged
event_ranged state Stops read is = (stops_reached state is).ranged

event_few : (event : Event) → WasRead event → HasFew event
event_few (Arrives link) read = tt
event_few (Takes link setting message) read = read_few message read
event_few (Faults link number place) read = tt
event_few Stops read = tt

pub event_reached : (state : State) (event : Event) → IsNew event state → WasRead event → IsReached state → IsReached (after_event state event).state
event_reached state event new read is = record {
  sound = event_sound state event new is.sound;
  kept = event_kept state event (event_few event read) is.sound is.kept;
  ranged = event_ranged state event read is;
}

event_made : (state : State) (event : Event) → WasRead event → IsReached state → IsMade state event
event_made state (Arrives link) read is = arrives_keeps state link
event_made state (Takes link setting message) read is = read_messages_make state link setting message read is
event_made state (Faults link number place) read is = faults_keep state link number place is.sound
event_made state Stops read is = stops_keep state

pub runs_make : RunsMake
runs_make [] state new read is = (tt, is)
runs_make (event ∷ events) state new read is =
    let rest = runs_make events (after_event state event).state new.1 read.1 (event_reached state event new.0 read.0 is) in
    ((event_made state event read.0 is, rest.0), rest.1)
