-- The schedule of each file of a run is orderly where all its open regimes isolate.
use Rattle.std.proofs.Common.{◌≡◌, ℕ, Bool, true, not, ◌||◌, List, [], ◌∷◌, ◌++◌, map, Option, None, Some, inl, inr, refl, ap, sym, subst, ◌∙◌, arith}
use Rattle.std.specs.Prelude.{flat_map}
use Rattle.std.specs.List.{AllByRecursion, list_all}
use Rattle.std.specs.Str.{bytes_eq}
use Rattle.std.proofs.lemmas.Bool.{and_parts}
use Rattle.std.proofs.lemmas.List.{append_assoc, append-nil, map-append}
use Rattle.vf_attr.specs.declared.file.File.{File}
use Rattle.vf_elements.specs.declared.message.Message.{Message}
use Rattle.vf_filestore.specs.Aborts.{Setting}
use Rattle.vf_filestore.specs.Dockets.{broken}
use Rattle.vf_filestore.specs.History.{History, Regime, Selection, position, selection}
use Rattle.vf_filestore.specs.Keeping.{AreHistoriesKept, AreKept, IsKeptEntry}
use Rattle.vf_filestore.specs.Runs.{Event, Arrives, Takes, Faults, Stops, after_event, arrives}
use Rattle.vf_filestore.specs.Sound.{IsSound}
use Rattle.vf_filestore.specs.State.{State, StandingParty, arrived, party_of}
use Rattle.vf_filestore.specs.Transition.{answered, superseded_by, taking_over, transition_of, fault_of}
use Rattle.vf_filestore.proofs.Broken.{broken_sound, dropped_sound}
use Rattle.vf_filestore.proofs.Filed.{name_itself}
use Rattle.vf_filestore.proofs.HistoriesStay.{dropped_each, stopped_each}
use Rattle.vf_filestore.proofs.KeptMoves.{kept_lasts}
use Rattle.vf_filestore.proofs.Lists.{all-from_flat_map, all_append}
use Rattle.vf_filestore.proofs.Moving.{Has}
use Rattle.vf_filestore.proofs.Preserved.{IsAny, faults_stay, transitions_stay}
use Rattle.vf_filestore.proofs.StaysKept.{histories_stay}
use Rattle.vf_filestore.proofs.Transitions.{event_sound, still_there}
use Rattle.vf_serial.specs.Isolating.{isolates}
use Rattle.vf_serial.specs.Laws.{AreNew, IsOrderly, RunsAreOrderly}
use Rattle.vf_serial.specs.Moves.{Move, Opened, Acted, Ceased, Created, Renamed, Deleted, Happening, Happens, Drops, after, broken_of, by_answer, by_break, by_event, by_taking_over, by_transition_of, moves, state_after}
use Rattle.vf_serial.specs.Uses as uses_of_files
use Rattle.vf_serial.specs.Uses.{Use, Standing, all_isolate, begun, is_isolated, isolate_on, made, nowhere, standing_by, standing_in, standing_of_docket, standing_of_party, uses}
use Rattle.vf_serial.proofs.Among.{IsAmong}
use Rattle.vf_serial.proofs.Ended.{broken_leads, dropped_leads, stopped_leads}
use Rattle.vf_serial.proofs.Followed.{answered_leads, same_link}
use Rattle.vf_serial.proofs.Leading.{IsWithout, Leads, found_in, stays, still_itself, then_leads, without_same}
use Rattle.vf_serial.proofs.Acting as actings
use Rattle.vf_serial.proofs.Acting.{AreOf, IsActing}
use Rattle.vf_serial.proofs.Working.{apart_of, workers, working}
use Rattle.vf_serial.proofs.Led.{AllIsolate, IsInOrder, IsLed, Stand, ends, goes, in_order}
use Rattle.vf_serial.proofs.Pairs.{all_in}
use Rattle.vf_serial.proofs.Present.{Item, all_items, docked, items, of_item, present, stand_is, stands, stands_in, standing}

-- ---- transitions

taking_leads : (state : State) (link : ℕ) (party : StandingParty) (setting : Setting) (message : Message) (one : Option StandingParty) → IsSound state → AreHistoriesKept state → party_of link state.parties ≡ Some party
    → superseded_by state party message ≡ one → Leads state (by_taking_over one state party setting message) (taking_over one state party setting message).state
taking_leads state link party setting message None sound kept found is = answered_leads state link party setting message sound kept found
taking_leads state link party setting message (Some other) sound kept found is =
    let mid = broken other.link state in
    then_leads state mid (answered mid party setting message).state (by_break other.link state) (by_answer mid party setting message) (broken_leads other.link state sound kept)
    (answered_leads mid link party setting message (broken_sound other.link state sound) (histories_stay.breaks other.link state sound kept) (still_there state link party other message sound found is))

transition_leads : (state : State) (link : ℕ) (setting : Setting) (message : Message) → IsSound state → AreHistoriesKept state
    → Leads state (by_transition_of state setting message (party_of link state.parties)) (transition_of state setting message (party_of link state.parties)).state
transition_leads state link setting message sound kept = by (party_of link state.parties) refl
  where
    by : (one : Option StandingParty) → party_of link state.parties ≡ one → Leads state (by_transition_of state setting message one) (transition_of state setting message one).state
    by None is = stays state state sound (still_itself state)
    by (Some party) is = taking_leads state link party setting message (superseded_by state party message) sound kept is refl

-- an abort by a fault breaks the party of the link
fault_leads : (state : State) (link number place : ℕ) → IsSound state → AreHistoriesKept state → Leads state (by_break link state) (fault_of state number place (party_of link state.parties)).state
fault_leads state link number place sound kept = by (party_of link state.parties) refl
  where
    by : (one : Option StandingParty) → party_of link state.parties ≡ one → Leads state (broken_of one) (fault_of state number place one).state
    by None is = stays state state sound (still_itself state)
    by (Some party) is =
        subst (λ (one : Option StandingParty). Leads state (broken_of one) (broken party.link state)) (same_link state link party is) (broken_leads party.link state sound kept)

arrives_leads : (state : State) (link : ℕ) → IsSound state → Leads state [] (arrives link state)
arrives_leads state link sound =
    let later = arrives link state in
    let without : IsWithout later state (standing (arrived link)) = record {
      before = items state.dockets state.parties;
      after = [];
      was =
          ap (λ (all : List Item). map docked state.dockets ++ all) (map-append standing state.parties (arrived link ∷ []))
          ∙ sym (append_assoc (map docked state.dockets) (map standing state.parties) (standing (arrived link) ∷ []));
      is = sym (append-nil (items state.dockets state.parties));
    } in
    let same = without_same later state (standing (arrived link)) without refl in
    let were : AreOf (working later) (working state)
    = λ x there.
    elim (apart_of (standing (arrived link)) without.before without.after x (subst (λ (all : List Item). IsAmong x (flat_map workers all)) without.was there)) [
      | inl own ↦ absurd own
      | inr rest ↦ subst (λ (all : List Item). IsAmong x (flat_map workers all)) (sym without.is) rest
    ] in
    stays state later sound (record { same = record { stay = same.were; were = same.stay }; were = were; trees = λ name. refl; less = omega arith })

event_leads : (state : State) (event : Event) → IsSound state → AreHistoriesKept state → Leads state (by_event state event) (after_event state event).state
event_leads state (Arrives link) sound kept = arrives_leads state link sound
event_leads state (Takes link setting message) sound kept = transition_leads state link setting message sound kept
event_leads state (Faults link number place) sound kept = fault_leads state link number place sound kept
event_leads state Stops sound kept = stopped_leads state.parties state refl sound kept

-- ---- runs

event_keeps : (state : State) (event : Event) → IsSound state → AreHistoriesKept state → AreHistoriesKept (after_event state event).state
event_keeps state (Arrives link) sound kept =
    record { parties = all_append (λ (party : StandingParty). AreKept party.history) state.parties (arrived link ∷ []) kept.parties (tt, tt); dockets = kept.dockets }
event_keeps state (Takes link setting message) sound kept = transitions_stay IsAny AreHistoriesKept histories_stay state link setting message tt sound kept
event_keeps state (Faults link number place) sound kept = faults_stay IsAny AreHistoriesKept histories_stay state link number place sound kept
event_keeps state Stops sound kept = stopped_each IsKeptEntry kept_lasts state sound kept

pub led : (happenings : List Happening) (state : State) → AreNew happenings state → IsSound state → AreHistoriesKept state → IsLed (present state) state.concluded (moves happenings state)
led [] state new sound kept = ends (present state) state.concluded
led (Happens event ∷ later) state new sound kept =
    (event_leads state event sound kept).orders (moves later (after state (Happens event)))
    (led later (after state (Happens event)) new.1 (event_sound state event new.0 sound) (event_keeps state event sound kept))
led (Drops identity activity ∷ later) state new sound kept =
    (dropped_leads identity activity state sound).orders (moves later (after state (Drops identity activity)))
    (led later (after state (Drops identity activity)) new (dropped_sound identity activity state sound) (dropped_each IsKeptEntry state identity activity kept))

pub acting : (happenings : List Happening) (state : State) → AreNew happenings state → IsSound state → AreHistoriesKept state
    → IsActing (state_after happenings state).files (working state) state.files state.concluded (moves happenings state)
acting [] state new sound kept = actings.IsActing.ends (working state) state.files state.concluded (λ name. refl)
acting (Happens event ∷ later) state new sound kept =
    (event_leads state event sound kept).follows (state_after later (after state (Happens event))).files (moves later (after state (Happens event)))
    (acting later (after state (Happens event)) new.1 (event_sound state event new.0 sound) (event_keeps state event sound kept))
acting (Drops identity activity ∷ later) state new sound kept =
    (dropped_leads identity activity state sound).follows (state_after later (after state (Drops identity activity))).files (moves later (after state (Drops identity activity)))
    (acting later (after state (Drops identity activity)) new (dropped_sound identity activity state sound) (dropped_each IsKeptEntry state identity activity kept))

-- ---- files that are there at the begin

list_all_is : {A : Type 0} (test : A → Bool) (xs : List A) → list_all test xs ≡ true → AllByRecursion (λ x. test x ≡ true) xs
list_all_is test [] is = tt
list_all_is test (x ∷ xs) is = let both = and_parts (test x) (list_all test xs) is in (both.0, list_all_is test xs both.1)

abbrev Isolates : List ℕ → Standing → Type 0
Isolates file one = (not (bytes_eq one.file file) || isolates one.regime) ≡ true

standing_isolates : (file : List ℕ) (history : History) (x : Stand) → AllByRecursion (Isolates file) (standing_in history) → IsAmong x (stands_in history) → x.file ≡ file → isolates x.regime ≡ true
standing_isolates file history x all there on =
    let is = stand_is history x there in
    let each = subst (λ (one : Option Selection). AllByRecursion (Isolates file) (standing_by (position history) one (Some x.regime))) is.chosen
    (subst (λ (one : Option Regime). AllByRecursion (Isolates file) (standing_by (position history) (selection history) one)) is.opened all) in
    let equal : bytes_eq is.selected.file file ≡ true = subst (λ name. bytes_eq is.selected.file name ≡ true) (is.on ∙ on) (name_itself is.selected.file) in
    sym (ap (λ b. not b || isolates x.regime) equal) ∙ each.0

abbrev pub standings : Has Standing
standings = record { of_party = standing_of_party; of_docket = standing_of_docket }

item_isolates : (file : List ℕ) (item : Item) (x : Stand) → AllByRecursion (Isolates file) (of_item standings item) → IsAmong x (stands item) → x.file ≡ file → isolates x.regime ≡ true
item_isolates file (docked docket) x all there on = standing_isolates file docket.history x all there on
item_isolates file (standing party) x all there on = standing_isolates file party.history x all there on

begun_isolate : (state : State) (file : List ℕ) → isolate_on file (uses_of_files.standing state) ≡ true → AllIsolate file (present state)
begun_isolate state file is x there on =
    let all = subst (λ (all : List Standing). AllByRecursion (Isolates file) all) (sym (all_items standings state.dockets state.parties))
    (list_all_is (λ (one : Standing). not (bytes_eq one.file file) || isolates one.regime) (uses_of_files.standing state) is) in
    let found = found_in x (items state.dockets state.parties) there in
    item_isolates file found.0 x
    (all_in (λ (item : Item). AllByRecursion (Isolates file) (of_item standings item)) found.0 (items state.dockets state.parties)
    (all-from_flat_map (of_item standings) (Isolates file) (items state.dockets state.parties) all) found.1) found.2 on

order_of : (one : Use) → IsInOrder one.file one.moves → IsOrderly one
order_of one order = record { once = order.once; apart = order.apart }

begun_orderly : (state : State) (happened : List Move) → IsLed (present state) state.concluded happened → (files : List File)
    → AllByRecursion (λ (one : Use). is_isolated one ≡ true → IsOrderly one) (map (begun (uses_of_files.standing state) happened) files)
begun_orderly state happened led_all [] = tt
begun_orderly state happened led_all (file ∷ files) = (
  λ is.
      let both = and_parts (isolate_on file.name (uses_of_files.standing state)) (all_isolate file.name happened) is in
      order_of (begun (uses_of_files.standing state) happened file)
      (in_order file.name (present state) state.concluded happened led_all (begun_isolate state file.name both.0) both.1),
  begun_orderly state happened led_all files,
)

-- ---- files that are created

made_orderly : (all : List Stand) (next : ℕ) (happened : List Move) → IsLed all next happened → AllByRecursion (λ (one : Use). is_isolated one ≡ true → IsOrderly one) (made happened)
made_orderly all next happened (ends a b) = tt
made_orderly all next happened (goes a later b n (Opened file opened) rest coherent_all rises does led_rest) = made_orderly later n rest led_rest
made_orderly all next happened (goes a later b n (Acted file number operation) rest coherent_all rises does led_rest) = made_orderly later n rest led_rest
made_orderly all next happened (goes a later b n (Ceased file number) rest coherent_all rises does led_rest) = made_orderly later n rest led_rest
made_orderly all next happened (goes a later b n (Created file contents) rest coherent_all rises does led_rest) = (
  λ is.
      order_of (record { file = file; world = record { tree = contents; position = nowhere }; isolated = true; moves = rest })
      (in_order file later n rest led_rest (λ x there on. absurd (does.free x (does.same.were x there) on)) is),
  made_orderly later n rest led_rest,
)
made_orderly all next happened (goes a later b n (Renamed old new) rest coherent_all rises does led_rest) = made_orderly later n rest led_rest
made_orderly all next happened (goes a later b n (Deleted file) rest coherent_all rises does led_rest) = made_orderly later n rest led_rest

pub runs_orderly : RunsAreOrderly
runs_orderly happenings state new sound kept =
    let happened = moves happenings state in
    let led_all = led happenings state new sound kept in
    all_append (λ (one : Use). is_isolated one ≡ true → IsOrderly one) (map (begun (uses_of_files.standing state) happened) state.files) (made happened)
    (begun_orderly state happened led_all state.files) (made_orderly (present state) state.concluded happened led_all)
