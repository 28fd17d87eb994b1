-- Every transition, every break and every run leads by its moves.
use Rattle.std.proofs.Common.{◌≡◌, ℕ, Bool, true, false, cond, List, [], ◌∷◌, ◌++◌, map, Option, None, Some, refl, ap, sym, subst, ◌∙◌, arith}
use Rattle.std.specs.Prelude.{IfSome, count_by, flat_map, nat_le}
use Rattle.std.specs.List.{AllByRecursion}
use Rattle.vf_elements.specs.Stages.{takes}
use Rattle.vf_elements.specs.declared.message.Message.{Message}
use Rattle.vf_elements.specs.declared.message.Message.TheVariants as messages
use Rattle.vf_elements.specs.declared.message.Said.{Said}
use Rattle.vf_pdu.specs.declared.pdu.Pdu.{Pdu}
use Rattle.vf_pdu.specs.declared.pdu.Pdu.TheVariants.{LocateRequest, EraseRequest, ReadRequest, TransferEndRequest, CancelRequest}
use Rattle.vf_filestore.specs.Aborts.{Setting}
use Rattle.vf_filestore.specs.Conclusion.{Answered, concluded, concluding_entry, gone_where_aborted, grants, has_abort, taken_up}
use Rattle.vf_filestore.specs.Decision.{Decision, Aborts, Refuses, Grants, Waits, Groups, Ends, Leaves, decision, message_decision, trial_decision}
use Rattle.vf_filestore.specs.Dockets.{broken}
use Rattle.vf_filestore.specs.Groups.{Trial, between, groups, is_good, said_in_vain, said_of, trial, trial_by, trial_step}
use Rattle.vf_filestore.specs.History.{Entry, Given, regime}
use Rattle.vf_filestore.specs.Keeping.{AreHistoriesKept}
use Rattle.vf_filestore.specs.Performed.{operation}
use Rattle.vf_filestore.specs.Sound.{IsItem, IsSound, IsSoundParty, HasItems}
use Rattle.vf_filestore.specs.Stage.{Group, pending, stage}
use Rattle.vf_filestore.specs.State.{State, StandingParty, mode_in, party_of, with_party}
use Rattle.vf_filestore.specs.Transition.{answered, associates, met}
use Rattle.vf_filestore.proofs.Concluded.{IsGranting, after_entry, concluded_is, concluded_sound, granting_request, grants_sound}
use Rattle.vf_filestore.proofs.Decisions.{broken_same, decided_taken, granting, grouped_items, heard_sound, item_asks, party_sound, passed_alone, put_again, traced, trial_taken}
use Rattle.vf_filestore.proofs.HeldParty.{is_among}
use Rattle.vf_filestore.proofs.Parties.{IsOff, Located, found_at, located, with_at}
use Rattle.vf_filestore.proofs.Same.{entry_same, with_parties, with_trace}
use Rattle.vf_serial.specs.Moves.{Move, broken_of, by_abort, by_answer, by_break, by_decision, by_grant, by_group, by_item, by_item_of, by_items, moves_by}
use Rattle.vf_serial.proofs.Earned.{AllOfIts, performs_its}
use Rattle.vf_serial.proofs.Ended.{broken_leads, items_at}
use Rattle.vf_serial.proofs.Granted.{Stage}
use Rattle.vf_serial.proofs.Leading.{IsReplaced, Leads, replaced_same, replaced_were, stays, still_itself, then_leads}
use Rattle.vf_serial.proofs.Working.{of_equal, workers}
use Rattle.vf_filestore.proofs.KeptEntries.{entry_kept}
use Rattle.vf_filestore.proofs.Preserved.{IsDue, any}
use Rattle.vf_filestore.proofs.StaysKept.{histories_stay}
use Rattle.vf_serial.proofs.Present.{items, docked, standing}
use Rattle.vf_serial.proofs.Recovered.{message_leads}
use Rattle.vf_serial.proofs.Requested.{LeadsBy}

-- ---- what is granted

pub same_link : (state : State) (link : ℕ) (party : StandingParty) → party_of link state.parties ≡ Some party → party_of party.link state.parties ≡ Some party
same_link state link party found = subst (λ link. party_of link state.parties ≡ Some party) (sym (located link state.parties party found).same) found

stage_of : (state : State) (party : StandingParty) → IsSound state → (found : party_of party.link state.parties ≡ Some party) → Stage state party (located party.link state.parties party found).before (located party.link state.parties party found).after
stage_of state party sound found = record {
  sound = sound;
  among_is = is_among state party (located party.link state.parties party found) sound.linked;
  nested = (party_sound state party.link party sound found).sound.nested;
  there = (party_sound state party.link party sound found).sound.there;
}

-- a party whose open aborts in the place of a check
aborted_leads : (link : ℕ) (said : List Said) (state : State) → IsSound state → AreHistoriesKept state → Leads state (by_abort link said state) (gone_where_aborted link said state)
aborted_leads link said state sound kept = by (has_abort said)
  where
    by : (b : Bool) → Leads state (cond b (by_break link state) []) (cond b (broken link state) state)
    by true = broken_leads link state sound kept
    by false = stays state state sound (still_itself state)

pub granted_leads : (state : State) (party : StandingParty) (setting : Setting) (message : Message) (given : Given) (parties : List StandingParty) (trace : List Message) → IsSound state → AreHistoriesKept state
    → (found : party_of party.link state.parties ≡ Some party) → parties ≡ with_party (with_trace party trace) state.parties → IfSome (pending trace) HasItems → IsGranting state party setting message given
    → IsDue state party setting message given → AllOfIts (mode_in (regime party.history)) (operation party.history message given)
    → Leads state (by_grant (with_parties state parties) (with_trace party trace) setting message given) (grants (with_parties state parties) (with_trace party trace) setting message given).state
granted_leads state party setting message given parties trace sound kept found are grouped granting_is due its =
    then_leads state after (gone_where_aborted party.link entry.said after)
    (moves_by state.files (concluded (with_parties state parties) (with_trace party trace) (concluding_entry (with_parties state parties) (with_trace party trace) setting message given)).files (taken_up state party message)
    (concluding_entry (with_parties state parties) (with_trace party trace) setting message given))
    (by_abort party.link entry.said after) first (aborted_leads party.link entry.said after sound_after kept_after)
  where
    place : Located party.link state.parties party
    place = located party.link state.parties party found

    entry : Entry
    entry = concluding_entry (with_parties state parties) (with_trace party trace) setting message given

    after : State
    after = concluded (with_parties state parties) (with_trace party trace) (concluding_entry (with_parties state parties) (with_trace party trace) setting message given)

    sound_after : IsSound (concluded (with_parties state parties) (with_trace party trace) (concluding_entry (with_parties state parties) (with_trace party trace) setting message given))
    sound_after = concluded_sound state party.link party setting message given parties trace sound found are grouped granting_is

    kept_after : AreHistoriesKept (concluded (with_parties state parties) (with_trace party trace) (concluding_entry (with_parties state parties) (with_trace party trace) setting message given))
    kept_after =
        let is = concluded_is state party.link party setting message given parties trace place are in
        let sound_now = concluded_sound state party.link party setting message given parties trace sound found are grouped granting_is in
        subst AreHistoriesKept (sym is)
        (histories_stay.grants state party setting message given trace place.before place.after sound kept (subst (λ (one : State). IsSound one) is sound_now) place.is tt (any trace) granting_is due)

    plain : LeadsBy state party setting message given trace (located party.link state.parties party found).before (located party.link state.parties party found).after
    plain =
        message_leads state party setting message given trace (located party.link state.parties party found).before (located party.link state.parties party found).after (stage_of state party sound found) due.decided due.taken its (entry_kept state party setting message given due).given

    first : Leads state
        (moves_by state.files (concluded (with_parties state parties) (with_trace party trace) (concluding_entry (with_parties state parties) (with_trace party trace) setting message given)).files (taken_up state party message)
        (concluding_entry (with_parties state parties) (with_trace party trace) setting message given))
        (concluded (with_parties state parties) (with_trace party trace) (concluding_entry (with_parties state parties) (with_trace party trace) setting message given))
    first =
        subst (λ (later : State). Leads state (moves_by state.files later.files (taken_up state party message) (concluding_entry (with_parties state parties) (with_trace party trace) setting message given)) later)
        (sym (concluded_is state party.link party setting message given parties trace place are))
        (subst (λ (one : Entry). Leads state
        (moves_by state.files (after_entry state party setting message given trace (located party.link state.parties party found).before (located party.link state.parties party found).after).files (taken_up state party message) one)
        (after_entry state party setting message given trace (located party.link state.parties party found).before (located party.link state.parties party found).after))
        (sym (entry_same state party parties trace setting message given)) plain)

-- what is kept of histories stays so
granted_keeps : (state : State) (link : ℕ) (party : StandingParty) (setting : Setting) (message : Message) (given : Given) (parties : List StandingParty) (trace : List Message) → IsSound state → AreHistoriesKept state
    → party_of link state.parties ≡ Some party → parties ≡ with_party (with_trace party trace) state.parties → IfSome (pending trace) HasItems → IsGranting state party setting message given → IsDue state party setting message given
    → AreHistoriesKept (grants (with_parties state parties) (with_trace party trace) setting message given).state
granted_keeps state link party setting message given parties trace sound kept found are grouped granting_is due =
    by (has_abort (concluding_entry (with_parties state parties) (with_trace party trace) setting message given).said)
  where
    sound_after : IsSound (concluded (with_parties state parties) (with_trace party trace) (concluding_entry (with_parties state parties) (with_trace party trace) setting message given))
    sound_after = concluded_sound state link party setting message given parties trace sound found are grouped granting_is

    kept_after : AreHistoriesKept (concluded (with_parties state parties) (with_trace party trace) (concluding_entry (with_parties state parties) (with_trace party trace) setting message given))
    kept_after =
        let place = located link state.parties party found in
        let is = concluded_is state link party setting message given parties trace place are in
        let sound_now = concluded_sound state link party setting message given parties trace sound found are grouped granting_is in
        subst AreHistoriesKept (sym is)
        (histories_stay.grants state party setting message given trace place.before place.after sound kept (subst (λ (one : State). IsSound one) is sound_now) place.is tt (any trace) granting_is due)

    by : (b : Bool) → AreHistoriesKept (cond b (broken party.link (concluded (with_parties state parties) (with_trace party trace) (concluding_entry (with_parties state parties) (with_trace party trace) setting message given)))
        (concluded (with_parties state parties) (with_trace party trace) (concluding_entry (with_parties state parties) (with_trace party trace) setting message given)))
    by true = histories_stay.breaks party.link (concluded (with_parties state parties) (with_trace party trace) (concluding_entry (with_parties state parties) (with_trace party trace) setting message given)) sound_after kept_after
    by false = kept_after

-- ---- items of a group, which perform nothing

item_its : (party : StandingParty) (item : Pdu) (given : Given) → IsItem item → AllOfIts (mode_in (regime party.history)) (operation party.history (messages.Pdu item) given)
item_its party (LocateRequest fadu) given is = absurd cc
item_its party (EraseRequest fadu) given is = absurd cc
item_its party (ReadRequest fadu context) given is = absurd cc
item_its party TransferEndRequest given is = absurd cc
item_its party (CancelRequest diagnostic) given is = absurd cc
item_its party item given is = tt

item_leads : (later : State → Trial) (more : State → List Move) → ((state : State) → IsSound state → AreHistoriesKept state → Leads state (more state) (later state).state) → (state : State) (link : ℕ) (party : StandingParty) (setting : Setting) (item : Pdu) → IsItem item
    → IsSound state → AreHistoriesKept state → party_of link state.parties ≡ Some party → (one : Decision) → trial_decision state party setting item ≡ one
    → Leads state (by_item more setting item state party one) (trial_step later setting item state party one).state
item_leads later more leads state link party setting item is_item sound kept found (Grants given) is =
    let taken = trial_taken state party setting item given is in
    let own = party_sound state link party sound found in
    let again = put_again link state.parties party found in
    let granting_is = granting_request state party setting item given sound own taken.1 taken.0 (item_asks item party.history is_item) in
    let mid = (grants state party setting (messages.Pdu item) given).state in
    let due : IsDue state party setting (messages.Pdu item) given = record { taken = taken.0; decided = taken.1; spared = λ never. let wrong : true ≡ false = sym is_item ∙ never in absurd cc } in
    then_leads state mid (later mid).state (by_grant state party setting (messages.Pdu item) given) (more mid)
    (granted_leads state party setting (messages.Pdu item) given state.parties party.trace sound kept (same_link state link party found) again own.grouped granting_is due (item_its party item given is_item))
    (leads mid (grants_sound state link party setting (messages.Pdu item) given state.parties party.trace sound found again own.grouped granting_is)
    (granted_keeps state link party setting (messages.Pdu item) given state.parties party.trace sound kept found again own.grouped granting_is due))
item_leads later more leads state link party setting item is_item sound kept found (Refuses diagnostic) is = leads state sound kept
item_leads later more leads state link party setting item is_item sound kept found (Aborts number) is = leads state sound kept
item_leads later more leads state link party setting item is_item sound kept found Waits is = leads state sound kept
item_leads later more leads state link party setting item is_item sound kept found (Groups group) is = leads state sound kept
item_leads later more leads state link party setting item is_item sound kept found Ends is = leads state sound kept
item_leads later more leads state link party setting item is_item sound kept found Leaves is = leads state sound kept

items_lead : (link : ℕ) (setting : Setting) (pdus : List Pdu) (state : State) → AllByRecursion IsItem pdus → IsSound state → AreHistoriesKept state → Leads state (by_items link setting pdus state) (trial link setting pdus state).state
items_lead link setting [] state are sound kept = stays state state sound (still_itself state)
items_lead link setting (item ∷ pdus) state are sound kept =
    by (λ state sound kept. items_lead link setting pdus state are.1 sound kept) (party_of link state.parties) refl
  where
    by : ((state : State) → IsSound state → AreHistoriesKept state → Leads state (by_items link setting pdus state) (trial link setting pdus state).state) → (found : Option StandingParty) → party_of link state.parties ≡ found
        → Leads state (by_item_of (by_items link setting pdus) setting item state found) (trial_by (trial link setting pdus) setting item state found).state
    by leads None is = leads state sound kept
    by leads (Some party) is = item_leads (trial link setting pdus) (by_items link setting pdus) leads state link party setting item are.0 sound kept is (trial_decision state party setting item) refl

group_leads : (state : State) (party : StandingParty) (setting : Setting) (group : Group) → HasItems group → IsSound state → AreHistoriesKept state → Leads state (by_group state party.link setting group) (groups state party setting group).state
group_leads state party setting group are sound kept = by (nat_le group.threshold (count_by is_good (trial party.link setting group.items state).tried))
  where
    done : Leads state (by_items party.link setting group.items state) (trial party.link setting group.items state).state
    done = items_lead party.link setting group.items state are sound kept

    none : Leads state [] state
    none = stays state state sound (still_itself state)

    by : (b : Bool) → Leads state (cond b (by_items party.link setting group.items state) [])
        (cond {A = Answered} b
        (record { said = between (flat_map said_of (trial party.link setting group.items state).tried); state = (trial party.link setting group.items state).state })
        (record { said = between (flat_map said_in_vain (trial party.link setting group.items state).tried); state = state })).state
    by true = done
    by false = none

-- ---- what comes of a message

hears_leads : (state : State) (link : ℕ) (party : StandingParty) (trace : List Message) → IsSound state → party_of link state.parties ≡ Some party
    → Leads state [] (with_parties state (with_party (with_trace party trace) state.parties))
hears_leads state link party trace sound found =
    let place = located link state.parties party found in
    let next = with_trace party trace in
    let later = with_parties state (with_party next state.parties) in
    let now : with_party next state.parties ≡ place.before ++ next ∷ place.after = ap (with_party next) place.is ∙ with_at link place.before place.after party next place.absent place.same place.same in
    let replaced : IsReplaced state later (standing party) (standing next) = record {
      before = map docked state.dockets ++ map standing place.before;
      after = map standing place.after;
      was = ap (items state.dockets) place.is ∙ items_at state.dockets place.before place.after party;
      is = ap (items state.dockets) now ∙ items_at state.dockets place.before place.after next;
    } in
    stays state later sound (record {
      same = replaced_same state later (standing party) (standing next) replaced refl;
      were = replaced_were state later (standing party) (standing next) replaced (of_equal (workers (standing next)) (workers (standing party)) refl);
      trees = λ name. refl;
      less = omega arith;
    })

-- the party is gone
leaves_leads : (state : State) (link : ℕ) (party : StandingParty) (trace : List Message) → IsSound state → AreHistoriesKept state → party_of link state.parties ≡ Some party
    → Leads state (by_break party.link (with_parties state (with_party (with_trace party trace) state.parties))) (broken party.link (with_parties state (with_party (with_trace party trace) state.parties)))
leaves_leads state link party trace sound kept found =
    let place = located link state.parties party found in
    let next = with_trace party trace in
    let now : with_party next state.parties ≡ place.before ++ next ∷ place.after = ap (with_party next) place.is ∙ with_at link place.before place.after party next place.absent place.same place.same in
    let absent : AllByRecursion (IsOff party.link) place.before = subst (λ link. AllByRecursion (IsOff link) place.before) (sym place.same) place.absent in
    let there : party_of party.link (with_party next state.parties) ≡ Some next = ap (party_of party.link) now ∙ found_at party.link place.before place.after next absent refl in
    let here = same_link state link party found in
    subst (λ (later : State). Leads state (by_break party.link (with_parties state (with_party next state.parties))) later) (sym (broken_same state link party trace sound.linked found))
    (subst (λ (one : Option StandingParty). Leads state (broken_of one) (broken party.link state)) (sym there)
    (subst (λ (one : Option StandingParty). Leads state (broken_of one) (broken party.link state)) here (broken_leads party.link state sound kept)))

pub answered_leads : (state : State) (link : ℕ) (party : StandingParty) (setting : Setting) (message : Message) → IsSound state → AreHistoriesKept state → party_of link state.parties ≡ Some party
    → Leads state (by_answer state party setting message) (answered state party setting message).state
answered_leads state link party setting message sound kept found = by (decision state party setting message) refl
  where
    own : IsSoundParty state.files party
    own = party_sound state link party sound found

    gone : Leads state (by_break party.link (with_parties state (with_party (with_trace party (message ∷ party.trace)) state.parties)))
        (broken party.link (with_parties state (with_party (with_trace party (message ∷ party.trace)) state.parties)))
    gone = leaves_leads state link party (message ∷ party.trace) sound kept found

    hears : Leads state [] (with_parties state (with_party (with_trace party (message ∷ party.trace)) state.parties))
    hears = hears_leads state link party (message ∷ party.trace) sound found

    kept_heard : AreHistoriesKept (with_parties state (with_party (with_trace party (message ∷ party.trace)) state.parties))
    kept_heard = histories_stay.hears state link party message tt kept found

    sound_heard : takes (stage party) message ≡ true → IsSound (with_parties state (with_party (with_trace party (message ∷ party.trace)) state.parties))
    sound_heard taken = heard_sound state link party (message ∷ party.trace) sound found (traced party message own.grouped taken)

    refused : (said : List Said) (b : Bool) → Leads state (cond b (by_break party.link (with_parties state (with_party (with_trace party (message ∷ party.trace)) state.parties))) [])
        (cond {A = Answered} b
        (record { said = said; state = broken party.link (with_parties state (with_party (with_trace party (message ∷ party.trace)) state.parties)) })
        (record { said = said; state = with_parties state (with_party (with_trace party (message ∷ party.trace)) state.parties) })).state
    refused said true = gone
    refused said false = hears

    by : (one : Decision) → decision state party setting message ≡ one
        → Leads state (by_decision (with_parties state (with_party (with_trace party (message ∷ party.trace)) state.parties)) (with_trace party (message ∷ party.trace)) setting message one)
        (met (with_parties state (with_party (with_trace party (message ∷ party.trace)) state.parties)) (with_trace party (message ∷ party.trace)) setting message one).state
    by (Aborts number) is = gone
    by (Refuses diagnostic) is = refused _ (associates message)
    by (Grants given) is =
        let taken = decided_taken state party setting message (Grants given) is (λ number e. cc) in
        let passed = passed_alone state party setting message given (pending party.trace) refl taken.0 taken.1 in
        granted_leads state party setting message given (with_party (with_trace party (message ∷ party.trace)) state.parties) (message ∷ party.trace) sound kept (same_link state link party found) refl
        (traced party message own.grouped taken.0) (granting state party setting message given sound own passed) (record { taken = passed.taken; decided = passed.decided; spared = λ is. passed.unaborted }) (its message passed.decided)
      where
        its : (message : Message) → message_decision state party setting message ≡ Grants given → AllOfIts (mode_in (regime party.history)) (operation party.history message given)
        its (messages.Pdu request) decided = performs_its state link party setting request given sound kept found decided
        its message decided = tt
    by Waits is = hears
    by (Groups group) is =
        let taken = decided_taken state party setting message (Groups group) is (λ number e. cc) in
        let heard = with_parties state (with_party (with_trace party (message ∷ party.trace)) state.parties) in
        let next = with_trace party (message ∷ party.trace) in
        then_leads state heard (groups heard next setting group).state [] (by_group heard party.link setting group) hears
        (group_leads heard next setting group (grouped_items state party setting message group (pending party.trace) own.grouped taken.1) (sound_heard taken.0) kept_heard)
    by Ends is = gone
    by Leaves is = gone
