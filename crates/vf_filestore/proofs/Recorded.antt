-- The changes that a message makes lead from what was kept to what is kept.
use Rattle.std.proofs.Common.{◌≡◌, ℕ, Bool, true, false, cond, List, [], ◌∷◌, ◌++◌, length, map, Option, None, Some, refl, ap, sym, subst, ◌∙◌}
use Rattle.std.specs.Prelude.{IfSome, count_by, flat_map, nat_le}
use Rattle.std.specs.List.{AllByRecursion, IsDistinct}
use Rattle.std.specs.Str.{bytes_eq}
use Rattle.vf_elements.specs.Stages.{takes}
use Rattle.vf_elements.specs.declared.message.Message.{Message}
use Rattle.vf_elements.specs.declared.message.Message.TheVariants as messages
use Rattle.vf_elements.specs.declared.message.Said.{Said}
use Rattle.vf_pdu.specs.declared.pdu.Pdu.{Pdu}
use Rattle.vf_pdu.specs.declared.pdu.Pdu.TheVariants.{UserAbort, ProviderAbort, EndGroupRequest}
use Rattle.vf_tables.specs.declared.change.Change.{Change}
use Rattle.vf_tables.specs.declared.tables.Tables.{Tables}
use Rattle.vf_filestore.specs.Aborts as aborting
use Rattle.vf_filestore.specs.Aborts.{Setting, first_abort}
use Rattle.vf_filestore.specs.Changes.{all_piece_changes, delta, docket_changes, file_changes, is_same_open}
use Rattle.vf_filestore.specs.Conclusion.{Answered, concluded, concluding_entry, grants, has_abort, taken_up}
use Rattle.vf_filestore.specs.Decision.{Decision, Aborts, Refuses, Grants, Waits, Groups, Ends, Leaves, decision, decision_in, grouped_decision, grouped_request, message_decision, request_decision, trial_decision}
use Rattle.vf_filestore.specs.Diagnostics.{wrong_state}
use Rattle.vf_filestore.specs.Dockets.{broken, docket_left_by, dropped}
use Rattle.vf_filestore.specs.Effects.{files_after}
use Rattle.vf_filestore.specs.Groups.{Trial, between, groups, is_good, said_in_vain, said_of, trial, trial_by, trial_step}
use Rattle.vf_filestore.specs.History.{Entry, Given}
use Rattle.vf_filestore.specs.Laws.{DifferencesLead, DropsLead, FaultsKeep, Lead, MessagesLead}
use Rattle.vf_filestore.specs.Limits.{most_items}
use Rattle.vf_filestore.specs.Records.{changes_between, changes_by_group, changes_by_items, changes_of_party, changes_where, given_way, where_any}
use Rattle.vf_filestore.specs.Sound.{AreLimited, HasItems, IsItem, IsNested, IsSound, IsSoundParty, name_of}
use Rattle.vf_filestore.specs.Stage.{Group, pending, regime_stage}
use Rattle.vf_filestore.specs.State.{Docket, State, StandingParty, party_of, with_party}
use Rattle.vf_filestore.specs.Tables.{tables_of}
use Rattle.vf_filestore.specs.Transition.{answered, associates, fault_of, leaves, met, refuses, superseded_by, taking_over, transition_of}
use Rattle.vf_filestore.proofs.Broken.{broken_sound}
use Rattle.vf_filestore.proofs.Concluded.{IsGranting, IsNoPdu, after_entry, concluded_is, concluded_sound, granting_request}
use Rattle.vf_filestore.proofs.Decisions.{IsPassed, broken_same, granting, grouped_items, decided_taken, heard_sound, item_asks, left_same, no_groups_message, no_groups_unless, party_sound, passed_alone, put_again, traced, trial_sound, trial_taken}
use Rattle.vf_filestore.proofs.DocketSteps.{DocketStep, dockets_lead, with_dockets}
use Rattle.vf_filestore.proofs.DocketSteps as dockets
use Rattle.vf_filestore.proofs.DocketsMoved.{apart, drop_step, other_dockets, request_dockets}
use Rattle.vf_filestore.proofs.FileSteps.{FileStep, files_lead, with_files}
use Rattle.vf_filestore.proofs.FileSteps as files
use Rattle.vf_filestore.proofs.FilesMoved.{request_files}
use Rattle.vf_filestore.proofs.Kept.{breaks_keep, ordered, same_tables}
use Rattle.vf_filestore.proofs.Leading.{leads_nowhere, leads_on}
use Rattle.vf_filestore.proofs.Lists.{all_right, flat_map-append}
use Rattle.vf_filestore.proofs.OrderedRows.{ordered_rows_differ}
use Rattle.vf_filestore.proofs.Parties.{located, with_at}
use Rattle.vf_filestore.proofs.Same.{with_parties, with_trace}
use Rattle.vf_filestore.proofs.Transitions.{still_there}
use Rattle.vf_filestore.proofs.Unchanged.{makes_no_change}
use Rattle.vf_filestore.proofs.Unmoved.{tables_same}

-- ---- tables

pub record TableStep (before after : Tables) : Type 0 where
  pub users : after.users ≡ before.users
  pub files : FileStep before.files after.files
  pub dockets : DocketStep before.dockets after.dockets
  pub tasks : after.tasks ≡ before.tasks

tables_lead : (before after : Tables) → IsDistinct bytes_eq (map name_of before.files) → IsDistinct is_same_open before.dockets → TableStep before after → Lead before (delta before after) after
tables_lead before after filed opened step =
    leads_on before (with_files before after.files) after (file_changes before.files after.files) (docket_changes before.dockets after.dockets ++ all_piece_changes before.dockets after.dockets)
    (files_lead before before.files after.files filed step.files)
    (subst (λ (to : Tables). Lead (with_files before after.files) (docket_changes before.dockets after.dockets ++ all_piece_changes before.dockets after.dockets) to)
    (λ i. record { users = sym step.users i; files = after.files; dockets = after.dockets; tasks = sym step.tasks i })
    (dockets_lead (with_files before after.files) before.dockets after.dockets opened step.dockets))

pub state_leads : (state : State) (after : Tables) → IsSound state → TableStep (tables_of state) after → Lead (tables_of state) (delta (tables_of state) after) after
state_leads state after sound step =
    let all = apart state sound in
    tables_lead (tables_of state) after sound.filed (ordered_rows_differ (state.dockets ++ flat_map docket_left_by state.parties) all.selected all.keys) step

-- ---- a message that is granted

pub record IsDecided (state : State) (party : StandingParty) (setting : Setting) (message : Message) (given : Given) : Type 0 where
  pub files : IsDistinct bytes_eq (map name_of state.files) → AreLimited state.files → AreLimited (files_after state party setting.moment given message) → FileStep state.files (files_after state party setting.moment given message)
  pub dockets : (trace : List Message) (before after : List StandingParty) → IsSound state → IsSound (after_entry state party setting message given trace before after) → state.parties ≡ before ++ party ∷ after
      → IsNested party.history → IsNested (concluding_entry state party setting message given ∷ taken_up state party message)
      → DocketStep (tables_of state).dockets (tables_of (after_entry state party setting message given trace before after)).dockets

request_decided : (state : State) (party : StandingParty) (setting : Setting) (request : Pdu) (given : Given) → request_decision state party setting request ≡ Grants given
    → takes (regime_stage party.history) (messages.Pdu request) ≡ true → IsDecided state party setting (messages.Pdu request) given
request_decided state party setting request given is taken = record {
  files = request_files state party setting request given is;
  dockets = λ trace before after sound sound_after among nested nested_after. request_dockets state party setting request given trace before after is taken sound sound_after among nested nested_after;
}

other_decided : (state : State) (party : StandingParty) (setting : Setting) (message : Message) (given : Given) → IsNoPdu message → IsDecided state party setting message given
other_decided state party setting (messages.Pdu request) given never = absurd never
other_decided state party setting (messages.Element element) given is = record {
  files = λ filed limited later. files.same refl;
  dockets = λ trace before after sound sound_after among nested nested_after. other_dockets state party setting (messages.Element element) given trace before after tt sound sound_after among nested nested_after;
}
other_decided state party setting messages.Check given is = record {
  files = λ filed limited later. files.same refl;
  dockets = λ trace before after sound sound_after among nested nested_after. other_dockets state party setting messages.Check given trace before after tt sound sound_after among nested nested_after;
}
other_decided state party setting (messages.Acknowledge point) given is = record {
  files = λ filed limited later. files.same refl;
  dockets = λ trace before after sound sound_after among nested nested_after. other_dockets state party setting (messages.Acknowledge point) given trace before after tt sound sound_after among nested nested_after;
}
other_decided state party setting (messages.Restart point) given is = record {
  files = λ filed limited later. files.same refl;
  dockets = λ trace before after sound sound_after among nested nested_after. other_dockets state party setting (messages.Restart point) given trace before after tt sound sound_after among nested nested_after;
}
other_decided state party setting messages.Break given is = record {
  files = λ filed limited later. files.same refl;
  dockets = λ trace before after sound sound_after among nested nested_after. other_dockets state party setting messages.Break given trace before after tt sound sound_after among nested nested_after;
}

passed_decided : (state : State) (party : StandingParty) (setting : Setting) (message : Message) (given : Given) → IsPassed state party setting message given → IsDecided state party setting message given
passed_decided state party setting (messages.Pdu request) given passed = request_decided state party setting request given passed.decided passed.taken
passed_decided state party setting (messages.Element element) given passed = other_decided state party setting (messages.Element element) given tt
passed_decided state party setting messages.Check given passed = other_decided state party setting messages.Check given tt
passed_decided state party setting (messages.Acknowledge point) given passed = other_decided state party setting (messages.Acknowledge point) given tt
passed_decided state party setting (messages.Restart point) given passed = other_decided state party setting (messages.Restart point) given tt
passed_decided state party setting messages.Break given passed = other_decided state party setting messages.Break given tt

-- the step of all tables
concluded_step : (state : State) (link : ℕ) (party : StandingParty) (setting : Setting) (message : Message) (given : Given) (parties : List StandingParty) (trace : List Message) → IsSound state
    → party_of link state.parties ≡ Some party → parties ≡ with_party (with_trace party trace) state.parties → IsGranting state party setting message given → IsDecided state party setting message given
    → IsSound (concluded (with_parties state parties) (with_trace party trace) (concluding_entry (with_parties state parties) (with_trace party trace) setting message given))
    → TableStep (tables_of state) (tables_of (concluded (with_parties state parties) (with_trace party trace) (concluding_entry (with_parties state parties) (with_trace party trace) setting message given)))
concluded_step state link party setting message given parties trace sound found are granting decided sound_after =
    let at = located link state.parties party found in
    let is = concluded_is state link party setting message given parties trace at are in
    let own = (all_right (IsSoundParty state.files) at.before (party ∷ at.after) (subst (λ (all : List StandingParty). AllByRecursion (IsSoundParty state.files) all) at.is sound.parties)).0 in
    subst (λ (one : State). TableStep (tables_of state) (tables_of one)) (sym is) (record {
      users = refl;
      files = decided.files sound.filed sound.limited granting.limited;
      dockets = decided.dockets trace at.before at.after sound (subst (λ (one : State). IsSound one) is sound_after) at.is own.sound.nested granting.own.nested;
      tasks = refl;
    })

pub granted_step : (state : State) (link : ℕ) (party : StandingParty) (setting : Setting) (message : Message) (given : Given) (parties : List StandingParty) (trace : List Message) → IsSound state
    → party_of link state.parties ≡ Some party → parties ≡ with_party (with_trace party trace) state.parties → IfSome (pending trace) HasItems → IsGranting state party setting message given
    → IsDecided state party setting message given → TableStep (tables_of state) (tables_of (grants (with_parties state parties) (with_trace party trace) setting message given).state)
granted_step state link party setting message given parties trace sound found are grouped granting decided = by (has_abort entry.said)
  where
    entry : Entry
    entry = concluding_entry (with_parties state parties) (with_trace party trace) setting message given

    kept : IsSound (concluded (with_parties state parties) (with_trace party trace) (concluding_entry (with_parties state parties) (with_trace party trace) setting message given))
    kept = concluded_sound state link party setting message given parties trace sound found are grouped granting

    step : TableStep (tables_of state) (tables_of (concluded (with_parties state parties) (with_trace party trace) (concluding_entry (with_parties state parties) (with_trace party trace) setting message given)))
    step = concluded_step state link party setting message given parties trace sound found are granting decided (concluded_sound state link party setting message given parties trace sound found are grouped granting)

    by : (b : Bool) → TableStep (tables_of state) (tables_of (cond b (broken party.link (concluded (with_parties state parties) (with_trace party trace) (concluding_entry (with_parties state parties) (with_trace party trace) setting message given)))
        (concluded (with_parties state parties) (with_trace party trace) (concluding_entry (with_parties state parties) (with_trace party trace) setting message given))))
    by true =
        subst (λ (tables : Tables). TableStep (tables_of state) tables)
        (sym (breaks_keep (concluded (with_parties state parties) (with_trace party trace) (concluding_entry (with_parties state parties) (with_trace party trace) setting message given)) party.link kept)) step
    by false = step

-- ---- what comes of a message

-- tables are as they were
same_step : (state : State) (after : Tables) → after ≡ tables_of state → TableStep (tables_of state) after
same_step state after is = subst (λ (tables : Tables). TableStep (tables_of state) tables) (sym is) (record { users = refl; files = files.same refl; dockets = dockets.same refl; tasks = refl })

-- what is kept doesn't look at traces
heard_keeps : (state : State) (link : ℕ) (party : StandingParty) (trace : List Message) → party_of link state.parties ≡ Some party
    → tables_of (with_parties state (with_party (with_trace party trace) state.parties)) ≡ tables_of state
heard_keeps state link party trace found =
    let at = located link state.parties party found in
    let next = with_trace party trace in
    let now : with_party next state.parties ≡ at.before ++ next ∷ at.after = ap (with_party next) at.is ∙ with_at link at.before at.after party next at.absent at.same at.same in
    let all : flat_map docket_left_by (with_party next state.parties) ≡ flat_map docket_left_by state.parties
    = ap (flat_map docket_left_by) now
    ∙ flat_map-append docket_left_by at.before (next ∷ at.after)
    ∙ ap (λ (own : List Docket). flat_map docket_left_by at.before ++ (own ++ flat_map docket_left_by at.after)) (left_same party trace)
    ∙ sym (flat_map-append docket_left_by at.before (party ∷ at.after))
    ∙ sym (ap (flat_map docket_left_by) at.is) in
    same_tables state (with_parties state (with_party next state.parties)) refl refl refl (ap (λ (left : List Docket). ordered [] (state.dockets ++ left)) all)

leaves_keep : (state : State) (link : ℕ) (party : StandingParty) (trace : List Message) → IsSound state → party_of link state.parties ≡ Some party
    → tables_of (broken party.link (with_parties state (with_party (with_trace party trace) state.parties))) ≡ tables_of state
leaves_keep state link party trace sound found =
    ap tables_of (broken_same state link party trace sound.linked found) ∙ breaks_keep state party.link sound

refuses_keep : (state heard_state : State) (heard : StandingParty) (message : Message) (said : List Said) → tables_of heard_state ≡ tables_of state → tables_of (broken heard.link heard_state) ≡ tables_of state
    → tables_of (refuses heard_state heard message said).state ≡ tables_of state
refuses_keep state heard_state heard message said stays gone = by (associates message)
  where
    by : (b : Bool) → tables_of (cond b (leaves heard_state heard said) (record { said = said; state = heard_state })).state ≡ tables_of state
    by true = gone
    by false = stays

-- ---- groups

-- an item leads to what it leaves
item_step : (state : State) (link : ℕ) (party : StandingParty) (setting : Setting) (item : Pdu) → IsItem item → IsSound state → party_of link state.parties ≡ Some party → (one : Decision) → trial_decision state party setting item ≡ one
    → TableStep (tables_of state) (tables_of (trial_step (trial link setting []) setting item state party one).state)
item_step state link party setting item is_item sound found (Grants given) is =
    let taken = trial_taken state party setting item given is in
    let own = party_sound state link party sound found in
    granted_step state link party setting (messages.Pdu item) given state.parties party.trace sound found (put_again link state.parties party found) own.grouped
    (granting_request state party setting item given sound own taken.1 taken.0 (item_asks item party.history is_item)) (request_decided state party setting item given taken.1 taken.0)
item_step state link party setting item is_item sound found (Refuses diagnostic) is = same_step state (tables_of state) refl
item_step state link party setting item is_item sound found (Aborts number) is = same_step state (tables_of state) refl
item_step state link party setting item is_item sound found Waits is = same_step state (tables_of state) refl
item_step state link party setting item is_item sound found (Groups group) is = same_step state (tables_of state) refl
item_step state link party setting item is_item sound found Ends is = same_step state (tables_of state) refl
item_step state link party setting item is_item sound found Leaves is = same_step state (tables_of state) refl

one_step : (state : State) (link : ℕ) (setting : Setting) (item : Pdu) → IsItem item → IsSound state → TableStep (tables_of state) (tables_of (trial link setting (item ∷ []) state).state)
one_step state link setting item is_item sound = by (party_of link state.parties) refl
  where
    by : (found : Option StandingParty) → party_of link state.parties ≡ found → TableStep (tables_of state) (tables_of (trial_by (trial link setting []) setting item state found).state)
    by None is = same_step state (tables_of state) refl
    by (Some party) is = item_step state link party setting item is_item sound is (trial_decision state party setting item) refl

-- the state after items is that after the first of them, and then after the others
step_later : (later : State → Trial) (setting : Setting) (item : Pdu) (state : State) (party : StandingParty) (one : Decision)
    → (trial_step later setting item state party one).state ≡ (later (trial_step (trial party.link setting []) setting item state party one).state).state
step_later later setting item state party (Grants given) = refl
step_later later setting item state party (Refuses diagnostic) = refl
step_later later setting item state party (Aborts number) = refl
step_later later setting item state party Waits = refl
step_later later setting item state party (Groups group) = refl
step_later later setting item state party Ends = refl
step_later later setting item state party Leaves = refl

trial_later : (link : ℕ) (setting : Setting) (item : Pdu) (items : List Pdu) (state : State) → (trial link setting (item ∷ items) state).state ≡ (trial link setting items (trial link setting (item ∷ []) state).state).state
trial_later link setting item items state = by (party_of link state.parties)
  where
    by : (found : Option StandingParty) → (trial_by (trial link setting items) setting item state found).state ≡ (trial link setting items (trial_by (trial link setting []) setting item state found).state).state
    by None = refl
    by (Some party) = step_later (trial link setting items) setting item state party (trial_decision state party setting item)

pub items_lead : (link : ℕ) (setting : Setting) (items : List Pdu) (state : State) → AllByRecursion IsItem items → IsSound state
    → Lead (tables_of state) (changes_by_items link setting items state) (tables_of (trial link setting items state).state)
items_lead link setting [] state are sound = leads_nowhere (tables_of state)
items_lead link setting (item ∷ items) state are sound =
    let next = (trial link setting (item ∷ []) state).state in
    let after = trial_sound link setting (item ∷ []) state (are.0, tt) sound in
    let rest = items_lead link setting items next are.1 after in
    subst (λ (to : State). Lead (tables_of state) (changes_between state next ++ changes_by_items link setting items next) (tables_of to)) (sym (trial_later link setting item items state))
    (leads_on (tables_of state) (tables_of next) (tables_of (trial link setting items next).state) (changes_between state next) (changes_by_items link setting items next)
    (state_leads state (tables_of next) sound (one_step state link setting item are.0 sound)) rest)

-- users and tasks are as they were
record KeepsOthers (before after : Tables) : Type 0 where
  users : after.users ≡ before.users
  tasks : after.tasks ≡ before.tasks

trial_keeps : (link : ℕ) (setting : Setting) (items : List Pdu) (state : State) → AllByRecursion IsItem items → IsSound state → KeepsOthers (tables_of state) (tables_of (trial link setting items state).state)
trial_keeps link setting [] state are sound = record { users = refl; tasks = refl }
trial_keeps link setting (item ∷ items) state are sound =
    let next = (trial link setting (item ∷ []) state).state in
    let step = one_step state link setting item are.0 sound in
    let rest = trial_keeps link setting items next are.1 (trial_sound link setting (item ∷ []) state (are.0, tt) sound) in
    subst (λ (to : State). KeepsOthers (tables_of state) (tables_of to)) (sym (trial_later link setting item items state))
    (record { users = rest.users ∙ step.users; tasks = rest.tasks ∙ step.tasks })

pub rows_apart : (state : State) → IsSound state → IsDistinct is_same_open (tables_of state).dockets
rows_apart state sound = let all = apart state sound in ordered_rows_differ (state.dockets ++ flat_map docket_left_by state.parties) all.selected all.keys

group_lead : (state : State) (party : StandingParty) (setting : Setting) (group : Group) → HasItems group → IsSound state
    → Lead (tables_of state) (changes_by_group state party setting group) (tables_of (groups state party setting group).state)
group_lead state party setting group are sound = by (nat_le group.threshold (count_by is_good (trial party.link setting group.items state).tried))
  where
    -- where any change is made, the items' are made
    any : (changes : List Change) → changes_between state (trial party.link setting group.items state).state ≡ changes
        → Lead (tables_of state) (where_any changes (changes_by_items party.link setting group.items state)) (tables_of (trial party.link setting group.items state).state)
    any [] none =
        let after = trial_sound party.link setting group.items state are sound in
        let kept = trial_keeps party.link setting group.items state are sound in
        subst (λ (to : Tables). Lead (tables_of state) [] to)
        (sym (tables_same (tables_of state) (tables_of (trial party.link setting group.items state).state) sound.limited.each after.limited.each (rows_apart state sound) kept.users kept.tasks none))
        (leads_nowhere (tables_of state))
    any (change ∷ changes) some = items_lead party.link setting group.items state are sound

    by : (b : Bool) → Lead (tables_of state)
        (where_any
        (changes_between state
        (cond {A = Answered} b
        (record { said = between (flat_map said_of (trial party.link setting group.items state).tried); state = (trial party.link setting group.items state).state })
        (record { said = between (flat_map said_in_vain (trial party.link setting group.items state).tried); state = state })).state)
        (changes_by_items party.link setting group.items state))
        (tables_of
        (cond {A = Answered} b
        (record { said = between (flat_map said_of (trial party.link setting group.items state).tried); state = (trial party.link setting group.items state).state })
        (record { said = between (flat_map said_in_vain (trial party.link setting group.items state).tried); state = state })).state)
    by true = any (changes_between state (trial party.link setting group.items state).state) refl
    by false =
        subst (λ (changes : List Change). Lead (tables_of state) (where_any changes (changes_by_items party.link setting group.items state)) (tables_of state))
        (sym (makes_no_change (tables_of state) (rows_apart state sound))) (leads_nowhere (tables_of state))

-- ---- messages

abbrev heard_state : State → StandingParty → Message → State
heard_state state party message = with_parties state (with_party (with_trace party (message ∷ party.trace)) state.parties)

abbrev heard_party : StandingParty → Message → StandingParty
heard_party party message = with_trace party (message ∷ party.trace)

-- every decision but the end of a group is one step
met_step : (state : State) (link : ℕ) (party : StandingParty) (setting : Setting) (message : Message) → IsSound state → party_of link state.parties ≡ Some party
    → (one : Decision) → decision state party setting message ≡ one → ((group : Group) → one ≡ Groups group → ⊥)
    → TableStep (tables_of state) (tables_of (met (heard_state state party message) (heard_party party message) setting message one).state)
met_step state link party setting message sound found (Aborts number) is no_group = same_step state _ (leaves_keep state link party (message ∷ party.trace) sound found)
met_step state link party setting message sound found (Refuses diagnostic) is no_group =
    same_step state _ (refuses_keep state (heard_state state party message) (heard_party party message) message _ (heard_keeps state link party (message ∷ party.trace) found)
    (leaves_keep state link party (message ∷ party.trace) sound found))
met_step state link party setting message sound found (Grants given) is no_group =
    let own = party_sound state link party sound found in
    let taken = decided_taken state party setting message (Grants given) is (λ number e. cc) in
    let passed = passed_alone state party setting message given (pending party.trace) refl taken.0 taken.1 in
    granted_step state link party setting message given (with_party (with_trace party (message ∷ party.trace)) state.parties) (message ∷ party.trace) sound found refl
    (traced party message own.grouped taken.0) (granting state party setting message given sound own passed) (passed_decided state party setting message given passed)
met_step state link party setting message sound found Waits is no_group = same_step state _ (heard_keeps state link party (message ∷ party.trace) found)
met_step state link party setting message sound found (Groups group) is no_group = absurd (no_group group refl)
met_step state link party setting message sound found Ends is no_group = same_step state _ (leaves_keep state link party (message ∷ party.trace) sound found)
met_step state link party setting message sound found Leaves is no_group = same_step state _ (leaves_keep state link party (message ∷ party.trace) sound found)

-- which leads on
difference_lead : (state : State) (link : ℕ) (party : StandingParty) (setting : Setting) (message : Message) → IsSound state → party_of link state.parties ≡ Some party
    → ((group : Group) → decision state party setting message ≡ Groups group → ⊥)
    → Lead (tables_of state) (changes_between state (answered state party setting message).state) (tables_of (answered state party setting message).state)
difference_lead state link party setting message sound found no_group =
    state_leads state (tables_of (answered state party setting message).state) sound
    (met_step state link party setting message sound found (decision state party setting message) refl no_group)

-- another decision is the end of no group
abbrev IsNoGroup : Decision → Type 0
IsNoGroup (Groups group) = ⊥
IsNoGroup _ = Unit {0}

no_group : (one other : Decision) → one ≡ other → IsNoGroup other → (group : Group) → one ≡ Groups group → ⊥
no_group one other is none group ends = subst IsNoGroup (sym is ∙ ends) none

where_lead : (state : State) (link : ℕ) (party : StandingParty) (setting : Setting) (message : Message) → IsSound state → party_of link state.parties ≡ Some party
    → (one : Decision) → decision state party setting message ≡ one
    → Lead (tables_of state) (changes_where state party setting message one) (tables_of (answered state party setting message).state)
where_lead state link party setting message sound found (Groups group) is =
    let own = party_sound state link party sound found in
    let taken = decided_taken state party setting message (Groups group) is (λ number e. cc) in
    let items = grouped_items state party setting message group (pending party.trace) own.grouped taken.1 in
    let trace = message ∷ party.trace in
    let heard = heard_sound state link party trace sound found (traced party message own.grouped taken.0) in
    let kept = heard_keeps state link party trace found in
    let lead = group_lead (heard_state state party message) (heard_party party message) setting group items heard in
    subst (λ (one : Decision). Lead (tables_of state) (changes_by_group (heard_state state party message) (heard_party party message) setting group) (tables_of (met (heard_state state party message) (heard_party party message) setting message one).state)) (sym is)
    (subst (λ (from : Tables). Lead from (changes_by_group (heard_state state party message) (heard_party party message) setting group) (tables_of (groups (heard_state state party message) (heard_party party message) setting group).state)) kept lead)
where_lead state link party setting message sound found (Aborts number) is = difference_lead state link party setting message sound found (no_group _ _ is tt)
where_lead state link party setting message sound found (Refuses diagnostic) is = difference_lead state link party setting message sound found (no_group _ _ is tt)
where_lead state link party setting message sound found (Grants given) is = difference_lead state link party setting message sound found (no_group _ _ is tt)
where_lead state link party setting message sound found Waits is = difference_lead state link party setting message sound found (no_group _ _ is tt)
where_lead state link party setting message sound found Ends is = difference_lead state link party setting message sound found (no_group _ _ is tt)
where_lead state link party setting message sound found Leaves is = difference_lead state link party setting message sound found (no_group _ _ is tt)

taken_lead : (state : State) (link : ℕ) (party : StandingParty) (setting : Setting) (message : Message) → IsSound state → party_of link state.parties ≡ Some party → (one : Option StandingParty) → superseded_by state party message ≡ one
    → Lead (tables_of state) (changes_where (given_way one state) party setting message (decision (given_way one state) party setting message)) (tables_of (taking_over one state party setting message).state)
taken_lead state link party setting message sound found None is = where_lead state link party setting message sound found (decision state party setting message) refl
taken_lead state link party setting message sound found (Some other) is =
    let before = broken other.link state in
    let there = still_there state link party other message sound found is in
    subst (λ (from : Tables). Lead from (changes_where before party setting message (decision before party setting message)) (tables_of (answered before party setting message).state)) (breaks_keep state other.link sound)
    (where_lead before link party setting message (broken_sound other.link state sound) there (decision before party setting message) refl)

pub messages_lead : MessagesLead
messages_lead state link setting message sound = by (party_of link state.parties) refl
  where
    by : (one : Option StandingParty) → party_of link state.parties ≡ one → Lead (tables_of state) (changes_of_party state setting message one) (tables_of (transition_of state setting message one).state)
    by None is = leads_nowhere (tables_of state)
    by (Some party) is = taken_lead state link party setting message sound is (superseded_by state party message) refl

-- ---- differences

ends_request : (group other : Group) (request : Pdu) → grouped_request group request ≡ Groups other → request ≡ EndGroupRequest
ends_request group other EndGroupRequest is = refl
ends_request group other (UserAbort number) is = absurd cc
ends_request group other (ProviderAbort number place) is = absurd cc
ends_request group other request is = absurd (by (nat_le most_items (length group.items)) is)
  where
    by : (b : Bool) → cond b (Aborts wrong_state) Waits ≡ Groups other → ⊥
    by true is = cc
    by false is = cc

ends_message : (group other : Group) (message : Message) → grouped_decision group message ≡ Groups other → message ≡ messages.Pdu EndGroupRequest
ends_message group other (messages.Pdu request) is = ap (λ (one : Pdu). messages.Pdu one) (ends_request group other request is)
ends_message group other messages.Break is = absurd cc
ends_message group other message is = absurd cc

-- a group ends by its end alone
ends_group : (state : State) (party : StandingParty) (setting : Setting) (message : Message) (other : Group) → decision state party setting message ≡ Groups other → message ≡ messages.Pdu EndGroupRequest
ends_group state party setting message other is =
    let taken = decided_taken state party setting message (Groups other) is (λ number e. cc) in
    by (pending party.trace) taken.1
  where
    by : (one : Option Group) → decision_in one state party setting message ≡ Groups other → message ≡ messages.Pdu EndGroupRequest
    by (Some group) is = ends_message group other message is
    by None is = absurd (no_groups_message state party setting message other (no_groups_unless (first_abort (aborting.aborts party setting message)) (message_decision state party setting message) other is))

taken_difference : (state : State) (link : ℕ) (party : StandingParty) (setting : Setting) (message : Message) → IsSound state → party_of link state.parties ≡ Some party → (message ≡ messages.Pdu EndGroupRequest → ⊥)
    → (one : Option StandingParty) → superseded_by state party message ≡ one
    → Lead (tables_of state) (changes_between state (taking_over one state party setting message).state) (tables_of (taking_over one state party setting message).state)
taken_difference state link party setting message sound found alone None is =
    difference_lead state link party setting message sound found (λ group e. alone (ends_group state party setting message group e))
taken_difference state link party setting message sound found alone (Some other) is =
    let before = broken other.link state in
    let there = still_there state link party other message sound found is in
    subst (λ (from : Tables). Lead from (delta from (tables_of (answered before party setting message).state)) (tables_of (answered before party setting message).state)) (breaks_keep state other.link sound)
    (difference_lead before link party setting message (broken_sound other.link state sound) there (λ group e. alone (ends_group before party setting message group e)))

pub differences_lead : DifferencesLead
differences_lead state link setting message sound alone = by (party_of link state.parties) refl
  where
    by : (one : Option StandingParty) → party_of link state.parties ≡ one → Lead (tables_of state) (changes_between state (transition_of state setting message one).state) (tables_of (transition_of state setting message one).state)
    by None is = state_leads state (tables_of state) sound (same_step state (tables_of state) refl)
    by (Some party) is = taken_difference state link party setting message sound is alone (superseded_by state party message) refl

-- ---- what no message does

pub faults_keep : FaultsKeep
faults_keep state link number place sound = by (party_of link state.parties) refl
  where
    by : (one : Option StandingParty) → party_of link state.parties ≡ one → tables_of (fault_of state number place one).state ≡ tables_of state
    by None is = refl
    by (Some party) is = breaks_keep state party.link sound

pub drops_lead : DropsLead
drops_lead state identity activity sound =
    state_leads state (tables_of (dropped identity activity state)) sound
    (record { users = refl; files = files.same refl; dockets = drop_step state.concluded identity activity state.dockets (flat_map docket_left_by state.parties) (apart state sound); tasks = refl })
