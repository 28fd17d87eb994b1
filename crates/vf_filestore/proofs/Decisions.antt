-- States stay sound with each message that a party takes, whatever comes of it.
use Rattle.std.proofs.Common.{◌≡◌, ℕ, Bool, true, false, cond, ◌&&◌, not, unwrap_or, List, [], ◌∷◌, ◌++◌, length, map, nat_eq, is_some, Option, None, Some, refl, ap, sym, subst, ◌∙◌}
use Rattle.std.specs.Prelude.{IfSome, flat_map, nat_le, count_by}
use Rattle.std.specs.List.{AllByRecursion, IsDistinct}
use Rattle.std.specs.Option.{option_or}
use Rattle.std.proofs.lemmas.Bool.{not-false}
use Rattle.vf_elements.specs.Stages.{takes}
use Rattle.vf_elements.specs.declared.message.Message.{Message}
use Rattle.vf_elements.specs.declared.message.Message.TheVariants as messages
use Rattle.vf_elements.specs.declared.message.Said.{Said}
use Rattle.vf_elements.specs.declared.stage.Stage.TheVariants as stages
use Rattle.vf_pdu.specs.declared.pdu.Pdu.{Pdu}
use Rattle.vf_pdu.specs.declared.pdu.Pdu.TheVariants.{InitializeRequest, SelectRequest, CreateRequest, DeleteRequest, ReadAttribRequest, ChangeAttribRequest, OpenRequest, LocateRequest, EraseRequest, BeginGroupRequest, EndGroupRequest, RecoverRequest, RestartRequest, UserAbort, ProviderAbort}
use Rattle.vf_filestore.specs.Aborts.{Setting, abort_where, first_abort, is_known, passes_serials, restart_aborts, serial_after_restart}
use Rattle.vf_filestore.specs.Aborts as aborting
use Rattle.vf_filestore.specs.Conclusion.{Answered, grants}
use Rattle.vf_attr.specs.declared.file.File.{File}
use Rattle.vf_base.specs.declared.access.FaduId.{FaduId}
use Rattle.vf_base.specs.declared.action.Actions.{Actions}
use Rattle.vf_base.specs.declared.contents.Contents.{Contents}
use Rattle.vf_pdu_fields.specs.declared.controls.ContentControls.{ContentControls}
use Rattle.vf_tree.specs.Acts.{does, Locates, Erases}
use Rattle.vf_filestore.specs.Diagnostics.{Row, first_row}
use Rattle.vf_filestore.specs.Ending.{stamp_of}
use Rattle.vf_filestore.specs.Files.{file_named}
use Rattle.vf_filestore.specs.History.{Selection, guest, position, regime, selection}
use Rattle.vf_filestore.specs.Holders.{held_files}
use Rattle.vf_filestore.specs.Opening.{erase_rows, locate_rows, placed}
use Rattle.vf_filestore.specs.Recovering.{is_read_in, recover_rows, resumed}
use Rattle.vf_filestore.specs.Selecting.{change_attrib_rows, create_rows, delete_rows, initialize_rows, read_attrib_rows, rows_on, select_rows}
use Rattle.vf_filestore.specs.State.{Docket, docket_of, mode_in, selected_file, is_of_link}
use Rattle.vf_filestore.specs.Units.{enhanced_management, file_access, limited_management, recovery_unit, unit_row}
use Rattle.vf_filestore.specs.Decision.{decided, erase_decision, granted_unless, locate_decision, made_unless, open_decision, opened_by, opening_rows, units_for, unless_without_token, wanted_by}
use Rattle.vf_filestore.specs.Decision.{Decision, Aborts, Refuses, Grants, Waits, Groups, Ends, Leaves, decision, decision_in, grouped_decision, grouped_request, item_decision, message_decision, request_decision, trial_decision, unless_aborted}
use Rattle.vf_filestore.specs.Diagnostics.{plain, wrong_regime, wrong_state}
use Rattle.vf_filestore.specs.Dockets.{broken, docket_by, docket_left_by}
use Rattle.vf_filestore.specs.Groups.{Trial, groups, is_good, trial, trial_by, trial_step, between, said_in_vain, said_of}
use Rattle.vf_filestore.specs.History.{Given, Nothing, History}
use Rattle.vf_filestore.specs.Limits.{most_items}
use Rattle.vf_filestore.specs.Sound.{AreNumbered, HasItems, IsItem, IsSound, IsSoundParty, Standing, link_of, standing_of_docket, standing_of_party, Use, do_clash, use_of_docket, use_of_party, Holding, IsUsable, holding_of_docket, holding_of_party}
use Rattle.vf_filestore.specs.Stage.{Group, grouping, pending, regime_stage, stage}
use Rattle.vf_filestore.specs.State.{State, StandingParty, activity_of, identity_of, party_of, units_of, with_party}
use Rattle.vf_filestore.specs.Transition.{answered, associates, leaves, met, refuses}
use Rattle.vf_filestore.specs.Units.{has_checks}
use Rattle.vf_filestore.specs.declared.creation.NewFile.{NewFile}
use Rattle.vf_filestore.proofs.Broken.{broken_is, broken_sound}
use Rattle.vf_filestore.proofs.Concluded.{IsGranting, grants_sound, granting_other, granting_request, parted}
use Rattle.vf_filestore.proofs.Lists.{all_append, all_left, all_right, flat_map-append}
use Rattle.vf_filestore.proofs.Owned.{AsksCheck, found_all}
use Rattle.vf_filestore.proofs.Parties.{IsOff, Located, located, same_links, with_at}
use Rattle.vf_filestore.proofs.Same.{with_parties, with_trace}

-- ---- the party that is found

pub party_sound : (state : State) (link : ℕ) (party : StandingParty) → IsSound state → party_of link state.parties ≡ Some party → IsSoundParty state.files party
party_sound state link party sound found = found_all (IsSoundParty state.files) (is_of_link link) state.parties party found sound.parties

pub put_again : (link : ℕ) (parties : List StandingParty) (party : StandingParty) → party_of link parties ≡ Some party → parties ≡ with_party party parties
put_again link parties party found =
    let at = located link parties party found in
    at.is ∙ sym (ap (with_party party) at.is ∙ with_at link at.before at.after party party at.absent at.same at.same)

-- ---- groups

pub item_asks : (item : Pdu) (history : History) → IsItem item → AsksCheck item history
item_asks (RestartRequest point) history is = absurd cc
item_asks (RecoverRequest activity number point) history is = tt
item_asks item history is = tt

pub trial_taken : (state : State) (party : StandingParty) (setting : Setting) (item : Pdu) (given : Given) → trial_decision state party setting item ≡ Grants given
    → (takes (regime_stage party.history) (messages.Pdu item) ≡ true) × (request_decision state party setting item ≡ Grants given)
trial_taken state party setting item given is = by (takes (regime_stage party.history) (messages.Pdu item)) refl is
  where
    by : (b : Bool) → takes (regime_stage party.history) (messages.Pdu item) ≡ b → cond b (request_decision state party setting item) (Refuses (plain wrong_regime)) ≡ Grants given
        → (takes (regime_stage party.history) (messages.Pdu item) ≡ true) × (request_decision state party setting item ≡ Grants given)
    by true taken is = (taken, is)
    by false taken is = absurd cc

-- one more item keeps the state sound where all later ones do
step_sound : (later : State → Trial) → ((state : State) → IsSound state → IsSound (later state).state) → (state : State) (link : ℕ) (party : StandingParty) (setting : Setting) (item : Pdu) → IsItem item → IsSound state
    → party_of link state.parties ≡ Some party → (one : Decision) → trial_decision state party setting item ≡ one → IsSound (trial_step later setting item state party one).state
step_sound later keeps state link party setting item is_item sound found (Grants given) is =
    let taken = trial_taken state party setting item given is in
    let own = party_sound state link party sound found in
    keeps (grants state party setting (messages.Pdu item) given).state
    (grants_sound state link party setting (messages.Pdu item) given state.parties party.trace sound found (put_again link state.parties party found) own.grouped
    (granting_request state party setting item given sound own taken.1 taken.0 (item_asks item party.history is_item)))
step_sound later keeps state link party setting item is_item sound found (Refuses diagnostic) is = keeps state sound
step_sound later keeps state link party setting item is_item sound found (Aborts number) is = keeps state sound
step_sound later keeps state link party setting item is_item sound found Waits is = keeps state sound
step_sound later keeps state link party setting item is_item sound found (Groups group) is = keeps state sound
step_sound later keeps state link party setting item is_item sound found Ends is = keeps state sound
step_sound later keeps state link party setting item is_item sound found Leaves is = keeps state sound

pub trial_sound : (link : ℕ) (setting : Setting) (items : List Pdu) (state : State) → AllByRecursion IsItem items → IsSound state → IsSound (trial link setting items state).state
trial_sound link setting [] state are sound = sound
trial_sound link setting (item ∷ items) state are sound =
    by (λ state sound. trial_sound link setting items state are.1 sound) (party_of link state.parties) refl
  where
    by : ((state : State) → IsSound state → IsSound (trial link setting items state).state) → (found : Option StandingParty) → party_of link state.parties ≡ found
        → IsSound (trial_by (trial link setting items) setting item state found).state
    by keeps None is = keeps state sound
    by keeps (Some party) is = step_sound (trial link setting items) keeps state link party setting item are.0 sound is (trial_decision state party setting item) refl

groups_sound : (state : State) (party : StandingParty) (setting : Setting) (group : Group) → HasItems group → IsSound state → IsSound (groups state party setting group).state
groups_sound state party setting group items sound = by (nat_le group.threshold (count_by is_good (trial party.link setting group.items state).tried))
  where
    done : IsSound (trial party.link setting group.items state).state
    done = trial_sound party.link setting group.items state items sound

    by : (b : Bool) → IsSound (cond {A = Answered} b
        (record { said = between (flat_map said_of (trial party.link setting group.items state).tried); state = (trial party.link setting group.items state).state })
        (record { said = between (flat_map said_in_vain (trial party.link setting group.items state).tried); state = state })).state
    by true = done
    by false = sound

-- ---- the trace

no_group : (pdu : Pdu) → IfSome (grouping pdu None) HasItems
no_group (BeginGroupRequest threshold) = tt
no_group EndGroupRequest = tt
no_group pdu = tt

a_group : (pdu : Pdu) (group : Group) → HasItems group → IsItem pdu → IfSome (grouping pdu (Some group)) HasItems
a_group (BeginGroupRequest threshold) group items is = tt
a_group EndGroupRequest group items is = tt
a_group pdu group items is = all_append IsItem group.items (pdu ∷ []) items (is, tt)

-- a message that the party's stage takes
pub traced : (party : StandingParty) (message : Message) → IfSome (pending party.trace) HasItems → takes (stage party) message ≡ true → IfSome (pending (message ∷ party.trace)) HasItems
traced party (messages.Pdu pdu) grouped taken = by (pending party.trace) grouped taken
  where
    by : (one : Option Group) → IfSome one HasItems → takes (cond (is_some one) stages.Grouping (regime_stage party.history)) (messages.Pdu pdu) ≡ true → IfSome (grouping pdu one) HasItems
    by None grouped taken = no_group pdu
    by (Some group) grouped taken = a_group pdu group grouped taken
traced party (messages.Element element) grouped taken = grouped
traced party messages.Check grouped taken = grouped
traced party (messages.Acknowledge point) grouped taken = grouped
traced party (messages.Restart point) grouped taken = grouped
traced party messages.Break grouped taken = grouped

-- the state with the message in the trace
pub heard_sound : (state : State) (link : ℕ) (party : StandingParty) (trace : List Message) → IsSound state → party_of link state.parties ≡ Some party → IfSome (pending trace) HasItems
    → IsSound (with_parties state (with_party (with_trace party trace) state.parties))
heard_sound state link party trace sound found grouped =
    let at = located link state.parties party found in
    let next = with_trace party trace in
    let now : with_party next state.parties ≡ at.before ++ next ∷ at.after = ap (with_party next) at.is ∙ with_at link at.before at.after party next at.absent at.same at.same in
    let parties = subst (λ (all : List StandingParty). AllByRecursion (IsSoundParty state.files) all) at.is sound.parties in
    let own = (all_right (IsSoundParty state.files) at.before (party ∷ at.after) parties).0 in
    let heard : IsSoundParty state.files next = record { sound = own.sound; grouped = grouped } in
    subst (λ (all : List StandingParty). IsSound (with_parties state all)) (sym now) (record {
      linked = subst (λ links. IsDistinct nat_eq links) (sym (same_links at.before at.after party next refl)) (subst (λ (all : List StandingParty). IsDistinct nat_eq (map link_of all)) at.is sound.linked);
      filed = sound.filed;
      limited = sound.limited;
      numbered =
          subst (λ (all : List Standing). AreNumbered state.concluded (flat_map standing_of_docket state.dockets ++ all)) (sym (flat_map-append standing_of_party at.before (next ∷ at.after)))
          (parted state party at.before at.after sound at.is);
      agreed =
          subst (λ (all : List Use). IsDistinct do_clash (flat_map use_of_docket state.dockets ++ all)) (sym (flat_map-append use_of_party at.before (next ∷ at.after)))
          (subst (λ (all : List Use). IsDistinct do_clash (flat_map use_of_docket state.dockets ++ all)) (flat_map-append use_of_party at.before (party ∷ at.after))
          (subst (λ (all : List StandingParty). IsDistinct do_clash (flat_map use_of_docket state.dockets ++ flat_map use_of_party all)) at.is sound.agreed));
      usable =
          subst (λ (all : List Holding). AllByRecursion IsUsable (flat_map holding_of_docket state.dockets ++ all)) (sym (flat_map-append holding_of_party at.before (next ∷ at.after)))
          (subst (λ (all : List Holding). AllByRecursion IsUsable (flat_map holding_of_docket state.dockets ++ all)) (flat_map-append holding_of_party at.before (party ∷ at.after))
          (subst (λ (all : List StandingParty). AllByRecursion IsUsable (flat_map holding_of_docket state.dockets ++ flat_map holding_of_party all)) at.is sound.usable));
      parties = all_append (IsSoundParty state.files) at.before (next ∷ at.after) (all_left (IsSoundParty state.files) at.before (party ∷ at.after) parties)
          (heard, (all_right (IsSoundParty state.files) at.before (party ∷ at.after) parties).1);
      dockets = sound.dockets;
    })

-- what a party leaves doesn't look at its trace
pub left_same : (party : StandingParty) (trace : List Message) → docket_left_by (with_trace party trace) ≡ docket_left_by party
left_same party trace = by (activity_of party)
  where
    by : (one : Option ℕ) → docket_by one (with_trace party trace) ≡ docket_by one party
    by None = refl
    by (Some activity) = refl

pub broken_same : (state : State) (link : ℕ) (party : StandingParty) (trace : List Message) → IsDistinct nat_eq (map link_of state.parties) → party_of link state.parties ≡ Some party
    → broken party.link (with_parties state (with_party (with_trace party trace) state.parties)) ≡ broken party.link state
broken_same state link party trace linked found =
    let at = located link state.parties party found in
    let next = with_trace party trace in
    let now : with_party next state.parties ≡ at.before ++ next ∷ at.after = ap (with_party next) at.is ∙ with_at link at.before at.after party next at.absent at.same at.same in
    let here : AllByRecursion (IsOff party.link) at.before = subst (λ link. AllByRecursion (IsOff link) at.before) (sym at.same) at.absent in
    let distinct : IsDistinct nat_eq (map link_of (at.before ++ party ∷ at.after)) = subst (λ (all : List StandingParty). IsDistinct nat_eq (map link_of all)) at.is linked in
    let first : Located party.link state.parties party = record { before = at.before; after = at.after; is = at.is; same = refl; absent = here } in
    let second : Located party.link (with_party next state.parties) next = record { before = at.before; after = at.after; is = now; same = refl; absent = here } in
    let after : IsDistinct nat_eq (map link_of (with_party next state.parties))
    = subst (λ (all : List StandingParty). IsDistinct nat_eq (map link_of all)) (sym now) (subst (λ links. IsDistinct nat_eq links) (sym (same_links at.before at.after party next refl)) distinct) in
    broken_is (with_parties state (with_party next state.parties)) party.link next second after
    ∙ (λ i. record state { parties = at.before ++ at.after; dockets = state.dockets ++ left_same party trace i })
    ∙ sym (broken_is state party.link party first linked)

pub leaves_sound : (state : State) (link : ℕ) (party : StandingParty) (trace : List Message) → IsSound state → party_of link state.parties ≡ Some party
    → IsSound (broken party.link (with_parties state (with_party (with_trace party trace) state.parties)))
leaves_sound state link party trace sound found =
    subst (λ (one : State). IsSound one) (sym (broken_same state link party trace sound.linked found)) (broken_sound party.link state sound)

-- ---- decisions

-- a decision with which the party stays is made where its stage takes the message
pub decided_taken : (state : State) (party : StandingParty) (setting : Setting) (message : Message) (one : Decision) → decision state party setting message ≡ one → ((number : ℕ) → Aborts number ≡ one → ⊥)
    → (takes (stage party) message ≡ true) × (decision_in (pending party.trace) state party setting message ≡ one)
decided_taken state party setting message one is stays = by (takes (stage party) message) refl is
  where
    by : (b : Bool) → takes (stage party) message ≡ b → cond b (decision_in (pending party.trace) state party setting message) (Aborts wrong_state) ≡ one
        → (takes (stage party) message ≡ true) × (decision_in (pending party.trace) state party setting message ≡ one)
    by true taken is = (taken, is)
    by false taken is = absurd (stays wrong_state is)

item_waits : (group : Group) (given : Given) → item_decision group ≡ Grants given → ⊥
item_waits group given is = by (nat_le most_items (length group.items)) is
  where
    by : (b : Bool) → cond b (Aborts wrong_state) Waits ≡ Grants given → ⊥
    by true is = cc
    by false is = cc

no_grant_request : (group : Group) (request : Pdu) (given : Given) → grouped_request group request ≡ Grants given → ⊥
no_grant_request group EndGroupRequest given is = cc
no_grant_request group (UserAbort number) given is = cc
no_grant_request group (ProviderAbort number place) given is = cc
no_grant_request group request given is = item_waits group given is

no_grant : (group : Group) (message : Message) (given : Given) → grouped_decision group message ≡ Grants given → ⊥
no_grant group (messages.Pdu request) given is = no_grant_request group request given is
no_grant group messages.Break given is = cc
no_grant group message given is = cc

pub record IsPassed (state : State) (party : StandingParty) (setting : Setting) (message : Message) (given : Given) : Type 0 where
  pub taken : takes (regime_stage party.history) message ≡ true
  pub unaborted : first_abort (aborting.aborts party setting message) ≡ None
  pub decided : message_decision state party setting message ≡ Grants given

pub passed_alone : (state : State) (party : StandingParty) (setting : Setting) (message : Message) (given : Given) (one : Option Group) → pending party.trace ≡ one → takes (stage party) message ≡ true
    → decision_in one state party setting message ≡ Grants given → IsPassed state party setting message given
passed_alone state party setting message given (Some group) none taken is = absurd (no_grant group message given is)
passed_alone state party setting message given None none taken is = by (first_abort (aborting.aborts party setting message)) refl is
  where
    here : takes (regime_stage party.history) message ≡ true
    here = sym (ap (λ one. takes (cond (is_some one) stages.Grouping (regime_stage party.history)) message) none) ∙ taken

    by : (one : Option ℕ) → first_abort (aborting.aborts party setting message) ≡ one → unless_aborted one (message_decision state party setting message) ≡ Grants given → IsPassed state party setting message given
    by None none is = record { taken = here; unaborted = none; decided = is }
    by (Some number) some is = absurd cc

-- ---- what isn't aborted

pub or_none : (one later : Option ℕ) → option_or one later ≡ None → (one ≡ None) × (later ≡ None)
or_none None later is = (refl, is)
or_none (Some number) later is = absurd cc

pub where_none : (applies : Bool) (number : ℕ) → abort_where applies number ≡ None → applies ≡ false
where_none true number is = absurd cc
where_none false number is = refl

restart_known : (party : StandingParty) (setting : Setting) (check : ℕ) → first_abort (restart_aborts party setting check) ≡ None → is_known party.history check ≡ true
restart_known party setting check is =
    let first = or_none (abort_where (not (has_checks (units_of party))) wrong_state) _ is in
    let second = or_none (abort_where (not (is_known party.history check)) wrong_state) _ first.1 in
    not-false (is_known party.history check) (where_none (not (is_known party.history check)) wrong_state second.0)

request_asks : (party : StandingParty) (setting : Setting) (request : Pdu) → first_abort (aborting.request_aborts party setting request) ≡ None → AsksCheck request party.history
request_asks party setting (RestartRequest point) is = restart_known party setting point is
request_asks party setting (RecoverRequest activity number point) is = tt
request_asks party setting request is = tt

pub granting : (state : State) (party : StandingParty) (setting : Setting) (message : Message) (given : Given) → IsSound state → IsSoundParty state.files party → IsPassed state party setting message given
    → IsGranting state party setting message given
granting state party setting (messages.Pdu request) given sound own passed =
    granting_request state party setting request given sound own passed.decided passed.taken (request_asks party setting request passed.unaborted)
granting state party setting (messages.Element element) given sound own passed =
    subst (λ given. IsGranting state party setting (messages.Element element) given) (nothing given passed.decided)
    (granting_other state party setting (messages.Element element) tt sound own passed.taken tt)
  where
    nothing : (given : Given) → Grants Nothing ≡ Grants given → Nothing ≡ given
    nothing given is = cc
granting state party setting messages.Check given sound own passed =
    subst (λ given. IsGranting state party setting messages.Check given) (nothing given passed.decided)
    (granting_other state party setting messages.Check tt sound own passed.taken tt)
  where
    nothing : (given : Given) → Grants Nothing ≡ Grants given → Nothing ≡ given
    nothing given is = cc
granting state party setting (messages.Acknowledge point) given sound own passed =
    let known = or_none (abort_where (not (is_known party.history point)) wrong_state) None passed.unaborted in
    subst (λ given. IsGranting state party setting (messages.Acknowledge point) given) (nothing given passed.decided)
    (granting_other state party setting (messages.Acknowledge point) tt sound own passed.taken
    (not-false (is_known party.history point) (where_none (not (is_known party.history point)) wrong_state known.0)))
  where
    nothing : (given : Given) → Grants Nothing ≡ Grants given → Nothing ≡ given
    nothing given is = cc
granting state party setting (messages.Restart point) given sound own passed =
    subst (λ given. IsGranting state party setting (messages.Restart point) given) (nothing given passed.decided)
    (granting_other state party setting (messages.Restart point) tt sound own passed.taken (restart_known party setting point passed.unaborted))
  where
    nothing : (given : Given) → Grants Nothing ≡ Grants given → Nothing ≡ given
    nothing given is = cc
granting state party setting messages.Break given sound own passed = let never = passed.decided in absurd cc

-- ---- what comes of a message

groups_request : (group other : Group) (request : Pdu) → grouped_request group request ≡ Groups other → group ≡ other
groups_request group other EndGroupRequest is = cc
groups_request group other (UserAbort number) is = absurd cc
groups_request group other (ProviderAbort number place) is = absurd cc
groups_request group other request is = absurd (by (nat_le most_items (length group.items)) is)
  where
    by : (b : Bool) → cond b (Aborts wrong_state) Waits ≡ Groups other → ⊥
    by true is = cc
    by false is = cc

no_groups_rows : (rows : List Row) (given : Given) (other : Group) → decided rows given ≡ Groups other → ⊥
no_groups_rows rows given other is = by (first_row rows) is
  where
    by : (one : Row) → granted_unless one given ≡ Groups other → ⊥
    by None is = cc
    by (Some diagnostic) is = cc

no_groups_token : (setting : Setting) (docket : Option Docket) (one : Decision) (other : Group) → unless_without_token setting docket one ≡ Groups other → one ≡ Groups other
no_groups_token setting docket (Grants would) other is = by (is_read_in docket && not setting.token) is
  where
    by : (b : Bool) → cond b (Aborts wrong_state) (Grants would) ≡ Groups other → Grants would ≡ Groups other
    by true is = absurd cc
    by false is = absurd cc
no_groups_token setting docket one other is = is

no_groups_open : (state : State) (party : StandingParty) (mode : Actions) (contents : Option Contents) (controls : Option ContentControls) (activity : Option ℕ) (one : Option Selection) (other : Group)
    → open_decision state party mode contents controls activity one ≡ Groups other → ⊥
no_groups_open state party mode contents controls activity None other is = cc
no_groups_open state party mode contents controls activity (Some one) other is =
    no_groups_rows (unit_row (units_of party) (units_for activity) ∷ rows_on (selected_file state party.history) (opening_rows state (opened_by party one mode contents controls activity))) Nothing other is

no_groups_locate : (party : StandingParty) (fadu : FaduId) (found : Option File) (other : Group) → locate_decision party fadu found ≡ Groups other → ⊥
no_groups_locate party fadu None other is = cc
no_groups_locate party fadu (Some file) other is =
    no_groups_rows (unit_row (units_of party) file_access ∷ locate_rows file (position party.history) fadu) (placed (does file.tree (position party.history) (Locates fadu))) other is

no_groups_erase : (party : StandingParty) (fadu : FaduId) (found : Option File) (other : Group) → erase_decision party fadu found ≡ Groups other → ⊥
no_groups_erase party fadu None other is = cc
no_groups_erase party fadu (Some file) other is =
    no_groups_rows (unit_row (units_of party) file_access ∷ erase_rows file (mode_in (regime party.history)) (position party.history) fadu) (placed (does file.tree (position party.history) (Erases fadu))) other is

no_groups : (state : State) (party : StandingParty) (setting : Setting) (request : Pdu) (other : Group) → request_decision state party setting request ≡ Groups other → ⊥
no_groups state party setting (InitializeRequest units identity password window) other is = no_groups_rows (initialize_rows state.users (unwrap_or identity guest) password) Nothing other is
no_groups state party setting (SelectRequest name requested controls password) other is = no_groups_rows (select_rows (held_files state) (wanted_by party requested controls password) name) Nothing other is
no_groups state party setting (CreateRequest over name contents permitted terms requested controls password) other is =
    let new : NewFile = record { name = name; contents = contents; permitted = permitted; terms = terms } in
    no_groups_rows (unit_row (units_of party) limited_management ∷ create_rows (held_files state) (wanted_by party requested controls password) over (stamp_of party setting.moment) new) (made_unless (file_named name state.files)) other is
no_groups state party setting DeleteRequest other is = no_groups_rows (unit_row (units_of party) limited_management ∷ delete_rows (held_files state) party.link (selection party.history)) Nothing other is
no_groups state party setting (ReadAttribRequest names) other is = no_groups_rows (unit_row (units_of party) limited_management ∷ read_attrib_rows (selection party.history) names) Nothing other is
no_groups state party setting (ChangeAttribRequest name permitted terms number) other is =
    no_groups_rows (unit_row (units_of party) enhanced_management ∷ change_attrib_rows (held_files state) party.link (selection party.history) name number) Nothing other is
no_groups state party setting (OpenRequest mode contents controls activity) other is = no_groups_open state party (record { value = mode }) contents controls activity (selection party.history) other is
no_groups state party setting (RecoverRequest activity number point) other is =
    let docket = docket_of (identity_of party) activity state.dockets in
    let rows = unit_row (units_of party) recovery_unit ∷ recover_rows state docket number in
    no_groups_rows rows (resumed docket point) other (no_groups_token setting docket (decided rows (resumed docket point)) other is)
no_groups state party setting (LocateRequest fadu) other is = no_groups_locate party fadu (selected_file state party.history) other is
no_groups state party setting (EraseRequest fadu) other is = no_groups_erase party fadu (selected_file state party.history) other is
no_groups state party setting request other is = cc

pub no_groups_message : (state : State) (party : StandingParty) (setting : Setting) (message : Message) (other : Group) → message_decision state party setting message ≡ Groups other → ⊥
no_groups_message state party setting (messages.Pdu request) other is = no_groups state party setting request other is
no_groups_message state party setting message other is = cc

pub no_groups_unless : (one : Option ℕ) (decides : Decision) (other : Group) → unless_aborted one decides ≡ Groups other → decides ≡ Groups other
no_groups_unless None decides other is = is
no_groups_unless (Some number) decides other is = absurd cc

groups_message : (group other : Group) (message : Message) → grouped_decision group message ≡ Groups other → group ≡ other
groups_message group other (messages.Pdu request) is = groups_request group other request is
groups_message group other messages.Break is = absurd cc
groups_message group other message is = absurd cc

pub grouped_as : (Q : Group → Type 0) (state : State) (party : StandingParty) (setting : Setting) (message : Message) (other : Group) (one : Option Group) → IfSome one Q → decision_in one state party setting message ≡ Groups other → Q other
grouped_as Q state party setting message other (Some group) items is = subst Q (groups_message group other message is) items
grouped_as Q state party setting message other None items is =
    absurd (no_groups_message state party setting message other
    (no_groups_unless (first_abort (aborting.aborts party setting message)) (message_decision state party setting message) other is))

pub grouped_items : (state : State) (party : StandingParty) (setting : Setting) (message : Message) (other : Group) (one : Option Group) → IfSome one HasItems → decision_in one state party setting message ≡ Groups other → HasItems other
grouped_items = grouped_as (λ group. HasItems group)

-- ---- what comes of a message

refuses_sound : (state heard_state : State) (party heard : StandingParty) (message : Message) (said : List Said) → IsSound heard_state → IsSound (broken heard.link heard_state)
    → IsSound (refuses heard_state heard message said).state
refuses_sound state heard_state party heard message said sound gone = by (associates message)
  where
    by : (b : Bool) → IsSound (cond b (leaves heard_state heard said) (record { said = said; state = heard_state })).state
    by true = gone
    by false = sound

pub answered_sound : (state : State) (link : ℕ) (party : StandingParty) (setting : Setting) (message : Message) → IsSound state → party_of link state.parties ≡ Some party
    → IsSound (answered state party setting message).state
answered_sound state link party setting message sound found = by (decision state party setting message) refl
  where
    trace : List Message
    trace = message ∷ party.trace

    own : IsSoundParty state.files party
    own = party_sound state link party sound found

    gone : IsSound (broken party.link (with_parties state (with_party (with_trace party (message ∷ party.trace)) state.parties)))
    gone = leaves_sound state link party (message ∷ party.trace) sound found

    stays : takes (stage party) message ≡ true → IsSound (with_parties state (with_party (with_trace party (message ∷ party.trace)) state.parties))
    stays taken = heard_sound state link party (message ∷ party.trace) sound found (traced party message own.grouped taken)

    by : (one : Decision) → decision state party setting message ≡ one
        → IsSound (met (with_parties state (with_party (with_trace party (message ∷ party.trace)) state.parties)) (with_trace party (message ∷ party.trace)) setting message one).state
    by (Aborts number) is = gone
    by (Refuses diagnostic) is =
        let taken = decided_taken state party setting message (Refuses diagnostic) is (λ number e. cc) in
        refuses_sound state (with_parties state (with_party (with_trace party (message ∷ party.trace)) state.parties)) party (with_trace party (message ∷ party.trace)) message _ (stays taken.0) gone
    by (Grants given) is =
        let taken = decided_taken state party setting message (Grants given) is (λ number e. cc) in
        let passed = passed_alone state party setting message given (pending party.trace) refl taken.0 taken.1 in
        grants_sound state link party setting message given (with_party (with_trace party (message ∷ party.trace)) state.parties) (message ∷ party.trace) sound found refl
        (traced party message own.grouped taken.0) (granting state party setting message given sound own passed)
    by Waits is =
        let taken = decided_taken state party setting message Waits is (λ number e. cc) in
        stays taken.0
    by (Groups group) is =
        let taken = decided_taken state party setting message (Groups group) is (λ number e. cc) in
        groups_sound (with_parties state (with_party (with_trace party (message ∷ party.trace)) state.parties)) (with_trace party (message ∷ party.trace)) setting group
        (grouped_items state party setting message group (pending party.trace) own.grouped taken.1) (stays taken.0)
    by Ends is = gone
    by Leaves is = gone
