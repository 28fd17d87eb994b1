-- The mode of each open regime stays one of its file's constraint set.
use Rattle.std.proofs.Common.{◌≡◌, ℕ, true, false, not, ◌||◌, nat_eq, List, [], ◌∷◌, ◌++◌, map, is_some, Option, None, Some, refl, ap, sym, subst, ◌∙◌}
use Rattle.std.specs.Prelude.{IfSome, IsSome, flat_map}
use Rattle.std.specs.List.{AllByRecursion, IsDistinct}
use Rattle.std.proofs.lemmas.Bool.{not-false}
use Rattle.std.proofs.lemmas.Map.Keys.{IsDistinct-head, IsDistinct-tail}
use Rattle.vf_attr.specs.declared.file.File.{File}
use Rattle.vf_base.specs.declared.access.Constraint.{Constraint}
use Rattle.vf_base.specs.declared.action.Actions.{Actions}
use Rattle.vf_base.specs.declared.contents.Contents.{Contents}
use Rattle.vf_elements.specs.Stages.{takes}
use Rattle.vf_elements.specs.declared.message.Message.{Message}
use Rattle.vf_elements.specs.declared.message.Message.TheVariants as messages
use Rattle.vf_pdu.specs.declared.pdu.Pdu.{Pdu}
use Rattle.vf_pdu.specs.declared.pdu.Pdu.TheVariants.{InitializeRequest, SelectRequest, CreateRequest, DeselectRequest, DeleteRequest, ChangeAttribRequest, OpenRequest, CloseRequest, RecoverRequest, EraseRequest, TransferEndRequest, CancelRequest}
use Rattle.vf_pdu_fields.specs.declared.controls.ContentControls.{ContentControls}
use Rattle.vf_tables.specs.Validity.{includes, modes}
use Rattle.vf_filestore.specs.Aborts.{Setting}
use Rattle.vf_filestore.specs.Conclusion.{concluding_entry, dockets_after, history_of, taken_up}
use Rattle.vf_filestore.specs.Controls.{contents_usable, joined}
use Rattle.vf_filestore.specs.Decision.{Grants, open_decision, opened_by, opening_rows, request_decision, units_for}
use Rattle.vf_filestore.specs.Diagnostics.{contents_mismatch, first_row, not_permitted, outside_constraint_set, row}
use Rattle.vf_filestore.specs.Dockets.{broken, docket_by, docket_left_by, dockets_left, dropped, retained, stopped}
use Rattle.vf_filestore.specs.Effects.{erased, files_after, files_by, put_where}
use Rattle.vf_filestore.specs.Ending.{cancel_ending, stamp_of, transfer_ending}
use Rattle.vf_filestore.specs.Files.{file_named}
use Rattle.vf_filestore.specs.History.{Given, Nothing, History, Regime, Selection, position, regime, selection}
use Rattle.vf_filestore.specs.Holders.{clash_row, holders}
use Rattle.vf_filestore.specs.Keeping.{AreOpensKept, IsOpenIn, IsOpenOn}
use Rattle.vf_filestore.specs.Opening.{activity_rows, is_mismatch}
use Rattle.vf_filestore.specs.Selecting.{rows_on}
use Rattle.vf_filestore.specs.Sound.{AreLimited, IsNested, IsSound, IsSoundDocket, IsSoundParty, IsThere, file_of, link_of}
use Rattle.vf_filestore.specs.Stage.{regime_stage}
use Rattle.vf_filestore.specs.State.{Docket, State, StandingParty, activity_of, docket_of, file_in, identity_of, is_docket_of, is_of_link, name_in, party_of, selected_file, units_of, with_party}
use Rattle.vf_filestore.specs.Units.{unit_row}
use Rattle.vf_filestore.proofs.Concluded.{GoesOn, IsGranting, after_entry, goes_docket, goes_party, message_dockets, message_dockets_go}
use Rattle.vf_filestore.proofs.Decided.{first_passed, later_passed, row_passed, rows_passed}
use Rattle.vf_filestore.proofs.Decisions.{party_sound}
use Rattle.vf_filestore.proofs.Effected.{cancel_next, erased_next, put_keeps, transfer_next}
use Rattle.vf_filestore.proofs.Filed.{Continues, IsFoundNext}
use Rattle.vf_filestore.proofs.FilesMoved.{same_constraint}
use Rattle.vf_filestore.proofs.Limited.{found_limited}
use Rattle.vf_filestore.proofs.Lists.{all-filter, all_append, all_left, all_right, all_unmap}
use Rattle.vf_filestore.proofs.Nested.{nests, placed}
use Rattle.vf_filestore.proofs.Owned.{found_all, goes_for, placed_request, recovers, within_stage}
use Rattle.vf_filestore.proofs.Parties.{IsOff, located, off_after, with_at}
use Rattle.vf_filestore.proofs.Preserved.{IsAny, IsDue, Stays, any}
use Rattle.vf_filestore.proofs.Same.{with_parties, with_trace}
use Rattle.vf_filestore.proofs.Soundness.{alike_resumed, retains}
use Rattle.vf_filestore.proofs.Views.{in_association_only, in_selection_only}

abbrev IsOpenParty : List File → StandingParty → Type 0
IsOpenParty files party = IsOpenIn files party.history

abbrev IsOpenDocket : List File → Docket → Type 0
IsOpenDocket files docket = IsOpenIn files docket.history

-- ---- files go on

open_named : (files later : List File) (name : List ℕ) (opened : Regime) → AreLimited files → AreLimited later → (found : Option File) → file_named name files ≡ found → IsSome found
    → IfSome found (λ file. IsFoundNext file (file_named name later)) → IfSome found (IsOpenOn opened) → IfSome (file_named name later) (IsOpenOn opened)
open_named files later name opened limited limited_later None is some goes open_on = absurd cc
open_named files later name opened limited limited_later (Some file) is some goes open_on =
    let same : goes.later.tree.constraint ≡ file.tree.constraint
    = same_constraint file goes.later (found_limited name files file is limited.each) (found_limited name later goes.later goes.is limited_later.each) goes.next.typed in
    subst (λ (one : Option File). IfSome one (IsOpenOn opened)) (sym goes.is)
    (subst (λ (constraint : Constraint). includes (modes constraint) opened.mode.value ≡ true) (sym same) open_on)

open_goes : (files later : List File) → AreLimited files → AreLimited later → (history : History) → IfSome (selection history) (IsThere files) → GoesOn files later history → IsOpenIn files history → IsOpenIn later history
open_goes files later limited limited_later history there goes open_in = by (regime history) (selection history) there goes open_in
  where
    by : (opened : Option Regime) (one : Option Selection) → IfSome one (IsThere files) → IfSome one (λ one. Continues files later one.file) → IfSome opened (λ regime. IfSome (file_of files one) (IsOpenOn regime))
        → IfSome opened (λ regime. IfSome (file_of later one) (IsOpenOn regime))
    by None one there goes open_in = tt
    by (Some opened) None there goes open_in = tt
    by (Some opened) (Some one) there goes open_in = open_named files later one.file opened limited limited_later (file_named one.file files) refl there goes open_in

-- ---- the party of a message

none_open : (files : List File) (history : History) → regime history ≡ None → IsOpenIn files history
none_open files history none = subst (λ (one : Option Regime). IfSome one (λ regime. IfSome (file_of files (selection history)) (IsOpenOn regime))) (sym none) tt

same_open : (files : List File) (history other : History) → regime other ≡ regime history → selection other ≡ selection history → IsOpenIn files history → IsOpenIn files other
same_open files history other opens selects open_in =
    subst (λ (opened : Option Regime). IfSome opened (λ regime. IfSome (file_of files (selection other)) (IsOpenOn regime))) (sym opens)
    (subst (λ (one : Option Selection). IfSome (regime history) (λ regime. IfSome (file_of files one) (IsOpenOn regime))) (sym selects) open_in)

mode_passed : (state : State) (party : StandingParty) (one : Selection) (mode : Actions) (contents : Option Contents) (controls : Option ContentControls) (activity : Option ℕ) (found : Option File)
    → first_row (rows_on found (opening_rows state (opened_by party one mode contents controls activity))) ≡ None → IfSome found (λ (file : File). includes (modes file.tree.constraint) mode.value ≡ true)
mode_passed state party one mode contents controls activity None passed = tt
mode_passed state party one mode contents controls activity (Some file) passed =
    let asked = opened_by party one mode contents controls activity in
    let last = activity_rows state asked.identity asked.activity in
    let first = row (not (includes asked.selection.requested.value asked.mode.value) || not (contents_usable asked.mode asked.controls)) not_permitted in
    let second = row (is_mismatch asked.contents file.contents) contents_mismatch in
    let third = row (not (includes (modes file.tree.constraint) asked.mode.value)) outside_constraint_set in
    let fourth = clash_row (holders state file.name) asked.link (joined asked.controls asked.selection.controls) in
    let left = later_passed second (third ∷ fourth ∷ last) (later_passed first (second ∷ third ∷ fourth ∷ last) passed) in
    not-false (includes (modes file.tree.constraint) mode.value) (row_passed (not (includes (modes file.tree.constraint) mode.value)) outside_constraint_set (first_passed third (fourth ∷ last) left))

open_begun : (state : State) (party : StandingParty) (mode : Actions) (contents : Option Contents) (controls : Option ContentControls) (activity : Option ℕ) (given : Given) (one : Option Selection) → selection party.history ≡ one
    → open_decision state party mode contents controls activity one ≡ Grants given → IfSome (file_of state.files one) (λ (file : File). includes (modes file.tree.constraint) mode.value ≡ true)
open_begun state party mode contents controls activity given None same is = tt
open_begun state party mode contents controls activity given (Some one) same is =
    let unit = unit_row (units_of party) (units_for activity) in
    let later = rows_on (selected_file state party.history) (opening_rows state (opened_by party one mode contents controls activity)) in
    let passed = rows_passed (unit ∷ later) Nothing given is in
    let own : selected_file state party.history ≡ file_named one.file state.files = ap (λ (selected : Option Selection). file_named (file_in selected) state.files) same in
    subst (λ (found : Option File). IfSome found (λ (file : File). includes (modes file.tree.constraint) mode.value ≡ true)) own
    (mode_passed state party one mode contents controls activity (selected_file state party.history) (later_passed unit later passed.passed))

open_request : (state : State) (party : StandingParty) (setting : Setting) (request : Pdu) (given : Given) → IsSound state → IsSoundParty state.files party → AllByRecursion (IsOpenDocket state.files) state.dockets
    → IsOpenIn state.files party.history → AreLimited (files_by state party setting.moment given request) → request_decision state party setting request ≡ Grants given → takes (regime_stage party.history) (messages.Pdu request) ≡ true
    → IsOpenIn (files_by state party setting.moment given request) (concluding_entry state party setting (messages.Pdu request) given ∷ taken_up state party (messages.Pdu request))
open_request state party setting (InitializeRequest units identity password window) given sound own dockets open_in later is taken =
    let request = InitializeRequest units identity password window in
    none_open state.files (concluding_entry state party setting (messages.Pdu request) given ∷ party.history)
    (no_regime (regime party.history) (nests party.history own.sound.nested).regimes (placed_request party.history request taken))
  where
    no_regime : (one : Option Regime) → (IsSome one → IsSome (selection party.history)) → selection party.history ≡ None → one ≡ None
    no_regime None within none = refl
    no_regime (Some opened) within none = let some : is_some (selection party.history) ≡ true = within refl in let gone = ap is_some none in absurd cc
open_request state party setting (SelectRequest name requested controls password) given sound own dockets open_in later is taken =
    let message = messages.Pdu (SelectRequest name requested controls password) in
    none_open state.files (concluding_entry state party setting message given ∷ party.history)
    (in_association_only message (record { reading = refl; shown = refl; writing = refl; written = refl }) refl refl (placed message party.history (within_stage party.history message refl taken))).no_regime
open_request state party setting (CreateRequest over name contents permitted terms requested controls password) given sound own dockets open_in later is taken =
    let request = CreateRequest over name contents permitted terms requested controls password in
    let message = messages.Pdu request in
    none_open (files_by state party setting.moment given request) (concluding_entry state party setting message given ∷ party.history)
    (in_association_only message (record { reading = refl; shown = refl; writing = refl; written = refl }) refl refl (placed message party.history (within_stage party.history message refl taken))).no_regime
open_request state party setting DeselectRequest given sound own dockets open_in later is taken =
    let message = messages.Pdu DeselectRequest in
    none_open state.files (concluding_entry state party setting message given ∷ party.history)
    (in_selection_only message (record { reading = refl; shown = refl; writing = refl; written = refl }) refl refl (placed message party.history (within_stage party.history message refl taken))).no_regime
open_request state party setting DeleteRequest given sound own dockets open_in later is taken =
    let message = messages.Pdu DeleteRequest in
    none_open (files_by state party setting.moment given DeleteRequest) (concluding_entry state party setting message given ∷ party.history)
    (in_selection_only message (record { reading = refl; shown = refl; writing = refl; written = refl }) refl refl (placed message party.history (within_stage party.history message refl taken))).no_regime
open_request state party setting (ChangeAttribRequest name permitted terms number) given sound own dockets open_in later is taken =
    let request = ChangeAttribRequest name permitted terms number in
    let message = messages.Pdu request in
    none_open (files_by state party setting.moment given request) (concluding_entry state party setting message given ∷ party.history)
    (in_selection_only message (record { reading = refl; shown = refl; writing = refl; written = refl }) refl refl (placed message party.history (within_stage party.history message refl taken))).no_regime
open_request state party setting (OpenRequest mode contents controls activity) given sound own dockets open_in later is taken =
    open_begun state party (record { value = mode }) contents controls activity given (selection party.history) refl is
open_request state party setting CloseRequest given sound own dockets open_in later is taken = tt
open_request state party setting (RecoverRequest activity number point) given sound own dockets open_in later is taken =
    let message = messages.Pdu (RecoverRequest activity number point) in
    let facts = recovers state party setting number point (docket_of (identity_of party) activity state.dockets) given is in
    let there = in_association_only message (record { reading = refl; shown = refl; writing = refl; written = refl }) refl refl (placed message party.history (within_stage party.history message refl taken)) in
    let history = facts.found.history in
    let took : history_of (docket_of (identity_of party) activity state.dockets) ++ party.history ≡ history ++ party.history = ap (λ (one : Option Docket). history_of one ++ party.history) facts.is in
    let alike = alike_resumed history party.history there.no_selection there.no_regime there.no_transfer in
    same_open state.files history (concluding_entry state party setting message given ∷ taken_up state party message) (ap regime took ∙ alike.opens) (ap selection took ∙ alike.selects)
    (found_all (IsOpenDocket state.files) (is_docket_of (identity_of party) activity) state.dockets facts.found facts.is dockets)
open_request state party setting (EraseRequest fadu) given sound own dockets open_in later is taken =
    let one = erased (selected_file state party.history) (stamp_of party setting.moment) (position party.history) fadu in
    open_goes state.files (put_where (name_in party.history) one state.files) sound.limited later party.history own.sound.there
    (goes_for state.files (put_where (name_in party.history) one state.files) (selection party.history)
    (put_keeps (name_in party.history) state.files one sound.filed (erased_next (selected_file state party.history) (stamp_of party setting.moment) (position party.history) fadu))) open_in
open_request state party setting TransferEndRequest given sound own dockets open_in later is taken =
    let one = (transfer_ending state party setting.moment).file in
    open_goes state.files (put_where (name_in party.history) one state.files) sound.limited later party.history own.sound.there
    (goes_for state.files (put_where (name_in party.history) one state.files) (selection party.history) (put_keeps (name_in party.history) state.files one sound.filed (transfer_next state party setting.moment))) open_in
open_request state party setting (CancelRequest diagnostic) given sound own dockets open_in later is taken =
    let one = (cancel_ending state party setting.moment).file in
    open_goes state.files (put_where (name_in party.history) one state.files) sound.limited later party.history own.sound.there
    (goes_for state.files (put_where (name_in party.history) one state.files) (selection party.history) (put_keeps (name_in party.history) state.files one sound.filed (cancel_next state party setting.moment))) open_in
open_request state party setting request given sound own dockets open_in later is taken = open_in

open_message : (state : State) (party : StandingParty) (setting : Setting) (message : Message) (given : Given) → IsSound state → IsSoundParty state.files party → AllByRecursion (IsOpenDocket state.files) state.dockets
    → IsOpenIn state.files party.history → AreLimited (files_after state party setting.moment given message) → IsDue state party setting message given
    → IsOpenIn (files_after state party setting.moment given message) (concluding_entry state party setting message given ∷ taken_up state party message)
open_message state party setting (messages.Pdu request) given sound own dockets open_in later due = open_request state party setting request given sound own dockets open_in later due.decided due.taken
open_message state party setting (messages.Element element) given sound own dockets open_in later due = open_in
open_message state party setting messages.Check given sound own dockets open_in later due = open_in
open_message state party setting (messages.Acknowledge point) given sound own dockets open_in later due = open_in
open_message state party setting (messages.Restart point) given sound own dockets open_in later due = open_in
open_message state party setting messages.Break given sound own dockets open_in later due = open_in

-- ---- all others

off_before : (before after : List StandingParty) (party : StandingParty) → IsDistinct nat_eq (map link_of (before ++ party ∷ after)) → AllByRecursion (IsOff party.link) before
off_before [] after party distinct = tt
off_before (first ∷ before) after party distinct = (
  (all_right (λ (one : StandingParty). nat_eq first.link one.link ≡ false) before (party ∷ after)
      (all_unmap link_of (λ n. nat_eq first.link n ≡ false) (before ++ party ∷ after) (IsDistinct-head nat_eq first.link (map link_of (before ++ party ∷ after)) distinct))).0,
  off_before before after party (IsDistinct-tail nat_eq first.link (map link_of (before ++ party ∷ after)) distinct),
)

open_where : (files later : List File) (link : ℕ) → AreLimited files → AreLimited later → (parties : List StandingParty) → AllByRecursion (IsOff link) parties
    → AllByRecursion (λ (one : StandingParty). IsOff link one → GoesOn files later one.history) parties → AllByRecursion (IsSoundParty files) parties → AllByRecursion (IsOpenParty files) parties → AllByRecursion (IsOpenParty later) parties
open_where files later link limited limited_later [] off goes sound opens = tt
open_where files later link limited limited_later (one ∷ parties) off goes sound opens =
    (open_goes files later limited limited_later one.history sound.0.sound.there (goes.0 off.0) opens.0, open_where files later link limited limited_later parties off.1 goes.1 sound.1 opens.1)

open_dockets : (files later : List File) → AreLimited files → AreLimited later → (dockets : List Docket) → AllByRecursion (λ (docket : Docket). GoesOn files later docket.history) dockets
    → AllByRecursion (IsSoundDocket files) dockets → AllByRecursion (IsOpenDocket files) dockets → AllByRecursion (IsOpenDocket later) dockets
open_dockets files later limited limited_later [] goes sound opens = tt
open_dockets files later limited limited_later (one ∷ dockets) goes sound opens =
    (open_goes files later limited limited_later one.history sound.0.sound.there goes.0 opens.0, open_dockets files later limited limited_later dockets goes.1 sound.1 opens.1)

granted_open : (state : State) (party : StandingParty) (setting : Setting) (message : Message) (given : Given) (trace : List Message) (before after : List StandingParty) → IsSound state → AreOpensKept state
    → state.parties ≡ before ++ party ∷ after → IsGranting state party setting message given → IsDue state party setting message given → AreOpensKept (after_entry state party setting message given trace before after)
granted_open state party setting message given trace before after sound opens is granting due =
    let files = files_after state party setting.moment given message in
    let next : StandingParty = record party { trace = trace; history = concluding_entry state party setting message given ∷ taken_up state party message } in
    let parties = subst (λ (all : List StandingParty). AllByRecursion (IsSoundParty state.files) all) is sound.parties in
    let open_parties = subst (λ (all : List StandingParty). AllByRecursion (IsOpenParty state.files) all) is opens.parties in
    let linked = subst (λ (all : List StandingParty). IsDistinct nat_eq (map link_of all)) is sound.linked in
    let own = all_right (IsSoundParty state.files) before (party ∷ after) parties in
    let own_open = all_right (IsOpenParty state.files) before (party ∷ after) open_parties in
    let goes = goes_party state party files before after granting.effect is in
    let goes_before = all_left (λ (one : StandingParty). IsOff party.link one → GoesOn state.files files one.history) before (party ∷ after) goes in
    let goes_after = all_right (λ (one : StandingParty). IsOff party.link one → GoesOn state.files files one.history) before (party ∷ after) goes in
    record {
      parties =
          all_append (IsOpenParty files) before (next ∷ after)
          (open_where state.files files party.link sound.limited granting.limited before (off_before before after party linked) goes_before (all_left (IsSoundParty state.files) before (party ∷ after) parties) (all_left (IsOpenParty state.files) before (party ∷ after) open_parties)) (
            open_message state party setting message given sound own.0 opens.dockets own_open.0 granting.limited due,
            open_where state.files files party.link sound.limited granting.limited after (off_after party.link before after party refl linked) goes_after.1 own.1 own_open.1,
          );
      dockets =
          open_dockets state.files files sound.limited granting.limited (dockets_after party message state.dockets)
          (message_dockets_go state.files files party message state.dockets (goes_docket state party files granting.effect)) granting.dockets
          (message_dockets (IsOpenDocket state.files) party message state.dockets opens.dockets);
    }

-- ---- ends

left_open : (files : List File) (party : StandingParty) → IsNested party.history → IsOpenParty files party → AllByRecursion (IsOpenDocket files) (docket_left_by party)
left_open files party nested open_in = by (activity_of party)
  where
    by : (activity : Option ℕ) → AllByRecursion (IsOpenDocket files) (docket_by activity party)
    by None = tt
    by (Some activity) = let kept = retains party.history nested in (same_open files party.history (retained party.history) kept.opens kept.selects open_in, tt)

pub all_left_open : (files : List File) (parties : List StandingParty) → AllByRecursion (IsSoundParty files) parties → AllByRecursion (IsOpenParty files) parties → AllByRecursion (IsOpenDocket files) (flat_map docket_left_by parties)
all_left_open files [] sound opens = tt
all_left_open files (party ∷ parties) sound opens =
    all_append (IsOpenDocket files) (docket_left_by party) (flat_map docket_left_by parties) (left_open files party sound.0.sound.nested opens.0) (all_left_open files parties sound.1 opens.1)

pub broken_open : (link : ℕ) (state : State) → IsSound state → AreOpensKept state → AreOpensKept (broken link state)
broken_open link state sound opens = record {
  parties = all-filter (IsOpenParty state.files) (λ party. not (is_of_link link party)) state.parties opens.parties;
  dockets = all_append (IsOpenDocket state.files) state.dockets (dockets_left (party_of link state.parties)) opens.dockets (by (party_of link state.parties) refl);
}
  where
    by : (one : Option StandingParty) → party_of link state.parties ≡ one → AllByRecursion (IsOpenDocket state.files) (dockets_left one)
    by None is = tt
    by (Some party) is = left_open state.files party (party_sound state link party sound is).sound.nested (found_all (IsOpenParty state.files) (is_of_link link) state.parties party is opens.parties)

pub stopped_open : (state : State) → IsSound state → AreOpensKept state → AreOpensKept (stopped state)
stopped_open state sound opens = record {
  parties = tt;
  dockets = all_append (IsOpenDocket state.files) state.dockets (flat_map docket_left_by state.parties) opens.dockets (all_left_open state.files state.parties sound.parties opens.parties);
}

pub dropped_open : (state : State) (identity : List ℕ) (activity : ℕ) → AreOpensKept state → AreOpensKept (dropped identity activity state)
dropped_open state identity activity opens = record {
  parties = opens.parties;
  dockets = all-filter (IsOpenDocket state.files) (λ docket. not (is_docket_of identity activity docket)) state.dockets opens.dockets;
}

heard_open : (state : State) (link : ℕ) (party : StandingParty) (trace : List Message) → AreOpensKept state → party_of link state.parties ≡ Some party
    → AreOpensKept (with_parties state (with_party (with_trace party trace) state.parties))
heard_open state link party trace opens found =
    let at = located link state.parties party found in
    let next = with_trace party trace in
    let now : with_party next state.parties ≡ at.before ++ next ∷ at.after = ap (with_party next) at.is ∙ with_at link at.before at.after party next at.absent at.same at.same in
    let all = subst (λ (parties : List StandingParty). AllByRecursion (IsOpenParty state.files) parties) at.is opens.parties in
    let rest = all_right (IsOpenParty state.files) at.before (party ∷ at.after) all in
    record {
      parties = subst (λ (parties : List StandingParty). AllByRecursion (IsOpenParty state.files) parties) (sym now) (all_append (IsOpenParty state.files) at.before (next ∷ at.after) (all_left (IsOpenParty state.files) at.before (party ∷ at.after) all) (rest.0, rest.1));
      dockets = opens.dockets;
    }

pub opens_stay : Stays IsAny AreOpensKept
opens_stay = record {
  breaks = broken_open;
  hears = λ state link party message allowed opens found. heard_open state link party (message ∷ party.trace) opens found;
  traces = λ state link party opens found. any party.trace;
  grants = λ state party setting message given trace before after sound opens sound_after is allowed traces granting due. granted_open state party setting message given trace before after sound opens is granting due;
}
