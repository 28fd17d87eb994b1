-- The history of a party stays sound with each request that is granted to it.
use Rattle.std.proofs.Common.{◌≡◌, ℕ, Bool, true, false, cond, ◌&&◌, not, unwrap_or, List, [], ◌∷◌, ◌++◌, is_some, Option, None, Some, inl, inr, refl, ap, sym, subst, ◌∙◌, arith, Result, Ok, Err}
use Rattle.std.specs.Prelude.{◌⊎◌, IfSome, IsSome, min, find}
use Rattle.std.specs.List.{AllByRecursion}
use Rattle.std.specs.Str.{bytes_eq}
use Rattle.vf_attr.specs.Change.{after_change}
use Rattle.vf_attr.specs.declared.changes.AttributeChange.{AttributeChange}
use Rattle.vf_attr.specs.declared.file.File.{File}
use Rattle.vf_attr.specs.declared.stamp.Stamp.{Stamp}
use Rattle.vf_base.specs.declared.access.Context.{Context}
use Rattle.vf_base.specs.declared.access.FaduId.{FaduId}
use Rattle.vf_base.specs.declared.action.Actions.{Actions}
use Rattle.vf_base.specs.declared.element.Element.{Element}
use Rattle.vf_doctype.specs.DocumentTypes.{doc_type}
use Rattle.vf_doctype.specs.declared.doc_type.DocType.{DocType}
use Rattle.vf_elements.specs.Stages.{takes}
use Rattle.vf_elements.specs.declared.message.Message.{Message}
use Rattle.vf_elements.specs.declared.message.Message.TheVariants as messages
use Rattle.vf_elements.specs.declared.message.Said.{Said}
use Rattle.vf_elements.specs.declared.stage.Stage.TheVariants as stages
use Rattle.vf_pdu.specs.declared.pdu.Pdu.{Pdu}
use Rattle.vf_pdu.specs.declared.pdu.Pdu.TheVariants.{InitializeRequest, RecoverRequest}
use Rattle.vf_pdu_fields.proofs.Plain.{some_is}
use Rattle.vf_transfer.specs.Transfer.{IsKnown, NamesKnownChecks}
use Rattle.vf_transfer.proofs.Recovered.{point_stands}
use Rattle.vf_tree.specs.Acts.{shows}
use Rattle.vf_tree.specs.Contexts.{shown}
use Rattle.vf_tree.specs.TreeRefusal.{TreeRefusal}
use Rattle.vf_filestore.specs.Aborts.{Setting}
use Rattle.vf_filestore.specs.Conclusion.{entry_of, taken_up}
use Rattle.vf_filestore.specs.Decision.{Decision, Aborts, Grants, made_unless, recover_decision, unless_without_token}
use Rattle.vf_filestore.specs.Diagnostics.{Row, first_row, row, docket_unknown, wrong_state}
use Rattle.vf_filestore.specs.Due.{due_after, next_serial}
use Rattle.vf_filestore.specs.Effects.{changed, created, created_where, in_place, put_where}
use Rattle.vf_filestore.specs.Files.{file_named, made}
use Rattle.vf_filestore.specs.History.{Association, Entry, Given, Nothing, Resumed, History, Regime, Selection, association, regime, selection}
use Rattle.vf_filestore.specs.Holders.{held_files}
use Rattle.vf_filestore.specs.Opening.{given_unless, read_given, read_rows, showing}
use Rattle.vf_filestore.specs.Recovering.{is_read_in, recover_rows, resumed}
use Rattle.vf_filestore.specs.Selecting.{Wanted, create_by, is_taken, rows_on, select_rows, selection_rows, typed_rows}
use Rattle.vf_filestore.specs.Sound.{IsMoving, IsNested, IsPlaced, IsPlacedRequest, IsShownIn, IsSoundIn, IsThere, file_of, someone, stage_within}
use Rattle.vf_filestore.specs.Stage.{regime_stage, stage_by}
use Rattle.vf_filestore.specs.State.{Docket, State, StandingParty, units_of}
use Rattle.vf_filestore.specs.Transfers.{Transfer, data_end, happened, point, under_way, was_shown}
use Rattle.vf_filestore.specs.Units.{read_unit, recovery_unit, unit_row}
use Rattle.vf_filestore.specs.declared.creation.NewFile.{NewFile}
use Rattle.vf_filestore.proofs.Alike.{AreAlike}
use Rattle.vf_filestore.proofs.Decided.{first_passed, later_passed, rows_passed}
use Rattle.vf_filestore.proofs.Effected.{KeepsAll, not_taken}
use Rattle.vf_filestore.proofs.Filed.{IsFree, found_here, named_added, same_name, Continues, found_name}
use Rattle.vf_filestore.proofs.Named.{ArePlain, RecoversKnown, RequestAsksKnown, due_after_plain}
use Rattle.vf_filestore.proofs.Nested.{placed}
use Rattle.vf_filestore.proofs.Soundness.{moving_happens}
use Rattle.vf_filestore.proofs.Views.{in_association_only, Place}

-- ---- the stage of a party

same_stage : (one : Option Association) (selection : Option Selection) (regime : Option Regime) (transfer : Option Transfer) (ended shown : Bool)
    → (stage_by one selection regime transfer ended shown ≡ stage_by (Some someone) selection regime transfer ended shown)
    ⊎ ((selection ≡ None) × (stage_by one selection regime transfer ended shown ≡ stages.Idle))
same_stage one selection regime (Some transfer) ended shown = inl refl
same_stage one selection (Some regime) None ended shown = inl refl
same_stage one (Some selection) None None ended shown = inl refl
same_stage (Some association) None None None ended shown = inl refl
same_stage None None None None ended shown = inr (refl, refl)

stage_cases : (history : History) → (regime_stage history ≡ stage_within history) ⊎ ((selection history ≡ None) × (regime_stage history ≡ stages.Idle))
stage_cases history = same_stage (association history) (selection history) (regime history) (under_way history) (is_some (data_end history)) (was_shown history)

-- a message that the idle stage doesn't take
pub within_stage : (history : History) (message : Message) → takes stages.Idle message ≡ false → takes (regime_stage history) message ≡ true → takes (stage_within history) message ≡ true
within_stage history message idle taken = by (stage_cases history)
  where
    by : (regime_stage history ≡ stage_within history) ⊎ ((selection history ≡ None) × (regime_stage history ≡ stages.Idle)) → takes (stage_within history) message ≡ true
    by (inl same) = sym (ap (λ stage. takes stage message) same) ∙ taken
    by (inr at) =
        let here : takes stages.Idle message ≡ true = sym (ap (λ stage. takes stage message) at.1) ∙ taken in
        absurd cc

no_initialize : (history : History) (units : ℕ) (identity password : Option (List ℕ)) (window : ℕ) → takes (stage_within history) (messages.Pdu (InitializeRequest units identity password window)) ≡ true → selection history ≡ None
no_initialize history units identity password window taken =
    by (placed (messages.Pdu (InitializeRequest units identity password window)) history taken)
  where
    by : Place (messages.Pdu (InitializeRequest units identity password window)) (selection history) (regime history) (under_way history) → selection history ≡ None
    by at = (in_association_only (messages.Pdu (InitializeRequest units identity password window)) (record { reading = refl; shown = refl; writing = refl; written = refl }) refl refl at).no_selection

idle_request : (history : History) (request : Pdu) → selection history ≡ None → takes stages.Idle (messages.Pdu request) ≡ true → IsPlacedRequest history request
idle_request history (InitializeRequest units identity password window) none taken = none
idle_request history (RecoverRequest activity number point) none taken = tt
idle_request history request none taken = absurd cc

within_request : (history : History) (request : Pdu) → takes (stage_within history) (messages.Pdu request) ≡ true → IsPlacedRequest history request
within_request history (InitializeRequest units identity password window) taken = no_initialize history units identity password window taken
within_request history (RecoverRequest activity number point) taken = tt
within_request history request taken = taken

pub placed_request : (history : History) (request : Pdu) → takes (regime_stage history) (messages.Pdu request) ≡ true → IsPlacedRequest history request
placed_request history request taken = by (stage_cases history)
  where
    by : (regime_stage history ≡ stage_within history) ⊎ ((selection history ≡ None) × (regime_stage history ≡ stages.Idle)) → IsPlacedRequest history request
    by (inl same) = within_request history request (sym (ap (λ stage. takes stage (messages.Pdu request)) same) ∙ taken)
    by (inr at) = idle_request history request at.0 (sym (ap (λ stage. takes stage (messages.Pdu request)) at.1) ∙ taken)

-- ---- an entry more

pub still_sound : (files : List File) (history : History) (entry : Entry) → selection (entry ∷ history) ≡ selection history → under_way (entry ∷ history) ≡ under_way history
    → IsPlaced history entry.message → (NamesKnownChecks 0 (happened history) → NamesKnownChecks 0 (happened (entry ∷ history))) → IsSoundIn files history → IsSoundIn files (entry ∷ history)
still_sound files history entry same still at named sound = record {
  nested = (at, sound.nested);
  there = subst (λ (one : Option Selection). IfSome one (IsThere files)) (sym same) sound.there;
  moving =
      subst (λ (one : Option Transfer). IfSome one (IsMoving (file_of files (selection (entry ∷ history))) (entry ∷ history))) (sym still)
      (subst (λ (one : Option Selection). IfSome (under_way history) (IsMoving (file_of files one) (entry ∷ history))) (sym same) (by (under_way history) sound.moving));
}
  where
    by : (one : Option Transfer) → IfSome one (IsMoving (file_of files (selection history)) history) → IfSome one (IsMoving (file_of files (selection history)) (entry ∷ history))
    by None moving = tt
    by (Some transfer) moving = record { named = named moving.named; faithful = moving.faithful }

-- no transfer is under way after it
pub ended_sound : (files : List File) (history : History) (entry : Entry) → IfSome (selection (entry ∷ history)) (IsThere files) → under_way (entry ∷ history) ≡ None
    → IsPlaced history entry.message → IsNested history → IsSoundIn files (entry ∷ history)
ended_sound files history entry there none at nested = record {
  nested = (at, nested);
  there = there;
  moving = subst (λ (one : Option Transfer). IfSome one (IsMoving (file_of files (selection (entry ∷ history))) (entry ∷ history))) (sym none) tt;
}

-- ---- what is selected is there

pub select_there : (state : State) (wanted : Wanted) (name : List ℕ) → first_row (select_rows (held_files state) wanted name) ≡ None → IsSome (file_named name state.files)
select_there state wanted name passed = by (file_named name state.files) passed
  where
    by : (found : Option File) → first_row (rows_on found (selection_rows (held_files state) wanted)) ≡ None → IsSome found
    by None passed = absurd cc
    by (Some file) passed = refl

pub create_there : (state : State) (wanted : Wanted) (over : ℕ) (stamp : Stamp) (new : NewFile) (found : Option File) (given : Given) → file_named new.name state.files ≡ found
    → first_row (create_by (held_files state) wanted over stamp new found) ≡ None → made_unless found ≡ given → IsSome (file_named new.name (created_where given new stamp state.files))
create_there state wanted over stamp new (Some file) given is rows made_is =
    subst (λ given. IsSome (file_named new.name (created_where given new stamp state.files))) made_is (ap is_some is)
create_there state wanted over stamp new None given is rows made_is =
    subst (λ given. IsSome (file_named new.name (created_where given new stamp state.files))) made_is (by (doc_type new.contents) rows)
  where
    by : (doc : Option DocType) → first_row (typed_rows (held_files state) wanted stamp new doc) ≡ None → IsSome (file_named new.name (created doc new stamp state.files))
    by None rows = absurd cc
    by (Some doc) rows = ap is_some (named_added (made new stamp doc) state.files)

pub change_there : (state : State) (stamp : Stamp) (old : List ℕ) (name : Option (List ℕ)) (change : AttributeChange) → change.name ≡ name → is_taken state.files old name ≡ false
    → (found : Option File) → file_named old state.files ≡ found → IsSome found → IsSome (file_named (unwrap_or name old) (put_where old (changed found stamp change) state.files))
change_there state stamp old name change named free None is there = absurd cc
change_there state stamp old None change named free (Some file) is there =
    let here : old ≡ (after_change file stamp change).name = found_name old state.files file is ∙ sym (ap (λ name. unwrap_or name file.name) named) in
    ap is_some (ap (λ name. file_named name (in_place old (after_change file stamp change) state.files)) here
    ∙ found_here old file (after_change file stamp change) state.files is (inl (sym here)))
change_there state stamp old (Some new) change named free (Some file) is there = by (bytes_eq new old) refl
  where
    now : (after_change file stamp change).name ≡ new
    now = ap (λ name. unwrap_or name file.name) named

    with_free : IsFree old (after_change file stamp change).name state.files → IsSome (file_named new (in_place old (after_change file stamp change) state.files))
    with_free room =
        ap is_some (ap (λ name. file_named name (in_place old (after_change file stamp change) state.files)) (sym now)
        ∙ found_here old file (after_change file stamp change) state.files is room)

    by : (b : Bool) → bytes_eq new old ≡ b → IsSome (file_named new (in_place old (after_change file stamp change) state.files))
    by true e = with_free (inl (now ∙ same_name new old e))
    by false e = with_free (inr (ap (λ name. file_named name state.files) now ∙ not_taken state old new e free))

-- ---- what is read is what is there

pub read_faithful : (found : Option File) (units : ℕ) (mode : Actions) (at : ℕ) (fadu : FaduId) (context : Context) → IsShownIn found fadu context (read_given found units mode at fadu context)
read_faithful None units mode at fadu context = tt
read_faithful (Some file) units mode at fadu context = by (first_row (unit_row units read_unit ∷ read_rows file mode at fadu context)) (shown file.tree at fadu context) refl
  where
    by : (one : Row) (answer : Result (List Element × ℕ) TreeRefusal) → shown file.tree at fadu context ≡ answer
        → IsShownIn (Some file) fadu context (given_unless one file.version (showing file.version (shows file.tree answer)))
    by (Some diagnostic) answer is = tt
    by None (Ok answer) is = record { rising = omega arith; same = λ e. (at, is) }
    by None (Err refusal) is = tt

-- ---- recoveries

pub found_all : {A : Type 0} (P : A → Type 0) (test : A → Bool) (xs : List A) (x : A) → find test xs ≡ Some x → AllByRecursion P xs → P x
found_all P test [] x found all = absurd cc
found_all {A} P test (first ∷ xs) x found all = by (test first) found (λ found. found_all P test xs x found all.1)
  where
    by : (b : Bool) → cond b (Some first) (find test xs) ≡ Some x → (find test xs ≡ Some x → P x) → P x
    by true found rest = subst P (some_is first x found) all.0
    by false found rest = rest found

token_granted : (setting : Setting) (docket : Option Docket) (one : Decision) (given : Given) → unless_without_token setting docket one ≡ Grants given → one ≡ Grants given
token_granted setting docket (Grants would) given is = by (is_read_in docket && not setting.token) is
  where
    by : (b : Bool) → cond b (Aborts wrong_state) (Grants would) ≡ Grants given → Grants would ≡ Grants given
    by true is = absurd cc
    by false is = is
token_granted setting docket one given is = is

pub record Recovers (docket : Option Docket) (asked : ℕ) (given : Given) : Type 0 where
  pub found : Docket
  pub is : docket ≡ Some found
  pub resumes : resumed (Some found) asked ≡ given

pub recovers : (state : State) (party : StandingParty) (setting : Setting) (number asked : ℕ) (docket : Option Docket) (given : Given)
    → recover_decision state party setting number asked docket ≡ Grants given → Recovers docket asked given
recovers state party setting number asked None given is =
    let one = unit_row (units_of party) recovery_unit in
    let unknown = row true docket_unknown in
    let passed = rows_passed (one ∷ unknown ∷ []) (resumed None asked) given (token_granted setting None _ given is) in
    let never : unknown ≡ None = first_passed unknown [] (later_passed one (unknown ∷ []) passed.passed) in
    absurd cc
recovers state party setting number asked (Some docket) given is =
    let one = unit_row (units_of party) recovery_unit in
    let passed = rows_passed (one ∷ recover_rows state (Some docket) number) (resumed (Some docket) asked) given (token_granted setting (Some docket) _ given is) in
    record { found = docket; is = refl; resumes = passed.is }

pub resumed_known : (docket : Docket) (party : History) (asked : ℕ) (given : Given) → resumed (Some docket) asked ≡ given → AreAlike docket.history (docket.history ++ party)
    → (IsSome (under_way docket.history) → NamesKnownChecks 0 (happened docket.history)) → RecoversKnown given (docket.history ++ party)
resumed_known docket party asked given is alike named =
    subst (λ given. RecoversKnown given (docket.history ++ party)) is (by (is_some (under_way docket.history)) refl)
  where
    by : (b : Bool) → is_some (under_way docket.history) ≡ b → RecoversKnown (cond b (Resumed true (min asked (point docket.history))) (Resumed false 0)) (docket.history ++ party)
    by true some =
        let stands = point_stands 0 (happened docket.history) (named some) in
        subst (λ entries. IsKnown 0 entries (min asked (point docket.history))) (sym (moving_happens docket.history (docket.history ++ party) alike some))
        (omega arith, omega (arith, stands.1))
    by false none = tt

pub moving_named : (files : List File) (history : History) → IsSoundIn files history → IsSome (under_way history) → NamesKnownChecks 0 (happened history)
moving_named files history sound some = by (under_way history) sound.moving some
  where
    by : (one : Option Transfer) → IfSome one (IsMoving (file_of files (selection history)) history) → IsSome one → NamesKnownChecks 0 (happened history)
    by None moving some = absurd cc
    by (Some transfer) moving some = moving.named

-- ---- what is said after the reply

abbrev pub due_later : State → StandingParty → Setting → Message → Given → List Said
due_later state party setting message given =
    due_after (entry_of state party setting message given ∷ taken_up state party message) (next_serial (taken_up state party message) setting.serial message)
    (under_way (entry_of state party setting message given ∷ taken_up state party message))

pub due_later_plain : (state : State) (party : StandingParty) (setting : Setting) (message : Message) (given : Given) → ArePlain (due_later state party setting message given)
due_later_plain state party setting message given =
    due_after_plain (entry_of state party setting message given ∷ taken_up state party message) (next_serial (taken_up state party message) setting.serial message)
    (under_way (entry_of state party setting message given ∷ taken_up state party message))

-- ---- requests

-- a restart names a check that is known
abbrev pub AsksCheck : Pdu → History → Type 0
AsksCheck request history = RequestAsksKnown request Nothing history

pub goes_for : (files later : List File) (one : Option Selection) → KeepsAll files later → IfSome one (λ one. Continues files later one.file)
goes_for files later None keeps = tt
goes_for files later (Some selection) keeps = keeps.goes selection.file
