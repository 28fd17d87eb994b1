-- The controls of all who hold a file agree, with each request that is granted.
use Rattle.std.proofs.Common.{◌≡◌, ℕ, ◌≤◌, Bool, true, false, cond, ◌&&◌, ◌||◌, not, List, [], ◌∷◌, ◌++◌, filter, length, nat_eq, is_some, Option, None, Some, refl, ap, sym, subst, ◌∙◌, arith}
use Rattle.std.specs.Prelude.{IfSome, flat_map, nat_lt}
use Rattle.std.specs.List.{AllByRecursion, IsDistinct}
use Rattle.std.specs.Option.{option_map, option_or}
use Rattle.std.specs.Str.{bytes_eq}
use Rattle.std.proofs.lemmas.Bool.{and_left, and_right}
use Rattle.std.proofs.lemmas.Map.Keys.{IsDistinct-cons, IsDistinct-head, IsDistinct-tail}
use Rattle.vf_attr.specs.Access.{has, may}
use Rattle.vf_attr.specs.declared.file.File.{File}
use Rattle.vf_attr.specs.declared.stamp.Stamp.{Stamp}
use Rattle.vf_base.specs.declared.action.Action.TheVariants as actions
use Rattle.vf_base.specs.declared.action.Actions.{Actions}
use Rattle.vf_base.specs.declared.action.Controls.{Controls}
use Rattle.vf_base.specs.declared.contents.Contents.{Contents}
use Rattle.vf_doctype.specs.DocumentTypes.{doc_type}
use Rattle.vf_doctype.specs.declared.doc_type.DocType.{DocType}
use Rattle.vf_elements.specs.Stages.{takes}
use Rattle.vf_elements.specs.declared.message.Message.{Message}
use Rattle.vf_elements.specs.declared.message.Message.TheVariants as messages
use Rattle.vf_locks.specs.Clash.{against, conflict, first_against, lowest_clash}
use Rattle.vf_locks.specs.Holders.{is_same, others}
use Rattle.vf_locks.specs.declared.held.Held.{Held}
use Rattle.vf_locks.specs.declared.holder.Holder.{Holder}
use Rattle.vf_locks.specs.declared.holder.Holder.TheVariants.{Party, Docket}
use Rattle.vf_pdu.specs.declared.pdu.Pdu.{Pdu}
use Rattle.vf_pdu.specs.declared.pdu.Pdu.TheVariants.{SelectRequest, CreateRequest, DeselectRequest, DeleteRequest, ChangeAttribRequest, OpenRequest, CloseRequest, RecoverRequest}
use Rattle.vf_pdu_fields.specs.declared.controls.AttributeControls.{AttributeControls}
use Rattle.vf_pdu_fields.specs.declared.controls.ContentControls.{ContentControls}
use Rattle.vf_tables.specs.Validity.{includes, modes}
use Rattle.vf_tables.specs.declared.limits.TheConstants.{MOST_FILES}
use Rattle.vf_filestore.specs.Aborts.{Setting}
use Rattle.vf_filestore.specs.Conclusion.{concluding_entry, dockets_after, history_of, taken_up}
use Rattle.vf_filestore.specs.Controls.{attribute_controls, attributes_usable, content_controls, contents_usable, joined, not_opened}
use Rattle.vf_filestore.specs.Decision.{Grants, made_unless, open_decision, opened_by, opening_rows, request_decision, units_for, wanted_by}
use Rattle.vf_filestore.specs.Diagnostics.{attribute_unsupported, contents_mismatch, first_row, name_exists, not_permitted, outside_constraint_set, row, store_full}
use Rattle.vf_filestore.specs.Ending.{stamp_of}
use Rattle.vf_filestore.specs.Files.{file_named, made}
use Rattle.vf_filestore.specs.History.{Given, Nothing, History, Regime, Selection, regime, renamed, selection}
use Rattle.vf_filestore.specs.Holders.{clash_row, controls_by, held_by, held_by_docket, held_by_party, held_files, held_in, holders, opened_controls}
use Rattle.vf_filestore.specs.Opening.{activity_rows, is_mismatch}
use Rattle.vf_filestore.specs.Selecting.{Wanted, access_row, create_by, create_rows, is_taken, rename_row, rows_on, select_rows, selection_rows, typed_rows}
use Rattle.vf_filestore.specs.Sound.{IsSoundDocket, IsSoundIn, IsSoundParty, IsThere, Use, are_clashing, do_clash, use_by, use_in, use_of_docket, use_of_party}
use Rattle.vf_filestore.specs.Stage.{regime_stage}
use Rattle.vf_filestore.specs.State as states
use Rattle.vf_filestore.specs.State.{State, StandingParty, docket_of, file_in, identity_of, name_in, requested_in, selected_file, units_of, without_docket}
use Rattle.vf_filestore.specs.Units.{enhanced_management, limited_management, unit_row}
use Rattle.vf_filestore.specs.declared.creation.NewFile.{NewFile}
use Rattle.vf_filestore.proofs.Alone.{all_folded, none_mapped, other_party}
use Rattle.vf_filestore.proofs.Clashes.{agreed_stays, closed_free, held_uses, no_clash}
use Rattle.vf_filestore.proofs.Decided.{first_passed, later_passed, row_passed, rows_passed}
use Rattle.vf_filestore.proofs.Effected.{not_taken}
use Rattle.vf_filestore.proofs.Filed.{found_name, names_flip, same_name}
use Rattle.vf_filestore.proofs.Lists.{all-flat_map, all-from_flat_map, all_append, all_both, all_left, all_right, all_weaker, to_front, to_middle}
use Rattle.vf_filestore.proofs.Moving.{gone, recovered}
use Rattle.vf_filestore.proofs.Nested.{placed}
use Rattle.vf_filestore.proofs.Owned.{placed_request, recovers, within_stage}
use Rattle.vf_filestore.proofs.Parties.{IsOff}
use Rattle.vf_filestore.proofs.Soundness.{alike_resumed}
use Rattle.vf_filestore.proofs.Views.{in_association_only, in_regime_only, in_selection_only}

-- ---- what a row lets through

-- the use doesn't clash with these controls of this file
abbrev pub Fits : (file : List ℕ) → Controls → Use → Type 0
Fits file wanted other = do_clash (record { file = file; controls = wanted }) other ≡ false

-- a holder that isn't the party of the link
abbrev Lets : ℕ → Controls → Held → Type 0
Lets link wanted held = not (is_same held.holder (Party link)) ≡ true → lowest_clash wanted held.controls ≡ None

all_unfiltered : {A : Type 0} (P : A → Type 0) (test : A → Bool) (xs : List A) → AllByRecursion P (filter test xs) → AllByRecursion (λ x. test x ≡ true → P x) xs
all_unfiltered P test [] all = tt
all_unfiltered {A} P test (x ∷ xs) all = by (test x) refl all (all_unfiltered P test xs)
  where
    by : (b : Bool) → test x ≡ b → AllByRecursion P (cond b (x ∷ filter test xs) (filter test xs)) → (AllByRecursion P (filter test xs) → AllByRecursion (λ x. test x ≡ true → P x) xs)
        → AllByRecursion (λ x. test x ≡ true → P x) (x ∷ xs)
    by true is all rest = (λ e. all.0, rest all.1)
    by false is all rest = (λ e. absurd cc, rest all)

or_parts : {A : Type 0} (one later : Option A) → option_or one later ≡ None → (one ≡ None) × (later ≡ None)
or_parts None later is = (refl, is)
or_parts (Some x) later is = absurd cc

none_against : (wanted : Controls) (helds : List Held) → first_against wanted helds ≡ None → AllByRecursion (λ (held : Held). lowest_clash wanted held.controls ≡ None) helds
none_against wanted [] is = tt
none_against wanted (held ∷ helds) is =
    let both = or_parts (against held (lowest_clash wanted held.controls)) (first_against wanted helds) is in
    (none_mapped _ (lowest_clash wanted held.controls) both.0, none_against wanted helds both.1)

let_holder : (file : List ℕ) (holder : Holder) (link : ℕ) (wanted : Controls) (history : History) → length wanted.each ≤ 8 → not (is_same holder (Party link)) ≡ true
    → AllByRecursion (Lets link wanted) (held_in file holder history) → AllByRecursion (Fits file wanted) (use_in history)
let_holder file holder link wanted history short other lets = by (selection history) lets
  where
    by : (one : Option Selection) → AllByRecursion (Lets link wanted) (held_by file holder (regime history) one) → AllByRecursion (Fits file wanted) (use_by (regime history) one)
    by None lets = tt
    by (Some one) lets = (of (bytes_eq one.file file) refl lets, tt)
      where
        of : (b : Bool) → bytes_eq one.file file ≡ b → AllByRecursion (Lets link wanted) (cond b (record { holder = holder; controls = controls_by one (regime history) } ∷ []) [])
            → (bytes_eq file one.file && are_clashing wanted (controls_by one (regime history))) ≡ false
        of true is lets = and_right (bytes_eq file one.file) (are_clashing wanted (controls_by one (regime history))) (no_clash wanted (controls_by one (regime history)) short (lets.0 other))
        of false is lets = and_left (bytes_eq file one.file) (are_clashing wanted (controls_by one (regime history))) (names_flip file one.file ∙ is)

pub record IsLet (state : State) (link : ℕ) (file : List ℕ) (wanted : Controls) : Type 0 where
  pub parties : AllByRecursion (λ (party : StandingParty). IsOff link party → AllByRecursion (Fits file wanted) (use_of_party party)) state.parties
  pub dockets : AllByRecursion (λ (docket : states.Docket). AllByRecursion (Fits file wanted) (use_of_docket docket)) state.dockets

let_through : (state : State) (link : ℕ) (file : List ℕ) (wanted : Controls) → length wanted.each ≤ 8 → clash_row (holders state file) link wanted ≡ None → IsLet state link file wanted
let_through state link file wanted short row_is =
    let none = none_mapped _ (conflict (Party link) wanted (holders state file)) row_is in
    let lets = all_unfiltered (λ (held : Held). lowest_clash wanted held.controls ≡ None) (λ (held : Held). not (is_same held.holder (Party link))) (holders state file)
    (none_against wanted (others (Party link) (holders state file)) none) in
    let all = all_folded (Lets link wanted) (flat_map (held_by_party file) state.parties ++ flat_map (held_by_docket file) state.dockets) [] lets in
    record {
      parties =
          all_weaker (λ (party : StandingParty). AllByRecursion (Lets link wanted) (held_by_party file party)) (λ (party : StandingParty). IsOff link party → AllByRecursion (Fits file wanted) (use_of_party party)) state.parties
          (λ party lets off. let_holder file (Party party.link) link wanted party.history short (other_party party.link link off) lets)
          (all-from_flat_map (held_by_party file) (Lets link wanted) state.parties (all_left (Lets link wanted) (flat_map (held_by_party file) state.parties) (flat_map (held_by_docket file) state.dockets) all.1));
      dockets =
          all_weaker (λ (docket : states.Docket). AllByRecursion (Lets link wanted) (held_by_docket file docket)) (λ (docket : states.Docket). AllByRecursion (Fits file wanted) (use_of_docket docket)) state.dockets
          (λ docket lets. let_holder file (Docket docket.identity docket.activity) link wanted docket.history short refl lets)
          (all-from_flat_map (held_by_docket file) (Lets link wanted) state.dockets (all_right (Lets link wanted) (flat_map (held_by_party file) state.parties) (flat_map (held_by_docket file) state.dockets) all.1));
    }

-- ---- the uses of a state, with those of one party apart

abbrev pub uses_around : State → (before after : List StandingParty) → List Use → List Use
uses_around state before after own = flat_map use_of_docket state.dockets ++ (flat_map use_of_party before ++ (own ++ flat_map use_of_party after))

-- where the party of a link stands
pub record IsAmong (state : State) (party : StandingParty) (before after : List StandingParty) : Type 0 where
  pub is : state.parties ≡ before ++ party ∷ after
  pub absent : AllByRecursion (IsOff party.link) before
  pub off : AllByRecursion (IsOff party.link) after

abbrev pub rest_of : State → (before after : List StandingParty) → List Use
rest_of state before after = flat_map use_of_docket state.dockets ++ (flat_map use_of_party before ++ flat_map use_of_party after)

all_fit : (state : State) (party : StandingParty) (before after : List StandingParty) (P : Use → Type 0) → IsAmong state party before after
    → AllByRecursion (λ (docket : states.Docket). AllByRecursion P (use_of_docket docket)) state.dockets
    → AllByRecursion (λ (one : StandingParty). IsOff party.link one → AllByRecursion P (use_of_party one)) state.parties → AllByRecursion P (rest_of state before after)
all_fit state party before after P among dockets parties =
    let all = subst (λ (all : List StandingParty). AllByRecursion (λ (one : StandingParty). IsOff party.link one → AllByRecursion P (use_of_party one)) all) among.is parties in
    let those : (list : List StandingParty) → AllByRecursion (IsOff party.link) list → AllByRecursion (λ (one : StandingParty). IsOff party.link one → AllByRecursion P (use_of_party one)) list → AllByRecursion P (flat_map use_of_party list)
    = λ list off each.
    all-flat_map use_of_party P list
    (all_both (IsOff party.link) (λ (one : StandingParty). IsOff party.link one → AllByRecursion P (use_of_party one)) (λ one. AllByRecursion P (use_of_party one)) list (λ one is fits. fits is) off each) in
    all_append P (flat_map use_of_docket state.dockets) (flat_map use_of_party before ++ flat_map use_of_party after)
    (all-flat_map use_of_docket P state.dockets dockets)
    (all_append P (flat_map use_of_party before) (flat_map use_of_party after)
    (those before among.absent (all_left (λ (one : StandingParty). IsOff party.link one → AllByRecursion P (use_of_party one)) before (party ∷ after) all))
    (those after among.off (all_right (λ (one : StandingParty). IsOff party.link one → AllByRecursion P (use_of_party one)) before (party ∷ after) all).1))

let_all : (state : State) (party : StandingParty) (before after : List StandingParty) (file : List ℕ) (wanted : Controls) → IsAmong state party before after → IsLet state party.link file wanted
    → AllByRecursion (Fits file wanted) (rest_of state before after)
let_all state party before after file wanted among lets = all_fit state party before after (Fits file wanted) among lets.dockets lets.parties

added : (state : State) (before after : List StandingParty) (file : List ℕ) (wanted : Controls) → AllByRecursion (Fits file wanted) (rest_of state before after)
    → IsDistinct do_clash (uses_around state before after []) → IsDistinct do_clash (uses_around state before after (record { file = file; controls = wanted } ∷ []))
added state before after file wanted fit agreed =
    let one : Use = record { file = file; controls = wanted } in
    agreed_stays.moves (one ∷ rest_of state before after) (uses_around state before after (one ∷ []))
    (to_middle (flat_map use_of_docket state.dockets) (flat_map use_of_party before) (one ∷ []) (flat_map use_of_party after))
    (IsDistinct-cons do_clash one (rest_of state before after) fit agreed)

-- ---- selections

select_let : (state : State) (wanted : Wanted) (name : List ℕ) → first_row (select_rows (held_files state) wanted name) ≡ None → clash_row (holders state name) wanted.link (joined not_opened wanted.controls) ≡ None
select_let state wanted name passed = by (file_named name state.files) refl passed
  where
    by : (found : Option File) → file_named name state.files ≡ found → first_row (rows_on found (selection_rows (held_files state) wanted)) ≡ None → clash_row (holders state name) wanted.link (joined not_opened wanted.controls) ≡ None
    by None is passed = absurd cc
    by (Some file) is passed =
        let first = row (not (attributes_usable wanted.requested wanted.controls)) not_permitted in
        let second = access_row (may file wanted.identity wanted.password wanted.requested) in
        let third = clash_row (holders state file.name) wanted.link (joined not_opened wanted.controls) in
        ap (λ name. clash_row (holders state name) wanted.link (joined not_opened wanted.controls)) (found_name name state.files file is)
        ∙ first_passed third [] (later_passed second (third ∷ []) (later_passed first (second ∷ third ∷ []) passed))

selection_let : (state : State) (wanted : Wanted) (file : File) → first_row (selection_rows (held_files state) wanted file) ≡ None → clash_row (holders state file.name) wanted.link (joined not_opened wanted.controls) ≡ None
selection_let state wanted file passed =
    let first = row (not (attributes_usable wanted.requested wanted.controls)) not_permitted in
    let second = access_row (may file wanted.identity wanted.password wanted.requested) in
    let third = clash_row (holders state file.name) wanted.link (joined not_opened wanted.controls) in
    first_passed third [] (later_passed second (third ∷ []) (later_passed first (second ∷ third ∷ []) passed))

create_let : (state : State) (wanted : Wanted) (over : ℕ) (stamp : Stamp) (new : NewFile) (found : Option File) → file_named new.name state.files ≡ found → first_row (create_by (held_files state) wanted over stamp new found) ≡ None
    → clash_row (holders state new.name) wanted.link (joined not_opened wanted.controls) ≡ None
create_let state wanted over stamp new (Some file) is passed =
    ap (λ name. clash_row (holders state name) wanted.link (joined not_opened wanted.controls)) (found_name new.name state.files file is)
    ∙ selection_let state wanted file (later_passed (row (nat_eq over 0) name_exists) (selection_rows (held_files state) wanted file) passed)
create_let state wanted over stamp new None is passed = by (doc_type new.contents) passed
  where
    by : (doc : Option DocType) → first_row (typed_rows (held_files state) wanted stamp new doc) ≡ None → clash_row (holders state new.name) wanted.link (joined not_opened wanted.controls) ≡ None
    by None passed = absurd cc
    by (Some doc) passed =
        selection_let state wanted (made new stamp doc)
        (later_passed (row (not (nat_lt (length state.files) MOST_FILES)) store_full) (selection_rows (held_files state) wanted (made new stamp doc)) passed)

-- what is selected has no open yet
selected_agreed : (state : State) (party : StandingParty) (before after : List StandingParty) (file : List ℕ) (one : Option Regime) (attributes : AttributeControls) → one ≡ None → IsAmong state party before after
    → clash_row (holders state file) party.link (joined not_opened attributes) ≡ None → IsDistinct do_clash (uses_around state before after [])
    → IsDistinct do_clash (uses_around state before after (record { file = file; controls = joined (opened_controls one) attributes } ∷ []))
selected_agreed state party before after file one attributes none among lets agreed =
    subst (λ (one : Option Regime). IsDistinct do_clash (uses_around state before after (record { file = file; controls = joined (opened_controls one) attributes } ∷ []))) (sym none)
    (added state before after file (joined not_opened attributes)
    (let_all state party before after file (joined not_opened attributes) among (let_through state party.link file (joined not_opened attributes) (omega arith) lets)) agreed)

-- ---- opens

open_let : (state : State) (party : StandingParty) (mode : Actions) (contents : Option Contents) (controls : Option ContentControls) (activity : Option ℕ) (selected : Selection) (given : Given) → selection party.history ≡ Some selected
    → open_decision state party mode contents controls activity (Some selected) ≡ Grants given → clash_row (holders state selected.file) party.link (joined (content_controls mode controls) selected.controls) ≡ None
open_let state party mode contents controls activity selected given same is =
    let asked = opened_by party selected mode contents controls activity in
    let unit = unit_row (units_of party) (units_for activity) in
    let passed = rows_passed (unit ∷ rows_on (selected_file state party.history) (opening_rows state asked)) Nothing given is in
    by (selected_file state party.history) refl (later_passed unit (rows_on (selected_file state party.history) (opening_rows state asked)) passed.passed)
  where
    by : (found : Option File) → selected_file state party.history ≡ found → first_row (rows_on found (opening_rows state (opened_by party selected mode contents controls activity))) ≡ None
        → clash_row (holders state selected.file) party.link (joined (content_controls mode controls) selected.controls) ≡ None
    by None is rows = absurd cc
    by (Some file) is rows =
        let asked = opened_by party selected mode contents controls activity in
        let last = activity_rows state (identity_of party) activity in
        let first = row (not (includes asked.selection.requested.value asked.mode.value) || not (contents_usable asked.mode asked.controls)) not_permitted in
        let second = row (is_mismatch asked.contents file.contents) contents_mismatch in
        let third = row (not (includes (modes file.tree.constraint) asked.mode.value)) outside_constraint_set in
        let fourth = clash_row (holders state file.name) asked.link (joined asked.controls asked.selection.controls) in
        let lets = first_passed fourth last (later_passed third (fourth ∷ last) (later_passed second (third ∷ fourth ∷ last) (later_passed first (second ∷ third ∷ fourth ∷ last) rows))) in
        let name : selected.file ≡ file.name = sym (ap file_in same) ∙ found_name (name_in party.history) state.files file is in
        ap (λ name. clash_row (holders state name) party.link (joined (content_controls mode controls) selected.controls)) name ∙ lets

-- ---- renaming

there_fits : (files : List File) (name : List ℕ) (controls : Controls) (history : History) → file_named name files ≡ None → IsSoundIn files history → AllByRecursion (Fits name controls) (use_in history)
there_fits files name controls history none sound = by (selection history) sound.there
  where
    by : (one : Option Selection) → IfSome one (IsThere files) → AllByRecursion (Fits name controls) (use_by (regime history) one)
    by None there = tt
    by (Some one) there = (and_left (bytes_eq name one.file) (are_clashing controls (controls_by one (regime history))) (other (bytes_eq name one.file) refl), tt)
      where
        other : (b : Bool) → bytes_eq name one.file ≡ b → bytes_eq name one.file ≡ false
        other true is =
            let gone : is_some (file_named one.file files) ≡ false = ap is_some (ap (λ name. file_named name files) (sym (same_name name one.file is)) ∙ none) in
            absurd cc
        other false is = is

renamed_agreed : (state : State) (party : StandingParty) (before after : List StandingParty) (name : Option (List ℕ)) (open_one : Option Regime) (one : Option Selection) → IsAmong state party before after
    → AllByRecursion (IsSoundDocket state.files) state.dockets → AllByRecursion (IsSoundParty state.files) state.parties → is_taken state.files (file_in one) name ≡ false
    → IsDistinct do_clash (uses_around state before after (use_by open_one one)) → IsDistinct do_clash (uses_around state before after (use_by open_one (option_map (renamed name) one)))
renamed_agreed state party before after name open_one None among dockets parties free agreed = agreed
renamed_agreed state party before after None open_one (Some one) among dockets parties free agreed = agreed
renamed_agreed state party before after (Some new) open_one (Some one) among dockets parties free agreed = by (bytes_eq new one.file) refl
  where
    wanted : Controls
    wanted = controls_by one open_one

    by : (b : Bool) → bytes_eq new one.file ≡ b → IsDistinct do_clash (uses_around state before after (record { file = new; controls = controls_by one open_one } ∷ []))
    by true is = subst (λ name. IsDistinct do_clash (uses_around state before after (record { file = name; controls = controls_by one open_one } ∷ []))) (sym (same_name new one.file is)) agreed
    by false is =
        let none = not_taken state one.file new is free in
        let left = gone (IsDistinct do_clash) agreed_stays (flat_map use_of_docket state.dockets) (flat_map use_of_party before) (record { file = one.file; controls = controls_by one open_one } ∷ []) (flat_map use_of_party after) agreed in
        added state before after new (controls_by one open_one)
        (all_fit state party before after (Fits new (controls_by one open_one)) among
        (all_weaker (IsSoundDocket state.files) (λ (docket : states.Docket). AllByRecursion (Fits new (controls_by one open_one)) (use_of_docket docket)) state.dockets
        (λ docket sound. there_fits state.files new (controls_by one open_one) docket.history none sound.sound) dockets)
        (all_weaker (IsSoundParty state.files) (λ (other : StandingParty). IsOff party.link other → AllByRecursion (Fits new (controls_by one open_one)) (use_of_party other)) state.parties
        (λ other sound off. there_fits state.files new (controls_by one open_one) other.history none sound.sound) parties)) left

-- ---- closing

pub closed_agreed : (state : State) (before after : List StandingParty) (opened : Regime) (one : Option Selection) → IsDistinct do_clash (uses_around state before after (use_by (Some opened) one))
    → IsDistinct do_clash (uses_around state before after (use_by None one))
closed_agreed state before after opened None agreed = agreed
closed_agreed state before after opened (Some one) agreed =
    let d = flat_map use_of_docket state.dockets in
    let b = flat_map use_of_party before in
    let a = flat_map use_of_party after in
    let own : Use = record { file = one.file; controls = joined opened.controls one.controls } in
    let fronted : IsDistinct do_clash (own ∷ rest_of state before after) = agreed_stays.moves (d ++ (b ++ (own ∷ a))) (own ∷ (d ++ (b ++ a))) (to_front d b (own ∷ []) a) agreed in
    added state before after one.file (joined not_opened one.controls)
    (all_weaker (λ other. do_clash own other ≡ false) (Fits one.file (joined not_opened one.controls)) (rest_of state before after) (λ other apart. by other (bytes_eq one.file other.file) apart)
    (IsDistinct-head do_clash own (rest_of state before after) fronted))
    (IsDistinct-tail do_clash own (rest_of state before after) fronted)
  where
    by : (other : Use) (b : Bool) → (b && are_clashing (joined opened.controls one.controls) other.controls) ≡ false → (b && are_clashing (joined not_opened one.controls) other.controls) ≡ false
    by other true apart = closed_free opened.controls one.controls other.controls apart
    by other false apart = refl

-- ---- requests

abbrev pub use_after : State → StandingParty → Setting → Message → Given → List Use
use_after state party setting message given =
    use_by (regime (concluding_entry state party setting message given ∷ taken_up state party message))
    (selection (concluding_entry state party setting message given ∷ taken_up state party message))

abbrev pub uses_after : State → StandingParty → Setting → Message → Given → (before after : List StandingParty) → List Use
uses_after state party setting message given before after =
    flat_map use_of_docket (dockets_after party message state.dockets)
    ++ (flat_map use_of_party before ++ (use_after state party setting message given ++ flat_map use_of_party after))

pub request_agreed : (state : State) (party : StandingParty) (setting : Setting) (request : Pdu) (given : Given) (before after : List StandingParty) → request_decision state party setting request ≡ Grants given
    → takes (regime_stage party.history) (messages.Pdu request) ≡ true → IsAmong state party before after → AllByRecursion (IsSoundDocket state.files) state.dockets → AllByRecursion (IsSoundParty state.files) state.parties
    → IsDistinct do_clash (uses_around state before after (use_of_party party)) → IsDistinct do_clash (uses_after state party setting (messages.Pdu request) given before after)
request_agreed state party setting (SelectRequest name requested controls password) given before after is taken among dockets parties agreed =
    let message = messages.Pdu (SelectRequest name requested controls password) in
    let there = in_association_only message (record { reading = refl; shown = refl; writing = refl; written = refl }) refl refl (placed message party.history (placed_request party.history (SelectRequest name requested controls password) taken)) in
    let passed = rows_passed (select_rows (held_files state) (wanted_by party requested controls password) name) Nothing given is in
    selected_agreed state party before after name (regime party.history) (attribute_controls requested controls) there.no_regime among (select_let state (wanted_by party requested controls password) name passed.passed)
    (subst (λ (one : Option Selection). IsDistinct do_clash (uses_around state before after (use_by (regime party.history) one))) there.no_selection agreed)
request_agreed state party setting (CreateRequest over name contents permitted terms requested controls password) given before after is taken among dockets parties agreed =
    let message = messages.Pdu (CreateRequest over name contents permitted terms requested controls password) in
    let there = in_association_only message (record { reading = refl; shown = refl; writing = refl; written = refl }) refl refl
    (placed message party.history (placed_request party.history (CreateRequest over name contents permitted terms requested controls password) taken)) in
    let wanted = wanted_by party requested controls password in
    let new : NewFile = record { name = name; contents = contents; permitted = permitted; terms = terms } in
    let unit = unit_row (units_of party) limited_management in
    let rows = create_rows (held_files state) wanted over (stamp_of party setting.moment) new in
    let passed = rows_passed (unit ∷ rows) (made_unless (file_named name state.files)) given is in
    selected_agreed state party before after name (regime party.history) (attribute_controls requested controls) there.no_regime among
    (create_let state wanted over (stamp_of party setting.moment) new (file_named name state.files) refl (later_passed unit rows passed.passed))
    (subst (λ (one : Option Selection). IsDistinct do_clash (uses_around state before after (use_by (regime party.history) one))) there.no_selection agreed)
request_agreed state party setting (ChangeAttribRequest name permitted terms number) given before after is taken among dockets parties agreed =
    let old = name_in party.history in
    let unit = unit_row (units_of party) enhanced_management in
    let first = row (not (has (requested_in (selection party.history)) actions.ChangeAttribute)) not_permitted in
    let second = row (not (nat_eq number 0)) attribute_unsupported in
    let third = row (is_taken state.files old name) name_exists in
    let fourth = rename_row (holders state old) party.link old name in
    let passed = rows_passed (unit ∷ first ∷ second ∷ third ∷ fourth ∷ []) Nothing given is in
    let left = later_passed second (third ∷ fourth ∷ []) (later_passed first (second ∷ third ∷ fourth ∷ []) (later_passed unit (first ∷ second ∷ third ∷ fourth ∷ []) passed.passed)) in
    renamed_agreed state party before after name (regime party.history) (selection party.history) among dockets parties (row_passed (is_taken state.files old name) name_exists (first_passed third (fourth ∷ []) left)) agreed
request_agreed state party setting DeselectRequest given before after is taken among dockets parties agreed =
    gone (IsDistinct do_clash) agreed_stays (flat_map use_of_docket state.dockets) (flat_map use_of_party before) (use_of_party party) (flat_map use_of_party after) agreed
request_agreed state party setting DeleteRequest given before after is taken among dockets parties agreed =
    gone (IsDistinct do_clash) agreed_stays (flat_map use_of_docket state.dockets) (flat_map use_of_party before) (use_of_party party) (flat_map use_of_party after) agreed
request_agreed state party setting (OpenRequest mode contents controls activity) given before after is taken among dockets parties agreed =
    let request = OpenRequest mode contents controls activity in
    let there = in_selection_only (messages.Pdu request) (record { reading = refl; shown = refl; writing = refl; written = refl }) refl refl (placed (messages.Pdu request) party.history (placed_request party.history request taken)) in
    let selected = there.selected in
    let decided_is = subst (λ (one : Option Selection). open_decision state party (record { value = mode }) contents controls activity one ≡ Grants given) there.is is in
    let lets = open_let state party (record { value = mode }) contents controls activity selected given there.is decided_is in
    let wanted = joined (content_controls (record { value = mode }) controls) selected.controls in
    let left = gone (IsDistinct do_clash) agreed_stays (flat_map use_of_docket state.dockets) (flat_map use_of_party before) (use_of_party party) (flat_map use_of_party after) agreed in
    let opened : Regime = record { number = state.concluded; mode = record { value = mode }; controls = content_controls (record { value = mode }) controls; activity = activity } in
    subst (λ (one : Option Selection). IsDistinct do_clash (uses_around state before after (use_by (Some opened) one))) (sym there.is)
    (added state before after selected.file wanted (let_all state party before after selected.file wanted among (let_through state party.link selected.file wanted (omega arith) lets)) left)
request_agreed state party setting CloseRequest given before after is taken among dockets parties agreed =
    let there = in_regime_only (messages.Pdu CloseRequest) (record { reading = refl; shown = refl; writing = refl; written = refl }) refl refl (placed (messages.Pdu CloseRequest) party.history (placed_request party.history CloseRequest taken)) in
    closed_agreed state before after there.opened (selection party.history)
    (subst (λ (one : Option Regime). IsDistinct do_clash (uses_around state before after (use_by one (selection party.history)))) there.is agreed)
request_agreed state party setting (RecoverRequest activity number point) given before after is taken among dockets parties agreed =
    let message = messages.Pdu (RecoverRequest activity number point) in
    let facts = recovers state party setting number point (docket_of (identity_of party) activity state.dockets) given is in
    let there = in_association_only message (record { reading = refl; shown = refl; writing = refl; written = refl }) refl refl (placed message party.history (within_stage party.history message refl taken)) in
    let own = facts.found.history in
    let took : history_of (docket_of (identity_of party) activity state.dockets) ++ party.history ≡ own ++ party.history = ap (λ (one : Option states.Docket). history_of one ++ party.history) facts.is in
    let alike = alike_resumed own party.history there.no_selection there.no_regime there.no_transfer in
    let same : use_in (history_of (docket_of (identity_of party) activity state.dockets) ++ party.history) ≡ use_of_docket facts.found
    = ap use_in took ∙ (λ i. use_by (alike.opens i) (alike.selects i)) in
    let b = flat_map use_of_party before in
    let a = flat_map use_of_party after in
    let alone = subst (λ (one : Option Selection). IsDistinct do_clash (uses_around state before after (use_by (regime party.history) one))) there.no_selection agreed in
    let moved = recovered (IsDistinct do_clash) agreed_stays held_uses (identity_of party) activity state.dockets facts.found b a facts.is alone in
    subst (λ (one : List Use). IsDistinct do_clash (flat_map use_of_docket (without_docket (identity_of party) activity state.dockets) ++ (b ++ (one ++ a)))) (sym same) moved
request_agreed state party setting request given before after is taken among dockets parties agreed = agreed
