-- Open regimes keep numbers of their own with each request that is granted.
use Rattle.std.proofs.Common.{◌≡◌, ℕ, ◌+◌, ◌<◌, ◌≤◌, Bool, true, false, cond, ◌&&◌, ◌||◌, not, List, [], ◌∷◌, ◌++◌, length, find, nat_eq, is_some, Option, None, Some, refl, ap, sym, subst, ◌∙◌, arith}
use Rattle.std.specs.Prelude.{IsSome, count_by, flat_map, nat_le}
use Rattle.std.specs.List.{AllByRecursion, list_any}
use Rattle.std.specs.Str.{bytes_eq}
use Rattle.std.proofs.lemmas.Bool.{and_parts, and_right, leb-false, or_parts}
use Rattle.std.proofs.lemmas.List.Sums.{sum_by-append, sum_by-cons}
use Rattle.vf_attr.specs.declared.file.File.{File}
use Rattle.vf_base.specs.declared.action.Actions.{Actions}
use Rattle.vf_base.specs.declared.contents.Contents.{Contents}
use Rattle.vf_elements.specs.Stages.{takes}
use Rattle.vf_elements.specs.declared.message.Message.{Message}
use Rattle.vf_elements.specs.declared.message.Message.TheVariants as messages
use Rattle.vf_pdu.specs.declared.pdu.Pdu.{Pdu}
use Rattle.vf_pdu.specs.declared.pdu.Pdu.TheVariants.{InitializeRequest, OpenRequest, CloseRequest, RecoverRequest}
use Rattle.vf_pdu_fields.proofs.Plain.{some_is}
use Rattle.vf_pdu_fields.specs.declared.controls.ContentControls.{ContentControls}
use Rattle.vf_tables.specs.Validity.{includes, modes}
use Rattle.vf_filestore.specs.Aborts.{Setting}
use Rattle.vf_filestore.specs.Conclusion.{concluding_entry, dockets_after, history_of, taken_up}
use Rattle.vf_filestore.specs.Decision.{Grants, open_decision, opened_by, opening_rows, request_decision, units_for}
use Rattle.vf_filestore.specs.Controls.{contents_usable, joined}
use Rattle.vf_filestore.specs.Diagnostics.{activity_in_use, contents_mismatch, first_row, not_permitted, outside_constraint_set, row, too_many_dockets}
use Rattle.vf_filestore.specs.Holders.{clash_row, holders}
use Rattle.vf_filestore.specs.History.{Given, Nothing, History, Regime, Selection, association, regime, selection}
use Rattle.vf_filestore.specs.Limits.{most_dockets}
use Rattle.vf_filestore.specs.Opening.{activity_rows, has_activity, is_at, is_in_use, is_mismatch, recoverable_opens}
use Rattle.vf_filestore.specs.Selecting.{rows_on}
use Rattle.vf_filestore.specs.Sound.{AreNumbered, IsNested, IsSoundDocket, Standing, is_recoverable, is_same_activity, standing_by, standing_of_docket, standing_of_party}
use Rattle.vf_filestore.specs.Stage.{regime_stage}
use Rattle.vf_filestore.specs.State.{Docket, State, StandingParty, activity_in, activity_of, docket_of, identity_in, identity_of, is_docket_of, selected_file, units_of, without_docket}
use Rattle.vf_filestore.specs.Units.{unit_row}
use Rattle.vf_filestore.proofs.Broken.{numbered_stays, standings}
use Rattle.vf_filestore.proofs.Decided.{first_passed, later_passed, row_passed, rows_passed}
use Rattle.vf_filestore.proofs.Filed.{names_flip, same_name}
use Rattle.vf_filestore.proofs.Lists.{all-flat_map, all_append, all_both, all_left, all_right, all_weaker, flat_map-append, to_middle}
use Rattle.vf_filestore.proofs.Moving.{gone, recovered}
use Rattle.vf_filestore.proofs.Nested.{nests, placed}
use Rattle.vf_filestore.proofs.Owned.{found_all, placed_request, recovers, within_stage}
use Rattle.vf_filestore.proofs.Parties.{nat_eq_flips}
use Rattle.vf_filestore.proofs.Soundness.{alike_resumed, association_resumed}
use Rattle.vf_filestore.proofs.Standing.{IsOtherOpen, numbered_begun, numbered_more, numbered_permutation}
use Rattle.vf_filestore.proofs.Views.{in_association_only, in_selection_only}

-- ---- none of an identity and activity stands

none_found : {A : Type 0} (test : A → Bool) (xs : List A) → is_some (find test xs) ≡ false → AllByRecursion (λ x. test x ≡ false) xs
none_found test [] is = tt
none_found {A} test (x ∷ xs) is = by (test x) refl is (none_found test xs)
  where
    by : (b : Bool) → test x ≡ b → is_some (cond b (Some x) (find test xs)) ≡ false → (is_some (find test xs) ≡ false → AllByRecursion (λ x. test x ≡ false) xs) → AllByRecursion (λ x. test x ≡ false) (x ∷ xs)
    by true e never rest = absurd cc
    by false e none rest = (e, rest none)

none_any : {A : Type 0} (test : A → Bool) (xs : List A) → list_any test xs ≡ false → AllByRecursion (λ x. test x ≡ false) xs
none_any test [] is = tt
none_any test (x ∷ xs) is = let both = or_parts (test x) (list_any test xs) is in (both.0, none_any test xs both.1)

all_of : {A : Type 0} (P : A → Type 0) (xs : List A) → ((x : A) → P x) → AllByRecursion P xs
all_of P [] f = tt
all_of P (x ∷ xs) f = (f x, all_of P xs f)

docket_other : (files : List File) (identity : List ℕ) (activity number : ℕ) (docket : Docket) → IsSoundDocket files docket → is_docket_of identity activity docket ≡ false
    → AllByRecursion (IsOtherOpen (record { identity = identity; activity = Some activity; number = number })) (standing_of_docket docket)
docket_other files identity activity number docket sound off = by (regime docket.history) sound.opened
  where
    by : (one : Option Regime) → activity_in one ≡ Some docket.activity → AllByRecursion (IsOtherOpen (record { identity = identity; activity = Some activity; number = number })) (standing_by docket.identity one)
    by None opened = tt
    by (Some regime) opened = (
      ap (λ other. bytes_eq identity docket.identity && is_same_activity (Some activity) other) opened
          ∙ (λ i. names_flip identity docket.identity i && nat_eq_flips activity docket.activity i) ∙ off,
      tt,
    )

party_other : (identity : List ℕ) (activity number : ℕ) (party : StandingParty) → is_at identity activity party ≡ false
    → AllByRecursion (IsOtherOpen (record { identity = identity; activity = Some activity; number = number })) (standing_of_party party)
party_other identity activity number party off = by (regime party.history) off
  where
    by : (one : Option Regime) → (bytes_eq (identity_of party) identity && has_activity activity (activity_in one)) ≡ false
        → AllByRecursion (IsOtherOpen (record { identity = identity; activity = Some activity; number = number })) (standing_by (identity_of party) one)
    by None off = tt
    by (Some regime) off = (of regime.activity off, tt)
      where
        of : (one : Option ℕ) → (bytes_eq (identity_of party) identity && has_activity activity one) ≡ false → (bytes_eq identity (identity_of party) && is_same_activity (Some activity) one) ≡ false
        of None off = and_right (bytes_eq identity (identity_of party)) false refl
        of (Some other) off = (λ i. names_flip identity (identity_of party) i && nat_eq_flips activity other i) ∙ off

-- ---- how many are recoverable

abbrev counted : Standing → ℕ
counted one = cond (is_recoverable one) 1 0

count_one : (identity : List ℕ) (one : Option Regime) → count_by is_recoverable (standing_by identity one) ≡ cond (is_some (activity_in one)) 1 0
count_one identity None = refl
count_one identity (Some regime) = omega arith

at_most_one : (b : Bool) → cond b 1 0 ≤ 1
at_most_one true = omega arith
at_most_one false = omega arith

count_dockets : (dockets : List Docket) → count_by is_recoverable (flat_map standing_of_docket dockets) ≤ length dockets
count_dockets [] = omega arith
count_dockets (docket ∷ dockets) =
    let rest = count_dockets dockets in
    let sum : count_by is_recoverable (standing_of_docket docket ++ flat_map standing_of_docket dockets) ≡ count_by is_recoverable (standing_of_docket docket) + count_by is_recoverable (flat_map standing_of_docket dockets)
    = sum_by-append counted (standing_of_docket docket) (flat_map standing_of_docket dockets) in
    let one = count_one docket.identity (regime docket.history) in
    let few = at_most_one (is_some (activity_in (regime docket.history))) in
    omega arith

abbrev has_open : StandingParty → Bool
has_open party = is_some (activity_of party)

count_parties : (parties : List StandingParty) → count_by is_recoverable (flat_map standing_of_party parties) ≤ count_by has_open parties
count_parties [] = omega arith
count_parties (party ∷ parties) =
    let rest = count_parties parties in
    let sum : count_by is_recoverable (standing_of_party party ++ flat_map standing_of_party parties) ≡ count_by is_recoverable (standing_of_party party) + count_by is_recoverable (flat_map standing_of_party parties)
    = sum_by-append counted (standing_of_party party) (flat_map standing_of_party parties) in
    let one = count_one (identity_of party) (regime party.history) in
    let more : count_by has_open (party ∷ parties) ≡ cond (has_open party) 1 0 + count_by has_open parties = sum_by-cons (λ party. cond (has_open party) 1 0) party parties in
    omega arith

count_parted : (d b x a : List Standing) → count_by is_recoverable (d ++ (b ++ a)) ≤ count_by is_recoverable d + count_by is_recoverable (b ++ (x ++ a))
count_parted d b x a =
    let first : count_by is_recoverable (d ++ (b ++ a)) ≡ count_by is_recoverable d + count_by is_recoverable (b ++ a) = sum_by-append counted d (b ++ a) in
    let second : count_by is_recoverable (b ++ a) ≡ count_by is_recoverable b + count_by is_recoverable a = sum_by-append counted b a in
    let third : count_by is_recoverable (b ++ (x ++ a)) ≡ count_by is_recoverable b + count_by is_recoverable (x ++ a) = sum_by-append counted b (x ++ a) in
    let fourth : count_by is_recoverable (x ++ a) ≡ count_by is_recoverable x + count_by is_recoverable a = sum_by-append counted x a in
    omega arith

-- ---- opens

open_passed : (state : State) (party : StandingParty) (mode : Actions) (contents : Option Contents) (controls : Option ContentControls) (activity : Option ℕ) (one : Option Selection) (given : Given)
    → open_decision state party mode contents controls activity one ≡ Grants given → first_row (activity_rows state (identity_of party) activity) ≡ None
open_passed state party mode contents controls activity None given is = absurd cc
open_passed state party mode contents controls activity (Some one) given is =
    let asked = opened_by party one mode contents controls activity in
    let unit = unit_row (units_of party) (units_for activity) in
    let passed = rows_passed (unit ∷ rows_on (selected_file state party.history) (opening_rows state asked)) Nothing given is in
    by (selected_file state party.history) (later_passed unit (rows_on (selected_file state party.history) (opening_rows state asked)) passed.passed)
  where
    by : (found : Option File) → first_row (rows_on found (opening_rows state (opened_by party one mode contents controls activity))) ≡ None → first_row (activity_rows state (identity_of party) activity) ≡ None
    by None rows = absurd cc
    by (Some file) rows =
        let asked = opened_by party one mode contents controls activity in
        let last = activity_rows state (identity_of party) activity in
        let first = row (not (includes asked.selection.requested.value asked.mode.value) || not (contents_usable asked.mode asked.controls)) not_permitted in
        let second = row (is_mismatch asked.contents file.contents) contents_mismatch in
        let third = row (not (includes (modes file.tree.constraint) asked.mode.value)) outside_constraint_set in
        let fourth = clash_row (holders state file.name) asked.link (joined asked.controls asked.selection.controls) in
        later_passed fourth last (later_passed third (fourth ∷ last) (later_passed second (third ∷ fourth ∷ last) (later_passed first (second ∷ third ∷ fourth ∷ last) rows)))

-- what the rows of a recoverable open tell
record IsFree (state : State) (identity : List ℕ) (activity : ℕ) : Type 0 where
  dockets : AllByRecursion (λ docket. is_docket_of identity activity docket ≡ false) state.dockets
  parties : AllByRecursion (λ party. is_at identity activity party ≡ false) state.parties
  room : length state.dockets + recoverable_opens state < most_dockets

free : (state : State) (identity : List ℕ) (activity : ℕ) → first_row (activity_rows state identity (Some activity)) ≡ None → IsFree state identity activity
free state identity activity rows =
    let one = row (is_in_use state identity activity) activity_in_use in
    let two = row (nat_le most_dockets (length state.dockets + recoverable_opens state)) too_many_dockets in
    let used = or_parts (is_some (docket_of identity activity state.dockets)) (list_any (is_at identity activity) state.parties)
    (row_passed (is_in_use state identity activity) activity_in_use (first_passed one (two ∷ []) rows)) in
    let full = row_passed (nat_le most_dockets (length state.dockets + recoverable_opens state)) too_many_dockets (first_passed two [] (later_passed one (two ∷ []) rows)) in
    record {
      dockets = none_found (is_docket_of identity activity) state.dockets used.0;
      parties = none_any (is_at identity activity) state.parties used.1;
      room = leb-false most_dockets (length state.dockets + recoverable_opens state) full;
    }

-- ---- the regimes of a state whose party of a link stands among others
abbrev pub around : State → (before after : List StandingParty) → List Standing → List Standing
around state before after own = flat_map standing_of_docket state.dockets ++ (flat_map standing_of_party before ++ (own ++ flat_map standing_of_party after))

opened_numbered : (state : State) (party : StandingParty) (before after : List StandingParty) (activity : Option ℕ) → state.parties ≡ before ++ party ∷ after
    → AllByRecursion (IsSoundDocket state.files) state.dockets → first_row (activity_rows state (identity_of party) activity) ≡ None
    → AreNumbered state.concluded (around state before after [])
    → AreNumbered (state.concluded + 1) (around state before after (record { identity = identity_of party; activity = activity; number = state.concluded } ∷ []))
opened_numbered state party before after activity is dockets rows numbered =
    numbered_permutation (state.concluded + 1) (new ∷ rest) (around state before after (new ∷ [])) (to_middle d b (new ∷ []) a)
    (numbered_begun state.concluded new rest refl (others activity rows) (few activity rows) numbered)
  where
    new : Standing
    new = record { identity = identity_of party; activity = activity; number = state.concluded }

    d : List Standing
    d = flat_map standing_of_docket state.dockets

    b : List Standing
    b = flat_map standing_of_party before

    a : List Standing
    a = flat_map standing_of_party after

    rest : List Standing
    rest = flat_map standing_of_docket state.dockets ++ (flat_map standing_of_party before ++ flat_map standing_of_party after)

    others : (activity : Option ℕ) → first_row (activity_rows state (identity_of party) activity) ≡ None
        → AllByRecursion (IsOtherOpen (record { identity = identity_of party; activity = activity; number = state.concluded }))
        (flat_map standing_of_docket state.dockets ++ (flat_map standing_of_party before ++ flat_map standing_of_party after))
    others None rows = all_of _ _ (λ other. and_right (bytes_eq (identity_of party) other.identity) false refl)
    others (Some activity) rows =
        let none = free state (identity_of party) activity rows in
        let P : Standing → Type 0 = IsOtherOpen (record { identity = identity_of party; activity = Some activity; number = state.concluded }) in
        let off = subst (λ (all : List StandingParty). AllByRecursion (λ party_one. is_at (identity_of party) activity party_one ≡ false) all) is none.parties in
        let of_party : (one : StandingParty) → is_at (identity_of party) activity one ≡ false → AllByRecursion P (standing_of_party one) = λ one off. party_other (identity_of party) activity state.concluded one off in
        all_append P (flat_map standing_of_docket state.dockets) (flat_map standing_of_party before ++ flat_map standing_of_party after)
        (all-flat_map standing_of_docket P state.dockets
        (all_both (IsSoundDocket state.files) (λ docket. is_docket_of (identity_of party) activity docket ≡ false) (λ docket. AllByRecursion P (standing_of_docket docket)) state.dockets
        (λ docket sound off. docket_other state.files (identity_of party) activity state.concluded docket sound off) dockets none.dockets))
        (all_append P (flat_map standing_of_party before) (flat_map standing_of_party after)
        (all-flat_map standing_of_party P before
        (all_weaker (λ one. is_at (identity_of party) activity one ≡ false) (λ one. AllByRecursion P (standing_of_party one)) before of_party
        (all_left (λ one. is_at (identity_of party) activity one ≡ false) before (party ∷ after) off)))
        (all-flat_map standing_of_party P after
        (all_weaker (λ one. is_at (identity_of party) activity one ≡ false) (λ one. AllByRecursion P (standing_of_party one)) after of_party
        (all_right (λ one. is_at (identity_of party) activity one ≡ false) before (party ∷ after) off).1)))

    few : (activity : Option ℕ) → first_row (activity_rows state (identity_of party) activity) ≡ None
        → count_by is_recoverable (record { identity = identity_of party; activity = activity; number = state.concluded } ∷ (flat_map standing_of_docket state.dockets ++ (flat_map standing_of_party before ++ flat_map standing_of_party after))) ≤ most_dockets
    few None rows =
        let one : Standing = record { identity = identity_of party; activity = None; number = state.concluded } in
        let all = flat_map standing_of_docket state.dockets ++ (flat_map standing_of_party before ++ flat_map standing_of_party after) in
        let sum : count_by is_recoverable (one ∷ all) ≡ 0 + count_by is_recoverable all = sum_by-cons counted one all in
        let was : count_by is_recoverable all ≤ most_dockets = numbered.few in
        omega arith
    few (Some activity) rows =
        let none = free state (identity_of party) activity rows in
        let one : Standing = record { identity = identity_of party; activity = Some activity; number = state.concluded } in
        let all = flat_map standing_of_docket state.dockets ++ (flat_map standing_of_party before ++ flat_map standing_of_party after) in
        let sum : count_by is_recoverable (one ∷ all) ≡ 1 + count_by is_recoverable all = sum_by-cons counted one all in
        let parted = count_parted (flat_map standing_of_docket state.dockets) (flat_map standing_of_party before) (standing_of_party party) (flat_map standing_of_party after) in
        let whole : count_by is_recoverable (flat_map standing_of_party before ++ (standing_of_party party ++ flat_map standing_of_party after)) ≤ recoverable_opens state
        = subst (λ (list : List Standing). count_by is_recoverable list ≤ recoverable_opens state) (ap (flat_map standing_of_party) is ∙ flat_map-append standing_of_party before (party ∷ after)) (count_parties state.parties) in
        let docked = count_dockets state.dockets in
        let room = none.room in
        omega arith

-- ---- recoveries

pub found_test : {A : Type 0} (test : A → Bool) (xs : List A) (x : A) → find test xs ≡ Some x → test x ≡ true
found_test test [] x found = absurd cc
found_test {A} test (first ∷ xs) x found = by (test first) refl found (found_test test xs x)
  where
    by : (b : Bool) → test first ≡ b → cond b (Some first) (find test xs) ≡ Some x → (find test xs ≡ Some x → test x ≡ true) → test x ≡ true
    by true is found rest = ap test (sym (some_is first x found)) ∙ is
    by false is found rest = rest found

-- ---- requests

-- the regime of a party after a message, with what it took up
abbrev pub standing_after : State → StandingParty → Setting → Message → Given → List Standing
standing_after state party setting message given =
    standing_by (identity_in (association (concluding_entry state party setting message given ∷ taken_up state party message)))
    (regime (concluding_entry state party setting message given ∷ taken_up state party message))

abbrev pub around_after : State → StandingParty → Setting → Message → Given → (before after : List StandingParty) → List Standing
around_after state party setting message given before after =
    flat_map standing_of_docket (dockets_after party message state.dockets)
    ++ (flat_map standing_of_party before ++ (standing_after state party setting message given ++ flat_map standing_of_party after))

pub request_numbered : (state : State) (party : StandingParty) (setting : Setting) (request : Pdu) (given : Given) (before after : List StandingParty) → request_decision state party setting request ≡ Grants given
    → takes (regime_stage party.history) (messages.Pdu request) ≡ true → state.parties ≡ before ++ party ∷ after → IsNested party.history → AllByRecursion (IsSoundDocket state.files) state.dockets
    → AreNumbered state.concluded (around state before after (standing_of_party party)) → AreNumbered (state.concluded + 1) (around_after state party setting (messages.Pdu request) given before after)
request_numbered state party setting (InitializeRequest units identity password window) given before after is taken among nested dockets numbered =
    let message = messages.Pdu (InitializeRequest units identity password window) in
    let none : regime party.history ≡ None = no_regime (regime party.history) (nests party.history nested).regimes (placed_request party.history (InitializeRequest units identity password window) taken) in
    let name = identity_in (association (concluding_entry state party setting message given ∷ party.history)) in
    subst (λ (one : Option Regime). AreNumbered (state.concluded + 1) (around state before after (standing_by name one))) (sym none)
    (numbered_more state.concluded (state.concluded + 1) (around state before after []) (omega arith)
    (subst (λ (one : Option Regime). AreNumbered state.concluded (around state before after (standing_by (identity_of party) one))) none numbered))
  where
    no_regime : (one : Option Regime) → (IsSome one → IsSome (selection party.history)) → selection party.history ≡ None → one ≡ None
    no_regime None within none = refl
    no_regime (Some opened) within none = let some : is_some (selection party.history) ≡ true = within refl in let gone = ap is_some none in absurd cc
request_numbered state party setting (OpenRequest mode contents controls activity) given before after is taken among nested dockets numbered =
    let request = OpenRequest mode contents controls activity in
    let there = in_selection_only (messages.Pdu request) (record { reading = refl; shown = refl; writing = refl; written = refl }) refl refl (placed (messages.Pdu request) party.history (placed_request party.history request taken)) in
    let rows = open_passed state party (record { value = mode }) contents controls activity (selection party.history) given is in
    opened_numbered state party before after activity among dockets rows
    (subst (λ (one : Option Regime). AreNumbered state.concluded (around state before after (standing_by (identity_of party) one))) there.no_regime numbered)
request_numbered state party setting CloseRequest given before after is taken among nested dockets numbered =
    numbered_more state.concluded (state.concluded + 1) (around state before after []) (omega arith)
    (gone (AreNumbered state.concluded) (numbered_stays state.concluded) (flat_map standing_of_docket state.dockets) (flat_map standing_of_party before) (standing_of_party party) (flat_map standing_of_party after) numbered)
request_numbered state party setting (RecoverRequest activity number point) given before after is taken among nested dockets numbered =
    let message = messages.Pdu (RecoverRequest activity number point) in
    let facts = recovers state party setting number point (docket_of (identity_of party) activity state.dockets) given is in
    let docket = found_all (IsSoundDocket state.files) (is_docket_of (identity_of party) activity) state.dockets facts.found facts.is dockets in
    let there = in_association_only message (record { reading = refl; shown = refl; writing = refl; written = refl }) refl refl (placed message party.history (within_stage party.history message refl taken)) in
    let own = facts.found.history in
    let whose : facts.found.identity ≡ identity_of party
    = same_name facts.found.identity (identity_of party) (and_parts (bytes_eq facts.found.identity (identity_of party)) (nat_eq facts.found.activity activity)
    (found_test (is_docket_of (identity_of party) activity) state.dockets facts.found facts.is)).0 in
    let took : history_of (docket_of (identity_of party) activity state.dockets) ++ party.history ≡ own ++ party.history = ap (λ (one : Option Docket). history_of one ++ party.history) facts.is in
    let name : identity_in (association (history_of (docket_of (identity_of party) activity state.dockets) ++ party.history)) ≡ facts.found.identity
    = ap (λ (one : History). identity_in (association one)) took ∙ ap identity_in (association_resumed own party.history docket.bare) ∙ sym whose in
    let opened : regime (history_of (docket_of (identity_of party) activity state.dockets) ++ party.history) ≡ regime own
    = ap regime took ∙ (alike_resumed own party.history there.no_selection there.no_regime there.no_transfer).opens in
    let same : standing_by (identity_in (association (history_of (docket_of (identity_of party) activity state.dockets) ++ party.history))) (regime (history_of (docket_of (identity_of party) activity state.dockets) ++ party.history)) ≡ standing_of_docket facts.found
    = λ i. standing_by (name i) (opened i) in
    let d = flat_map standing_of_docket (without_docket (identity_of party) activity state.dockets) in
    let b = flat_map standing_of_party before in
    let a = flat_map standing_of_party after in
    let alone = subst (λ (one : Option Regime). AreNumbered state.concluded (around state before after (standing_by (identity_of party) one))) there.no_regime numbered in
    let moved = recovered (AreNumbered state.concluded) (numbered_stays state.concluded) standings (identity_of party) activity state.dockets facts.found b a facts.is alone in
    numbered_more state.concluded (state.concluded + 1) _ (omega arith)
    (subst (λ (one : List Standing). AreNumbered state.concluded (d ++ (b ++ (one ++ a)))) (sym same) moved)
request_numbered state party setting request given before after is taken among nested dockets numbered =
    numbered_more state.concluded (state.concluded + 1) (around state before after (standing_of_party party)) (omega arith) numbered
