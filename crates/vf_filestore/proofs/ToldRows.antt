-- Each diagnostic that refuses something has its fields in their ranges.
use Rattle.std.proofs.Common.{◌≡◌, ℕ, zero, suc, ◌<◌, ◌≤◌, pos, Bool, true, false, cond, not, ◌&&◌, List, [], ◌∷◌, ◌++◌, find, option_map, Option, None, Some, Result, Ok, Err, refl, arith}
use Rattle.std.specs.Prelude.{IfSome, IsTrue, flat_map, nat_le, nat_lt}
use Rattle.std.specs.List.{AllByRecursion}
use Rattle.std.specs.Option.{option_or}
use Rattle.std.specs.Str.{bytes_eq}
use Rattle.std.proofs.lemmas.Bool.{and_parts, le-leb, leb-true}
use Rattle.std.proofs.lemmas.Bool.Decides.{nat_tests}
use Rattle.vf_attr.specs.declared.errors.AccessError.{AccessError}
use Rattle.vf_attr.specs.declared.errors.AccessError.TheVariants as access_errors
use Rattle.vf_base.specs.declared.action.Action.{Action}
use Rattle.vf_base.specs.declared.action.Action.TheVariants as actions
use Rattle.vf_base.specs.declared.action.Controls.{Controls}
use Rattle.vf_base.specs.declared.diagnostic.Diagnostic.{Diagnostic}
use Rattle.vf_locks.specs.Clash.{against, conflict, first_against, lowest_clash}
use Rattle.vf_locks.specs.Holders.{first_other, is_same, others}
use Rattle.vf_locks.specs.declared.conflict.Conflict.{Conflict}
use Rattle.vf_locks.specs.declared.held.Held.{Held}
use Rattle.vf_locks.specs.declared.holder.Holder.{Holder}
use Rattle.vf_locks.specs.declared.holder.Holder.TheVariants.{Party, Docket}
use Rattle.vf_pdu_fields.specs.Meaning.{fits}
use Rattle.vf_pdu_parameters.specs.Parameters.{diagnostic as diagnostic_form}
use Rattle.vf_pdu_parameters.specs.ParameterSlots.{diagnostic_content}
use Rattle.vf_tables.specs.Fitting.{is_activity}
use Rattle.vf_tables.specs.Validity.{includes}
use Rattle.vf_tables.specs.declared.limits.TheConstants.{MOST_ACTIVITY}
use Rattle.vf_tree.specs.Actions.{Outcome}
use Rattle.vf_tree.specs.TreeRefusal.{TreeRefusal, Outside, NotFound, BadContext}
use Rattle.vf_filestore.specs.Diagnostics.{Row, first_row, plain, row}
use Rattle.vf_filestore.specs.History.{Regime, Selection, regime, selection}
use Rattle.vf_filestore.specs.Holders.{alone_row, clash_row, conflict_with, controls_by, held_by, held_by_docket, held_by_party, holders}
use Rattle.vf_filestore.specs.Opening.{act_row, tree_diagnostic}
use Rattle.vf_filestore.specs.Sayable.{IsLink}
use Rattle.vf_filestore.specs.Selecting.{access_row}
use Rattle.vf_filestore.specs.State as states
use Rattle.vf_filestore.specs.State.{State, StandingParty}
use Rattle.vf_filestore.specs.Units.{unit_row}
use Rattle.vf_filestore.proofs.HeldLists.{all_ordered}
use Rattle.vf_filestore.proofs.Leading.{both}
use Rattle.vf_filestore.proofs.Lists.{all-filter, all-flat_map, all_append, all_weaker}

-- ---- diagnostics

abbrev pub IsToldBy : Diagnostic → Type 0
IsToldBy diagnostic = IsTrue (fits diagnostic_form (diagnostic_content diagnostic))

abbrev pub IsRow : Row → Type 0
IsRow row = IfSome row IsToldBy

abbrev pub AreRows : List Row → Type 0
AreRows = AllByRecursion IsRow

-- a number that a diagnostic may have
pub record IsNumber (number : ℕ) : Type 0 where
  pub least : 0 < number
  pub most : number ≤ 65535

pub number_told : (diagnostic : Diagnostic) → IsToldBy diagnostic → IsNumber diagnostic.number
number_told diagnostic told =
    let n = diagnostic.number in
    let range = (and_parts (nat_le 1 n && nat_le n 65535) _ told).0 in
    let parts = and_parts (nat_le 1 n) (nat_le n 65535) range in
    let least : 1 ≤ n = leb-true 1 n parts.0 in
    record { least = omega (arith, least); most = leb-true n 65535 parts.1 }

-- with two more numbers of 64 bits
abbrev long : ℕ → Bool
long n = nat_lt n 9223372036854775808

pub told_of : (n first second : ℕ) → IsNumber n → first < 9223372036854775808 → second < 9223372036854775808 → IsToldBy (record { number = n; first = pos first; second = pos second })
told_of n first second is one other =
    let least : nat_le 1 n ≡ true = le-leb 1 n (omega (arith, is.least)) in
    let most : nat_le n 65535 ≡ true = le-leb n 65535 is.most in
    let one_long : long first ≡ true = grind (arith, nat_tests) in
    let other_long : long second ≡ true = grind (arith, nat_tests) in
    both (nat_le 1 n && nat_le n 65535) (long first && (long second && true)) (both (nat_le 1 n) (nat_le n 65535) least most) (both (long first) (long second && true) one_long (both (long second) true other_long refl))

pub plain_told : (n : ℕ) → IsNumber n → IsToldBy (plain n)
plain_told n is = told_of n 0 0 is (omega arith) (omega arith)

-- ---- rows

pub first_told : (rows : List Row) → AreRows rows → IsRow (first_row rows)
first_told [] told = tt
first_told (None ∷ rows) told = first_told rows told.1
first_told (Some diagnostic ∷ rows) told = told.0

pub row_told : (applies : Bool) (n : ℕ) → IsToldBy (plain n) → IsRow (row applies n)
row_told true n told = told
row_told false n told = tt

pub unit_told : (units needed : ℕ) → IsRow (unit_row units needed)
unit_told units needed = by (includes units needed)
  where
    by : (b : Bool) → IsRow (cond b None (Some (plain 33)))
    by true = tt
    by false = refl

pub access_told : (answer : Result (Unit {0}) AccessError) → IsRow (access_row answer)
access_told (Ok done) = tt
access_told (Err access_errors.NotPermitted) = refl
access_told (Err access_errors.Denied) = refl
access_told (Err access_errors.BadPassword) = refl

pub tree_told : (refusal : TreeRefusal) → IsToldBy (tree_diagnostic refusal)
tree_told Outside = refl
tree_told NotFound = refl
tree_told BadContext = refl

pub act_told : (answer : Result Outcome TreeRefusal) → IsRow (act_row answer)
act_told (Ok outcome) = tt
act_told (Err refusal) = tree_told refusal

-- ---- holders

-- a holder's number has 64 bits with its sign
abbrev pub IsNumbered : Holder → Type 0
IsNumbered (Party link) = IsLink link
IsNumbered (Docket identity activity) = is_activity activity ≡ true

abbrev IsNumberedHeld : Held → Type 0
IsNumberedHeld held = IsNumbered held.holder

party_told : (action : Action) (link : ℕ) → IsLink link → IsToldBy (conflict_with action (Party link))
party_told action link is = by action
  where
    number : IsNumber 16
    number = record { least = omega arith; most = omega arith }

    second : link < 9223372036854775808
    second = omega (arith, is)

    by : (action : Action) → IsToldBy (conflict_with action (Party link))
    by actions.Read = told_of 16 0 link number (omega arith) second
    by actions.Insert = told_of 16 1 link number (omega arith) second
    by actions.Replace = told_of 16 2 link number (omega arith) second
    by actions.Extend = told_of 16 3 link number (omega arith) second
    by actions.Erase = told_of 16 4 link number (omega arith) second
    by actions.ReadAttribute = told_of 16 5 link number (omega arith) second
    by actions.ChangeAttribute = told_of 16 6 link number (omega arith) second
    by actions.Delete = told_of 16 7 link number (omega arith) second

docket_told : (action : Action) (identity : List ℕ) (activity : ℕ) → is_activity activity ≡ true → IsToldBy (conflict_with action (Docket identity activity))
docket_told action identity zero is = absurd cc
docket_told action identity (suc n) is = by action
  where
    few : suc n ≤ MOST_ACTIVITY
    few = leb-true (suc n) MOST_ACTIVITY (and_parts (nat_le 1 (suc n)) (nat_le (suc n) MOST_ACTIVITY) is).1

    second : (long n && true) ≡ true
    second = both (long n) true (grind (arith, nat_tests, few)) refl

    by : (action : Action) → IsToldBy (conflict_with action (Docket identity (suc n)))
    by actions.Read = second
    by actions.Insert = second
    by actions.Replace = second
    by actions.Extend = second
    by actions.Erase = second
    by actions.ReadAttribute = second
    by actions.ChangeAttribute = second
    by actions.Delete = second

holder_told : (action : Action) (holder : Holder) → IsNumbered holder → IsToldBy (conflict_with action holder)
holder_told action (Party link) is = party_told action link is
holder_told action (Docket identity activity) is = docket_told action identity activity is

against_told : (held : Held) (action : Option Action) → IsNumberedHeld held → IfSome (against held action) (λ (found : Conflict). IsNumbered found.holder)
against_told held None is = tt
against_told held (Some action) is = is

first_numbered : (wanted : Controls) (helds : List Held) → AllByRecursion IsNumberedHeld helds → IfSome (first_against wanted helds) (λ (found : Conflict). IsNumbered found.holder)
first_numbered wanted [] are = tt
first_numbered wanted (held ∷ later) are = by (against held (lowest_clash wanted held.controls)) (against_told held (lowest_clash wanted held.controls) are.0) (first_numbered wanted later are.1)
  where
    by : (one : Option Conflict) → IfSome one (λ (found : Conflict). IsNumbered found.holder) → IfSome (first_against wanted later) (λ (found : Conflict). IsNumbered found.holder)
        → IfSome (option_or one (first_against wanted later)) (λ (found : Conflict). IsNumbered found.holder)
    by None is rest = rest
    by (Some found) is rest = is

pub clash_told : (helds : List Held) (link : ℕ) (wanted : Controls) → AllByRecursion IsNumberedHeld helds → IsRow (clash_row helds link wanted)
clash_told helds link wanted are =
    by (conflict (Party link) wanted helds) (first_numbered wanted (others (Party link) helds) (all-filter IsNumberedHeld (λ (held : Held). not (is_same held.holder (Party link))) helds are))
  where
    by : (one : Option Conflict) → IfSome one (λ (found : Conflict). IsNumbered found.holder) → IsRow (option_map (λ (found : Conflict). conflict_with found.action found.holder) one)
    by None is = tt
    by (Some found) is = holder_told found.action found.holder is

found_numbered : (test : Held → Bool) (helds : List Held) → AllByRecursion IsNumberedHeld helds → IfSome (option_map (λ (held : Held). held.holder) (find test helds)) IsNumbered
found_numbered test [] are = tt
found_numbered test (held ∷ later) are = by (test held) (found_numbered test later are.1)
  where
    by : (b : Bool) → IfSome (option_map (λ (held : Held). held.holder) (find test later)) IsNumbered → IfSome (option_map (λ (held : Held). held.holder) (cond b (Some held) (find test later))) IsNumbered
    by true rest = are.0
    by false rest = rest

pub alone_told : (helds : List Held) (link : ℕ) (action : Action) → AllByRecursion IsNumberedHeld helds → IsRow (alone_row helds link action)
alone_told helds link action are =
    by (first_other (Party link) helds) (found_numbered (λ (held : Held). not (is_same held.holder (Party link))) helds are)
  where
    by : (one : Option Holder) → IfSome one IsNumbered → IsRow (option_map (conflict_with action) one)
    by None is = tt
    by (Some holder) is = holder_told action holder is

held_numbered : (file : List ℕ) (holder : Holder) (opened : Option Regime) (one : Option Selection) → IsNumbered holder → AllByRecursion IsNumberedHeld (held_by file holder opened one)
held_numbered file holder opened None is = tt
held_numbered file holder opened (Some one) is = by (bytes_eq one.file file)
  where
    by : (b : Bool) → AllByRecursion IsNumberedHeld (cond b (record { holder = holder; controls = controls_by one opened } ∷ []) [])
    by true = (is, tt)
    by false = tt

pub holders_numbered : (state : State) (file : List ℕ) → AllByRecursion (λ (party : StandingParty). IsLink party.link) state.parties → AllByRecursion (λ (docket : states.Docket). is_activity docket.activity ≡ true) state.dockets
    → AllByRecursion IsNumberedHeld (holders state file)
holders_numbered state file links activities =
    all_ordered IsNumberedHeld (flat_map (held_by_party file) state.parties ++ flat_map (held_by_docket file) state.dockets)
    (all_append IsNumberedHeld (flat_map (held_by_party file) state.parties) (flat_map (held_by_docket file) state.dockets)
    (all-flat_map (held_by_party file) IsNumberedHeld state.parties
    (all_weaker (λ (party : StandingParty). IsLink party.link) (λ (party : StandingParty). AllByRecursion IsNumberedHeld (held_by_party file party)) state.parties
    (λ party is. held_numbered file (Party party.link) (regime party.history) (selection party.history) is) links))
    (all-flat_map (held_by_docket file) IsNumberedHeld state.dockets
    (all_weaker (λ (docket : states.Docket). is_activity docket.activity ≡ true) (λ (docket : states.Docket). AllByRecursion IsNumberedHeld (held_by_docket file docket)) state.dockets
    (λ docket is. held_numbered file (Docket docket.identity docket.activity) (regime docket.history) (selection docket.history) is) activities)))
