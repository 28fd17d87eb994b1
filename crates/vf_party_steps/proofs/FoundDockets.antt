-- The docket that a recovery asks for is found in tables by the holders of files: the row of a docket is the one on whose
-- file its own holder stands.
use Rattle.std.proofs.Common.{◌≡◌, ℕ, Bool, true, false, cond, List, [], ◌∷◌, ◌++◌, flat_map, is_some, nat_eq, Option, None, Some, refl, ap, sym, subst, ◌∙◌}
use Rattle.std.specs.Prelude.{IsSome, find}
use Rattle.std.specs.List.{AllByRecursion, IsDistinct}
use Rattle.std.specs.Str.{bytes_eq}
use Rattle.std.proofs.lemmas.Bool.{and_parts, eqb-true}
use Rattle.std.proofs.lemmas.List.{append_assoc}
use Rattle.vf_base.specs.declared.action.Controls.{Controls}
use Rattle.vf_filestore.specs.Changes.{is_same_open}
use Rattle.vf_filestore.specs.Dockets.{docket_left_by}
use Rattle.vf_filestore.specs.History.{Regime, Selection, regime, selection}
use Rattle.vf_filestore.specs.Holders.{held_by_docket, held_by_party}
use Rattle.vf_filestore.specs.Sound.{IsSoundDocket}
use Rattle.vf_filestore.specs.State as states
use Rattle.vf_filestore.specs.State.{State, StandingParty, activity_in, docket_of, is_docket_of}
use Rattle.vf_filestore.specs.Tables.{number_of_open, regime_by, row_in, row_of, staged_of, tables_of}
use Rattle.vf_filestore.specs.Transfers.{under_way}
use Rattle.vf_filestore.proofs.DocketSteps.{IsOtherDocket, others}
use Rattle.vf_filestore.proofs.DocketsMoved.{AreApart, apart, later_other, none_asked}
use Rattle.vf_filestore.proofs.Filed.{same_name}
use Rattle.vf_filestore.proofs.HeldLists.{controls_among}
use Rattle.vf_filestore.proofs.HeldOf.{around_docket, controls_in, controls_on, dockets_off, on_own, parties_no_docket}
use Rattle.vf_filestore.proofs.HeldParty.{docket_at, held_at_docket}
use Rattle.vf_filestore.proofs.Kept.{ordered}
use Rattle.vf_filestore.proofs.Lists.{all_weaker}
use Rattle.vf_filestore.proofs.Meant.{find_at}
use Rattle.vf_filestore.proofs.OrderedRows.{HasRow, placed, pulled, rows_between}
use Rattle.vf_filestore.proofs.Owned.{found_all}
use Rattle.vf_filestore.proofs.Recorded.{rows_apart}
use Rattle.vf_filestore.proofs.Soundness.{opened_some}
use Rattle.vf_filestore.proofs.Unchanged.{open_itself}
use Rattle.vf_locks.specs.Holders.{controls_of}
use Rattle.vf_locks.specs.Table.{held}
use Rattle.vf_locks.specs.declared.held.Held.{Held}
use Rattle.vf_locks.specs.declared.holder.Holder.TheVariants.{Docket}
use Rattle.vf_party_steps.specs.Recoveries.{docket_row, row_held}
use Rattle.vf_party_steps.specs.Steps.{HoldersOfFiles, StandsIn}
use Rattle.vf_pdu_fields.proofs.Plain.{some_is}
use Rattle.vf_tables.specs.Entries as entries
use Rattle.vf_tables.specs.declared.docket.Docket as rows
use Rattle.vf_tables.specs.declared.tables.Tables.{Tables}

-- the row of a docket with this open of this selection
abbrev pub row_by : states.Docket → Regime → Selection → rows.Docket
row_by docket opened one = record {
  regime = regime_by docket (Some opened) one (under_way docket.history);
  staged = staged_of docket.history (under_way docket.history);
}

record Is {A : Type 0} (x : Option A) : Type 0 where
  it : A
  is : x ≡ Some it

there : {A : Type 0} (x : Option A) → IsSome x → Is x
there None some = absurd cc
there (Some a) some = record { it = a; is = refl }

activity_there : (x : Option Regime) (one : Regime) (activity : ℕ) → x ≡ Some one → activity_in x ≡ Some activity → one.activity ≡ Some activity
activity_there x one activity is some = ap activity_in (sym is) ∙ some

-- what is known of a docket that is found with this row
pub record IsFound (state : State) (identity : List ℕ) (activity : ℕ) (row : rows.Docket) : Type 0 where
  pub docket : states.Docket
  pub found : docket_of identity activity state.dockets ≡ Some docket
  pub sound : IsSoundDocket state.files docket
  pub named : docket.identity ≡ identity
  pub numbered : docket.activity ≡ activity
  pub one : Selection
  pub selects : selection docket.history ≡ Some one
  pub opened : Regime
  pub opens : regime docket.history ≡ Some opened
  pub active : opened.activity ≡ Some activity
  pub row_is : row_by docket opened one ≡ row

module _ (tables : Tables) (locks : HoldersOfFiles) (state : State) (party : StandingParty) (stands : StandsIn tables locks state party) (identity : List ℕ) (activity : ℕ) where
  abbrev place : List ℕ → Option Controls
  place file = controls_of (Docket identity activity) (held file locks)

  -- no docket, no holder
  pub row_none : docket_of identity activity state.dockets ≡ None → docket_row tables locks identity activity ≡ None
  row_none none = by (entries.docket_of identity activity tables)
    where
      off : AllByRecursion (λ (docket : states.Docket). is_docket_of identity activity docket ≡ false) state.dockets
      off = none_asked identity activity state.dockets none

      nobody : (file : List ℕ) → place file ≡ None
      nobody file =
          ap (controls_of (Docket identity activity)) (stands.held file)
          ∙ controls_among (Docket identity activity) (flat_map (held_by_party file) state.parties) (flat_map (held_by_docket file) state.dockets) None
          (record { first = parties_no_docket file identity activity state.parties; later = dockets_off file identity activity state.dockets off })

      by : (row : Option rows.Docket) → row_held locks identity activity row ≡ None
      by None = refl
      by (Some row) = λ i. cond (is_some (nobody row.regime.file i)) (Some row) None

  module _ (docket : states.Docket) (found : docket_of identity activity state.dockets ≡ Some docket) where
    pub docket_sound : IsSoundDocket state.files docket
    docket_sound = found_all (IsSoundDocket state.files) (is_docket_of identity activity) state.dockets docket found stands.sound.dockets

    here : is_docket_of identity activity docket ≡ true
    here = found_here state.dockets found
      where
        found_here : (dockets : List states.Docket) → docket_of identity activity dockets ≡ Some docket → is_docket_of identity activity docket ≡ true
        found_here [] found = absurd cc
        found_here (one ∷ dockets) found = by (is_docket_of identity activity one) refl found (found_here dockets)
          where
            by : (b : Bool) → is_docket_of identity activity one ≡ b → cond b (Some one) (docket_of identity activity dockets) ≡ Some docket
                → (docket_of identity activity dockets ≡ Some docket → is_docket_of identity activity docket ≡ true) → is_docket_of identity activity docket ≡ true
            by true is found rest = ap (is_docket_of identity activity) (sym (some_is one docket found)) ∙ is
            by false is found rest = rest found

    pub own_name : docket.identity ≡ identity
    own_name = same_name docket.identity identity (and_parts (bytes_eq docket.identity identity) (nat_eq docket.activity activity) here).0

    pub own_number : docket.activity ≡ activity
    own_number = eqb-true docket.activity activity (and_parts (bytes_eq docket.identity identity) (nat_eq docket.activity activity) here).1

    in_tables : (row : HasRow docket) → entries.docket_of identity activity tables ≡ Some row.row
    in_tables row =
        let at = docket_at state stands.sound identity activity docket found in
        let left = flat_map docket_left_by state.parties in
        let all_was : state.dockets ++ left ≡ at.first ++ docket ∷ (at.later ++ left) = ap (λ (all : List states.Docket). all ++ left) at.is ∙ append_assoc at.first (docket ∷ at.later) left in
        let separate = subst (λ (all : List states.Docket). AreApart state.concluded all) all_was (apart state stands.sound) in
        let off = later_other at.first (at.later ++ left) docket separate.numbers in
        let spot = placed (number_of_open docket) (ordered [] (at.first ++ (at.later ++ left))) in
        let first = flat_map row_of spot.first in
        let later = flat_map row_of spot.later in
        let are : (tables_of state).dockets ≡ first ++ row.row ∷ later
        = ap (λ (all : List states.Docket). flat_map row_of (ordered [] all)) all_was
        ∙ ap (flat_map row_of) (pulled at.first (at.later ++ left) docket off ∙ spot.at docket refl) ∙ rows_between spot.first spot.later docket row in
        let distinct = subst (λ (all : List rows.Docket). IsDistinct is_same_open all) are (rows_apart state stands.sound) in
        let like : (other : rows.Docket) → entries.is_docket identity activity other ≡ is_same_open row.row other
        = λ other i. entries.is_docket (sym (row.identity ∙ own_name) i) (sym (row.activity ∙ own_number) i) other in
        ap (λ (t : Tables). find (entries.is_docket identity activity) t.dockets) (sym stands.kept)
        ∙ ap (find (entries.is_docket identity activity)) are
        ∙ find_at (entries.is_docket identity activity) first row.row later
        (all_weaker (IsOtherDocket row.row) (λ (other : rows.Docket). entries.is_docket identity activity other ≡ false) first (λ other off. like other ∙ off) (others first later row.row distinct))
        (like row.row ∙ open_itself row.row)

    holds : (one : Selection) → selection docket.history ≡ Some one → is_some (place one.file) ≡ true
    holds one selects =
        let at = docket_at state stands.sound identity activity docket found in
        let around = around_docket identity activity state.parties at.first at.later at.off at.off_later in
        ap (λ (helds : List Held). is_some (controls_of (Docket identity activity) helds)) (stands.held one.file ∙ held_at_docket state identity activity docket at one.file)
        ∙ ap is_some (controls_among (Docket identity activity) (around.before one.file) (around.after one.file) (controls_in docket.history one.file) (around.are one.file)
        ∙ ap (controls_on one.file (regime docket.history)) selects ∙ on_own (regime docket.history) one)

    pub row_there : IsSome (docket_row tables locks identity activity)
    row_there =
        let one = there (selection docket.history) docket_sound.selected in
        let open_one = there (regime docket.history) (opened_some (regime docket.history) docket.activity docket_sound.opened) in
        let own = row_by docket open_one.it one.it in
        let has : HasRow docket = record { row = own; is = λ i. row_in docket (open_one.is i) (under_way docket.history) (one.is i); identity = refl; activity = refl } in
        ap (λ (found : Option rows.Docket). is_some (row_held locks identity activity found)) (in_tables has) ∙ (λ i. is_some (cond (holds one.it one.is i) (Some own) None))

    pub row_some : (row : rows.Docket) → docket_row tables locks identity activity ≡ Some row → IsFound state identity activity row
    row_some row asked =
        let one = there (selection docket.history) docket_sound.selected in
        let open_one = there (regime docket.history) (opened_some (regime docket.history) docket.activity docket_sound.opened) in
        let own = row_by docket open_one.it one.it in
        let has : HasRow docket = record { row = own; is = λ i. row_in docket (open_one.is i) (under_way docket.history) (one.is i); identity = refl; activity = refl } in
        let is : docket_row tables locks identity activity ≡ Some own
        = ap (row_held locks identity activity) (in_tables has) ∙ (λ i. cond (holds one.it one.is i) (Some own) None) in
        record {
          docket = docket;
          found = found;
          sound = docket_sound;
          named = own_name;
          numbered = own_number;
          one = one.it;
          selects = one.is;
          opened = open_one.it;
          opens = open_one.is;
          active = activity_there (regime docket.history) open_one.it activity open_one.is (docket_sound.opened ∙ ap Some own_number);
          row_is = some_is own row (sym is ∙ asked);
        }

  -- the row is that of a docket
  pub row_found : (row : rows.Docket) → docket_row tables locks identity activity ≡ Some row → IsFound state identity activity row
  row_found row asked = by (docket_of identity activity state.dockets) refl
    where
      by : (one : Option states.Docket) → docket_of identity activity state.dockets ≡ one → IsFound state identity activity row
      by None none = let never = sym (row_none none) ∙ asked in absurd cc
      by (Some docket) found = row_some docket found row asked
