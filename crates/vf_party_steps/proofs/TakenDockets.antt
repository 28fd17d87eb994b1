-- What a party changes that takes up a docket: the docket's row becomes that of the open that stands, and the party holds
-- the file in its place.
use Rattle.std.proofs.Common.{◌≡◌, ℕ, ◌+◌, false, nat_eq, List, [], ◌∷◌, ◌++◌, flat_map, None, Some, is_some, refl, ap, sym, subst, ◌∙◌, append-nil}
use Rattle.std.specs.List.{AllByRecursion, IsDistinct}
use Rattle.std.proofs.lemmas.List.{append_assoc}
use Rattle.vf_filestore.specs.Changes.{all_piece_changes, delta, docket_changes, is_same_open}
use Rattle.vf_filestore.specs.Dockets.{docket_left_by}
use Rattle.vf_filestore.specs.History.{History, association, regime}
use Rattle.vf_filestore.specs.Sound.{IsNested, IsSound}
use Rattle.vf_filestore.specs.State.{Docket, State, StandingParty, activity_in, activity_of, docket_of, identity_in, identity_of, party_of, with_party, without_docket}
use Rattle.vf_filestore.specs.Tables.{number_in, number_of_open, row_of, tables_of, in_order}
use Rattle.vf_filestore.proofs.DocketsMoved.{AreApart, all_between, apart, docket_for, later_other, left_is}
use Rattle.vf_filestore.proofs.HeldParty.{docket_at}
use Rattle.vf_filestore.proofs.Kept.{IsOtherNumber, left_number, ordered}
use Rattle.vf_filestore.proofs.Lists.{all_right, flat_map-append}
use Rattle.vf_filestore.proofs.Nested.{nests}
use Rattle.vf_filestore.proofs.OrderedRows.{HasRow, has_row, placed, pulled, rows_between}
use Rattle.vf_filestore.proofs.Parties.{located, with_at}
use Rattle.vf_filestore.proofs.Recorded.{rows_apart}
use Rattle.vf_filestore.proofs.Soundness.{opened_some, retains}
use Rattle.vf_filestore.proofs.Unchanged.{files_themselves}
use Rattle.vf_party_steps.specs.Dockets.{own_changes}
use Rattle.vf_party_steps.proofs.Kept.{none_left, with_history}
use Rattle.vf_party_steps.proofs.OwnDockets.{row_changed}
use Rattle.vf_party_steps.proofs.Retained.{rows_left}
use Rattle.vf_tables.specs.declared.docket.Docket as rows
use Rattle.vf_tables.specs.declared.tables.Tables.{Tables}

module _ (tables : Tables) (state : State) (party : StandingParty) (activity : ℕ) (docket : Docket) (history : History) (sound : IsSound state) (kept : tables_of state ≡ tables)
    (standing : party_of party.link state.parties ≡ Some party) (found : docket_of (identity_of party) activity state.dockets ≡ Some docket)
    (named : docket.identity ≡ identity_of party) (numbered : docket.activity ≡ activity) (row : HasRow docket) (idle : regime party.history ≡ None)
    (opened : regime history ≡ regime docket.history) (active : activity_in (regime docket.history) ≡ Some activity) (associated : association history ≡ association party.history) (nested : IsNested history) where
  abbrev next : StandingParty
  next = with_history history party

  abbrev after : State
  after = record state {
    parties = with_party next state.parties;
    dockets = without_docket (identity_of party) activity state.dockets;
    concluded = state.concluded + 1;
  }

  pub docket_taken : delta tables (tables_of after) ≡ own_changes (row.row ∷ []) (rows_left next)
  docket_taken =
      let at = docket_at state sound (identity_of party) activity docket found in
      let spot_of = located party.link state.parties party standing in
      let left = flat_map docket_left_by spot_of.before in
      let last = flat_map docket_left_by spot_of.after in
      let rest = at.later ++ (left ++ last) in
      let active_after : activity_of next ≡ Some activity = ap activity_in opened ∙ active in
      let new = docket_for activity next in
      let now : with_party next state.parties ≡ spot_of.before ++ next ∷ spot_of.after = ap (with_party next) spot_of.is ∙ with_at party.link spot_of.before spot_of.after party next spot_of.absent refl refl in
      let all_was : state.dockets ++ flat_map docket_left_by state.parties ≡ at.first ++ docket ∷ rest
      = (λ i. at.is i ++ flat_map docket_left_by (spot_of.is i))
      ∙ ap (λ (more : List Docket). (at.first ++ docket ∷ at.later) ++ more) (flat_map-append docket_left_by spot_of.before (party ∷ spot_of.after)
      ∙ ap (λ (own : List Docket). left ++ (own ++ last)) (none_left party (ap activity_in idle)))
      ∙ append_assoc at.first (docket ∷ at.later) (left ++ last) in
      let first_is = (at.first ++ at.later) ++ left in
      let all_is : without_docket (identity_of party) activity state.dockets ++ flat_map docket_left_by (with_party next state.parties) ≡ first_is ++ new ∷ last
      = ap (λ (all : List StandingParty). without_docket (identity_of party) activity state.dockets ++ flat_map docket_left_by all) now
      ∙ all_between (without_docket (identity_of party) activity state.dockets) spot_of.before spot_of.after next
      ∙ (λ i. (at.without i ++ left) ++ (left_is next activity active_after i ++ last)) in
      let others_same : first_is ++ last ≡ at.first ++ rest = append_assoc (at.first ++ at.later) left last ∙ append_assoc at.first at.later (left ++ last) in
      let separate = subst (λ (all : List Docket). AreApart state.concluded all) all_was (apart state sound) in
      let number : number_of_open new ≡ number_of_open docket = left_number next activity nested ∙ ap number_in opened in
      let off = later_other at.first rest docket separate.numbers in
      let P : Docket → Type 0 = IsOtherNumber docket in
      let off_last : AllByRecursion (IsOtherNumber docket) last = all_right P left last (all_right P at.later (left ++ last) off) in
      let off_new : AllByRecursion (IsOtherNumber new) last = subst (λ (n : ℕ). AllByRecursion (λ (other : Docket). nat_eq (number_of_open other) n ≡ false) last) (sym number) off_last in
      let spot = placed (number_of_open docket) (ordered [] (at.first ++ rest)) in
      let row_new = has_row new (ap is_some (retains history nested).selects ∙ (nests history nested).regimes (opened_some (regime history) activity active_after)) in
      let rows_first = flat_map row_of spot.first in
      let rows_later = flat_map row_of spot.later in
      let dockets_was : (tables_of state).dockets ≡ rows_first ++ row.row ∷ rows_later
      = ap (λ (all : List Docket). flat_map row_of (ordered [] all)) all_was ∙ ap (flat_map row_of) (pulled at.first rest docket off ∙ spot.at docket refl) ∙ rows_between spot.first spot.later docket row in
      let dockets_is : (tables_of after).dockets ≡ rows_first ++ row_new.row ∷ rows_later
      = ap (λ (all : List Docket). flat_map row_of (ordered [] all)) all_is
      ∙ ap (flat_map row_of) (pulled first_is last new off_new ∙ ap (λ (all : List Docket). in_order new (ordered [] all)) others_same ∙ spot.at new number) ∙ rows_between spot.first spot.later new row_new in
      let changed = row_changed rows_first rows_later row.row row_new.row (subst (λ (rows : List rows.Docket). IsDistinct is_same_open rows) dockets_was (rows_apart state sound))
      (row_new.identity ∙ ap identity_in associated ∙ sym named ∙ sym row.identity) (row_new.activity ∙ sym numbered ∙ sym row.activity) in
      let left_now : rows_left next ≡ row_new.row ∷ [] = ap (flat_map row_of) (left_is next activity active_after) ∙ append-nil (row_of new) ∙ row_new.is in
      ap (λ (t : Tables). delta t (tables_of after)) (sym kept)
      ∙ (λ i. files_themselves state.files i ++ (docket_changes (dockets_was i) (dockets_is i) ++ all_piece_changes (dockets_was i) (dockets_is i)))
      ∙ changed ∙ ap (own_changes (row.row ∷ [])) (sym left_now)
