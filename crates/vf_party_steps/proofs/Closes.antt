-- What changes in what a store keeps once a party's open is closed: where it was recoverable, its docket is gone.
use Rattle.std.proofs.Common.{◌≡◌, ℕ, List, [], ◌∷◌, ◌++◌, Option, None, Some, flat_map, map, refl, ap, sym, subst, ◌∙◌, append-nil}
use Rattle.std.specs.List.{IsDistinct}
use Rattle.vf_filestore.specs.Changes.{delta, is_same_open}
use Rattle.vf_filestore.specs.Dockets.{docket_left_by}
use Rattle.vf_filestore.specs.History.{History, regime}
use Rattle.vf_filestore.specs.Sound.{IsSound}
use Rattle.vf_filestore.specs.State.{Docket, State, StandingParty, activity_in, activity_of, party_of, with_party}
use Rattle.vf_filestore.specs.Tables.{number_of_open, row_of, tables_of}
use Rattle.vf_filestore.proofs.DocketsMoved.{AreApart, all_between, apart, docket_for, later_other, left_is, left_none}
use Rattle.vf_filestore.proofs.Kept.{ordered}
use Rattle.vf_filestore.proofs.Lists.{all_right, flat_map-append}
use Rattle.vf_filestore.proofs.OrderedRows.{IsSelected, has_row, placed, pulled, rows_between}
use Rattle.vf_filestore.proofs.Parties.{located, with_at}
use Rattle.vf_filestore.proofs.Recorded.{rows_apart}
use Rattle.vf_party_steps.proofs.DocketChanges.{dockets_change, drop, row_gone}
use Rattle.vf_party_steps.proofs.Kept.{no_change, none_left, tables_stay, with_history}
use Rattle.vf_party_steps.proofs.Retained.{rows_left}
use Rattle.vf_tables.specs.declared.docket.Docket as entries
use Rattle.vf_tables.specs.declared.tables.Tables.{Tables}

module _ (tables : Tables) (state : State) (party : StandingParty) (history : History) (sound : IsSound state) (kept : tables_of state ≡ tables)
    (found : party_of party.link state.parties ≡ Some party) (closed : regime history ≡ None) where
  abbrev next : StandingParty
  next = with_history history party

  abbrev after : State
  after = record state { parties = with_party next state.parties }

  unrecoverable : activity_of party ≡ None → delta tables (tables_of after) ≡ map drop (rows_left party)
  unrecoverable none =
      let was = none_left party none in
      no_change tables state after sound kept (tables_stay state party history found (none_left next (ap activity_in closed) ∙ sym was))
      ∙ sym (ap (λ (left : List Docket). map drop (flat_map row_of left)) was)

  recoverable : (activity : ℕ) → activity_of party ≡ Some activity → delta tables (tables_of after) ≡ map drop (rows_left party)
  recoverable activity is =
      let at = located party.link state.parties party found in
      let old = docket_for activity party in
      let first = state.dockets ++ flat_map docket_left_by at.before in
      let later = flat_map docket_left_by at.after in
      let now : with_party next state.parties ≡ at.before ++ next ∷ at.after = ap (with_party next) at.is ∙ with_at party.link at.before at.after party next at.absent refl refl in
      let all_was : state.dockets ++ flat_map docket_left_by state.parties ≡ first ++ old ∷ later
      = ap (λ (all : List StandingParty). state.dockets ++ flat_map docket_left_by all) at.is ∙ all_between state.dockets at.before at.after party
      ∙ ap (λ (own : List Docket). first ++ (own ++ later)) (left_is party activity is) in
      let all_is : state.dockets ++ flat_map docket_left_by (with_party next state.parties) ≡ first ++ later
      = ap (λ (all : List StandingParty). state.dockets ++ flat_map docket_left_by all) now ∙ all_between state.dockets at.before at.after next
      ∙ ap (λ (own : List Docket). first ++ (own ++ later)) (left_none next (ap activity_in closed)) in
      let separate = subst (λ (all : List Docket). AreApart state.concluded all) all_was (apart state sound) in
      let spot = placed (number_of_open old) (ordered [] (first ++ later)) in
      let row = has_row old (all_right IsSelected first (old ∷ later) separate.selected).0 in
      let rows_first = flat_map row_of spot.first in
      let rows_later = flat_map row_of spot.later in
      let dockets_was : (tables_of state).dockets ≡ rows_first ++ row.row ∷ rows_later
      = ap (λ (all : List Docket). flat_map row_of (ordered [] all)) all_was
      ∙ ap (flat_map row_of) (pulled first later old (later_other first later old separate.numbers) ∙ spot.at old refl) ∙ rows_between spot.first spot.later old row in
      let dockets_is : (tables_of after).dockets ≡ rows_first ++ rows_later
      = ap (λ (all : List Docket). flat_map row_of (ordered [] all)) all_is ∙ ap (flat_map row_of) spot.is ∙ flat_map-append row_of spot.first spot.later in
      let changed = row_gone rows_first rows_later row.row (subst (λ (rows : List entries.Docket). IsDistinct is_same_open rows) dockets_was (rows_apart state sound)) in
      let left : rows_left party ≡ row.row ∷ [] = ap (flat_map row_of) (left_is party activity is) ∙ append-nil (row_of old) ∙ row.is in
      dockets_change tables state after (rows_first ++ row.row ∷ rows_later) (rows_first ++ rows_later) kept refl dockets_was dockets_is ∙ changed ∙ sym (ap (map drop) left)

  pub docket_closed : delta tables (tables_of after) ≡ map drop (rows_left party)
  docket_closed = by (activity_of party) refl
    where
      by : (activity : Option ℕ) → activity_of party ≡ activity → delta tables (tables_of after) ≡ map drop (rows_left party)
      by None is = unrecoverable is
      by (Some activity) is = recoverable activity is
