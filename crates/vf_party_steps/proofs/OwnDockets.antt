-- What a message changes in what a store keeps, of an open that stands before it and after it: files, and where the open
-- is recoverable its docket.
use Rattle.std.proofs.Common.{◌≡◌, ℕ, true, false, nat_eq, List, [], ◌∷◌, ◌++◌, flat_map, Option, None, Some, is_some, refl, ap, sym, subst, ◌∙◌, append-nil}
use Rattle.std.specs.List.{AllByRecursion, IsDistinct}
use Rattle.vf_attr.specs.declared.file.File.{File}
use Rattle.vf_filestore.specs.Changes.{all_piece_changes, delta, file_changes, is_same_open}
use Rattle.vf_filestore.specs.Changes.{docket_changes as all_docket_changes}
use Rattle.vf_filestore.specs.Dockets.{docket_left_by}
use Rattle.vf_filestore.specs.History.{History, association, regime}
use Rattle.vf_filestore.specs.Sound.{IsNested, IsSound}
use Rattle.vf_filestore.specs.State.{Docket, State, StandingParty, activity_in, activity_of, identity_in, party_of, with_party}
use Rattle.vf_filestore.specs.Tables.{number_in, number_of_open, row_of, tables_of}
use Rattle.vf_filestore.proofs.Decisions.{party_sound}
use Rattle.vf_filestore.proofs.DocketSteps.{IsOtherDocket, all_pieces, changes_changed, others, skip}
use Rattle.vf_filestore.proofs.DocketsMoved.{AreApart, all_between, apart, docket_for, later_other, left_is}
use Rattle.vf_filestore.proofs.Kept.{IsOtherNumber, left_number, ordered}
use Rattle.vf_filestore.proofs.Lists.{all_left, all_right, all_weaker}
use Rattle.vf_filestore.proofs.Meant.{find_at}
use Rattle.vf_filestore.proofs.Nested.{nests}
use Rattle.vf_filestore.proofs.OrderedRows.{IsSelected, has_row, placed, pulled, rows_between}
use Rattle.vf_filestore.proofs.Parties.{located, with_at}
use Rattle.vf_filestore.proofs.Recorded.{rows_apart}
use Rattle.vf_filestore.proofs.Soundness.{opened_some, retains}
use Rattle.vf_filestore.proofs.Unchanged.{IsFoundIn, all_found, open_flips, open_itself}
use Rattle.vf_party_steps.specs.Dockets.{own_changes}
use Rattle.vf_party_steps.proofs.Kept.{files_change, none_left, tables_filed, with_history}
use Rattle.vf_party_steps.proofs.Retained.{rows_left}
use Rattle.vf_tables.specs.Entries.{is_docket}
use Rattle.vf_tables.specs.declared.change.Change.{Change}
use Rattle.vf_tables.specs.declared.docket.Docket as rows
use Rattle.vf_tables.specs.declared.tables.Tables.{Tables}

-- one row of others is another of the same open
pub row_changed : (first later : List rows.Docket) (old new : rows.Docket) → IsDistinct is_same_open (first ++ old ∷ later)
    → new.regime.identity ≡ old.regime.identity → new.regime.activity ≡ old.regime.activity
    → all_docket_changes (first ++ old ∷ later) (first ++ new ∷ later) ++ all_piece_changes (first ++ old ∷ later) (first ++ new ∷ later) ≡ own_changes (old ∷ []) (new ∷ [])
row_changed first later old new distinct identity activity =
    let all = first ++ old ∷ later in
    let found = all_found all distinct in
    let like : (other : rows.Docket) → is_same_open new other ≡ is_same_open old other = λ other i. is_docket (identity i) (activity i) other in
    let here : is_same_open new old ≡ true = like old ∙ open_itself old in
    let off = all_weaker (IsOtherDocket old) (IsOtherDocket new) first (λ other off. like other ∙ off) (others first later old distinct) in
    λ i. (skip first (old ∷ later) (new ∷ later) ∙ changes_changed old new later (open_flips old new ∙ here)) i
    ++ all_pieces all first later new (Some old) (all_left (IsFoundIn all) first (old ∷ later) found) (all_right (IsFoundIn all) first (old ∷ later) found).1 (find_at (is_same_open new) first old later off here) i

module _ (tables : Tables) (state : State) (party : StandingParty) (history : History) (files : List File) (sound : IsSound state) (kept : tables_of state ≡ tables)
    (found : party_of party.link state.parties ≡ Some party) (opened : regime history ≡ regime party.history) (associated : association history ≡ association party.history) (nested : IsNested history) where
  abbrev next : StandingParty
  next = with_history history party

  abbrev after : State
  after = record state { files = files; parties = with_party next state.parties }

  unrecoverable : activity_of party ≡ None → delta tables (tables_of after) ≡ file_changes tables.files files ++ own_changes (rows_left party) (rows_left next)
  unrecoverable none =
      let was = none_left party none in
      let is = none_left next (ap activity_in opened ∙ none) in
      files_change tables state after files sound kept (tables_filed state party history files found (is ∙ sym was))
      ∙ sym (append-nil (file_changes tables.files files))
      ∙ (λ i. file_changes tables.files files ++ own_changes (flat_map row_of (sym was i)) (flat_map row_of (sym is i)))

  recoverable : (activity : ℕ) → activity_of party ≡ Some activity → delta tables (tables_of after) ≡ file_changes tables.files files ++ own_changes (rows_left party) (rows_left next)
  recoverable activity is =
      let at = located party.link state.parties party found in
      let nested_before = (party_sound state party.link party sound found).sound.nested in
      let opened_after : activity_of next ≡ Some activity = ap activity_in opened ∙ is in
      let old = docket_for activity party in
      let new = docket_for activity next in
      let first = state.dockets ++ flat_map docket_left_by at.before in
      let last = flat_map docket_left_by at.after in
      let now : with_party next state.parties ≡ at.before ++ next ∷ at.after = ap (with_party next) at.is ∙ with_at party.link at.before at.after party next at.absent refl refl in
      let all_was : state.dockets ++ flat_map docket_left_by state.parties ≡ first ++ old ∷ last
      = ap (λ (all : List StandingParty). state.dockets ++ flat_map docket_left_by all) at.is ∙ all_between state.dockets at.before at.after party
      ∙ ap (λ (own : List Docket). first ++ (own ++ last)) (left_is party activity is) in
      let all_is : state.dockets ++ flat_map docket_left_by (with_party next state.parties) ≡ first ++ new ∷ last
      = ap (λ (all : List StandingParty). state.dockets ++ flat_map docket_left_by all) now ∙ all_between state.dockets at.before at.after next
      ∙ ap (λ (own : List Docket). first ++ (own ++ last)) (left_is next activity opened_after) in
      let separate = subst (λ (all : List Docket). AreApart state.concluded all) all_was (apart state sound) in
      let number : number_of_open new ≡ number_of_open old = left_number next activity nested ∙ ap number_in opened ∙ sym (left_number party activity nested_before) in
      let off = later_other first last old separate.numbers in
      let off_new : AllByRecursion (IsOtherNumber new) last = subst (λ (n : ℕ). AllByRecursion (λ (other : Docket). nat_eq (number_of_open other) n ≡ false) last) (sym number) off in
      let spot = placed (number_of_open old) (ordered [] (first ++ last)) in
      let row_old = has_row old (all_right IsSelected first (old ∷ last) separate.selected).0 in
      let row_new = has_row new (ap is_some (retains history nested).selects ∙ (nests history nested).regimes (opened_some (regime history) activity opened_after)) in
      let rows_first = flat_map row_of spot.first in
      let rows_later = flat_map row_of spot.later in
      let dockets_was : (tables_of state).dockets ≡ rows_first ++ row_old.row ∷ rows_later
      = ap (λ (all : List Docket). flat_map row_of (ordered [] all)) all_was ∙ ap (flat_map row_of) (pulled first last old off ∙ spot.at old refl) ∙ rows_between spot.first spot.later old row_old in
      let dockets_is : (tables_of after).dockets ≡ rows_first ++ row_new.row ∷ rows_later
      = ap (λ (all : List Docket). flat_map row_of (ordered [] all)) all_is ∙ ap (flat_map row_of) (pulled first last new off_new ∙ spot.at new number) ∙ rows_between spot.first spot.later new row_new in
      let changed = row_changed rows_first rows_later row_old.row row_new.row (subst (λ (rows : List rows.Docket). IsDistinct is_same_open rows) dockets_was (rows_apart state sound))
      (row_new.identity ∙ ap identity_in associated ∙ sym row_old.identity) (row_new.activity ∙ sym row_old.activity) in
      let left_was : rows_left party ≡ row_old.row ∷ [] = ap (flat_map row_of) (left_is party activity is) ∙ append-nil (row_of old) ∙ row_old.is in
      let left_is_now : rows_left next ≡ row_new.row ∷ [] = ap (flat_map row_of) (left_is next activity opened_after) ∙ append-nil (row_of new) ∙ row_new.is in
      ap (λ (t : Tables). delta t (tables_of after)) (sym kept)
      ∙ (λ i. file_changes state.files files ++ (all_docket_changes (dockets_was i) (dockets_is i) ++ all_piece_changes (dockets_was i) (dockets_is i)))
      ∙ ap (λ (changes : List Change). file_changes state.files files ++ changes) changed
      ∙ (λ i. file_changes (kept i).files files ++ own_changes (sym left_was i) (sym left_is_now i))

  pub docket_moved : delta tables (tables_of after) ≡ file_changes tables.files files ++ own_changes (rows_left party) (rows_left next)
  docket_moved = by (activity_of party) refl
    where
      by : (activity : Option ℕ) → activity_of party ≡ activity → delta tables (tables_of after) ≡ file_changes tables.files files ++ own_changes (rows_left party) (rows_left next)
      by None is = unrecoverable is
      by (Some activity) is = recoverable activity is
