-- What changes in what a store keeps once a party has an open that had none, of the highest number: where it is recoverable,
-- a docket stands after the others.
use Rattle.std.proofs.Common.{◌≡◌, ℕ, ◌+◌, ◌<◌, true, List, [], ◌∷◌, ◌++◌, Option, None, Some, flat_map, is_some, map, refl, ap, sym, subst, ◌∙◌, append-nil}
use Rattle.std.specs.List.{AllByRecursion, IsDistinct}
use Rattle.vf_elements.specs.Stages.{takes}
use Rattle.vf_elements.specs.declared.message.Message.TheVariants as messages
use Rattle.vf_pdu.specs.declared.pdu.Pdu.{Pdu}
use Rattle.vf_filestore.specs.Aborts.{Setting}
use Rattle.vf_filestore.specs.Changes.{delta, is_same_open}
use Rattle.vf_filestore.specs.Decision.{Grants, request_decision}
use Rattle.vf_filestore.specs.Dockets.{docket_left_by}
use Rattle.vf_filestore.specs.History.{Given, History, regime}
use Rattle.vf_filestore.specs.HoldersAfter.{concluded_by}
use Rattle.vf_filestore.specs.Sound.{IsNested, IsSound}
use Rattle.vf_filestore.specs.Stage.{regime_stage}
use Rattle.vf_filestore.specs.State.{Docket, State, StandingParty, activity_in, activity_of, party_of, with_party}
use Rattle.vf_filestore.specs.Tables.{number_in, number_of_open, row_of, tables_of}
use Rattle.vf_filestore.proofs.Concluded.{concluded_sound, granting_request}
use Rattle.vf_filestore.proofs.Decisions.{party_sound, put_again}
use Rattle.vf_filestore.proofs.DocketSteps.{others}
use Rattle.vf_filestore.proofs.DocketsMoved.{AreApart, all_between, apart, docket_for, later_other, left_is, left_none}
use Rattle.vf_filestore.proofs.Kept.{left_number, ordered}
use Rattle.vf_filestore.proofs.Nested.{nests}
use Rattle.vf_filestore.proofs.OrderedRows.{all_ordered, has_row, last_in_order, pulled, rows_between}
use Rattle.vf_filestore.proofs.Owned.{AsksCheck}
use Rattle.vf_filestore.proofs.Parties.{located, with_at}
use Rattle.vf_filestore.proofs.Recorded.{rows_apart}
use Rattle.vf_filestore.proofs.Soundness.{opened_some, retains}
use Rattle.vf_party_steps.proofs.DocketChanges.{IsBare, dockets_change, put, row_added}
use Rattle.vf_party_steps.proofs.Kept.{no_change, none_left, tables_stay, with_history}
use Rattle.vf_party_steps.proofs.Retained.{rows_left}
use Rattle.vf_tables.specs.declared.docket.Docket as entries
use Rattle.vf_tables.specs.declared.tables.Tables.{Tables}

-- the state stays sound with a request that is granted
pub sound_then : (state : State) (party : StandingParty) (setting : Setting) (request : Pdu) (given : Given) → IsSound state → party_of party.link state.parties ≡ Some party
    → takes (regime_stage party.history) (messages.Pdu request) ≡ true → request_decision state party setting request ≡ Grants given → AsksCheck request party.history
    → IsSound (concluded_by state party setting (messages.Pdu request) given)
sound_then state party setting request given sound found taken granted asks =
    let own = party_sound state party.link party sound found in
    concluded_sound state party.link party setting (messages.Pdu request) given state.parties party.trace sound found (put_again party.link state.parties party found) own.grouped
    (granting_request state party setting request given sound own granted taken asks)

module _ (tables : Tables) (state : State) (party : StandingParty) (history : History) where
  abbrev pub opened_party : StandingParty
  opened_party = with_history history party

  -- the state in which the message is concluded
  abbrev pub opened_state : State
  opened_state = record state { parties = with_party opened_party state.parties; concluded = state.concluded + 1 }

  module _ (sound : IsSound state) (sound_after : IsSound opened_state) (kept : tables_of state ≡ tables) (found : party_of party.link state.parties ≡ Some party)
      (nested : IsNested history) (closed : regime party.history ≡ None) (last : number_in (regime history) ≡ state.concluded)
      (bare : AllByRecursion IsBare (rows_left opened_party)) where
    unrecoverable : activity_of opened_party ≡ None → delta tables (tables_of opened_state) ≡ map put (rows_left opened_party)
    unrecoverable none =
        let was = none_left party (ap activity_in closed) in
        let is = none_left opened_party none in
        no_change tables state opened_state sound kept (tables_stay state party history found (is ∙ sym was))
        ∙ sym (ap (λ (left : List Docket). map put (flat_map row_of left)) is)

    recoverable : (activity : ℕ) → activity_of opened_party ≡ Some activity → delta tables (tables_of opened_state) ≡ map put (rows_left opened_party)
    recoverable activity is =
        let at = located party.link state.parties party found in
        let new = docket_for activity opened_party in
        let first = state.dockets ++ flat_map docket_left_by at.before in
        let later = flat_map docket_left_by at.after in
        let now : with_party opened_party state.parties ≡ at.before ++ opened_party ∷ at.after
        = ap (with_party opened_party) at.is ∙ with_at party.link at.before at.after party opened_party at.absent refl refl in
        let all_was : state.dockets ++ flat_map docket_left_by state.parties ≡ first ++ later
        = ap (λ (all : List StandingParty). state.dockets ++ flat_map docket_left_by all) at.is ∙ all_between state.dockets at.before at.after party
        ∙ ap (λ (own : List Docket). first ++ (own ++ later)) (left_none party (ap activity_in closed)) in
        let all_is : state.dockets ++ flat_map docket_left_by (with_party opened_party state.parties) ≡ first ++ new ∷ later
        = ap (λ (all : List StandingParty). state.dockets ++ flat_map docket_left_by all) now ∙ all_between state.dockets at.before at.after opened_party
        ∙ ap (λ (own : List Docket). first ++ (own ++ later)) (left_is opened_party activity is) in
        let before = subst (λ (all : List Docket). AreApart state.concluded all) all_was (apart state sound) in
        let separate = subst (λ (all : List Docket). AreApart (state.concluded + 1) all) all_is (apart opened_state sound_after) in
        let number : number_of_open new ≡ state.concluded = left_number opened_party activity nested ∙ last in
        let below = all_ordered (λ (other : Docket). number_of_open other < number_of_open new) (first ++ later)
        (subst (λ (n : ℕ). AllByRecursion (λ (other : Docket). number_of_open other < n) (first ++ later)) (sym number) before.below) in
        let row = has_row new (ap is_some (retains history nested).selects ∙ (nests history nested).regimes (opened_some (regime history) activity is)) in
        let rows = flat_map row_of (ordered [] (first ++ later)) in
        let dockets_was : (tables_of state).dockets ≡ rows = ap (λ (all : List Docket). flat_map row_of (ordered [] all)) all_was in
        let dockets_is : (tables_of opened_state).dockets ≡ rows ++ row.row ∷ []
        = ap (λ (all : List Docket). flat_map row_of (ordered [] all)) all_is
        ∙ ap (flat_map row_of) (pulled first later new (later_other first later new separate.numbers) ∙ last_in_order new (ordered [] (first ++ later)) below)
        ∙ rows_between (ordered [] (first ++ later)) [] new row in
        let left : rows_left opened_party ≡ row.row ∷ [] = ap (flat_map row_of) (left_is opened_party activity is) ∙ append-nil (row_of new) ∙ row.is in
        let changed = row_added rows row.row (subst (λ (rows : List entries.Docket). IsDistinct is_same_open rows) dockets_was (rows_apart state sound))
        (others rows [] row.row (subst (λ (rows : List entries.Docket). IsDistinct is_same_open rows) dockets_is (rows_apart opened_state sound_after)))
        (subst (λ (rows : List entries.Docket). AllByRecursion IsBare rows) left bare).0 in
        dockets_change tables state opened_state rows (rows ++ row.row ∷ []) kept refl dockets_was dockets_is ∙ changed ∙ sym (ap (map put) left)

    -- a docket is put that has no pieces
    pub docket_opened : delta tables (tables_of opened_state) ≡ map put (rows_left opened_party)
    docket_opened = by (activity_of opened_party) refl
      where
        by : (activity : Option ℕ) → activity_of opened_party ≡ activity → delta tables (tables_of opened_state) ≡ map put (rows_left opened_party)
        by None is = unrecoverable is
        by (Some activity) is = recoverable activity is
