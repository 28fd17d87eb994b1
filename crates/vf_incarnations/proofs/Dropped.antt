-- A docket that is dropped, as one change of the tables.
use Rattle.std.proofs.Common.{◌≡◌, ◌∙◌, ℕ, Bool, true, false, cond, ◌&&◌, nat_eq, List, [], ◌∷◌, ◌++◌, Option, None, Some, refl, ap, sym, subst, append_assoc, append-nil}
use Rattle.std.specs.List.{AllByRecursion}
use Rattle.std.specs.Cmp.Lexicographic.{pointwise}
use Rattle.std.specs.Prelude.{flat_map, nat_le}
use Rattle.vf_filestore.proofs.DocketsMoved.{AreApart, all_stay, apart, found_among, later_other, none_asked}
use Rattle.vf_filestore.proofs.Filed.{names_flip}
use Rattle.vf_filestore.proofs.HeldParty.{docket_at}
use Rattle.vf_filestore.proofs.Kept.{ordered}
use Rattle.vf_filestore.proofs.Lists.{all_append, all_left, all_right}
use Rattle.vf_filestore.proofs.Meant.{dropped_at}
use Rattle.vf_filestore.proofs.OrderedRows.{HasRow, IsSelected, all_ordered, has_row, pulled}
use Rattle.vf_filestore.proofs.Parties.{nat_eq_flips}
use Rattle.vf_filestore.specs.Dockets.{docket_left_by}
use Rattle.vf_filestore.specs.State.{Docket, State, StandingParty, docket_of, is_docket_of, without_docket}
use Rattle.vf_filestore.specs.Tables.{in_order, number_of_open, row_of}
use Rattle.vf_tables.specs.Entries.{dropped, is_docket}
use Rattle.vf_tables.specs.declared.docket.Docket.{Docket as Row}
use Rattle.vf_tables.specs.declared.tables.Tables.{Tables}
use Rattle.vf_incarnations.specs.InARow.{DropsAreWritten}
use Rattle.vf_incarnations.specs.Laws.{MayBegin}

abbrev rows : List Docket → List Row
rows all = flat_map row_of all

-- ---- a row among those of others

record IsAmong (docket : Docket) (row : Row) (others : List Docket) : Type 0 where
  first : List Row
  later : List Row
  with : rows (in_order docket others) ≡ first ++ row ∷ later
  without : rows others ≡ first ++ later

among : (docket : Docket) (row : Row) → row_of docket ≡ row ∷ [] → (others : List Docket) → IsAmong docket row others
among docket row is [] = record { first = []; later = []; with = ap (λ (all : List Row). all ++ []) is; without = refl }
among docket row is (other ∷ others) = by (nat_le (number_of_open other) (number_of_open docket)) refl (among docket row is others)
  where
    by : (b : Bool) → nat_le (number_of_open other) (number_of_open docket) ≡ b → IsAmong docket row others → IsAmong docket row (other ∷ others)
    by true here rest = record {
      first = row_of other ++ rest.first;
      later = rest.later;
      with =
          (λ i. rows (cond (here i) (other ∷ in_order docket others) (docket ∷ other ∷ others)))
          ∙ ap (λ (all : List Row). row_of other ++ all) rest.with
          ∙ sym (append_assoc (row_of other) rest.first (row ∷ rest.later));
      without = ap (λ (all : List Row). row_of other ++ all) rest.without ∙ sym (append_assoc (row_of other) rest.first rest.later);
    }
    by false here rest = record {
      first = [];
      later = rows (other ∷ others);
      with =
          (λ i. rows (cond (here i) (other ∷ in_order docket others) (docket ∷ other ∷ others)))
          ∙ ap (λ (all : List Row). all ++ rows (other ∷ others)) is;
      without = refl;
    }

-- ---- whose row it is

module _ (identity : List ℕ) (activity : ℕ) where
  abbrev test : Row → Bool
  test = is_docket identity activity

  abbrev IsOff : Docket → Type 0
  IsOff docket = is_docket_of identity activity docket ≡ false

  tested : (docket : Docket) (one : HasRow docket) → test one.row ≡ is_docket_of identity activity docket
  tested docket one =
      ap (λ (name : List ℕ). pointwise nat_eq identity name && nat_eq activity one.row.regime.activity) one.identity
      ∙ ap (λ (number : ℕ). pointwise nat_eq identity docket.identity && nat_eq activity number) one.activity
      ∙ (λ i. names_flip identity docket.identity i && nat_eq_flips activity docket.activity i)

  rows_off : (all : List Docket) → AllByRecursion IsSelected all → AllByRecursion IsOff all → AllByRecursion (λ (row : Row). test row ≡ false) (rows all)
  rows_off [] selected off = tt
  rows_off (docket ∷ all) selected off =
      let one = has_row docket selected.0 in
      subst (λ (own : List Row). AllByRecursion (λ (row : Row). test row ≡ false) (own ++ rows all)) (sym one.is)
      (tested docket one ∙ off.0, rows_off all selected.1 off.1)

  none_dropped : (all : List Row) → AllByRecursion (λ (row : Row). test row ≡ false) all → dropped test all ≡ all
  none_dropped [] off = refl
  none_dropped (row ∷ all) off = (λ i. cond (off.0 i) all (row ∷ dropped test all)) ∙ ap (λ (others : List Row). row ∷ others) (none_dropped all off.1)

  -- what is kept once one docket of some is gone
  one_gone : (next : ℕ) (first later : List Docket) (docket : Docket) → AreApart next (first ++ docket ∷ later) → AllByRecursion IsOff first → is_docket_of identity activity docket ≡ true
      → AllByRecursion IsOff later → dropped test (rows (ordered [] (first ++ docket ∷ later))) ≡ rows (ordered [] (first ++ later))
  one_gone next first later docket are off here off_later =
      let chosen = all_right IsSelected first (docket ∷ later) are.selected in
      let one = has_row docket chosen.0 in
      let others = first ++ later in
      let selected = all_append IsSelected first later (all_left IsSelected first (docket ∷ later) are.selected) chosen.1 in
      let among_them = among docket one.row one.is (ordered [] others) in
      let none : AllByRecursion (λ (row : Row). test row ≡ false) (among_them.first ++ among_them.later) =
      subst (λ (all : List Row). AllByRecursion (λ (row : Row). test row ≡ false) all) among_them.without
      (rows_off (ordered [] others) (all_ordered IsSelected others selected) (all_ordered IsOff others (all_append IsOff first later off off_later))) in
      ap (λ (all : List Docket). dropped test (rows all)) (pulled first later docket (later_other first later docket are.numbers))
      ∙ ap (dropped test) among_them.with
      ∙ dropped_at test among_them.first one.row among_them.later (all_left (λ (row : Row). test row ≡ false) among_them.first among_them.later none) (tested docket one ∙ here)
      ∙ sym among_them.without

  gone : (state : State) → MayBegin state → (found : Option Docket) → docket_of identity activity state.dockets ≡ found
      → dropped test (rows (ordered [] state.dockets)) ≡ rows (ordered [] (without_docket identity activity state.dockets))
  gone state may found is = by found is
    where
      alone : state.dockets ++ flat_map docket_left_by state.parties ≡ state.dockets
      alone = ap (λ (parties : List StandingParty). state.dockets ++ flat_map docket_left_by parties) may.alone ∙ append-nil state.dockets

      are : AreApart state.concluded state.dockets
      are = subst (AreApart state.concluded) alone (apart state may.reached.sound)

      by : (found : Option Docket) → docket_of identity activity state.dockets ≡ found
          → dropped test (rows (ordered [] state.dockets)) ≡ rows (ordered [] (without_docket identity activity state.dockets))
      by None none =
          let off = none_asked identity activity state.dockets none in
          none_dropped (rows (ordered [] state.dockets))
          (rows_off (ordered [] state.dockets) (all_ordered IsSelected state.dockets are.selected) (all_ordered IsOff state.dockets off))
          ∙ ap (λ (all : List Docket). rows (ordered [] all)) (sym (all_stay identity activity state.dockets off))
      by (Some docket) is =
          let at = docket_at state may.reached.sound identity activity docket is in
          let here = (found_among identity activity state.dockets docket is).here in
          ap (λ (all : List Docket). dropped test (rows (ordered [] all))) at.is
          ∙ one_gone state.concluded at.first at.later docket (subst (AreApart state.concluded) at.is are) at.off here at.off_later
          ∙ ap (λ (all : List Docket). rows (ordered [] all)) (sym at.without)

pub drops_are_written : DropsAreWritten
drops_are_written identity activity state may =
    let left = flat_map docket_left_by state.parties in
    let none : left ≡ [] = ap (λ (parties : List StandingParty). flat_map docket_left_by parties) may.alone in
    let none_beside : (all : List Docket) → all ++ left ≡ all = λ (all : List Docket). ap (λ (others : List Docket). all ++ others) none ∙ append-nil all in
    ap (λ (kept : List Row). (let tables : Tables = record { users = state.users; files = state.files; dockets = kept; tasks = state.tasks } in tables))
    (ap (λ (all : List Docket). dropped (is_docket identity activity) (rows (ordered [] all))) (none_beside state.dockets)
    ∙ gone identity activity state may (docket_of identity activity state.dockets) refl
    ∙ ap (λ (all : List Docket). rows (ordered [] all)) (sym (none_beside (without_docket identity activity state.dockets))))
