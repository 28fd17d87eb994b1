-- What the rows of dockets tell of the holders of each file.
use Rattle.std.proofs.Common.{◌≡◌, ℕ, ◌+◌, Bool, true, false, cond, ◌&&◌, not, List, [], ◌∷◌, ◌++◌, map, Option, None, Some, refl, ap, sym, subst, ◌∙◌}
use Rattle.std.specs.Prelude.{IsSome, flat_map, option_and_then, slice_get}
use Rattle.std.specs.Option.{option_or}
use Rattle.vf_base.specs.declared.action.Control.{Control}
use Rattle.std.specs.List.{AllByRecursion, IsDistinct, fold, list_any, position_from, zip}
use Rattle.std.specs.List.Sorted.{IsPermutation}
use Rattle.std.specs.Str.{bytes_eq}
use Rattle.std.proofs.lemmas.Bool.{or_parts}
use Rattle.std.proofs.lemmas.List.{append-nil, append_assoc}
use Rattle.std.proofs.lemmas.List.Sums.{fold-append}
use Rattle.std.proofs.lemmas.List.Sorted.{IsPermutation-append_comm, IsPermutation-append_left, IsPermutation-refl, IsPermutation-trans}
use Rattle.std.proofs.lemmas.Map.Keys.{IsDistinct-IsPermutation}
use Rattle.vf_base.specs.declared.action.Controls.{Controls}
use Rattle.vf_locks.specs.Clash.{actions, against, first_against, lowest_clash}
use Rattle.vf_locks.specs.Holders.{granted, in_order as held_in_order, is_same, others}
use Rattle.vf_locks.specs.Table.{held}
use Rattle.vf_locks.specs.declared.held.Held.{Held}
use Rattle.vf_locks.specs.declared.holder.Holder.{Holder}
use Rattle.vf_locks.specs.declared.holder.Holder.TheVariants as kinds
use Rattle.vf_tables.specs.declared.docket.Docket as records
use Rattle.vf_tables.specs.declared.tables.Tables.{Tables}
use Rattle.vf_filestore.specs.Changes.{is_same_open}
use Rattle.vf_filestore.specs.History.{Selection, regime, selection}
use Rattle.vf_filestore.specs.Holders.{held_by, held_by_docket, held_by_party, holders, put_in_order}
use Rattle.vf_filestore.specs.HoldersOfRows.{RowsFollow, RowsKeep, RowsStand, granted_row, held_by_rows, holder_of}
use Rattle.vf_filestore.specs.Sound.{Begins, IsSound, IsSoundDocket, Standing, Use, are_clashing, do_clash, standing_of_docket, standing_of_party, use_by, use_of_docket, use_of_party}
use Rattle.vf_filestore.specs.Sound as standings
use Rattle.vf_filestore.specs.State.{Docket, State, StandingParty, is_docket_of}
use Rattle.vf_filestore.specs.Dockets.{docket_left_by}
use Rattle.vf_filestore.specs.Tables.{in_order, number_of_open, row_in, row_of}
use Rattle.vf_filestore.specs.Transfers.{under_way}
use Rattle.vf_filestore.proofs.Clashes.{any_flips, clashes, uses_flip}
use Rattle.vf_filestore.proofs.Filed.{same_name}
use Rattle.vf_filestore.proofs.HeldLists.{IsOther, all_into, all_ordered, others_all, own, put_among, put_last}
use Rattle.vf_filestore.proofs.HeldOf.{controls_in, dockets_off, held_own}
use Rattle.vf_filestore.proofs.HolderOrder.{same_dockets}
use Rattle.vf_filestore.proofs.Kept.{ordered}
use Rattle.vf_filestore.proofs.Lists.{all_append, all-filter, all-flat_map, all-permutation, all_left, all_right, all_weaker, flat_map-append, to_middle}
use Rattle.vf_filestore.proofs.OrderedRows.{distinct_unmap, is_same_key, key_flips, keys_differ, ordered_permutes, ordered_rows_differ, placed}

-- ---- the rows of one file, granted one after the other

abbrev held_of : records.Docket → Held
held_of row = record { holder = holder_of row; controls = row.regime.controls }

abbrev held_by_row : (file : List ℕ) → records.Docket → List Held
held_by_row file row = cond (bytes_eq row.regime.file file) (held_of row ∷ []) []

-- of another open
other_holder : (one other : records.Docket) → is_same_open one other ≡ false → IsOther (holder_of other) (held_of one)
other_holder one other off = same_dockets one.regime.identity other.regime.identity one.regime.activity other.regime.activity ∙ off

-- none of them stands among these
abbrev AreNew : List Held → List records.Docket → Type 0
AreNew helds rows = AllByRecursion (λ (row : records.Docket). AllByRecursion (IsOther (holder_of row)) helds) rows

new_after : (row : records.Docket) (helds : List Held) (rows : List records.Docket) → AllByRecursion (λ (other : records.Docket). is_same_open row other ≡ false) rows → AreNew helds rows → AreNew (held_in_order (held_of row) helds) rows
new_after row helds [] off new = tt
new_after row helds (other ∷ rows) off new = (all_into (IsOther (holder_of other)) (held_of row) helds (other_holder row other off.0) new.0, new_after row helds rows off.1 new.1)

granted_all : (file : List ℕ) (rows : List records.Docket) (helds : List Held) → AreNew helds rows → IsDistinct is_same_open rows
    → fold (granted_row file) helds rows ≡ put_among helds (flat_map (held_by_row file) rows)
unfolding IsDistinct
granted_all file [] helds new distinct = refl
granted_all file (row ∷ rows) helds new distinct =
    by (bytes_eq row.regime.file file) (granted_all file rows (held_in_order (held_of row) helds) (new_after row helds rows distinct.0 new.1) distinct.1)
    (granted_all file rows helds new.1 distinct.1)
  where
    by : (b : Bool) → fold (granted_row file) (held_in_order (held_of row) helds) rows ≡ put_among (held_in_order (held_of row) helds) (flat_map (held_by_row file) rows)
        → fold (granted_row file) helds rows ≡ put_among helds (flat_map (held_by_row file) rows)
        → fold (granted_row file) (cond b (granted (holder_of row) row.regime.controls helds) helds) rows ≡ put_among helds (cond b (held_of row ∷ []) [] ++ flat_map (held_by_row file) rows)
    by true with_it without =
        ap (λ (others : List Held). fold (granted_row file) (held_in_order (held_of row) others) rows) (others_all (holder_of row) helds new.0) ∙ with_it
    by false with_it without = without

none_there : (rows : List records.Docket) → AreNew [] rows
none_there [] = tt
none_there (row ∷ rows) = (tt, none_there rows)

held_by_all : (file : List ℕ) (rows : List records.Docket) → IsDistinct is_same_open rows → held_by_rows file rows ≡ put_in_order (flat_map (held_by_row file) rows)
held_by_all file rows distinct = granted_all file rows [] (none_there rows) distinct

-- ---- a row tells what its docket holds

row_held : (file : List ℕ) (docket : Docket) → flat_map (held_by_row file) (row_of docket) ≡ held_by_docket file docket
row_held file docket = by (selection docket.history)
  where
    by : (one : Option Selection) → flat_map (held_by_row file) (row_in docket (regime docket.history) (under_way docket.history) one)
        ≡ held_by file (kinds.Docket docket.identity docket.activity) (regime docket.history) one
    by None = refl
    by (Some one) = append-nil (held_by file (kinds.Docket docket.identity docket.activity) (regime docket.history) (Some one))

rows_held : (file : List ℕ) (dockets : List Docket) → flat_map (held_by_row file) (flat_map row_of dockets) ≡ flat_map (held_by_docket file) dockets
rows_held file [] = refl
rows_held file (docket ∷ dockets) =
    flat_map-append (held_by_row file) (row_of docket) (flat_map row_of dockets) ∙ (λ i. row_held file docket i ++ rows_held file dockets i)

-- ---- in the order of their opens

abbrev all_held : (file : List ℕ) → List Docket → List Held
all_held file dockets = flat_map (held_by_docket file) dockets

abbrev IsOtherKey : Docket → Docket → Type 0
IsOtherKey docket other = is_same_key docket other ≡ false

-- one more docket among others
put_docket : (file : List ℕ) (docket : Docket) (list : List Docket) → AllByRecursion (IsOtherKey docket) list
    → put_in_order (all_held file (in_order docket list)) ≡ put_among (put_in_order (all_held file list)) (held_by_docket file docket)
put_docket file docket list off =
    let at = placed (number_of_open docket) list in
    let holder = kinds.Docket docket.identity docket.activity in
    let later : AllByRecursion (IsOtherKey docket) at.later =
    all_right (IsOtherKey docket) at.first at.later (subst (λ (all : List Docket). AllByRecursion (IsOtherKey docket) all) at.is off) in
    let others : AllByRecursion (IsOther holder) (all_held file at.later) =
    dockets_off file docket.identity docket.activity at.later
    (all_weaker (IsOtherKey docket) (λ (other : Docket). is_docket_of docket.identity docket.activity other ≡ false) at.later (λ other is. key_flips other docket ∙ is) later) in
    ap (λ (all : List Docket). put_in_order (all_held file all)) (at.at docket refl)
    ∙ ap put_in_order (flat_map-append (held_by_docket file) at.first (docket ∷ at.later))
    ∙ by holder (all_held file at.first) (all_held file at.later) others (controls_in docket.history file) (held_by_docket file docket) (held_own file holder (regime docket.history) (selection docket.history))
    ∙ ap (λ (all : List Held). put_among (put_in_order all) (held_by_docket file docket)) (sym (flat_map-append (held_by_docket file) at.first at.later))
    ∙ ap (λ (all : List Docket). put_among (put_in_order (all_held file all)) (held_by_docket file docket)) (sym at.is)
  where
    by : (holder : Holder) (before after : List Held) → AllByRecursion (IsOther holder) after → (one : Option Controls) (mine : List Held) → mine ≡ own holder one
        → put_in_order (before ++ (mine ++ after)) ≡ put_among (put_in_order (before ++ after)) mine
    by holder before after others None mine is =
        ap (λ (mine : List Held). put_in_order (before ++ (mine ++ after))) is ∙ ap (put_among (put_in_order (before ++ after))) (sym is)
    by holder before after others (Some controls) mine is =
        let x : Held = record { holder = holder; controls = controls } in
        ap (λ (mine : List Held). put_in_order (before ++ (mine ++ after))) is ∙ put_last before x after [] others ∙ ap (put_among (put_in_order (before ++ after))) (sym is)

-- each of them is none of these
abbrev AreOtherKeys : List Docket → List Docket → Type 0
AreOtherKeys list dockets = AllByRecursion (λ (docket : Docket). AllByRecursion (IsOtherKey docket) list) dockets

keys_after : (docket : Docket) (list dockets : List Docket) → AllByRecursion (IsOtherKey docket) dockets → AreOtherKeys list dockets → AreOtherKeys (in_order docket list) dockets
keys_after docket list [] off were = tt
keys_after docket list (other ∷ dockets) off were = (
  all-permuted (all_append (IsOtherKey other) list (docket ∷ []) were.0 (key_flips other docket ∙ off.0, tt)),
  keys_after docket list dockets off.1 were.1,
)
  where
    all-permuted : AllByRecursion (IsOtherKey other) (list ++ docket ∷ []) → AllByRecursion (IsOtherKey other) (in_order docket list)
    all-permuted all = all-permutation (IsOtherKey other) (list ++ docket ∷ []) (in_order docket list) (ordered_permutes (docket ∷ []) list) all

ordered_held : (file : List ℕ) (dockets list : List Docket) → AreOtherKeys list dockets → IsDistinct is_same_key dockets
    → put_in_order (all_held file (ordered list dockets)) ≡ put_among (put_in_order (all_held file list)) (all_held file dockets)
unfolding IsDistinct
ordered_held file [] list off distinct = refl
ordered_held file (docket ∷ dockets) list off distinct =
    ordered_held file dockets (in_order docket list) (keys_after docket list dockets distinct.0 off.1) distinct.1
    ∙ ap (λ (helds : List Held). put_among helds (all_held file dockets)) (put_docket file docket list off.0)
    ∙ sym (fold-append (λ (helds : List Held) (one : Held). held_in_order one helds) (put_in_order (all_held file list)) (held_by_docket file docket) (all_held file dockets))

no_keys : (dockets : List Docket) → AreOtherKeys [] dockets
no_keys [] = tt
no_keys (docket ∷ dockets) = (tt, no_keys dockets)

-- ---- a state that an incarnation begins with

abbrev rows_in : State → List records.Docket
rows_in state = flat_map row_of (ordered [] state.dockets)

-- what is known of its dockets
record AreBegun (state : State) : Type 0 where
  keys : IsDistinct is_same_key state.dockets
  rows : IsDistinct is_same_open (rows_in state)
  uses : IsDistinct do_clash (flat_map use_of_docket state.dockets)

without_parties : {A : Type 0} (f : StandingParty → List A) (xs : List A) (parties : List StandingParty) → parties ≡ [] → xs ++ flat_map f parties ≡ xs
without_parties f xs parties alone = ap (λ (all : List StandingParty). xs ++ flat_map f all) alone ∙ append-nil xs

begun : (tables : Tables) (state : State) → Begins tables state → AreBegun state
begun tables state begins =
    let sound = begins.sound in
    let differing = subst (λ (all : List Standing). IsDistinct standings.is_same_open all)
    (without_parties standing_of_party (flat_map standing_of_docket state.dockets) state.parties begins.alone) sound.numbered.differing in
    let keys = keys_differ state.files state.dockets sound.dockets differing in
    let selected = all_weaker (IsSoundDocket state.files) (λ (docket : Docket). IsSome (selection docket.history)) state.dockets (λ docket is. is.selected) sound.dockets in
    record {
      keys = keys;
      rows = ordered_rows_differ state.dockets selected keys;
      uses = subst (λ (all : List Use). IsDistinct do_clash all) (without_parties use_of_party (flat_map use_of_docket state.dockets) state.parties begins.alone) sound.agreed;
    }

rows_are : (tables : Tables) (state : State) → Begins tables state → tables.dockets ≡ rows_in state
rows_are tables state begins =
    ap (λ (kept : Tables). kept.dockets) (sym begins.kept)
    ∙ ap (λ (all : List Docket). flat_map row_of (ordered [] all)) (without_parties docket_left_by state.dockets state.parties begins.alone)

holders_are : (tables : Tables) (state : State) → Begins tables state → (file : List ℕ) → held_by_rows file tables.dockets ≡ holders state file
holders_are tables state begins file =
    let are = begun tables state begins in
    ap (held_by_rows file) (rows_are tables state begins) ∙ held_by_all file (rows_in state) are.rows ∙ ap put_in_order (rows_held file (ordered [] state.dockets))
    ∙ ordered_held file state.dockets [] (no_keys state.dockets) are.keys
    ∙ sym (ap (λ (parties : List StandingParty). put_in_order (flat_map (held_by_party file) parties ++ all_held file state.dockets)) begins.alone)

pub rows_keep : RowsKeep
rows_keep tables state kept begins holds file = holds file ∙ holders_are tables state begins file

pub rows_follow : RowsFollow
rows_follow kept later rows row holds called file =
    called file ∙ by (bytes_eq row.regime.file file) refl ∙ sym (fold-append (granted_row file) [] rows (row ∷ []))
  where
    by : (b : Bool) → bytes_eq row.regime.file file ≡ b
        → cond b (granted (holder_of row) row.regime.controls (held row.regime.file kept)) (held file kept) ≡ cond b (granted (holder_of row) row.regime.controls (held_by_rows file rows)) (held_by_rows file rows)
    by true is =
        ap (granted (holder_of row) row.regime.controls) (holds row.regime.file ∙ ap (λ (file : List ℕ). held_by_rows file rows) (same_name row.regime.file file is))
    by false is = holds file

-- ---- no two of them clash

permuted_uses : (docket : Docket) (list : List Docket) → IsPermutation (use_of_docket docket ++ flat_map use_of_docket list) (flat_map use_of_docket (in_order docket list))
permuted_uses docket list =
    let at = placed (number_of_open docket) list in
    let mine = use_of_docket docket in
    let first = flat_map use_of_docket at.first in
    let later = flat_map use_of_docket at.later in
    let was : flat_map use_of_docket list ≡ first ++ later = ap (flat_map use_of_docket) at.is ∙ flat_map-append use_of_docket at.first at.later in
    let is : flat_map use_of_docket (in_order docket list) ≡ first ++ (mine ++ later) =
    ap (flat_map use_of_docket) (at.at docket refl) ∙ flat_map-append use_of_docket at.first (docket ∷ at.later) in
    subst (λ (all : List Use). IsPermutation (mine ++ all) (flat_map use_of_docket (in_order docket list))) (sym was)
    (subst (λ (all : List Use). IsPermutation (mine ++ (first ++ later)) all) (sym is) (to_middle [] first mine later))

ordered_uses : (dockets list : List Docket) → IsPermutation (flat_map use_of_docket list ++ flat_map use_of_docket dockets) (flat_map use_of_docket (ordered list dockets))
ordered_uses [] list = subst (λ (all : List Use). IsPermutation all (flat_map use_of_docket list)) (sym (append-nil (flat_map use_of_docket list))) (IsPermutation-refl (flat_map use_of_docket list))
ordered_uses (docket ∷ dockets) list =
    let mine = use_of_docket docket in
    let those = flat_map use_of_docket list in
    let others = flat_map use_of_docket dockets in
    let next = flat_map use_of_docket (in_order docket list) in
    let all = flat_map use_of_docket (ordered (in_order docket list) dockets) in
    subst (λ (whole : List Use). IsPermutation whole all) (append_assoc those mine others)
    (IsPermutation-trans ((those ++ mine) ++ others) (next ++ others) all
    (IsPermutation-append_left others (those ++ mine) next (IsPermutation-trans (those ++ mine) (mine ++ those) next (IsPermutation-append_comm those mine) (permuted_uses docket list)))
    (ordered_uses dockets (in_order docket list)))

abbrev use_of : records.Docket → Use
use_of row = record { file = row.regime.file; controls = row.regime.controls }

row_use : (docket : Docket) → map use_of (row_of docket) ≡ use_of_docket docket
row_use docket = by (selection docket.history)
  where
    by : (one : Option Selection) → map use_of (row_in docket (regime docket.history) (under_way docket.history) one) ≡ use_by (regime docket.history) one
    by None = refl
    by (Some one) = refl

map_append : (xs ys : List records.Docket) → map use_of (xs ++ ys) ≡ map use_of xs ++ map use_of ys
map_append [] ys = refl
map_append (x ∷ xs) ys = ap (λ (rest : List Use). use_of x ∷ rest) (map_append xs ys)

rows_use : (dockets : List Docket) → map use_of (flat_map row_of dockets) ≡ flat_map use_of_docket dockets
rows_use [] = refl
rows_use (docket ∷ dockets) = map_append (row_of docket) (flat_map row_of dockets) ∙ (λ i. row_use docket i ++ rows_use dockets i)

abbrev clash_rows : records.Docket → records.Docket → Bool
clash_rows one other = do_clash (use_of one) (use_of other)

rows_agree : (state : State) → AreBegun state → IsDistinct clash_rows (rows_in state)
rows_agree state are =
    distinct_unmap use_of do_clash (rows_in state)
    (subst (λ (all : List Use). IsDistinct do_clash all) (sym (rows_use (ordered [] state.dockets)))
    (IsDistinct-IsPermutation do_clash uses_flip (flat_map use_of_docket state.dockets) (flat_map use_of_docket (ordered [] state.dockets)) (ordered_uses state.dockets []) are.uses))

-- of each two the first and the second
record AreApart (e : records.Docket → records.Docket → Bool) (first : List records.Docket) (row : records.Docket) : Type 0 where
  before : IsDistinct e first
  off : AllByRecursion (λ (one : records.Docket). e one row ≡ false) first

apart_from : (e : records.Docket → records.Docket → Bool) (first later : List records.Docket) (row : records.Docket) → IsDistinct e (first ++ row ∷ later) → AreApart e first row
unfolding IsDistinct
apart_from e [] later row distinct = record { before = tt; off = tt }
apart_from e (one ∷ first) later row distinct =
    let rest = apart_from e first later row distinct.1 in
    let P : records.Docket → Type 0 = λ (other : records.Docket). e one other ≡ false in
    record {
      before = (all_left P first (row ∷ later) distinct.0, rest.before);
      off = ((all_right P first (row ∷ later) distinct.0).0, rest.off);
    }

none_found : (pairs : List (Control × Control)) (from : ℕ) → list_any clashes pairs ≡ false → position_from clashes from pairs ≡ None
none_found [] from is = refl
none_found (pair ∷ pairs) from is =
    let both = or_parts (clashes pair) (list_any clashes pairs) is in
    (λ i. cond (both.0 i) (Some from) (position_from clashes (from + 1) pairs)) ∙ none_found pairs (from + 1) both.1

abbrev StandsWith : Controls → Held → Type 0
StandsWith wanted one = lowest_clash wanted one.controls ≡ None

nothing_against : (wanted : Controls) (helds : List Held) → AllByRecursion (StandsWith wanted) helds → first_against wanted helds ≡ None
nothing_against wanted [] all = refl
nothing_against wanted (one ∷ helds) all =
    (λ i. option_or (against one (all.0 i)) (first_against wanted helds)) ∙ nothing_against wanted helds all.1

-- a row on the same file stands with it
stands_with : (row one : records.Docket) → clash_rows one row ≡ false → AllByRecursion (StandsWith row.regime.controls) (held_by_row row.regime.file one)
stands_with row one off = by (bytes_eq one.regime.file row.regime.file) off
  where
    by : (b : Bool) → (b && are_clashing one.regime.controls row.regime.controls) ≡ false → AllByRecursion (StandsWith row.regime.controls) (cond b (held_of one ∷ []) [])
    by true off =
        let pairs = zip row.regime.controls.each one.regime.controls.each in
        let none : position_from clashes 0 pairs ≡ None = none_found pairs 0 (any_flips row.regime.controls.each one.regime.controls.each ∙ off) in
        (ap (option_and_then (slice_get actions)) none, tt)
    by false off = tt

pub rows_stand : RowsStand
rows_stand tables state first later row begins is =
    let are = begun tables state begins in
    let rows : rows_in state ≡ first ++ row ∷ later = sym (rows_are tables state begins) ∙ is in
    let keys = apart_from is_same_open first later row (subst (λ (all : List records.Docket). IsDistinct is_same_open all) rows are.rows) in
    let free = apart_from clash_rows first later row (subst (λ (all : List records.Docket). IsDistinct clash_rows all) rows (rows_agree state are)) in
    let file = row.regime.file in
    let P : Held → Type 0 = StandsWith row.regime.controls in
    let each : AllByRecursion P (flat_map (held_by_row file) first) =
    all-flat_map (held_by_row file) P first
    (all_weaker (λ (one : records.Docket). clash_rows one row ≡ false) (λ (one : records.Docket). AllByRecursion P (held_by_row file one)) first (λ one off. stands_with row one off) free.off) in
    let all : AllByRecursion P (held_by_rows file first) =
    subst (λ (helds : List Held). AllByRecursion P helds) (sym (held_by_all file first keys.before)) (all_ordered P (flat_map (held_by_row file) first) each) in
    nothing_against row.regime.controls (others (holder_of row) (held_by_rows file first))
    (all-filter P (λ (one : Held). not (is_same one.holder (holder_of row))) (held_by_rows file first) all)
