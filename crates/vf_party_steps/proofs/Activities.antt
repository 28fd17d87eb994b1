-- What is asked of the activity of a recoverable open is told by the tables: they have a docket for each open of an activity
-- that stands, and for each that lost its association.
use Rattle.std.proofs.Common.{◌≡◌, ℕ, ◌+◌, Bool, true, false, cond, ◌&&◌, ◌||◌, List, [], ◌∷◌, ◌++◌, length, is_some, Option, None, Some, refl, ap, sym, ◌∙◌, arith, length-append}
use Rattle.std.specs.Prelude.{count_by, find, flat_map, nat_eq, nat_le}
use Rattle.std.specs.List.{AllByRecursion, list_any}
use Rattle.std.specs.List.Sorted.{IsPermutation}
use Rattle.std.specs.Str.{bytes_eq}
use Rattle.std.proofs.lemmas.List.Sorted.{sum_by-IsPermutation}
use Rattle.std.proofs.lemmas.List.Sums.{sum_by-cons}
use Rattle.vf_filestore.specs.Diagnostics.{row, activity_in_use, too_many_dockets}
use Rattle.vf_filestore.specs.Dockets.{docket_by, docket_left_by}
use Rattle.vf_filestore.specs.Limits.{most_dockets}
use Rattle.vf_filestore.specs.Opening.{activity_rows, has_activity, is_at, is_in_use, recoverable_opens}
use Rattle.vf_filestore.specs.Sound.{IsSound}
use Rattle.vf_filestore.specs.State.{Docket, State, StandingParty, activity_of, identity_of, is_docket_of}
use Rattle.vf_filestore.specs.Tables.{in_order, number_of_open, row_of, tables_of}
use Rattle.vf_filestore.proofs.DocketsMoved.{apart}
use Rattle.vf_filestore.proofs.Filed.{names_flip}
use Rattle.vf_filestore.proofs.Kept.{ordered}
use Rattle.vf_filestore.proofs.OrderedRows.{IsSelected, all_ordered, has_row, ordered_permutes}
use Rattle.vf_filestore.proofs.Parties.{nat_eq_flips}
use Rattle.vf_regime_refusals.specs.Asked.{activity_rows_in}
use Rattle.vf_tables.specs.Entries.{is_docket}
use Rattle.vf_tables.specs.declared.docket.Docket as tables
use Rattle.vf_tables.specs.declared.tables.Tables.{Tables}

-- ---- tests of lists

or_false : (b : Bool) → (b || false) ≡ b
or_false true = refl
or_false false = refl

or_swapped : (a b c : Bool) → (b || (a || c)) ≡ (a || (b || c))
or_swapped true true c = refl
or_swapped true false c = refl
or_swapped false true c = refl
or_swapped false false c = refl

or_moved : (a b c : Bool) → ((a || b) || c) ≡ (b || (a || c))
or_moved true true c = refl
or_moved true false c = refl
or_moved false true c = refl
or_moved false false c = refl

or_grouped : (a b c : Bool) → (a || (b || c)) ≡ ((a || b) || c)
or_grouped true b c = refl
or_grouped false b c = refl

and_false : (b : Bool) → (b && false) ≡ false
and_false true = refl
and_false false = refl

any_append : {A : Type 0} (test : A → Bool) (xs ys : List A) → list_any test (xs ++ ys) ≡ (list_any test xs || list_any test ys)
any_append test [] ys = refl
any_append test (x ∷ xs) ys = ap (λ b. test x || b) (any_append test xs ys) ∙ or_grouped (test x) (list_any test xs) (list_any test ys)

some_is_any : {A : Type 0} (test : A → Bool) (xs : List A) → is_some (find test xs) ≡ list_any test xs
some_is_any test [] = refl
some_is_any test (x ∷ xs) = by (test x) (some_is_any test xs)
  where
    by : (b : Bool) → is_some (find test xs) ≡ list_any test xs → is_some (cond b (Some x) (find test xs)) ≡ (b || list_any test xs)
    by true rest = refl
    by false rest = rest

any_in_order : (test : Docket → Bool) (docket : Docket) (list : List Docket) → list_any test (in_order docket list) ≡ (test docket || list_any test list)
any_in_order test docket [] = refl
any_in_order test docket (other ∷ list) = by (nat_le (number_of_open other) (number_of_open docket)) (any_in_order test docket list)
  where
    by : (b : Bool) → list_any test (in_order docket list) ≡ (test docket || list_any test list)
        → list_any test (cond b (other ∷ in_order docket list) (docket ∷ other ∷ list)) ≡ (test docket || (test other || list_any test list))
    by true rest = ap (λ b. test other || b) rest ∙ or_swapped (test docket) (test other) (list_any test list)
    by false rest = refl

any_ordered : (test : Docket → Bool) (dockets first : List Docket) → list_any test (ordered first dockets) ≡ (list_any test first || list_any test dockets)
any_ordered test [] first = sym (or_false (list_any test first))
any_ordered test (docket ∷ dockets) first =
    any_ordered test dockets (in_order docket first) ∙ ap (λ b. b || list_any test dockets) (any_in_order test docket first)
    ∙ or_moved (test docket) (list_any test first) (list_any test dockets)

-- ---- of dockets and of what parties would leave

any_rows : (identity : List ℕ) (activity : ℕ) (dockets : List Docket) → AllByRecursion IsSelected dockets
    → list_any (is_docket identity activity) (flat_map row_of dockets) ≡ list_any (is_docket_of identity activity) dockets
any_rows identity activity [] selected = refl
any_rows identity activity (docket ∷ dockets) selected =
    let one = has_row docket selected.0 in
    any_append (is_docket identity activity) (row_of docket) (flat_map row_of dockets)
    ∙ ap (λ (rows : List tables.Docket). list_any (is_docket identity activity) rows || list_any (is_docket identity activity) (flat_map row_of dockets)) one.is
    ∙ ap (λ b. b || list_any (is_docket identity activity) (flat_map row_of dockets))
    (or_false (is_docket identity activity one.row) ∙ (λ i. bytes_eq identity (one.identity i) && nat_eq activity (one.activity i)) ∙ (λ i. names_flip identity docket.identity i && nat_eq_flips activity docket.activity i))
    ∙ ap (λ b. is_docket_of identity activity docket || b) (any_rows identity activity dockets selected.1)

any_left : (identity : List ℕ) (activity : ℕ) (parties : List StandingParty) → list_any (is_docket_of identity activity) (flat_map docket_left_by parties) ≡ list_any (is_at identity activity) parties
any_left identity activity [] = refl
any_left identity activity (party ∷ parties) =
    any_append (is_docket_of identity activity) (docket_left_by party) (flat_map docket_left_by parties)
    ∙ (λ i. by (activity_of party) i || any_left identity activity parties i)
  where
    by : (own : Option ℕ) → list_any (is_docket_of identity activity) (docket_by own party) ≡ (bytes_eq (identity_of party) identity && has_activity activity own)
    by None = sym (and_false (bytes_eq (identity_of party) identity))
    by (Some number) = or_false (bytes_eq (identity_of party) identity && nat_eq number activity)

-- ---- how many there are

one_row_each : (dockets : List Docket) → AllByRecursion IsSelected dockets → length (flat_map row_of dockets) ≡ length dockets
one_row_each [] selected = refl
one_row_each (docket ∷ dockets) selected =
    let one = ap (λ (rows : List tables.Docket). length rows) (has_row docket selected.0).is in
    let rest = one_row_each dockets selected.1 in
    omega (arith, length-append (row_of docket) (flat_map row_of dockets), one, rest)

count_everything : {A : Type 0} (xs : List A) → count_by (λ x. true) xs ≡ length xs
count_everything [] = refl
count_everything (x ∷ xs) = let rest = count_everything xs in let more = sum_by-cons (λ x. 1) x xs in omega (arith, rest, more)

length_permutes : {A : Type 0} (xs ys : List A) → IsPermutation xs ys → length ys ≡ length xs
length_permutes xs ys moved = sym (count_everything ys) ∙ sum_by-IsPermutation (λ x. 1) xs ys moved ∙ count_everything xs

count_left : (parties : List StandingParty) → length (flat_map docket_left_by parties) ≡ count_by (λ (party : StandingParty). is_some (activity_of party)) parties
count_left [] = refl
count_left (party ∷ parties) =
    let rest = count_left parties in
    let more = sum_by-cons (λ (party : StandingParty). cond (is_some (activity_of party)) 1 0) party parties in
    omega (arith, length-append (docket_left_by party) (flat_map docket_left_by parties), by (activity_of party), rest, more)
  where
    by : (own : Option ℕ) → length (docket_by own party) ≡ cond (is_some own) 1 0
    by None = refl
    by (Some number) = refl

-- ---- the rows of an activity

rows_in : (state : State) → IsSound state → (identity : List ℕ) (activity : Option ℕ) → activity_rows state identity activity ≡ activity_rows_in (tables_of state) identity activity
rows_in state sound identity None = refl
rows_in state sound identity (Some activity) = λ i. row (in_use i) activity_in_use ∷ row (nat_le most_dockets (counted i)) too_many_dockets ∷ []
  where
    all : List Docket
    all = state.dockets ++ flat_map docket_left_by state.parties

    in_use : is_in_use state identity activity ≡ is_some (find (is_docket identity activity) (tables_of state).dockets)
    in_use =
        let left = flat_map docket_left_by state.parties in
        let whole = state.dockets ++ left in
        let test : Docket → Bool = is_docket_of identity activity in
        (λ i. some_is_any test state.dockets i || sym (any_left identity activity state.parties) i)
        ∙ sym (any_append test state.dockets left) ∙ sym (any_ordered test whole [])
        ∙ sym (any_rows identity activity (ordered [] whole) (all_ordered IsSelected whole (apart state sound).selected))
        ∙ sym (some_is_any (is_docket identity activity) (flat_map row_of (ordered [] whole)))

    counted : length state.dockets + recoverable_opens state ≡ length (tables_of state).dockets
    counted =
        let left = flat_map docket_left_by state.parties in
        let whole = state.dockets ++ left in
        let rows = one_row_each (ordered [] whole) (all_ordered IsSelected whole (apart state sound).selected) in
        let same = length_permutes whole (ordered [] whole) (ordered_permutes whole []) in
        omega (arith, rows, same, length-append state.dockets left, count_left state.parties)

pub activity_rows_are : (tables : Tables) (state : State) → IsSound state → tables_of state ≡ tables → (identity : List ℕ) (activity : Option ℕ) → activity_rows state identity activity ≡ activity_rows_in tables identity activity
activity_rows_are tables state sound kept identity activity =
    rows_in state sound identity activity ∙ ap (λ (t : Tables). activity_rows_in t identity activity) kept
