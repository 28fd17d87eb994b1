-- The tables of a sound state have keys that differ, are within their limits, and no docket excludes another.
use Rattle.std.proofs.Common.{◌≡◌, ◌≤◌, Bool, true, false, cond, not, ◌&&◌, ◌||◌, List, [], ◌∷◌, ◌++◌, length, map, Option, None, Some, refl, ap, sym, subst, ◌∙◌, arith, length-append}
use Rattle.std.specs.Prelude.{IsSome, count_by, flat_map, nat_le}
use Rattle.std.specs.List.{AllByRecursion, IsDistinct, list_all, list_any, zip}
use Rattle.std.specs.List.Sorted.{IsPermutation}
use Rattle.std.specs.Str.{bytes_eq}
use Rattle.std.proofs.lemmas.Bool.{le-leb}
use Rattle.std.proofs.lemmas.List.{append-nil}
use Rattle.std.proofs.lemmas.List.Sorted.{sum_by-IsPermutation}
use Rattle.std.proofs.lemmas.List.Sums.{sum_by-cons}
use Rattle.std.proofs.lemmas.Map.Keys.{IsDistinct-IsPermutation}
use Rattle.vf_attr.specs.declared.file.File.{File}
use Rattle.vf_base.specs.declared.action.Control.{Control}
use Rattle.vf_locks.specs.Clash.{clash}
use Rattle.vf_tables.specs.Entries.{is_docket, is_file}
use Rattle.vf_tables.specs.Validity.{all_differ, exclude, is_valid, is_valid_docket, is_valid_file, octets_of_files}
use Rattle.vf_tables.specs.declared.docket.Docket as tables
use Rattle.vf_tables.specs.declared.limits.TheConstants.{MOST_DOCKETS, MOST_FILES, MOST_FILESTORE_OCTETS, MOST_TASKS, MOST_USERS}
use Rattle.vf_filestore.specs.Changes.{is_same_open}
use Rattle.vf_filestore.specs.Dockets.{docket_left_by}
use Rattle.vf_filestore.specs.History.{Regime, Selection, regime, selection}
use Rattle.vf_filestore.specs.Holders.{controls_by}
use Rattle.vf_filestore.specs.Keeping.{AreOthersValid}
use Rattle.vf_filestore.specs.Sound.{IsSound, Standing, Use, do_clash, is_recoverable, name_of, standing_of_docket, use_by, use_of_docket}
use Rattle.vf_filestore.specs.State.{Docket, State}
use Rattle.vf_filestore.specs.Tables.{row_in, row_of, tables_of}
use Rattle.vf_filestore.specs.Transfers.{Transfer, under_way}
use Rattle.vf_filestore.proofs.Broken.{stopped_sound}
use Rattle.vf_filestore.proofs.Clashes.{uses_flip}
use Rattle.vf_filestore.proofs.DocketsMoved.{apart}
use Rattle.vf_filestore.proofs.Kept.{ordered}
use Rattle.vf_filestore.proofs.Leading.{both}
use Rattle.vf_filestore.proofs.OrderedRows.{IsSelected, all_ordered, distinct_unmap, has_row, open_of, ordered_permutes, standings_are}
use Rattle.vf_filestore.proofs.Recorded.{rows_apart}

-- ---- entries differ

none_same : {A : Type 0} (e : A → A → Bool) (x : A) (xs : List A) → AllByRecursion (λ y. e x y ≡ false) xs → list_all (λ y. not (e x y)) xs ≡ true
none_same e x [] off = refl
none_same e x (y ∷ xs) off = both (not (e x y)) (list_all (λ y. not (e x y)) xs) (ap not off.0) (none_same e x xs off.1)

all_apart : {A : Type 0} (e : A → A → Bool) (xs : List A) → IsDistinct e xs → all_differ e xs ≡ true
unfolding IsDistinct
all_apart e [] distinct = refl
all_apart e (x ∷ xs) distinct = both (list_all (λ y. not (e x y)) xs) (all_differ e xs) (none_same e x xs distinct.0) (all_apart e xs distinct.1)

files_apart : (state : State) → IsSound state → all_differ (λ (file : File). is_file file.name) state.files ≡ true
files_apart state sound = all_apart (λ (file : File). is_file file.name) state.files (distinct_unmap name_of bytes_eq state.files sound.filed)

dockets_apart : (state : State) → IsSound state → all_differ (λ (docket : tables.Docket). is_docket docket.regime.identity docket.regime.activity) (tables_of state).dockets ≡ true
dockets_apart state sound = all_apart is_same_open (tables_of state).dockets (rows_apart state sound)

-- ---- few dockets

one_row_each : (dockets : List Docket) → AllByRecursion IsSelected dockets → length (flat_map row_of dockets) ≡ length dockets
one_row_each [] selected = refl
one_row_each (docket ∷ dockets) selected =
    let one = ap (λ (rows : List tables.Docket). length rows) (has_row docket selected.0).is in
    let rest = one_row_each dockets selected.1 in
    omega (arith, length-append (row_of docket) (flat_map row_of dockets), one, rest)

length_permutes : {A : Type 0} (xs ys : List A) → IsPermutation xs ys → count_by (λ x. true) ys ≡ count_by (λ x. true) xs
length_permutes xs ys moved = sum_by-IsPermutation (λ x. 1) xs ys moved

count_everything : {A : Type 0} (xs : List A) → count_by (λ x. true) xs ≡ length xs
count_everything [] = refl
count_everything (x ∷ xs) = let rest = count_everything xs in let more = sum_by-cons (λ x. 1) x xs in omega (arith, rest, more)

all_recoverable : (dockets : List Docket) → count_by is_recoverable (map open_of dockets) ≡ length dockets
all_recoverable [] = refl
all_recoverable (docket ∷ dockets) =
    let rest = all_recoverable dockets in
    let more = sum_by-cons (λ (one : Standing). cond (is_recoverable one) 1 0) (open_of docket) (map open_of dockets) in
    omega (arith, rest, more)

few_dockets : (state : State) → IsSound state → nat_le (length (tables_of state).dockets) MOST_DOCKETS ≡ true
few_dockets state sound =
    let after = stopped_sound state sound in
    let all = state.dockets ++ flat_map docket_left_by state.parties in
    let selected = (apart state sound).selected in
    let rows = one_row_each (ordered [] all) (all_ordered IsSelected all selected) in
    let same = sym (count_everything (ordered [] all)) ∙ length_permutes all (ordered [] all) (ordered_permutes all []) ∙ count_everything all in
    let few : count_by is_recoverable (flat_map standing_of_docket all ++ []) ≤ 16 = after.numbered.few in
    let count : count_by is_recoverable (flat_map standing_of_docket all ++ []) ≡ length all
    = ap (count_by is_recoverable) (append-nil (flat_map standing_of_docket all) ∙ standings_are state.files all after.dockets) ∙ all_recoverable all in
    le-leb (length (tables_of state).dockets) MOST_DOCKETS (omega (arith, rows, same, few, count))

-- ---- no docket excludes another

-- what a row holds of its file
abbrev use_of_row : tables.Docket → Use
use_of_row docket = record { file = docket.regime.file; controls = docket.regime.controls }

use_same : (docket : Docket) → map use_of_row (row_of docket) ≡ use_of_docket docket
use_same docket = by (regime docket.history) (under_way docket.history) (selection docket.history)
  where
    by : (opened : Option Regime) (moving : Option Transfer) (one : Option Selection) → map use_of_row (row_in docket opened moving one) ≡ use_by opened one
    by opened moving None = refl
    by opened moving (Some one) = refl

map_append : {A B : Type 0} (f : A → B) (xs ys : List A) → map f (xs ++ ys) ≡ map f xs ++ map f ys
map_append f [] ys = refl
map_append {B = B} f (x ∷ xs) ys = ap (λ (rest : List B). f x ∷ rest) (map_append f xs ys)

uses_same : (dockets : List Docket) → map use_of_row (flat_map row_of dockets) ≡ flat_map use_of_docket dockets
uses_same [] = refl
uses_same (docket ∷ dockets) = map_append use_of_row (row_of docket) (flat_map row_of dockets) ∙ (λ i. use_same docket i ++ uses_same dockets i)

-- what a docket holds; where it has no selection, nothing
abbrev use_or_none : Option Regime → Option Selection → Use
use_or_none opened None = record { file = []; controls = record { each = [] } }
use_or_none opened (Some one) = record { file = one.file; controls = controls_by one opened }

abbrev use_of : Docket → Use
use_of docket = use_or_none (regime docket.history) (selection docket.history)

one_use : (docket : Docket) → IsSelected docket → use_of_docket docket ≡ use_of docket ∷ []
one_use docket selected = by (selection docket.history) selected
  where
    by : (one : Option Selection) → IsSome one → use_by (regime docket.history) one ≡ use_or_none (regime docket.history) one ∷ []
    by None some = absurd cc
    by (Some one) some = refl

uses_are : (dockets : List Docket) → AllByRecursion IsSelected dockets → flat_map use_of_docket dockets ≡ map use_of dockets
uses_are [] selected = refl
uses_are (docket ∷ dockets) selected = λ i. one_use docket selected.0 i ++ uses_are dockets selected.1 i

all_map_of : {A B : Type 0} (f : A → B) (e : B → B → Bool) (x : A) (xs : List A) → AllByRecursion (λ y. e (f x) (f y) ≡ false) xs → AllByRecursion (λ y. e (f x) y ≡ false) (map f xs)
all_map_of f e x [] off = tt
all_map_of f e x (y ∷ xs) off = (off.0, all_map_of f e x xs off.1)

distinct_map : {A B : Type 0} (f : A → B) (e : B → B → Bool) (xs : List A) → IsDistinct (λ x y. e (f x) (f y)) xs → IsDistinct e (map f xs)
unfolding IsDistinct
distinct_map f e [] distinct = tt
distinct_map f e (x ∷ xs) distinct = (all_map_of f e x xs distinct.0, distinct_map f e xs distinct.1)

-- excluding is clashing
not_all : (pairs : List (Control × Control)) → not (list_all (λ (pair : Control × Control). not (clash pair.0 pair.1)) pairs) ≡ list_any (λ (pair : Control × Control). clash pair.0 pair.1) pairs
not_all [] = refl
not_all (pair ∷ pairs) = by (clash pair.0 pair.1) (not_all pairs)
  where
    by : (b : Bool) → not (list_all (λ (pair : Control × Control). not (clash pair.0 pair.1)) pairs) ≡ list_any (λ (pair : Control × Control). clash pair.0 pair.1) pairs
        → not (not b && list_all (λ (pair : Control × Control). not (clash pair.0 pair.1)) pairs) ≡ (b || list_any (λ (pair : Control × Control). clash pair.0 pair.1) pairs)
    by true rest = refl
    by false rest = rest

excludes : (one other : tables.Docket) → exclude one other ≡ do_clash (use_of_row one) (use_of_row other)
excludes one other = ap (λ b. bytes_eq one.regime.file other.regime.file && b) (not_all (zip one.regime.controls.each other.regime.controls.each))

none_excludes : (state : State) → IsSound state → all_differ exclude (tables_of state).dockets ≡ true
none_excludes state sound =
    let after = stopped_sound state sound in
    let all = state.dockets ++ flat_map docket_left_by state.parties in
    let selected = (apart state sound).selected in
    let e : Docket → Docket → Bool = λ (one other : Docket). do_clash (use_of one) (use_of other) in
    let first : IsDistinct do_clash (map use_of all)
    = subst (λ (uses : List Use). IsDistinct do_clash uses) (append-nil (flat_map use_of_docket all) ∙ uses_are all selected) after.agreed in
    let moved : IsDistinct e (ordered [] all)
    = IsDistinct-IsPermutation e (λ one other. uses_flip (use_of one) (use_of other)) all (ordered [] all) (ordered_permutes all []) (distinct_unmap use_of do_clash all first) in
    let same : map use_of (ordered [] all) ≡ map use_of_row (tables_of state).dockets
    = sym (uses_are (ordered [] all) (all_ordered IsSelected all selected)) ∙ sym (uses_same (ordered [] all)) in
    let rows : IsDistinct (λ (one other : tables.Docket). do_clash (use_of_row one) (use_of_row other)) (tables_of state).dockets
    = distinct_unmap use_of_row do_clash (tables_of state).dockets
    (subst (λ (uses : List Use). IsDistinct do_clash uses) same (distinct_map use_of do_clash (ordered [] all) moved)) in
    ap (λ (test : tables.Docket → tables.Docket → Bool). all_differ test (tables_of state).dockets) (λ i one other. excludes one other i)
    ∙ all_apart (λ (one other : tables.Docket). do_clash (use_of_row one) (use_of_row other)) (tables_of state).dockets rows

-- ---- all

pub tables_valid : (state : State) → IsSound state → AreOthersValid state.users state.tasks → list_all is_valid_file state.files ≡ true → list_all (is_valid_docket state.files) (tables_of state).dockets ≡ true
    → is_valid (tables_of state) ≡ true
tables_valid state sound others files dockets =
    let users = le-leb (length state.users) MOST_USERS others.few_users in
    let few = le-leb (length state.files) MOST_FILES sound.limited.counted in
    let tasks = le-leb (length state.tasks) MOST_TASKS others.few_tasks in
    let octets = le-leb (octets_of_files state.files) MOST_FILESTORE_OCTETS sound.limited.roomy in
    λ i. (others.users_differ i && files_apart state sound i && dockets_apart state sound i && others.tasks_differ i)
    && (users i && few i && few_dockets state sound i && tasks i && octets i)
    && files i && dockets i && none_excludes state sound i && others.tasks_valid i
