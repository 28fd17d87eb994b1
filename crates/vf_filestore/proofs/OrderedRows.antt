-- The rows of dockets in the order of their opens, where one is more, is gone, or is changed.
use Rattle.std.proofs.Common.{◌≡◌, ℕ, ◌<◌, Bool, true, false, cond, ◌&&◌, nat_eq, List, [], ◌∷◌, ◌++◌, map, Option, None, Some, refl, ap, sym, subst, ◌∙◌, arith}
use Rattle.std.specs.Prelude.{IsSome, flat_map, nat_le}
use Rattle.std.specs.List.{AllByRecursion, IsDistinct}
use Rattle.std.specs.List.Sorted.{IsPermutation}
use Rattle.std.specs.Str.{bytes_eq}
use Rattle.std.proofs.lemmas.Bool.{le-leb}
use Rattle.std.proofs.lemmas.List.{append-nil}
use Rattle.std.proofs.lemmas.List.Sorted.{IsPermutation-append_comm, IsPermutation-append_left, IsPermutation-cons, IsPermutation-middle, IsPermutation-refl, IsPermutation-trans}
use Rattle.std.proofs.lemmas.Map.Keys.{IsDistinct-IsPermutation}
use Rattle.vf_attr.specs.declared.file.File.{File}
use Rattle.vf_tables.specs.declared.docket.Docket as tables
use Rattle.vf_filestore.specs.Changes.{is_same_open}
use Rattle.vf_filestore.specs.History.{Regime, Selection, regime, selection}
use Rattle.vf_filestore.specs.Sound.{IsBefore, IsSoundDocket, Standing, is_same_number, standing_by, standing_of_docket}
use Rattle.vf_filestore.specs.Sound as standings
use Rattle.vf_filestore.specs.State.{Docket, activity_in}
use Rattle.vf_filestore.specs.Tables.{in_order, number_in, number_of_open, regime_by, row_in, row_of, staged_of}
use Rattle.vf_filestore.specs.Transfers.{under_way}
use Rattle.vf_filestore.proofs.DocketSteps.{DocketStep, IsOtherDocket}
use Rattle.vf_filestore.proofs.DocketSteps as steps
use Rattle.vf_filestore.proofs.Filed.{names_flip}
use Rattle.vf_filestore.proofs.Kept.{IsOtherNumber, ordered, ordered_append, ordered_past}
use Rattle.vf_filestore.proofs.Lists.{all_append, all-permutation, all_unmap, flat_map-append}
use Rattle.vf_filestore.proofs.Parties.{nat_eq_flips}

-- ---- the order

order_permutes : (docket : Docket) (list : List Docket) → IsPermutation (docket ∷ list) (in_order docket list)
order_permutes docket [] = IsPermutation-refl (docket ∷ [])
order_permutes docket (other ∷ list) = by (nat_le (number_of_open other) (number_of_open docket)) (order_permutes docket list)
  where
    by : (b : Bool) → IsPermutation (docket ∷ list) (in_order docket list) → IsPermutation (docket ∷ other ∷ list) (cond b (other ∷ in_order docket list) (docket ∷ other ∷ list))
    by true rest =
        IsPermutation-trans (docket ∷ other ∷ list) (other ∷ docket ∷ list) (other ∷ in_order docket list)
        (IsPermutation-append_left list (docket ∷ other ∷ []) (other ∷ docket ∷ []) (IsPermutation-append_comm (docket ∷ []) (other ∷ [])))
        (IsPermutation-cons other (docket ∷ list) (in_order docket list) rest)
    by false rest = IsPermutation-refl (docket ∷ other ∷ list)

pub ordered_permutes : (dockets first : List Docket) → IsPermutation (first ++ dockets) (ordered first dockets)
ordered_permutes [] first = subst (λ (all : List Docket). IsPermutation all first) (sym (append-nil first)) (IsPermutation-refl first)
ordered_permutes (docket ∷ dockets) first =
    IsPermutation-trans (first ++ docket ∷ dockets) (docket ∷ (first ++ dockets)) (ordered (in_order docket first) dockets) (IsPermutation-middle first docket dockets)
    (IsPermutation-trans (docket ∷ (first ++ dockets)) (in_order docket first ++ dockets) (ordered (in_order docket first) dockets)
    (IsPermutation-append_left dockets (docket ∷ first) (in_order docket first) (order_permutes docket first))
    (ordered_permutes dockets (in_order docket first)))

pub all_ordered : (P : Docket → Type 0) (dockets : List Docket) → AllByRecursion P dockets → AllByRecursion P (ordered [] dockets)
all_ordered P dockets all = all-permutation P dockets (ordered [] dockets) (ordered_permutes dockets []) all

-- one of others is put in order after them
pub pulled : (others later : List Docket) (docket : Docket) → AllByRecursion (IsOtherNumber docket) later
    → ordered [] (others ++ docket ∷ later) ≡ in_order docket (ordered [] (others ++ later))
pulled others later docket off =
    ordered_append [] others (docket ∷ later)
    ∙ ap (λ (all : List Docket). ordered (ordered [] others) (docket ∷ all)) (sym (append-nil later))
    ∙ ordered_past docket later [] (ordered [] others) off
    ∙ ordered_append (ordered [] others) later (docket ∷ [])
    ∙ ap (in_order docket) (sym (ordered_append [] others later))

-- where a docket of this number stands in order
pub record Placed (number : ℕ) (list : List Docket) : Type 0 where
  pub first : List Docket
  pub later : List Docket
  pub is : list ≡ first ++ later
  pub at : (docket : Docket) → number_of_open docket ≡ number → in_order docket list ≡ first ++ docket ∷ later

pub placed : (number : ℕ) (list : List Docket) → Placed number list
placed number [] = record { first = []; later = []; is = refl; at = λ docket is. refl }
placed number (other ∷ list) = by (nat_le (number_of_open other) number) refl (placed number list)
  where
    by : (b : Bool) → nat_le (number_of_open other) number ≡ b → Placed number list → Placed number (other ∷ list)
    by true is rest = record {
      first = other ∷ rest.first;
      later = rest.later;
      is = ap (λ (all : List Docket). other ∷ all) rest.is;
      at = λ docket same.
          (λ i. cond ((ap (nat_le (number_of_open other)) same ∙ is) i) (other ∷ in_order docket list) (docket ∷ other ∷ list))
          ∙ ap (λ (all : List Docket). other ∷ all) (rest.at docket same);
    }
    by false is rest = record {
      first = [];
      later = other ∷ list;
      is = refl;
      at = λ docket same. λ i. cond ((ap (nat_le (number_of_open other)) same ∙ is) i) (other ∷ in_order docket list) (docket ∷ other ∷ list);
    }

-- the highest number stands last
pub last_in_order : (docket : Docket) (list : List Docket) → AllByRecursion (λ (other : Docket). number_of_open other < number_of_open docket) list → in_order docket list ≡ list ++ docket ∷ []
last_in_order docket [] below = refl
last_in_order docket (other ∷ list) below =
    let less : number_of_open other < number_of_open docket = below.0 in
    let is : nat_le (number_of_open other) (number_of_open docket) ≡ true = le-leb (number_of_open other) (number_of_open docket) (omega (arith, less)) in
    (λ i. cond (is i) (other ∷ in_order docket list) (docket ∷ other ∷ list)) ∙ ap (λ (all : List Docket). other ∷ all) (last_in_order docket list below.1)

-- ---- sound dockets

-- the open of a docket
abbrev pub open_of : Docket → Standing
open_of docket = record { identity = docket.identity; activity = Some docket.activity; number = number_of_open docket }

one_standing : (files : List File) (docket : Docket) → IsSoundDocket files docket → standing_of_docket docket ≡ open_of docket ∷ []
one_standing files docket sound = by (regime docket.history) sound.opened
  where
    by : (one : Option Regime) → activity_in one ≡ Some docket.activity
        → standing_by docket.identity one ≡ record { identity = docket.identity; activity = Some docket.activity; number = number_in one } ∷ []
    by None is = absurd cc
    by (Some opened) is = λ i. record { identity = docket.identity; activity = is i; number = opened.number } ∷ []

pub standings_are : (files : List File) (dockets : List Docket) → AllByRecursion (IsSoundDocket files) dockets → flat_map standing_of_docket dockets ≡ map open_of dockets
standings_are files [] sound = refl
standings_are files (docket ∷ dockets) sound = λ i. one_standing files docket sound.0 i ++ standings_are files dockets sound.1 i

pub distinct_unmap : {A B : Type 0} (f : A → B) (e : B → B → Bool) (xs : List A) → IsDistinct e (map f xs) → IsDistinct (λ x y. e (f x) (f y)) xs
unfolding IsDistinct
distinct_unmap f e [] distinct = tt
distinct_unmap f e (x ∷ xs) distinct = (all_unmap f (λ y. e (f x) y ≡ false) xs distinct.0, distinct_unmap f e xs distinct.1)

-- of one initiator and activity
abbrev pub is_same_key : Docket → Docket → Bool
is_same_key one other = bytes_eq one.identity other.identity && nat_eq one.activity other.activity

pub key_flips : (one other : Docket) → is_same_key one other ≡ is_same_key other one
key_flips one other = λ i. names_flip one.identity other.identity i && nat_eq_flips one.activity other.activity i

abbrev pub is_same_open_number : Docket → Docket → Bool
is_same_open_number one other = nat_eq (number_of_open one) (number_of_open other)

pub keys_differ : (files : List File) (dockets : List Docket) → AllByRecursion (IsSoundDocket files) dockets → IsDistinct standings.is_same_open (flat_map standing_of_docket dockets) → IsDistinct is_same_key dockets
keys_differ files dockets sound distinct =
    distinct_unmap open_of standings.is_same_open dockets (subst (λ (all : List Standing). IsDistinct standings.is_same_open all) (standings_are files dockets sound) distinct)

pub numbers_differ : (files : List File) (dockets : List Docket) → AllByRecursion (IsSoundDocket files) dockets → IsDistinct is_same_number (flat_map standing_of_docket dockets) → IsDistinct is_same_open_number dockets
numbers_differ files dockets sound distinct =
    distinct_unmap open_of is_same_number dockets (subst (λ (all : List Standing). IsDistinct is_same_number all) (standings_are files dockets sound) distinct)

pub numbers_below : (files : List File) (next : ℕ) (dockets : List Docket) → AllByRecursion (IsSoundDocket files) dockets → AllByRecursion (IsBefore next) (flat_map standing_of_docket dockets)
    → AllByRecursion (λ (docket : Docket). number_of_open docket < next) dockets
numbers_below files next dockets sound below =
    all_unmap open_of (IsBefore next) dockets (subst (λ (all : List Standing). AllByRecursion (IsBefore next) all) (standings_are files dockets sound) below)

-- ---- rows

pub record HasRow (docket : Docket) : Type 0 where
  pub row : tables.Docket
  pub is : row_of docket ≡ row ∷ []
  pub identity : row.regime.identity ≡ docket.identity
  pub activity : row.regime.activity ≡ docket.activity

abbrev row_with : Docket → Selection → tables.Docket
row_with docket one = record { regime = regime_by docket (regime docket.history) one (under_way docket.history); staged = staged_of docket.history (under_way docket.history) }

pub has_row : (docket : Docket) → IsSome (selection docket.history) → HasRow docket
has_row docket some = by (selection docket.history) refl some
  where
    by : (one : Option Selection) → selection docket.history ≡ one → IsSome one → HasRow docket
    by None is some = absurd cc
    by (Some one) is some = record {
      row = row_with docket one;
      is = ap (row_in docket (regime docket.history) (under_way docket.history)) is;
      identity = refl;
      activity = refl;
    }

-- rows are of one open where their dockets are
same_key : (one other : Docket) (a : HasRow one) (b : HasRow other) → is_same_open a.row b.row ≡ is_same_key one other
same_key one other a b = λ i. bytes_eq (a.identity i) (b.identity i) && nat_eq (a.activity i) (b.activity i)

abbrev pub IsSelected : Docket → Type 0
IsSelected docket = IsSome (selection docket.history)

rows_other : (docket : Docket) (row : HasRow docket) (dockets : List Docket) → AllByRecursion IsSelected dockets → AllByRecursion (λ (other : Docket). is_same_key docket other ≡ false) dockets
    → AllByRecursion (IsOtherDocket row.row) (flat_map row_of dockets)
rows_other docket row [] selected off = tt
rows_other docket row (other ∷ dockets) selected off =
    let one = has_row other selected.0 in
    all_append (IsOtherDocket row.row) (row_of other) (flat_map row_of dockets)
    (subst (λ (rows : List tables.Docket). AllByRecursion (IsOtherDocket row.row) rows) (sym one.is) (same_key docket other row one ∙ off.0, tt))
    (rows_other docket row dockets selected.1 off.1)

rows_differ : (dockets : List Docket) → AllByRecursion IsSelected dockets → IsDistinct is_same_key dockets → IsDistinct is_same_open (flat_map row_of dockets)
unfolding IsDistinct
rows_differ [] selected distinct = tt
rows_differ (docket ∷ dockets) selected distinct =
    let one = has_row docket selected.0 in
    subst (λ (rows : List tables.Docket). IsDistinct is_same_open (rows ++ flat_map row_of dockets)) (sym one.is)
    (rows_other docket one dockets selected.1 distinct.0, rows_differ dockets selected.1 distinct.1)

pub ordered_rows_differ : (dockets : List Docket) → AllByRecursion IsSelected dockets → IsDistinct is_same_key dockets → IsDistinct is_same_open (flat_map row_of (ordered [] dockets))
ordered_rows_differ dockets selected distinct =
    rows_differ (ordered [] dockets) (all_ordered IsSelected dockets selected)
    (IsDistinct-IsPermutation is_same_key key_flips dockets (ordered [] dockets) (ordered_permutes dockets []) distinct)

-- the rows of others with one between them
pub rows_between : (first later : List Docket) (docket : Docket) (row : HasRow docket) → flat_map row_of (first ++ docket ∷ later) ≡ flat_map row_of first ++ row.row ∷ flat_map row_of later
rows_between first later docket row =
    flat_map-append row_of first (docket ∷ later) ∙ ap (λ (rows : List tables.Docket). flat_map row_of first ++ (rows ++ flat_map row_of later)) row.is

pub step_changed : (old new : Docket) (list : List Docket) → HasRow old → HasRow new → number_of_open new ≡ number_of_open old → new.identity ≡ old.identity → new.activity ≡ old.activity
    → DocketStep (flat_map row_of (in_order old list)) (flat_map row_of (in_order new list))
step_changed old new list was is number identity activity =
    let at = placed (number_of_open old) list in
    steps.changed (flat_map row_of at.first) (flat_map row_of at.later) was.row is.row
    (ap (flat_map row_of) (at.at old refl) ∙ rows_between at.first at.later old was)
    (ap (flat_map row_of) (at.at new number) ∙ rows_between at.first at.later new is)
    (is.identity ∙ identity ∙ sym was.identity) (is.activity ∙ activity ∙ sym was.activity)

pub step_gone : (docket : Docket) (list : List Docket) → HasRow docket → DocketStep (flat_map row_of (in_order docket list)) (flat_map row_of list)
step_gone docket list was =
    let at = placed (number_of_open docket) list in
    steps.gone (flat_map row_of at.first) (flat_map row_of at.later) was.row
    (ap (flat_map row_of) (at.at docket refl) ∙ rows_between at.first at.later docket was)
    (ap (flat_map row_of) at.is ∙ flat_map-append row_of at.first at.later)

pub step_added : (docket : Docket) (list : List Docket) → HasRow docket → AllByRecursion IsSelected list → AllByRecursion (λ (other : Docket). number_of_open other < number_of_open docket) list
    → AllByRecursion (λ (other : Docket). is_same_key docket other ≡ false) list → DocketStep (flat_map row_of list) (flat_map row_of (in_order docket list))
step_added docket list row selected below off =
    steps.added row.row
    (ap (flat_map row_of) (last_in_order docket list below) ∙ rows_between list [] docket row)
    (rows_other docket row list selected off)
