-- Lists of entries beside the lists of their names.
use Rattle.std.proofs.Common.{◌≡◌, ℕ, zero, suc, ◌+◌, ◌-◌, ◌<◌, ◌≤◌, Bool, true, false, cond, ltb, not, List, [], ◌∷◌, ◌++◌, length, map, get_or, take, drop, nat_eq, Option, Some, None, refl, sym, ap, subst, ◌∙◌, arith}
use Rattle.std.specs.Prelude.{IfSome, find, slice_get, slice_set}
use Rattle.std.specs.Cmp.Lexicographic.{pointwise}
use Rattle.std.specs.List.{position, position_or_len, remove, swap_remove}
use Rattle.std.proofs.lemmas.Bool.{ltb-false}
use Rattle.std.proofs.lemmas.List.{drop-map, get_or_at, length-append, length-map, length-set, map-append, set-append_left, set-get_or, take-map, take_at}
use Rattle.std.proofs.lemmas.List.Quantifiers.{position-Some}
use Rattle.std.proofs.lemmas.List.Sums.{fails_before_first}
use Rattle.std.proofs.lemmas.Slice.Eq.{bytes_eq-Decides}

-- PLACES. The place of the first entry that is meant, and that entry.
module _ {A : Type 0} (p : A → Bool) where
  get_there : (xs : List A) (i : ℕ) → i < length xs → ((d : A) → p (get_or xs i d) ≡ true) → ((k : ℕ) (d : A) → k < i → p (get_or xs k d) ≡ false) → slice_get xs i ≡ find p xs
  get_there [] i lt here below = absurd (omega arith)
  get_there (x ∷ xs) zero lt here below = let is : p x ≡ true = here x in rw is refl
  get_there (x ∷ xs) (suc i) lt here below =
      let not_here : p x ≡ false = below 0 x (omega arith) in
      let lt_rest : i < length xs = omega arith in
      rw not_here (get_there xs i lt_rest here (λ k d l. below (suc k) d (omega arith)))

  pub found_there : (xs : List A) (i : ℕ) → position p xs ≡ Some i → slice_get xs i ≡ find p xs
  found_there [] i at = absurd cc
  found_there (x ∷ xs) i at =
      get_there (x ∷ xs) i (position-Some p (x ∷ xs) i x at).0 (λ d. (position-Some p (x ∷ xs) i d at).1) (λ k d l. (position-Some p (x ∷ xs) i d at).2 k l)

  not_some : (b : Bool) (i : ℕ) → cond b (Some i) None ≡ None → b ≡ false
  not_some true i e = absurd cc
  not_some false i e = refl

  none_meant : (xs : List A) → position p xs ≡ None → (k : ℕ) (d : A) → k < length xs → p (get_or xs k d) ≡ false
  none_meant xs none k d lt =
      let le : length xs ≤ position_or_len p xs = ltb-false (position_or_len p xs) (length xs) (not_some (ltb (position_or_len p xs) (length xs)) (position_or_len p xs) none) in
      fails_before_first p xs k d (omega arith)

  find_nowhere : (xs : List A) → ((k : ℕ) (d : A) → k < length xs → p (get_or xs k d) ≡ false) → find p xs ≡ None
  find_nowhere [] none = refl
  find_nowhere (x ∷ xs) none =
      let not_here : p x ≡ false = none 0 x (omega arith) in
      rw not_here (find_nowhere xs (λ k d l. none (suc k) d (omega arith)))

  pub found_nowhere : (xs : List A) → position p xs ≡ None → find p xs ≡ None
  found_nowhere xs none = find_nowhere xs (none_meant xs none)

-- the place of a name is that of its entry
module _ {A B : Type 0} (f : A → B) (p : B → Bool) where
  prefix_mapped : (xs : List A) → position_or_len p (map f xs) ≡ position_or_len (λ (x : A). p (f x)) xs
  prefix_mapped [] = refl
  prefix_mapped (x ∷ xs) = ap (λ (n : ℕ). cond (not (p (f x))) (1 + n) 0) (prefix_mapped xs)

  pub position_mapped : (xs : List A) → position p (map f xs) ≡ position (λ (x : A). p (f x)) xs
  position_mapped xs = λ i. cond (ltb (prefix_mapped xs i) (length-map xs f i)) (Some (prefix_mapped xs i)) None

-- CHANGES
pub remove_mapped : {A B : Type 0} (f : A → B) (xs : List A) (i : ℕ) → map f (remove xs i) ≡ remove (map f xs) i
remove_mapped f xs i = map-append f (take i xs) (drop (suc i) xs) ∙ (λ j. sym (take-map f i xs) j ++ sym (drop-map f (suc i) xs) j)

-- an item that is put last, and then in the place of another
last_there : {A : Type 0} (xs : List A) (x : A) (i last : ℕ) → i < length xs → last ≡ length xs → take last (slice_set (xs ++ x ∷ []) i x) ≡ slice_set xs i x
last_there xs x i last lt is =
    ap (take last) (set-append_left xs (x ∷ []) i x lt) ∙ take_at (slice_set xs i x) (x ∷ []) last (length-set xs i x ∙ sym is)

swapped_at : {A : Type 0} (xs : List A) (x d : A) (i last : ℕ) → i < length xs → last ≡ length xs → take last (slice_set (xs ++ x ∷ []) i (get_or (xs ++ x ∷ []) last d)) ≡ slice_set xs i x
swapped_at xs x d i last lt is =
    ap (λ (y : _). take last (slice_set (xs ++ x ∷ []) i y)) (get_or_at xs x [] d last (sym is)) ∙ last_there xs x i last lt is

pub swapped : {A : Type 0} (xs : List A) (x d : A) (i : ℕ) → i < length xs → swap_remove (xs ++ x ∷ []) i d ≡ slice_set xs i x
swapped xs x d i lt = swapped_at xs x d i (length (xs ++ x ∷ []) - 1) lt (omega (arith, length-append xs (x ∷ [])))

absent_within : {A : Type 0} (xs : List A) (i : ℕ) → i < length xs → slice_get xs i ≡ None → ⊥
absent_within [] i lt none = omega arith
absent_within (x ∷ xs) zero lt none = cc
absent_within (x ∷ xs) (suc i) lt none = absent_within xs i (omega arith) none

pub swapped_in : {A : Type 0} (old mid new : List A) (x : A) (i : ℕ) (out : Option A) → i < length old → mid ≡ old ++ x ∷ [] → out ≡ slice_get mid i → IfSome out (λ d. new ≡ swap_remove mid i d) → new ≡ slice_set old i x
swapped_in old mid new x i None lt pushed is swaps =
    absurd (absent_within (old ++ x ∷ []) i (omega (arith, length-append old (x ∷ []))) (ap (λ l. slice_get l i) (sym pushed) ∙ sym is))
swapped_in old mid new x i (Some d) lt pushed is swaps = swaps ∙ ap (λ l. swap_remove l i d) pushed ∙ swapped old x d i lt

-- a name that has this place already
pub in_place : (names : List (List ℕ)) (name : List ℕ) (i : ℕ) → position (pointwise nat_eq name) names ≡ Some i → names ≡ slice_set names i name
in_place names name i at =
    let is : name ≡ get_or names i [] = (bytes_eq-Decides name (get_or names i [])).0 (position-Some (pointwise nat_eq name) names i [] at).1 in
    sym (ap (λ n. slice_set names i n) is ∙ set-get_or names i [])

-- a name that isn't there
pub inserted_last : (there is_new : Bool) (names : List (List ℕ)) (name : List ℕ) → is_new ≡ not there → is_new ≡ true → cond there names (names ++ name ∷ []) ≡ names ++ name ∷ []
inserted_last true is_new names name is new = absurd cc
inserted_last false is_new names name is new = refl

pub inserted_new : (there : Bool) (names : List (List ℕ)) (name : List ℕ) → there ≡ false → cond there names (names ++ name ∷ []) ≡ names ++ name ∷ []
inserted_new true names name is = absurd cc
inserted_new false names name is = refl
