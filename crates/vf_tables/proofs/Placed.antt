-- What is done at the place of the first entry that is meant is done to the entry that is meant.
use Rattle.std.proofs.Common.{◌≡◌, ℕ, zero, suc, ◌<◌, ◌≤◌, Bool, true, false, cond, ltb, List, [], ◌∷◌, ◌++◌, length, get_or, Option, Some, None, refl, sym, ap, ◌∙◌, arith}
use Rattle.std.specs.Prelude.{IfSome, find, slice_set}
use Rattle.std.specs.List.{position, position_or_len, remove}
use Rattle.std.proofs.lemmas.Bool.{ltb-false}
use Rattle.std.proofs.lemmas.List.Quantifiers.{position-Some}
use Rattle.std.proofs.lemmas.List.Sums.{fails_before_first}
use Rattle.vf_tables.specs.Entries.{changed, dropped, put}
use Rattle.vf_tables.specs.Places.{dropped_at, put_at}

not_some : (b : Bool) (i : ℕ) → cond b (Some i) None ≡ None → b ≡ false
not_some true i e = absurd cc
not_some false i e = refl

module _ {A : Type 0} (p : A → Bool) where
  -- where there is no first place, none is meant
  none_meant : (xs : List A) → position p xs ≡ None → (k : ℕ) (d : A) → k < length xs → p (get_or xs k d) ≡ false
  none_meant xs none k d lt =
      let le : length xs ≤ position_or_len p xs = ltb-false (position_or_len p xs) (length xs) (not_some (ltb (position_or_len p xs) (length xs)) (position_or_len p xs) none) in
      fails_before_first p xs k d (omega arith)

  put_there : (e : A) (xs : List A) (i : ℕ) (d : A) → i < length xs → p (get_or xs i d) ≡ true → ((k : ℕ) → k < i → p (get_or xs k d) ≡ false) → put p e xs ≡ slice_set xs i e
  put_there e [] i d lt here below = absurd (omega arith)
  put_there e (x ∷ xs) zero d lt here below = rw here refl
  put_there e (x ∷ xs) (suc i) d lt here below =
      let not_here : p x ≡ false = below 0 (omega arith) in
      let lt_rest : i < length xs = omega arith in
      rw not_here (ap (λ (l : List A). x ∷ l) (put_there e xs i d lt_rest here (λ k l. below (suc k) (omega arith))))

  put_last : (e : A) (xs : List A) → ((k : ℕ) (d : A) → k < length xs → p (get_or xs k d) ≡ false) → put p e xs ≡ xs ++ e ∷ []
  put_last e [] none = refl
  put_last e (x ∷ xs) none =
      let not_here : p x ≡ false = none 0 e (omega arith) in
      rw not_here (ap (λ (l : List A). x ∷ l) (put_last e xs (λ k d l. none (suc k) d (omega arith))))

  pub put_by_place : (e : A) (xs : List A) (place : Option ℕ) → place ≡ position p xs → put_at place e xs ≡ put p e xs
  put_by_place e xs (Some i) h = let f = position-Some p xs i e (sym h) in sym (put_there e xs i e f.0 f.1 f.2)
  put_by_place e xs None h = sym (put_last e xs (none_meant xs (sym h)))

  changed_there : (f : A → A) (xs : List A) (i : ℕ) (d : A) → i < length xs → p (get_or xs i d) ≡ true → ((k : ℕ) → k < i → p (get_or xs k d) ≡ false)
      → changed p f xs ≡ slice_set xs i (f (get_or xs i d))
  changed_there f [] i d lt here below = absurd (omega arith)
  changed_there f (x ∷ xs) zero d lt here below = rw here refl
  changed_there f (x ∷ xs) (suc i) d lt here below =
      let not_here : p x ≡ false = below 0 (omega arith) in
      let lt_rest : i < length xs = omega arith in
      rw not_here (ap (λ (l : List A). x ∷ l) (changed_there f xs i d lt_rest here (λ k l. below (suc k) (omega arith))))

  changed_nowhere : (f : A → A) (xs : List A) → ((k : ℕ) (d : A) → k < length xs → p (get_or xs k d) ≡ false) → changed p f xs ≡ xs
  changed_nowhere f [] none = refl
  changed_nowhere f (x ∷ xs) none =
      let not_here : p x ≡ false = none 0 x (omega arith) in
      rw not_here (ap (λ (l : List A). x ∷ l) (changed_nowhere f xs (λ k d l. none (suc k) d (omega arith))))

  pub changed_at_place : (f : A → A) (xs : List A) (i : ℕ) (d : A) → position p xs ≡ Some i → slice_set xs i (f (get_or xs i d)) ≡ changed p f xs
  changed_at_place f xs i d h = let g = position-Some p xs i d h in sym (changed_there f xs i d g.0 g.1 g.2)

  pub unchanged : (f : A → A) (xs : List A) → position p xs ≡ None → xs ≡ changed p f xs
  unchanged f xs h = sym (changed_nowhere f xs (none_meant xs h))

  dropped_there : (xs : List A) (i : ℕ) (d : A) → i < length xs → p (get_or xs i d) ≡ true → ((k : ℕ) → k < i → p (get_or xs k d) ≡ false) → dropped p xs ≡ remove xs i
  dropped_there [] i d lt here below = absurd (omega arith)
  dropped_there (x ∷ xs) zero d lt here below = rw here refl
  dropped_there (x ∷ xs) (suc i) d lt here below =
      let not_here : p x ≡ false = below 0 (omega arith) in
      let lt_rest : i < length xs = omega arith in
      rw not_here (ap (λ (l : List A). x ∷ l) (dropped_there xs i d lt_rest here (λ k l. below (suc k) (omega arith))))

  dropped_nowhere : (xs : List A) → ((k : ℕ) (d : A) → k < length xs → p (get_or xs k d) ≡ false) → dropped p xs ≡ xs
  dropped_nowhere [] none = refl
  dropped_nowhere (x ∷ xs) none =
      let not_here : p x ≡ false = none 0 x (omega arith) in
      rw not_here (ap (λ (l : List A). x ∷ l) (dropped_nowhere xs (λ k d l. none (suc k) d (omega arith))))

  dropped_first : (x : A) (xs : List A) (place : Option ℕ) → place ≡ position p (x ∷ xs) → dropped_at place (x ∷ xs) ≡ dropped p (x ∷ xs)
  dropped_first x xs (Some i) h = let f = position-Some p (x ∷ xs) i x (sym h) in sym (dropped_there (x ∷ xs) i x f.0 f.1 f.2)
  dropped_first x xs None h = sym (dropped_nowhere (x ∷ xs) (none_meant (x ∷ xs) (sym h)))

  pub dropped_by_place : (xs : List A) (place : Option ℕ) → place ≡ position p xs → dropped_at place xs ≡ dropped p xs
  dropped_by_place [] (Some i) h = absurd cc
  dropped_by_place [] None h = refl
  dropped_by_place (x ∷ xs) place h = dropped_first x xs place h

  find_there : (xs : List A) (i : ℕ) (d : A) → i < length xs → p (get_or xs i d) ≡ true → ((k : ℕ) → k < i → p (get_or xs k d) ≡ false) → find p xs ≡ Some (get_or xs i d)
  find_there [] i d lt here below = absurd (omega arith)
  find_there (x ∷ xs) zero d lt here below = rw here refl
  find_there (x ∷ xs) (suc i) d lt here below =
      let not_here : p x ≡ false = below 0 (omega arith) in
      let lt_rest : i < length xs = omega arith in
      rw not_here (find_there xs i d lt_rest here (λ k l. below (suc k) (omega arith)))

  find_nowhere : (xs : List A) → ((k : ℕ) (d : A) → k < length xs → p (get_or xs k d) ≡ false) → find p xs ≡ None
  find_nowhere [] none = refl
  find_nowhere (x ∷ xs) none =
      let not_here : p x ≡ false = none 0 x (omega arith) in
      rw not_here (find_nowhere xs (λ k d l. none (suc k) d (omega arith)))

  pub found_at_place : (xs : List A) (i : ℕ) (d : A) → position p xs ≡ Some i → find p xs ≡ Some (get_or xs i d)
  found_at_place xs i d h = let f = position-Some p xs i d h in find_there xs i d f.0 f.1 f.2

  pub found_nowhere : (xs : List A) → position p xs ≡ None → find p xs ≡ None
  found_nowhere xs h = find_nowhere xs (none_meant xs h)

  pub place_within : (xs : List A) (place : Option ℕ) → place ≡ position p xs → IfSome place (λ (i : ℕ). i < length xs)
  place_within [] (Some i) h = absurd cc
  place_within [] None h = tt
  place_within (x ∷ xs) (Some i) h = (position-Some p (x ∷ xs) i x (sym h)).0
  place_within (x ∷ xs) None h = tt

  -- an entry is put at its place
  pub put_at_place : (e : A) (xs : List A) (i : ℕ) → position p xs ≡ Some i → slice_set xs i e ≡ put p e xs
  put_at_place e xs i h = put_by_place e xs (Some i) (sym h)

  pub put_after : (e : A) (xs : List A) → position p xs ≡ None → xs ++ e ∷ [] ≡ put p e xs
  put_after e xs h = put_by_place e xs None (sym h)

  -- the same at the places of the code: the list that is looked through, the one that is changed, and the one that stands
  placed : (xs ys zs : List A) (place : Option ℕ) (i : ℕ) → place ≡ position p zs → zs ≡ ys → xs ≡ ys → place ≡ Some i → position p xs ≡ Some i
  placed xs ys zs place i at zy xy some = ap (position p) (xy ∙ sym zy) ∙ (sym at ∙ some)

  unplaced : (ys zs : List A) (place : Option ℕ) → place ≡ position p zs → zs ≡ ys → place ≡ None → position p ys ≡ None
  unplaced ys zs place at zy none = ap (position p) (sym zy) ∙ (sym at ∙ none)

  pub changed_in_place : (f : A → A) (xs ys zs : List A) (place : Option ℕ) (i : ℕ) (new old : A) → place ≡ position p zs → zs ≡ ys → xs ≡ ys → place ≡ Some i → old ≡ get_or xs i old → new ≡ f old
      → slice_set xs i new ≡ changed p f ys
  changed_in_place f xs ys zs place i new old at zy xy some here made =
      ap (λ (x : A). slice_set xs i x) (made ∙ ap f here) ∙ (changed_at_place f xs i old (placed xs ys zs place i at zy xy some) ∙ ap (changed p f) xy)

  pub unchanged_in : (f : A → A) (ys zs : List A) (place : Option ℕ) → place ≡ position p zs → zs ≡ ys → place ≡ None → ys ≡ changed p f ys
  unchanged_in f ys zs place at zy none = unchanged f ys (unplaced ys zs place at zy none)

  -- an entry is put in the place of the one that is meant, of which a part stays
  pub put_in_place : {B : Type 0} (make : B → A) (part : Option A → B) (keep : A → B) (xs ys zs : List A) (place : Option ℕ) (i : ℕ) (new old : A) → place ≡ position p zs → zs ≡ ys → xs ≡ ys → place ≡ Some i
      → old ≡ get_or xs i old → new ≡ make (keep old) → ((x : A) → part (Some x) ≡ keep x) → slice_set xs i new ≡ put p (make (part (find p ys))) ys
  put_in_place make part keep xs ys zs place i new old at zy xy some here made kept =
      let there = placed xs ys zs place i at zy xy some in
      let found : part (find p xs) ≡ keep old = ap part (found_at_place xs i old there) ∙ (kept (get_or xs i old) ∙ ap keep (sym here)) in
      ap (λ (x : A). slice_set xs i x) (made ∙ ap make (sym found)) ∙ (put_at_place (make (part (find p xs))) xs i there ∙ ap (λ (l : List A). put p (make (part (find p l))) l) xy)

  pub put_last_in : {B : Type 0} (make : B → A) (part : Option A → B) (ys zs ws : List A) (place : Option ℕ) (new : A) → place ≡ position p zs → zs ≡ ys → place ≡ None → ws ≡ ys ++ new ∷ [] → new ≡ make (part None)
      → ws ≡ put p (make (part (find p ys))) ys
  put_last_in make part ys zs ws place new at zy none pushed made =
      let there = unplaced ys zs place at zy none in
      pushed ∙ (ap (λ (x : A). ys ++ x ∷ []) (made ∙ ap (λ (o : Option A). make (part o)) (sym (found_nowhere ys there))) ∙ put_after (make (part (find p ys))) ys there)
