-- The entry that is meant among those of tables, and tasks by their activities.
use Rattle.std.proofs.Common.{◌≡◌, ◌≤◌, ℕ, suc, Bool, true, false, ◌&&◌, not, nat_eq, if◌then◌else◌, List, [], ◌∷◌, length, find, refl, sym, ap, ◌∙◌, arith, Option, None, Some}
use Rattle.std.specs.List.{list_all}
use Rattle.std.proofs.lemmas.Bool.Decides.{nat_tests}
use Rattle.vf_tables.specs.Entries.{changed, dropped, is_task, put}
use Rattle.vf_tables.specs.Validity.{all_differ}
use Rattle.vf_tables.specs.declared.task.Task.{Task}

pub both : (a b : Bool) → a ≡ true → b ≡ true → (a && b) ≡ true
both true b first second = second
both false b first second = cc

pub first_of : (a b : Bool) → (a && b) ≡ true → a ≡ true
first_of true b is = refl
first_of false b is = is

pub second_of : (a b : Bool) → (a && b) ≡ true → b ≡ true
second_of true b is = is
second_of false b is = cc

-- ---- the entry that is meant

module _ {A : Type 0} (m : A → Bool) where
  find_by : (e x : A) (xs : List A) (b : Bool) → m x ≡ b → m e ≡ true → find m (put m e xs) ≡ Some e → find m (if b then e ∷ xs else x ∷ put m e xs) ≡ Some e
  find_by e x xs true is meant rest = rw meant refl
  find_by e x xs false is meant rest = rw is rest

  -- one that is put is found
  pub find_put : (e : A) (xs : List A) → m e ≡ true → find m (put m e xs) ≡ Some e
  find_put e [] meant = rw meant refl
  find_put e (x ∷ xs) meant = find_by e x xs (m x) refl meant (find_put e xs meant)

  put_by : (e f x : A) (xs : List A) (b : Bool) → m x ≡ b → m e ≡ true → put m f (put m e xs) ≡ put m f xs
      → put m f (if b then e ∷ xs else x ∷ put m e xs) ≡ (if b then f ∷ xs else x ∷ put m f xs)
  put_by e f x xs true is meant rest = rw meant refl
  put_by e f x xs false is meant rest = rw is (ap (λ (l : List A). x ∷ l) rest)

  -- the last one that is put counts
  pub put_put : (e f : A) (xs : List A) → m e ≡ true → put m f (put m e xs) ≡ put m f xs
  put_put e f [] meant = rw meant refl
  put_put e f (x ∷ xs) meant = put_by e f x xs (m x) refl meant (put_put e f xs meant)

  changed_by : (g : A → A) (e x : A) (xs : List A) (b : Bool) → m x ≡ b → m e ≡ true → changed m g (put m e xs) ≡ put m (g e) xs
      → changed m g (if b then e ∷ xs else x ∷ put m e xs) ≡ (if b then g e ∷ xs else x ∷ put m (g e) xs)
  changed_by g e x xs true is meant rest = rw meant refl
  changed_by g e x xs false is meant rest = rw is (ap (λ (l : List A). x ∷ l) rest)

  -- one that is put is changed
  pub changed_put : (g : A → A) (e : A) (xs : List A) → m e ≡ true → changed m g (put m e xs) ≡ put m (g e) xs
  changed_put g e [] meant = rw meant refl
  changed_put g e (x ∷ xs) meant = changed_by g e x xs (m x) refl meant (changed_put g e xs meant)

  dropped_by : (e x : A) (xs : List A) (b : Bool) → m x ≡ b → m e ≡ true → dropped m (put m e xs) ≡ dropped m xs
      → dropped m (if b then e ∷ xs else x ∷ put m e xs) ≡ (if b then xs else x ∷ dropped m xs)
  dropped_by e x xs true is meant rest = rw meant refl
  dropped_by e x xs false is meant rest = rw is (ap (λ (l : List A). x ∷ l) rest)

  -- one that is put is dropped
  pub dropped_put : (e : A) (xs : List A) → m e ≡ true → dropped m (put m e xs) ≡ dropped m xs
  dropped_put e [] meant = rw meant refl
  dropped_put e (x ∷ xs) meant = dropped_by e x xs (m x) refl meant (dropped_put e xs meant)

  -- what is found among these with one in front
  abbrev found_in : Bool → A → List A → Option A
  found_in b x xs = if b then Some x else find m xs

  same_by : (e x : A) (xs : List A) (b : Bool) → found_in b x xs ≡ Some e → (find m xs ≡ Some e → put m e xs ≡ xs) → (if b then e ∷ xs else x ∷ put m e xs) ≡ x ∷ xs
  same_by e x xs true is rest = let same : x ≡ e = cc in ap (λ (y : A). y ∷ xs) (sym same)
  same_by e x xs false is rest = ap (λ (l : List A). x ∷ l) (rest is)

  -- the one that is found stands already
  pub put_same : (e : A) (xs : List A) → find m xs ≡ Some e → put m e xs ≡ xs
  put_same e [] is = absurd cc
  put_same e (x ∷ xs) is = same_by e x xs (m x) is (put_same e xs)

  meant_by : (e x : A) (xs : List A) (b : Bool) → m x ≡ b → found_in b x xs ≡ Some e → (find m xs ≡ Some e → m e ≡ true) → m e ≡ true
  meant_by e x xs true at is rest = let same : x ≡ e = cc in ap m (sym same) ∙ at
  meant_by e x xs false at is rest = rest is

  -- one that is found is meant
  pub found_meant : (e : A) (xs : List A) → find m xs ≡ Some e → m e ≡ true
  found_meant e [] is = absurd cc
  found_meant e (x ∷ xs) is = meant_by e x xs (m x) refl is (found_meant e xs)

  nowhere_by : (x : A) (xs : List A) (b : Bool) → found_in b x xs ≡ None → (find m xs ≡ None → dropped m xs ≡ xs) → (if b then xs else x ∷ dropped m xs) ≡ x ∷ xs
  nowhere_by x xs true is rest = absurd cc
  nowhere_by x xs false is rest = ap (λ (l : List A). x ∷ l) (rest is)

  -- where none is meant none is dropped
  pub dropped_none : (xs : List A) → find m xs ≡ None → dropped m xs ≡ xs
  dropped_none [] is = refl
  dropped_none (x ∷ xs) is = nowhere_by x xs (m x) is (dropped_none xs)

  length_put_by : (e f x : A) (xs : List A) (b : Bool) → found_in b x xs ≡ Some e → (find m xs ≡ Some e → length (put m f xs) ≡ length xs) → length (if b then f ∷ xs else x ∷ put m f xs) ≡ suc (length xs)
  length_put_by e f x xs true is rest = refl
  length_put_by e f x xs false is rest = ap suc (rest is)

  pub length_put : (e f : A) (xs : List A) → find m xs ≡ Some e → length (put m f xs) ≡ length xs
  length_put e f [] is = absurd cc
  length_put e f (x ∷ xs) is = length_put_by e f x xs (m x) is (length_put e f xs)

  length_dropped_by : (x : A) (xs : List A) (b : Bool) → length (dropped m xs) ≤ length xs → length (if b then xs else x ∷ dropped m xs) ≤ suc (length xs)
  length_dropped_by x xs true rest = omega arith
  length_dropped_by x xs false rest = omega arith

  pub length_dropped : (xs : List A) → length (dropped m xs) ≤ length xs
  length_dropped [] = omega arith
  length_dropped (x ∷ xs) = length_dropped_by x xs (m x) (length_dropped xs)

  all_put_by : (p : A → Bool) (f x : A) (xs : List A) (b : Bool) → p f ≡ true → list_all p (x ∷ xs) ≡ true → list_all p (put m f xs) ≡ true → list_all p (if b then f ∷ xs else x ∷ put m f xs) ≡ true
  all_put_by p f x xs true good all rest = both (p f) (list_all p xs) good (second_of (p x) (list_all p xs) all)
  all_put_by p f x xs false good all rest = both (p x) (list_all p (put m f xs)) (first_of (p x) (list_all p xs) all) rest

  pub all_put : (p : A → Bool) (f : A) (xs : List A) → p f ≡ true → list_all p xs ≡ true → list_all p (put m f xs) ≡ true
  all_put p f [] good all = both (p f) true good refl
  all_put p f (x ∷ xs) good all = all_put_by p f x xs (m x) good all (all_put p f xs good (second_of (p x) (list_all p xs) all))

  all_dropped_by : (p : A → Bool) (x : A) (xs : List A) (b : Bool) → list_all p (x ∷ xs) ≡ true → list_all p (dropped m xs) ≡ true → list_all p (if b then xs else x ∷ dropped m xs) ≡ true
  all_dropped_by p x xs true all rest = second_of (p x) (list_all p xs) all
  all_dropped_by p x xs false all rest = both (p x) (list_all p (dropped m xs)) (first_of (p x) (list_all p xs) all) rest

  pub all_dropped : (p : A → Bool) (xs : List A) → list_all p xs ≡ true → list_all p (dropped m xs) ≡ true
  all_dropped p [] all = refl
  all_dropped p (x ∷ xs) all = all_dropped_by p x xs (m x) all (all_dropped p xs (second_of (p x) (list_all p xs) all))

  differ_by : (same : A → A → Bool) (x : A) (xs : List A) (b : Bool) → all_differ same (x ∷ xs) ≡ true → all_differ same (dropped m xs) ≡ true → all_differ same (if b then xs else x ∷ dropped m xs) ≡ true
  differ_by same x xs true all rest = second_of (list_all (λ other. not (same x other)) xs) (all_differ same xs) all
  differ_by same x xs false all rest =
      both (list_all (λ other. not (same x other)) (dropped m xs)) (all_differ same (dropped m xs)) (all_dropped (λ other. not (same x other)) xs (first_of (list_all (λ other. not (same x other)) xs) (all_differ same xs) all)) rest

  pub differ_dropped : (same : A → A → Bool) (xs : List A) → all_differ same xs ≡ true → all_differ same (dropped m xs) ≡ true
  differ_dropped same [] all = refl
  differ_dropped same (x ∷ xs) all = differ_by same x xs (m x) all (differ_dropped same xs (second_of (list_all (λ other. not (same x other)) xs) (all_differ same xs) all))

-- ---- tasks are told apart by their activities

same_number : (a b : ℕ) → nat_eq a b ≡ true → a ≡ b
same_number a b is = grind (arith, nat_tests)

abbrev pub are_apart : Task → Task → Bool
are_apart task other = is_task task.plan.activity other

module _ (activity : ℕ) (f : Task) (of : f.plan.activity ≡ activity) where
  abbrev meant : Task → Bool
  meant = is_task activity

  keys_by : (p : ℕ → Bool) (x : Task) (xs : List Task) (b : Bool) → meant x ≡ b → (b ≡ false → list_all (λ (t : Task). p t.plan.activity) (put meant f xs) ≡ list_all (λ (t : Task). p t.plan.activity) xs)
      → list_all (λ (t : Task). p t.plan.activity) (if b then f ∷ xs else x ∷ put meant f xs) ≡ list_all (λ (t : Task). p t.plan.activity) (x ∷ xs)
  keys_by p x xs true is rest = let at : activity ≡ x.plan.activity = same_number activity x.plan.activity is in ap (λ (a : ℕ). p a && list_all (λ (t : Task). p t.plan.activity) xs) (of ∙ at)
  keys_by p x xs false is rest = ap (λ (b : Bool). p x.plan.activity && b) (rest refl)

  found_later : (e x : Task) (xs : List Task) → find meant (x ∷ xs) ≡ Some e → meant x ≡ false → find meant xs ≡ Some e
  found_later e x xs is at = rw at at is

  keys : (p : ℕ → Bool) (e : Task) (xs : List Task) → find meant xs ≡ Some e → list_all (λ (t : Task). p t.plan.activity) (put meant f xs) ≡ list_all (λ (t : Task). p t.plan.activity) xs
  keys p e [] is = absurd cc
  keys p e (x ∷ xs) is = keys_by p x xs (meant x) refl (λ at. keys p e xs (found_later e x xs is at))

  differ_put_by : (x : Task) (xs : List Task) (b : Bool) → meant x ≡ b
      → (b ≡ false → (p : ℕ → Bool) → list_all (λ (t : Task). p t.plan.activity) (put meant f xs) ≡ list_all (λ (t : Task). p t.plan.activity) xs)
      → (b ≡ false → all_differ are_apart (put meant f xs) ≡ all_differ are_apart xs)
      → all_differ are_apart (if b then f ∷ xs else x ∷ put meant f xs) ≡ all_differ are_apart (x ∷ xs)
  differ_put_by x xs true is same rest =
      let at : activity ≡ x.plan.activity = same_number activity x.plan.activity is in
      ap (λ (a : ℕ). list_all (λ (t : Task). not (is_task a t)) xs && all_differ are_apart xs) (of ∙ at)
  differ_put_by x xs false is same rest =
      ap (λ (b : Bool). b && all_differ are_apart (put meant f xs)) (same refl (λ (a : ℕ). not (nat_eq x.plan.activity a)))
      ∙ ap (λ (b : Bool). list_all (λ (t : Task). not (is_task x.plan.activity t)) xs && b) (rest refl)

  -- one in the place of another of its activity
  pub differ_put : (e : Task) (xs : List Task) → find meant xs ≡ Some e → all_differ are_apart (put meant f xs) ≡ all_differ are_apart xs
  differ_put e [] is = absurd cc
  differ_put e (x ∷ xs) is =
      differ_put_by x xs (meant x) refl (λ at p. keys p e xs (found_later e x xs is at)) (λ at. differ_put e xs (found_later e x xs is at))
