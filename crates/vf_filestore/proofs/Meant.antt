-- Lists in which one entry is meant by a test: what is found, put, changed and dropped there.
use Rattle.std.proofs.Common.{◌≡◌, Bool, true, false, cond, List, [], ◌∷◌, ◌++◌, None, Some, refl, ap, ◌∙◌}
use Rattle.std.specs.Prelude.{find}
use Rattle.std.specs.List.{AllByRecursion}
use Rattle.vf_tables.specs.Entries.{changed, dropped, put}

module _ {A : Type 0} (meant : A → Bool) where
  pub find_at : (first : List A) (x : A) (later : List A) → AllByRecursion (λ y. meant y ≡ false) first → meant x ≡ true → find meant (first ++ x ∷ later) ≡ Some x
  find_at [] x later off is = λ i. cond (is i) (Some x) (find meant later)
  find_at (y ∷ first) x later off is = (λ i. cond (off.0 i) (Some y) (find meant (first ++ x ∷ later))) ∙ find_at first x later off.1 is

  pub find_none : (xs : List A) → AllByRecursion (λ y. meant y ≡ false) xs → find meant xs ≡ None
  find_none [] off = refl
  find_none (y ∷ xs) off = (λ i. cond (off.0 i) (Some y) (find meant xs)) ∙ find_none xs off.1

  pub put_new : (new : A) (xs : List A) → AllByRecursion (λ y. meant y ≡ false) xs → put meant new xs ≡ xs ++ new ∷ []
  put_new new [] off = refl
  put_new new (y ∷ xs) off = (λ i. cond (off.0 i) (new ∷ xs) (y ∷ put meant new xs)) ∙ ap (λ (later : List A). y ∷ later) (put_new new xs off.1)

  pub put_at : (new : A) (first : List A) (x : A) (later : List A) → AllByRecursion (λ y. meant y ≡ false) first → meant x ≡ true → put meant new (first ++ x ∷ later) ≡ first ++ new ∷ later
  put_at new [] x later off is = λ i. cond (is i) (new ∷ later) (x ∷ put meant new later)
  put_at new (y ∷ first) x later off is =
      (λ i. cond (off.0 i) (new ∷ (first ++ x ∷ later)) (y ∷ put meant new (first ++ x ∷ later))) ∙ ap (λ (all : List A). y ∷ all) (put_at new first x later off.1 is)

  pub changed_at : (change : A → A) (first : List A) (x : A) (later : List A) → AllByRecursion (λ y. meant y ≡ false) first → meant x ≡ true
      → changed meant change (first ++ x ∷ later) ≡ first ++ change x ∷ later
  changed_at change [] x later off is = λ i. cond (is i) (change x ∷ later) (x ∷ changed meant change later)
  changed_at change (y ∷ first) x later off is =
      (λ i. cond (off.0 i) (change y ∷ (first ++ x ∷ later)) (y ∷ changed meant change (first ++ x ∷ later))) ∙ ap (λ (all : List A). y ∷ all) (changed_at change first x later off.1 is)

  pub dropped_at : (first : List A) (x : A) (later : List A) → AllByRecursion (λ y. meant y ≡ false) first → meant x ≡ true → dropped meant (first ++ x ∷ later) ≡ first ++ later
  dropped_at [] x later off is = λ i. cond (is i) later (x ∷ dropped meant later)
  dropped_at (y ∷ first) x later off is =
      (λ i. cond (off.0 i) (first ++ x ∷ later) (y ∷ dropped meant (first ++ x ∷ later))) ∙ ap (λ (all : List A). y ∷ all) (dropped_at first x later off.1 is)
