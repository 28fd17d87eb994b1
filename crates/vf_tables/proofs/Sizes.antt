-- Sums that stand still at their type's end.
use Rattle.std.proofs.Common.{◌≡◌, ℕ, ◌+◌, ◌<◌, List, [], ◌∷◌, ◌++◌, length, get_or, take, drop, min, sym, ap, ◌∙◌, arith}
use Rattle.std.specs.Prelude.{slice_set}
use Rattle.std.specs.List.{remove, sum_by}
use Rattle.std.proofs.lemmas.List.Sums.{sum_by-remove, sum_by-set, sum_by-take-drop, sum_by_more, sum_by_push}

-- one more, which may stand still too
pub one_more : {A : Type 0} (f : A → ℕ) (xs : List A) (i : ℕ) (d : A) (sum more : ℕ) → i < length xs → sum ≡ min (sum_by f (take i xs)) 18446744073709551615
    → min more 18446744073709551615 ≡ min (f (get_or xs i d)) 18446744073709551615
    → min (sum + more) 18446744073709551615 ≡ min (sum_by f (take (i + 1) xs)) 18446744073709551615
one_more f xs i d sum more lt is same = omega (arith, sum_by_more f xs i d lt)

plus_none : (n : ℕ) → n ≡ n + 0
plus_none n = omega arith

-- one more after the others
pub one_last : {A : Type 0} (f : A → ℕ) (xs ys : List A) (x : A) (count more : ℕ) → ys ≡ xs ++ x ∷ [] → count ≡ min (sum_by f xs) 18446744073709551615
    → min more 18446744073709551615 ≡ min (f x) 18446744073709551615 → min (count + more) 18446744073709551615 ≡ min (sum_by f ys) 18446744073709551615
one_last f xs ys x count more pushed is same =
    let sum : sum_by f ys ≡ sum_by f xs + f x = ap (sum_by f) pushed ∙ sum_by_push f xs x in
    omega (arith, is, sum, same)

-- a count that doesn't stand at the type's end stays one where it is taken again
pub counted_again : (more sum : ℕ) → more ≡ min sum 18446744073709551615 → min more 18446744073709551615 ≡ min sum 18446744073709551615
counted_again more sum is = omega (arith, is)

-- those up to a place, and those after it
pub parts_of : {A : Type 0} (f : A → ℕ) (xs front back : List A) (n : ℕ) → front ≡ take n xs → back ≡ drop n xs → sum_by f front + sum_by f back ≡ sum_by f xs
parts_of f xs front back n first last = (λ i. sum_by f (first i) + sum_by f (last i)) ∙ sum_by-take-drop f xs n

-- one in the place of another
pub one_replaced : {A : Type 0} (f : A → ℕ) (xs ys : List A) (i : ℕ) (x d : A) → i < length xs → ys ≡ slice_set xs i x → sum_by f ys + f (get_or xs i d) ≡ sum_by f xs + f x
one_replaced {A = A} f xs ys i x d lt set = ap (λ (l : List A). sum_by f l + f (get_or xs i d)) set ∙ sum_by-set f xs i x d lt

-- one that is taken away
pub one_removed : {A : Type 0} (f : A → ℕ) (xs ys : List A) (i : ℕ) (d : A) → i < length xs → ys ≡ remove xs i → sum_by f ys + f (get_or xs i d) ≡ sum_by f xs + 0
one_removed {A = A} f xs ys i d lt removed = ap (λ (l : List A). sum_by f l + f (get_or xs i d)) removed ∙ (sum_by-remove f xs i d lt ∙ plus_none (sum_by f xs))

-- what was there is told at any default
pub removed_sum : {A : Type 0} (f : A → ℕ) (xs ys : List A) (i less : ℕ) → ((d : A) → less ≡ f (get_or xs i d)) → i < length xs → ys ≡ remove xs i → sum_by f ys + less ≡ sum_by f xs + 0
removed_sum f [] ys i less is lt removed = absurd (omega arith)
removed_sum f (x ∷ xs) ys i less is lt removed = ap (λ (n : ℕ). sum_by f ys + n) (is x) ∙ one_removed f (x ∷ xs) ys i x lt removed

pub replaced_sum : {A : Type 0} (f : A → ℕ) (xs ys : List A) (i : ℕ) (x : A) (less more : ℕ) → less ≡ f (get_or xs i x) → more ≡ f x → i < length xs → ys ≡ slice_set xs i x
    → sum_by f ys + less ≡ sum_by f xs + more
replaced_sum f xs ys i x less more gone new lt set = ap (λ (n : ℕ). sum_by f ys + n) gone ∙ (one_replaced f xs ys i x x lt set ∙ ap (λ (n : ℕ). sum_by f xs + n) (sym new))
