-- Lists of which one element stands at a place: what holds of all of them, and of each two.
use Rattle.std.proofs.Common.{◌≡◌, Bool, true, false, cond, List, [], ◌∷◌, ◌++◌, map, filter, refl, ap, sym, subst, ◌∙◌}
use Rattle.std.specs.Prelude.{flat_map}
use Rattle.std.specs.List.{AllByRecursion, IsDistinct}
use Rattle.std.specs.List.Sorted.{IsPermutation}
use Rattle.std.proofs.lemmas.List.{append_assoc}
use Rattle.std.proofs.lemmas.List.Elements.{All-from_recursion, recursion_from_All}
use Rattle.std.proofs.lemmas.List.Sorted.{All-permutation, IsPermutation-append_comm, IsPermutation-append_left, IsPermutation-sym}
use Rattle.std.proofs.lemmas.Map.Keys.{IsDistinct-head, IsDistinct-tail, IsDistinct-cons}

-- ---- what holds of all

pub all_append : {A : Type 0} (P : A → Type 0) (xs ys : List A) → AllByRecursion P xs → AllByRecursion P ys → AllByRecursion P (xs ++ ys)
all_append P [] ys a b = b
all_append P (x ∷ xs) ys a b = (a.0, all_append P xs ys a.1 b)

pub all_left : {A : Type 0} (P : A → Type 0) (xs ys : List A) → AllByRecursion P (xs ++ ys) → AllByRecursion P xs
all_left P [] ys a = tt
all_left P (x ∷ xs) ys a = (a.0, all_left P xs ys a.1)

pub all_right : {A : Type 0} (P : A → Type 0) (xs ys : List A) → AllByRecursion P (xs ++ ys) → AllByRecursion P ys
all_right P [] ys a = a
all_right P (x ∷ xs) ys a = all_right P xs ys a.1

pub all_weaker : {A : Type 0} (P Q : A → Type 0) (xs : List A) → ((x : A) → P x → Q x) → AllByRecursion P xs → AllByRecursion Q xs
all_weaker P Q [] f a = tt
all_weaker P Q (x ∷ xs) f a = (f x a.0, all_weaker P Q xs f a.1)

-- two facts of each make a third
pub all_both : {A : Type 0} (P Q R : A → Type 0) (xs : List A) → ((x : A) → P x → Q x → R x) → AllByRecursion P xs → AllByRecursion Q xs → AllByRecursion R xs
all_both P Q R [] f a b = tt
all_both P Q R (x ∷ xs) f a b = (f x a.0 b.0, all_both P Q R xs f a.1 b.1)

pub all_map : {A B : Type 0} (f : A → B) (P : B → Type 0) (xs : List A) → AllByRecursion (λ x. P (f x)) xs → AllByRecursion P (map f xs)
all_map f P [] a = tt
all_map f P (x ∷ xs) a = (a.0, all_map f P xs a.1)

pub all_unmap : {A B : Type 0} (f : A → B) (P : B → Type 0) (xs : List A) → AllByRecursion P (map f xs) → AllByRecursion (λ x. P (f x)) xs
all_unmap f P [] a = tt
all_unmap f P (x ∷ xs) a = (a.0, all_unmap f P xs a.1)

pub all-flat_map : {A B : Type 0} (f : A → List B) (P : B → Type 0) (xs : List A) → AllByRecursion (λ x. AllByRecursion P (f x)) xs → AllByRecursion P (flat_map f xs)
all-flat_map f P [] a = tt
all-flat_map f P (x ∷ xs) a = all_append P (f x) (flat_map f xs) a.0 (all-flat_map f P xs a.1)

pub all-from_flat_map : {A B : Type 0} (f : A → List B) (P : B → Type 0) (xs : List A) → AllByRecursion P (flat_map f xs) → AllByRecursion (λ x. AllByRecursion P (f x)) xs
all-from_flat_map f P [] a = tt
all-from_flat_map f P (x ∷ xs) a = (all_left P (f x) (flat_map f xs) a, all-from_flat_map f P xs (all_right P (f x) (flat_map f xs) a))

pub all-filter : {A : Type 0} (P : A → Type 0) (test : A → Bool) (xs : List A) → AllByRecursion P xs → AllByRecursion P (filter test xs)
all-filter P test [] a = tt
all-filter {A} P test (x ∷ xs) a = by (test x) (all-filter P test xs a.1)
  where
    by : (b : Bool) → AllByRecursion P (filter test xs) → AllByRecursion P (cond b (x ∷ filter test xs) (filter test xs))
    by true rest = (a.0, rest)
    by false rest = rest

pub flat_map-append : {A B : Type 0} (f : A → List B) (xs ys : List A) → flat_map f (xs ++ ys) ≡ flat_map f xs ++ flat_map f ys
flat_map-append f [] ys = refl
flat_map-append f (x ∷ xs) ys = ap (λ rest. f x ++ rest) (flat_map-append f xs ys) ∙ sym (append_assoc (f x) (flat_map f xs) (flat_map f ys))

pub all-permutation : {A : Type 0} (P : A → Type 0) (xs ys : List A) → IsPermutation xs ys → AllByRecursion P xs → AllByRecursion P ys
all-permutation P xs ys moved all = recursion_from_All P ys (All-permutation P xs ys moved (All-from_recursion P xs all))

-- ---- lists with a part in the middle

-- the part x of a list of four, first
pub to_front : {A : Type 0} (d b x a : List A) → IsPermutation (d ++ (b ++ (x ++ a))) (x ++ (d ++ (b ++ a)))
to_front {A} d b x a =
    let left : d ++ (b ++ (x ++ a)) ≡ ((d ++ b) ++ x) ++ a = sym (append_assoc (d ++ b) x a ∙ append_assoc d b (x ++ a)) in
    let right : (x ++ (d ++ b)) ++ a ≡ x ++ (d ++ (b ++ a)) = append_assoc x (d ++ b) a ∙ ap (λ rest. x ++ rest) (append_assoc d b a) in
    let moved : IsPermutation (((d ++ b) ++ x) ++ a) ((x ++ (d ++ b)) ++ a) = IsPermutation-append_left a ((d ++ b) ++ x) (x ++ (d ++ b)) (IsPermutation-append_comm (d ++ b) x) in
    subst (λ (one : List A). IsPermutation one (x ++ (d ++ (b ++ a)))) (sym left) (subst (λ (other : List A). IsPermutation (((d ++ b) ++ x) ++ a) other) right moved)

pub to_middle : {A : Type 0} (d b x a : List A) → IsPermutation (x ++ (d ++ (b ++ a))) (d ++ (b ++ (x ++ a)))
to_middle d b x a = IsPermutation-sym (d ++ (b ++ (x ++ a))) (x ++ (d ++ (b ++ a))) (to_front d b x a)

-- each two differ where one is taken away
pub distinct_less : {A : Type 0} (e : A → A → Bool) (x xs : List A) → IsDistinct e (x ++ xs) → IsDistinct e xs
distinct_less e [] xs distinct = distinct
distinct_less e (y ∷ x) xs distinct = distinct_less e x xs (IsDistinct-tail e y (x ++ xs) distinct)

pub distinct-filter : {A : Type 0} (e : A → A → Bool) (test : A → Bool) (xs : List A) → IsDistinct e xs → IsDistinct e (filter test xs)
unfolding IsDistinct
distinct-filter e test [] distinct = distinct
distinct-filter {A} e test (x ∷ xs) distinct = by (test x) (distinct-filter e test xs (IsDistinct-tail e x xs distinct))
  where
    by : (b : Bool) → IsDistinct e (filter test xs) → IsDistinct e (cond b (x ∷ filter test xs) (filter test xs))
    by true rest = IsDistinct-cons e x (filter test xs) (all-filter (λ y. e x y ≡ false) test xs (IsDistinct-head e x xs distinct)) rest
    by false rest = rest

pub distinct_map-filter : {A B : Type 0} (f : A → B) (e : B → B → Bool) (test : A → Bool) (xs : List A) → IsDistinct e (map f xs) → IsDistinct e (map f (filter test xs))
unfolding IsDistinct
distinct_map-filter f e test [] distinct = distinct
distinct_map-filter {A} {B} f e test (x ∷ xs) distinct = by (test x) (distinct_map-filter f e test xs distinct.1)
  where
    kept : AllByRecursion (λ y. e (f x) y ≡ false) (map f (filter test xs))
    kept = all_map f (λ y. e (f x) y ≡ false) (filter test xs) (all-filter (λ y. e (f x) (f y) ≡ false) test xs (all_unmap f (λ y. e (f x) y ≡ false) xs distinct.0))

    by : (b : Bool) → IsDistinct e (map f (filter test xs)) → IsDistinct e (map f (cond b (x ∷ filter test xs) (filter test xs)))
    by true rest = (kept, rest)
    by false rest = rest

pub distinct_push : {A : Type 0} (e : A → A → Bool) (xs : List A) (y : A) → AllByRecursion (λ x. e x y ≡ false) xs → IsDistinct e xs → IsDistinct e (xs ++ y ∷ [])
unfolding IsDistinct
distinct_push e [] y off distinct = (tt, tt)
distinct_push e (x ∷ xs) y off distinct =
    (all_append (λ z. e x z ≡ false) xs (y ∷ []) distinct.0 (off.0, tt), distinct_push e xs y off.1 distinct.1)
