-- The test whether units are equal decides it, and goes place by place.
use Rattle.std.proofs.Common.{◌≡◌, ℕ, ◌+◌, ◌<◌, Bool, true, false, not, ◌&&◌, nat_eq, List, [], ◌∷◌, length, get_or, drop, Option, Some, None, refl, sym, ap, ◌∙◌, add-one, drop-cons, arith}
use Rattle.std.specs.Prelude.{if◌then◌else◌}
use Rattle.std.specs.Cmp.Lexicographic.{pointwise}
use Rattle.std.proofs.lemmas.Bool.{and_parts, eqb-true}
use Rattle.std.proofs.lemmas.Slice.Eq.{bytes_eq-Decides}
use Rattle.vf_base.specs.declared.element.Element.{Element}
use Rattle.vf_base.specs.declared.element.Element.TheVariants.{Descriptor, Enter, Exit, Text, Binary}
use Rattle.vf_tree.specs.FileTree.{DataUnit}
use Rattle.vf_tree.specs.Same.{are_same_units, is_same_element, is_same_name, is_same_unit}

pub name_refl : (name : Option (List ℕ)) → is_same_name name name ≡ true
name_refl None = refl
name_refl (Some name) = (bytes_eq-Decides name name).1 refl

flag_refl : (flag : Bool) → (if flag then flag else not flag) ≡ true
flag_refl true = refl
flag_refl false = refl

number_refl : (n : ℕ) → nat_eq n n ≡ true
number_refl n = grind arith

both : (a b : Bool) → a ≡ true → b ≡ true → (a && b) ≡ true
both a b first second = λ i. first i && second i

pub pointwise_refl : {A : Type 0} (same : A → A → Bool) → ((a : A) → same a a ≡ true) → (xs : List A) → pointwise same xs xs ≡ true
pointwise_refl same each [] = refl
pointwise_refl same each (x ∷ xs) = both (same x x) (pointwise same xs xs) (each x) (pointwise_refl same each xs)

element_refl : (element : Element) → is_same_element element element ≡ true
element_refl (Descriptor name filled) = both _ (is_same_name name name) (flag_refl filled) (name_refl name)
element_refl Enter = refl
element_refl Exit = refl
element_refl (Text class octets) = both (nat_eq class class) (pointwise nat_eq octets octets) (number_refl class) ((bytes_eq-Decides octets octets).1 refl)
element_refl (Binary octets) = (bytes_eq-Decides octets octets).1 refl

pub units_refl : (units : List DataUnit) → are_same_units units units ≡ true
unfolding are_same_units
units_refl units = pointwise_refl is_same_unit (pointwise_refl is_same_element element_refl) units

name_true : (name other : Option (List ℕ)) → is_same_name name other ≡ true → name ≡ other
name_true None None e = refl
name_true None (Some other) e = absurd cc
name_true (Some name) None e = absurd cc
name_true (Some name) (Some other) e = ap (λ (octets : List ℕ). Some octets) ((bytes_eq-Decides name other).0 e)

flag_true : (flag other : Bool) → (if flag then other else not other) ≡ true → flag ≡ other
flag_true true other e = sym e
flag_true false true e = absurd cc
flag_true false false e = refl

element_true : (element other : Element) → is_same_element element other ≡ true → element ≡ other
element_true (Descriptor name filled) (Descriptor other full) e =
    let parts = and_parts (if filled then full else not full) (is_same_name name other) e in
    λ i. Descriptor (name_true name other parts.1 i) (flag_true filled full parts.0 i)
element_true Enter Enter e = refl
element_true Exit Exit e = refl
element_true (Text class octets) (Text other others) e =
    let parts = and_parts (nat_eq class other) (pointwise nat_eq octets others) e in
    λ i. Text (eqb-true class other parts.0 i) ((bytes_eq-Decides octets others).0 parts.1 i)
element_true (Binary octets) (Binary others) e = ap (λ (octets : List ℕ). Binary octets) ((bytes_eq-Decides octets others).0 e)
element_true _ _ e = absurd cc

pointwise_true : {A : Type 0} (same : A → A → Bool) → ((a b : A) → same a b ≡ true → a ≡ b) → (xs ys : List A) → pointwise same xs ys ≡ true → xs ≡ ys
pointwise_true same each [] [] e = refl
pointwise_true same each [] (y ∷ ys) e = absurd cc
pointwise_true same each (x ∷ xs) [] e = absurd cc
pointwise_true same each (x ∷ xs) (y ∷ ys) e =
    let parts = and_parts (same x y) (pointwise same xs ys) e in
    λ i. each x y parts.0 i ∷ pointwise_true same each xs ys parts.1 i

pub units_true : (units others : List DataUnit) → are_same_units units others ≡ true → units ≡ others
unfolding are_same_units
units_true units others e = pointwise_true is_same_unit (pointwise_true is_same_element element_true) units others e

-- the test from a place on: the items there, and the test from the next place on
pub pointwise-drop : {A : Type 0} (same : A → A → Bool) (xs ys : List A) (i : ℕ) (d e : A) → i < length xs → i < length ys
    → pointwise same (drop i xs) (drop i ys) ≡ (same (get_or xs i d) (get_or ys i e) && pointwise same (drop (i + 1) xs) (drop (i + 1) ys))
pointwise-drop same xs ys i d e within inside = rw (add-one, drop-cons xs i d, drop-cons ys i e) refl

-- lists of two lengths differ
pub pointwise-lengths : {A : Type 0} (same : A → A → Bool) (xs ys : List A) → (length xs ≡ length ys → ⊥) → pointwise same xs ys ≡ false
pointwise-lengths same [] [] other = absurd (other refl)
pointwise-lengths same [] (y ∷ ys) other = refl
pointwise-lengths same (x ∷ xs) [] other = refl
pointwise-lengths same (x ∷ xs) (y ∷ ys) other =
    ap (λ b. same x y && b) (pointwise-lengths same xs ys (λ e. other (omega arith))) ∙ none (same x y)
  where
    none : (b : Bool) → (b && false) ≡ false
    none true = refl
    none false = refl

pub ruleset same = (pointwise-drop, pointwise-lengths)
