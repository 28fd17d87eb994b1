-- Pairs in lists that are made of what each of some things has.
use Rattle.std.proofs.Common.{◌≡◌, Bool, false, List, [], ◌∷◌, ◌++◌, map, inl, inr, refl, ap, sym, subst}
use Rattle.std.specs.Prelude.{◌⊎◌, flat_map}
use Rattle.std.specs.List.{AllByRecursion, IsDistinct}
use Rattle.std.proofs.lemmas.Map.Keys.{IsDistinct-head, IsDistinct-tail}
use Rattle.vf_filestore.proofs.Lists.{all-from_flat_map, all_right, all_weaker, distinct_less}
use Rattle.vf_serial.proofs.Among.{IsAmong, in_either}

pub all_in : {A : Type 0} (P : A → Type 0) (x : A) (xs : List A) → AllByRecursion P xs → IsAmong x xs → P x
all_in P x [] all is = absurd is
all_in P x (y ∷ ys) all (inl same) = subst P (sym same) all.0
all_in P x (y ∷ ys) all (inr later) = all_in P x ys all.1 later

pub flat_map-map : {A B C : Type 0} (f : B → List C) (g : A → B) (xs : List A) → flat_map f (map g xs) ≡ flat_map (λ x. f (g x)) xs
flat_map-map f g [] = refl
flat_map-map f g (x ∷ xs) = ap (λ rest. f (g x) ++ rest) (flat_map-map f g xs)

-- each before another is so to it
abbrev pub ArePairs : {X : Type 0} → (X → X → Type 0) → List X → Type 0
ArePairs R [] = Unit {0}
ArePairs R (x ∷ xs) = AllByRecursion (R x) xs × ArePairs R xs

abbrev pub AreApart : {X A : Type 0} → (e : A → A → Bool) → (f : X → List A) → X → X → Type 0
AreApart e f i j = AllByRecursion (λ a. AllByRecursion (λ b. e a b ≡ false) (f j)) (f i)

across : {A : Type 0} (e : A → A → Bool) (xs ys : List A) → IsDistinct e (xs ++ ys) → AllByRecursion (λ a. AllByRecursion (λ b. e a b ≡ false) ys) xs
across e [] ys distinct = tt
across e (x ∷ xs) ys distinct =
    (all_right (λ b. e x b ≡ false) xs ys (IsDistinct-head e x (xs ++ ys) distinct), across e xs ys (IsDistinct-tail e x (xs ++ ys) distinct))

swapped : {A B : Type 0} (P : A → B → Type 0) (xs : List A) (ys : List B) → AllByRecursion (λ a. AllByRecursion (P a) ys) xs → AllByRecursion (λ b. AllByRecursion (λ a. P a b) xs) ys
swapped P xs [] all = tt
swapped P xs (y ∷ ys) all = (
  all_weaker (λ a. AllByRecursion (P a) (y ∷ ys)) (λ a. P a y) xs (λ a each. each.0) all,
  swapped P xs ys (all_weaker (λ a. AllByRecursion (P a) (y ∷ ys)) (λ a. AllByRecursion (P a) ys) xs (λ a each. each.1) all),
)

pub distinct_pairs : {X A : Type 0} (e : A → A → Bool) (f : X → List A) (xs : List X) → IsDistinct e (flat_map f xs) → ArePairs (AreApart e f) xs
distinct_pairs e f [] distinct = tt
distinct_pairs e f (x ∷ xs) distinct = (
  swapped (λ a j. AllByRecursion (λ b. e a b ≡ false) (f j)) (f x) xs
      (all_weaker (λ a. AllByRecursion (λ b. e a b ≡ false) (flat_map f xs)) (λ a. AllByRecursion (λ j. AllByRecursion (λ b. e a b ≡ false) (f j)) xs) (f x)
      (λ a all. all-from_flat_map f (λ b. e a b ≡ false) xs all) (across e (f x) (flat_map f xs) distinct)),
  distinct_pairs e f xs (distinct_less e (f x) (flat_map f xs) distinct),
)

-- two of them: of one, or of two of which either is before the other
pub two : {X A : Type 0} (R : X → X → Type 0) (f : X → List A) (Q : Type 0) (x y : A) (xs : List X) → ArePairs R xs → IsAmong x (flat_map f xs) → IsAmong y (flat_map f xs)
    → ((i : X) → IsAmong x (f i) → IsAmong y (f i) → Q) → ((i j : X) → R i j → IsAmong x (f i) → IsAmong y (f j) → Q) → ((i j : X) → R i j → IsAmong y (f i) → IsAmong x (f j) → Q) → Q
two R f Q x y [] pairs is too one first last = absurd is
two {X} {A} R f Q x y (i ∷ xs) pairs is too one first last =
    by (in_either x (f i) (flat_map f xs) is) (in_either y (f i) (flat_map f xs) too) (two R f Q x y xs pairs.1)
  where
    apart : (z : A) (P : X → Type 0) → AllByRecursion P xs → IsAmong z (flat_map f xs) → (j : X) × P j × IsAmong z (f j)
    apart z P all there = found z P xs all there
      where
        found : (z : A) (P : X → Type 0) (js : List X) → AllByRecursion P js → IsAmong z (flat_map f js) → (j : X) × P j × IsAmong z (f j)
        found z P [] all there = absurd there
        found z P (j ∷ js) all there = elim (in_either z (f j) (flat_map f js) there) [ inl here ↦ (j, all.0, here) | inr later ↦ found z P js all.1 later ]

    by : IsAmong x (f i) ⊎ IsAmong x (flat_map f xs) → IsAmong y (f i) ⊎ IsAmong y (flat_map f xs)
        → (IsAmong x (flat_map f xs) → IsAmong y (flat_map f xs) → ((i : X) → IsAmong x (f i) → IsAmong y (f i) → Q) → ((i j : X) → R i j → IsAmong x (f i) → IsAmong y (f j) → Q) → ((i j : X) → R i j → IsAmong y (f i) → IsAmong x (f j) → Q) → Q)
        → Q
    by (inl here) (inl there) rest = one i here there
    by (inl here) (inr later) rest = let found = apart y (R i) pairs.0 later in first i found.0 found.1 here found.2
    by (inr later) (inl there) rest = let found = apart x (R i) pairs.0 later in last i found.0 found.1 there found.2
    by (inr earlier) (inr later) rest = rest earlier later one first last

-- one among the others
pub beside : {X : Type 0} (R : X → X → Type 0) (i j : X) (before after : List X) → ArePairs R (before ++ i ∷ after) → IsAmong j (before ++ after) → R i j ⊎ R j i
beside R i j [] after pairs there = inl (all_in (R i) j after pairs.0 there)
beside R i j (k ∷ before) after pairs (inl same) = inr (subst (λ k. R k i) (sym same) (all_right (R k) before (i ∷ after) pairs.0).0)
beside R i j (k ∷ before) after pairs (inr later) = beside R i j before after pairs.1 later
