-- Entries of distinct names all differ.
use Rattle.std.proofs.Common.{◌≡◌, ℕ, Bool, true, false, ◌&&◌, List, [], ◌∷◌, map, nat_eq, not, refl, sym, ap}
use Rattle.std.specs.Cmp.Lexicographic.{pointwise}
use Rattle.std.specs.List.{AllByRecursion, IsDistinct, list_all}
use Rattle.std.proofs.lemmas.Map.Keys.{IsDistinct-head, IsDistinct-tail}
use Rattle.vf_tables.specs.Validity.{all_differ}

both : (a b : Bool) → a ≡ true → b ≡ true → (a && b) ≡ true
both true b first second = second
both false b first second = cc

module _ {A : Type 0} (name : A → List ℕ) where
  none_same : (n : List ℕ) (xs : List A) → AllByRecursion (λ y. pointwise nat_eq n y ≡ false) (map name xs) → list_all (λ other. not (pointwise nat_eq n (name other))) xs ≡ true
  none_same n [] apart = refl
  none_same n (x ∷ xs) apart =
      both (not (pointwise nat_eq n (name x))) (list_all (λ other. not (pointwise nat_eq n (name other))) xs) (ap (λ (b : Bool). not b) apart.0) (none_same n xs apart.1)

  all_apart : (xs : List A) → IsDistinct (pointwise nat_eq) (map name xs) → all_differ (λ x y. pointwise nat_eq (name x) (name y)) xs ≡ true
  all_apart [] distinct = refl
  all_apart (x ∷ xs) distinct =
      both (list_all (λ other. not (pointwise nat_eq (name x) (name other))) xs) (all_differ (λ x y. pointwise nat_eq (name x) (name y)) xs)
      (none_same (name x) xs (IsDistinct-head (pointwise nat_eq) (name x) (map name xs) distinct)) (all_apart xs (IsDistinct-tail (pointwise nat_eq) (name x) (map name xs) distinct))

  pub distinct_differ : (xs : List A) → IsDistinct (pointwise nat_eq) (map name xs) → true ≡ all_differ (λ x y. pointwise nat_eq (name x) (name y)) xs
  distinct_differ xs distinct = sym (all_apart xs distinct)
