-- What is kept of the names of entries as these change.
use Rattle.std.proofs.Common.{◌≡◌, ℕ, ◌<◌, true, false, List, [], ◌∷◌, ◌++◌, length, map, nat_eq, refl, sym, ap, subst, ◌∙◌, arith}
use Rattle.std.specs.Prelude.{slice_set}
use Rattle.std.specs.Cmp.Lexicographic.{pointwise}
use Rattle.std.specs.List.{IsDistinct, position, remove}
use Rattle.std.proofs.lemmas.List.{length-map, map-append, map-set}
use Rattle.vf_named.specs.Names.{AreNames}
use Rattle.vf_named.specs.declared.names.Names.{Names}
use Rattle.vf_named.proofs.Lists.{position_mapped, remove_mapped}

-- none is kept
pub kept_not : (names : Names) (all : List (List ℕ)) → names.are_kept ≡ false → AreNames names all
kept_not names all not = λ kept. absurd cc

module _ {A : Type 0} (name_of : A → List ℕ) where
  pub kept_same : (names : Names) (xs ys : List A) → ys ≡ xs → AreNames names (map name_of xs) → AreNames names (map name_of ys)
  kept_same names xs ys same kept = subst (λ (l : List A). AreNames names (map name_of l)) (sym same) kept

  pub kept_pushed : (names : Names) (xs ys : List A) (x : A) (name : List ℕ) → ys ≡ xs ++ x ∷ [] → name ≡ name_of x → AreNames names (map name_of xs ++ name ∷ []) → AreNames names (map name_of ys)
  kept_pushed names xs ys x name pushed is kept =
      subst (AreNames names) (ap (λ n. map name_of xs ++ n ∷ []) is ∙ sym (map-append name_of xs (x ∷ [])) ∙ ap (map name_of) (sym pushed)) kept

  pub kept_replaced : (names : Names) (xs ys : List A) (i : ℕ) (x : A) (name : List ℕ) → ys ≡ slice_set xs i x → name ≡ name_of x → AreNames names (slice_set (map name_of xs) i name) → AreNames names (map name_of ys)
  kept_replaced names xs ys i x name set is kept =
      subst (AreNames names) (ap (λ n. slice_set (map name_of xs) i n) is ∙ sym (map-set name_of xs i x) ∙ ap (map name_of) (sym set)) kept

  pub kept_removed : (names : Names) (xs ys : List A) (i : ℕ) → ys ≡ remove xs i → AreNames names (remove (map name_of xs) i) → AreNames names (map name_of ys)
  kept_removed names xs ys i removed kept =
      subst (AreNames names) (sym (remove_mapped name_of xs i) ∙ ap (map name_of) (sym removed)) kept

  -- a place among the entries is one among the names
  pub place_kept : (names : Names) (xs : List A) (i : ℕ) → AreNames names (map name_of xs) → i < length xs → names.are_kept ≡ true → i < length names.by_name.keys
  place_kept names xs i are lt kept = subst (λ n. i < n) (sym (ap length (are kept) ∙ length-map xs name_of)) lt

  pub position_kept : (names : Names) (xs : List A) (name : List ℕ) → AreNames names (map name_of xs) → names.are_kept ≡ true
      → position (pointwise nat_eq name) names.by_name.keys ≡ position (λ (x : A). pointwise nat_eq name (name_of x)) xs
  position_kept names xs name are kept = ap (position (pointwise nat_eq name)) (are kept) ∙ position_mapped name_of (pointwise nat_eq name) xs

  pub distinct_kept : (names : Names) (xs : List A) → AreNames names (map name_of xs) → names.are_kept ≡ true → IsDistinct (pointwise nat_eq) names.by_name.keys → IsDistinct (pointwise nat_eq) (map name_of xs)
  distinct_kept names xs are kept distinct = subst (IsDistinct (pointwise nat_eq)) (are kept) distinct
