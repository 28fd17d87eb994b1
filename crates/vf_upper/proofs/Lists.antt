-- Lists of trees that are made one by one.
use Rattle.std.proofs.Common.{◌≡◌, ℕ, ◌+◌, ◌<◌, List, [], ◌∷◌, ◌++◌, length, map, take, get_or, refl, ap, ◌∙◌, add-one}
use Rattle.std.proofs.Math.Seq.{take-suc}
use Rattle.std.proofs.lemmas.List.{get_or_default, map-append}
use Rattle.vf_ber.specs.Tree.{Tree, joined, more, none}
use Rattle.vf_upper.specs.Written.{trees}

pub trees-push : (list : List Tree) (tree : Tree) → trees (list ++ tree ∷ []) ≡ joined (trees list) (more tree none)
trees-push [] tree = refl
trees-push (first ∷ list) tree = ap (more first) (trees-push list tree)

-- one more tree of a list
pub trees-take : {X : Type 0} (f : X → Tree) (xs : List X) (i : ℕ) (x : X) → x ≡ get_or xs i x → i < length xs
    → trees (map f (take (i + 1) xs)) ≡ joined (trees (map f (take i xs))) (more (f x) none)
trees-take f xs i x e lt =
    rw (add-one, take-suc xs i x lt, ← e) (ap trees (map-append f (take i xs) (x ∷ [])) ∙ trees-push (map f (take i xs)) (f x))

-- the same of what a list is seen as
pub trees-take_seen : {X Y : Type 0} (g : X → Y) (f : Y → Tree) (xs : List X) (i : ℕ) (x : X) → x ≡ get_or xs i x → i < length xs
    → trees (map f (map g (take (i + 1) xs))) ≡ joined (trees (map f (map g (take i xs)))) (more (f (g x)) none)
trees-take_seen g f xs i x e lt =
    rw (add-one, take-suc xs i x lt, ← e, map-append g (take i xs) (x ∷ [])) (ap trees (map-append f (map g (take i xs)) (g x ∷ [])) ∙ trees-push (map f (map g (take i xs))) (f (g x)))

-- the same where the element is read by its place
pub trees-take_or : {X : Type 0} (f : X → Tree) (xs : List X) (i : ℕ) (d : X) → i < length xs
    → trees (map f (take (i + 1) xs)) ≡ joined (trees (map f (take i xs))) (more (f (get_or xs i d)) none)
trees-take_or f xs i d lt = trees-take f xs i (get_or xs i d) (get_or_default xs i d (get_or xs i d) lt) lt
