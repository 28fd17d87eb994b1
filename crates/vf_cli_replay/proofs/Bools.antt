-- Tests of lists, one entry more.
use Rattle.std.proofs.Common.{◌≡◌, Bool, true, false, ◌&&◌, not, List, [], ◌∷◌, ◌++◌, refl}
use Rattle.std.specs.Prelude.{◌||◌}
use Rattle.std.specs.List.{list_all}

pub first_of : (a b : Bool) → (a && b) ≡ true → a ≡ true
first_of true b is = refl
first_of false b is = is

pub second_of : (a b : Bool) → (a && b) ≡ true → b ≡ true
second_of true b is = is
second_of false b is = absurd cc

pub both_true : (a b : Bool) → a ≡ true → b ≡ true → (a && b) ≡ true
both_true true b first second = second
both_true false b first second = absurd cc

pub neither_first : (a b : Bool) → (a || b) ≡ false → a ≡ false
neither_first true b is = absurd cc
neither_first false b is = refl

pub neither_second : (a b : Bool) → (a || b) ≡ false → b ≡ false
neither_second true b is = absurd cc
neither_second false b is = is

pub not_true : (a : Bool) → not a ≡ true → a ≡ false
not_true true is = absurd cc
not_true false is = refl

pub all_push : {A : Type 0} (p : A → Bool) (entries : List A) (entry : A) → list_all p entries ≡ true → p entry ≡ true → list_all p (entries ++ entry ∷ []) ≡ true
all_push p [] entry all one = both_true (p entry) true one refl
all_push p (first ∷ entries) entry all one =
    both_true (p first) (list_all p (entries ++ entry ∷ [])) (first_of (p first) (list_all p entries) all) (all_push p entries entry (second_of (p first) (list_all p entries) all) one)
