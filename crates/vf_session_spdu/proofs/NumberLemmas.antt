-- The number that digits spell, digit by digit.
use Rattle.std.proofs.Common.{◌≡◌, ℕ, zero, suc, ◌≤◌, ◌<◌, true, List, [], ◌∷◌, length, get_or, arith}
use Rattle.std.proofs.lemmas.Bool.Decides.{nat_tests}
use Rattle.std.specs.List.{list_all}
use Rattle.vf_session_spdu.specs.Table.{is_digit}

pub digit-all : (x : ℕ) (xs : List ℕ) (i : ℕ) → list_all is_digit xs ≡ true → i < length xs → (48 ≤ get_or xs i 0) × (get_or xs i 0 ≤ 57)
digit-all n [] i h lt = absurd (omega arith)
digit-all n (x ∷ xs) zero h lt = (grind (arith, nat_tests), grind (arith, nat_tests))
digit-all n (x ∷ xs) (suc i) h lt = digit-all n xs i (grind (arith, nat_tests)) (omega arith)
