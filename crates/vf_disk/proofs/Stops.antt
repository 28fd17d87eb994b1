-- What a stop at a call of a row leaves.
use Rattle.std.proofs.Common.{◌≡◌, ℕ, ◌+◌, ◌-◌, nat_le, true, false, List, [], ◌∷◌, ◌++◌, length, refl, arith}
use Rattle.std.specs.Prelude.{fold}
use Rattle.std.specs.List.{list_any}
use Rattle.std.proofs.lemmas.Bool.Decides.{nat_tests}
use Rattle.vf_base.specs.Faults.{counted}
use Rattle.vf_disk.specs.Plans.{stopping}
use Rattle.vf_disk.specs.State.{State, after}
use Rattle.vf_disk.specs.Steps.{as_failed, ending_of, is_long}
use Rattle.vf_disk.specs.declared.step.Step.{Step}
use Rattle.vf_disk.proofs.Rows.{or_left, or_right}

pub stop_leaves : (before rest : List Step) (step : Step) (calls : ℕ) (state : State) → list_any is_long (before ++ step ∷ []) ≡ false
    → ((ending_of (before ++ step ∷ rest) (stopping calls (length before + 1)) state).failed ≡ true)
    × ((ending_of (before ++ step ∷ rest) (stopping calls (length before + 1)) state).state ≡ fold after state (before ++ as_failed step))
stop_leaves [] rest step calls state short =
    let fits : is_long step ≡ false = or_left (is_long step) false short in
    (refl, rw fits refl)
stop_leaves (first ∷ before) rest step calls state short =
    let far : nat_le (length (first ∷ before) + 1) 1 ≡ false = grind (arith, nat_tests) in
    let fits : is_long first ≡ false = or_left (is_long first) (list_any is_long (before ++ step ∷ [])) short in
    let less : length (first ∷ before) + 1 - 1 ≡ length before + 1 = omega arith in
    rw (far, fits, less) (stop_leaves before rest step (counted calls) (after state first) (or_right (is_long first) (list_any is_long (before ++ step ∷ [])) short))
