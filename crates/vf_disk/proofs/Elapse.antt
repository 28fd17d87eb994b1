-- How the moments of a disk in memory go on.
use Rattle.std.proofs.Common.{◌≡◌, inl, inr, ℕ, ◌+◌, ◌≤◌, List, [], ◌∷◌, ◌++◌, length, take, sym, ◌∙◌, ap, subst, arith, length-append}
use Rattle.std.proofs.lemmas.List.{take_all, take-append-le}
use Rattle.std.proofs.lemmas.Bool.{cases_lt}
use Rattle.std.proofs.lemmas.List.Sums.{fold-append}
use Rattle.vf_disk.specs.Disk.{Elapses}
use Rattle.vf_disk.specs.declared.step.Step.{Step}
use Rattle.vf_disk.specs.State.{IsImage, state_of, after, settled}

abbrev pub Left : List ℕ → List Step → ℕ → List ℕ → Type 0
Left first steps moment image = (count : ℕ) × (moment ≤ count) × (count ≤ length steps) × IsImage (state_of first (take count steps)) image

abbrev pub Goes : List ℕ → List Step → List Step → Type 0
Goes first steps now = Elapses (length steps) (length now) (Left first steps) (Left first now) (IsImage (state_of first now))

-- a call that isn't kept
pub goes_same : (first : List ℕ) (steps now : List Step) → now ≡ steps → Goes first steps now
goes_same first steps now same = subst (λ (s : List Step). Goes first steps s) (sym same) (record {
  later = omega arith;
  nothing_else = λ moment image le left. inl left;
  stays = λ moment image le left. left;
})

module _ (first : List ℕ) (steps now : List Step) (step : Step) (more : now ≡ steps ++ step ∷ []) where
  pub one_more : state_of first now ≡ after (state_of first steps) step
  one_more = ap (λ (s : List Step). state_of first s) more ∙ fold-append after (settled first) steps (step ∷ [])

  longer : length now ≡ length steps + 1
  longer = ap length more ∙ length-append steps (step ∷ [])

  same_past : (count : ℕ) → count ≤ length steps → take count now ≡ take count steps
  same_past count le = ap (λ (s : List Step). take count s) more ∙ take-append-le count steps (step ∷ []) le

  -- a call that is kept
  pub goes_on : Goes first steps now
  goes_on = record {
    later = omega (arith, longer);
    nothing_else = λ moment image le left. elim (cases_lt (length steps) left.0) [
      | inl lt ↦ inr (subst (λ (s : List Step). IsImage (state_of first s) image) (take_all left.0 now (omega (arith, longer))) left.3)
      | inr ge ↦ inl (left.0, left.1, ge, subst (λ (s : List Step). IsImage (state_of first s) image) (same_past left.0 ge) left.3)
    ];
    stays = λ moment image le left. (left.0, left.1, omega (arith, longer, left.2), subst (λ (s : List Step). IsImage (state_of first s) image) (sym (same_past left.0 left.2)) left.3);
  }
