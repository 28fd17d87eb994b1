-- How one call of a disk in memory is noted, and how it goes as a row of one.
use Rattle.std.proofs.Common.{◌≡◌, inl, inr, ℕ, Bool, true, false, ◌||◌, if◌then◌else◌, List, [], ◌∷◌, ◌++◌, Option, None, Some, refl, sym, ◌∙◌, ap, arith}
use Rattle.std.specs.Prelude.{fold}
use Rattle.std.proofs.lemmas.Bool.Decides.{nat_tests}
use Rattle.std.proofs.lemmas.List.Sums.{fold-append}
use Rattle.vf_base.specs.Faults.{HasRisen}
use Rattle.vf_disk.specs.Plans.{StopPlan, SyncsAsPlanned, after_change, change_fails, is_after_stop, is_stopped}
use Rattle.vf_disk.specs.State.{State, after, settled, state_of}
use Rattle.vf_disk.specs.Memory.{is_settled, with_sync}
use Rattle.vf_disk.specs.Steps.{LeavesState, MakesSteps, ending_of, is_long, noted, step_fails}
use Rattle.vf_disk.specs.declared.step.Step.{Step}
use Rattle.vf_disk.specs.declared.step.Step.TheVariants.{Synced}
use Rattle.vf_disk.proofs.Rows.{or_left, or_right}
use Rattle.vf_disk.proofs.Settled.{settled_state}

no_stop : (until : Option ℕ) → is_stopped until ≡ false → is_after_stop until ≡ false
no_stop None is = refl
no_stop (Some left) is = grind (arith, nat_tests)

or_true : (a b : Bool) → b ≡ true → (a || b) ≡ true
or_true true b is = refl
or_true false b is = is

or_first : (a b : Bool) → a ≡ true → (a || b) ≡ true
or_first true b is = refl
or_first false b is = cc

neither : (a b : Bool) → a ≡ false → b ≡ false → (a || b) ≡ false
neither true b is_a is_b = cc
neither false b is_a is_b = is_b

-- a call that isn't planned to fail and isn't too long is noted as it is
pub noted_made : (plan : StopPlan) (step : Step) → change_fails plan ≡ false → is_long step ≡ false → noted plan step ≡ step ∷ []
noted_made plan step good short =
    let running = no_stop plan.until_stop (or_left (is_stopped plan.until_stop) _ good) in
    rw (neither (is_after_stop plan.until_stop) (is_long step) running short, good) refl

-- what a call leaves is what it is noted as
pub ends : (plan : StopPlan) (step : Step) (state : State) (fails : Bool) → step_fails plan step ≡ fails
    → ((ending_of (step ∷ []) plan state).plan ≡ after_change plan) × ((ending_of (step ∷ []) plan state).state ≡ fold after state (noted plan step)) × ((ending_of (step ∷ []) plan state).failed ≡ fails)
ends plan step state true is = (rw is refl, rw is refl, rw is refl)
ends plan step state false is =
    let made = noted_made plan step (or_left (change_fails plan) (is_long step) is) (or_right (change_fails plan) (is_long step) is) in
    (rw is refl, rw (is, made) refl, rw is refl)

module _ (first : List ℕ) (plan : StopPlan) (step : Step) (steps now : List Step) (old new : ℕ) where
  abbrev pub Goes : Bool → Type 0
  Goes failed = MakesSteps (step ∷ []) (Some plan) (Some (after_change plan)) (Some (state_of first steps)) (Some (state_of first now)) failed old new

  pub goes_lacking : now ≡ steps → HasRisen old new → Goes true
  goes_lacking same risen = inr (record {
    made = 0;
    less = omega arith;
    none = refl;
    next = refl;
    leaves = ap (λ (row : List Step). Some (state_of first row)) same;
    fails = refl;
    memory = risen;
  })

-- A sync, which isn't kept where nothing has changed since the last one.
sync_state : (first : List ℕ) (steps : List Step) (settled_already : Bool) → is_settled steps ≡ settled_already
    → state_of first (if settled_already then steps else steps ++ Synced ∷ []) ≡ after (state_of first steps) Synced
sync_state first steps true is = settled_state first steps is
sync_state first steps false is = fold-append after (settled first) steps (Synced ∷ [])

module _ (first : List ℕ) (plan : StopPlan) (steps now : List Step) where
  pub sync_made : now ≡ with_sync steps → change_fails plan ≡ false → LeavesState (Synced ∷ []) (Some plan) (Some (state_of first steps)) (Some (state_of first now))
  sync_made kept good =
      let end = ends plan Synced (state_of first steps) false (neither (change_fails plan) false good refl) in
      let noted_so : noted plan Synced ≡ Synced ∷ [] = noted_made plan Synced good refl in
      ap Some (ap (λ (row : List Step). state_of first row) kept ∙ sync_state first steps (is_settled steps) refl ∙ ap (λ (row : List Step). fold after (state_of first steps) row) (sym noted_so) ∙ sym end.1)

or_false : (b : Bool) → (b || false) ≡ b
or_false true = refl
or_false false = refl

-- a sync, which takes no memory, as a row of one call
pub sync_goes : (p q : Option StopPlan) (s t : Option State) (failed : Bool) (old new : ℕ) → SyncsAsPlanned p q failed → LeavesState (Synced ∷ []) p s t → new ≡ old → MakesSteps (Synced ∷ []) p q s t failed old new
sync_goes None q s t failed old new planned leaves memory = leaves
sync_goes (Some p) q None t failed old new planned leaves memory = leaves
sync_goes (Some p) q (Some s) t failed old new (fails, next) leaves memory =
    let end = ends p Synced s (step_fails p Synced) refl in
    inl (record { next = next ∙ ap Some (sym end.0); leaves = leaves; fails = fails ∙ sym (or_false (change_fails p)) ∙ sym end.2; memory = memory })
