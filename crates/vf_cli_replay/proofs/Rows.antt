-- How a row of calls ends, by the stop that is planned.
use Rattle.std.proofs.Common.{◌≡◌, ◌∙◌, inl, inr, ℕ, nat_eq, Bool, true, false, List, [], ◌∷◌, ◌++◌, Option, Some, ap, refl, sym, subst, arith, true≢false}
use Rattle.std.proofs.lemmas.Option.{same_Some}
use Rattle.std.specs.List.{list_any}
use Rattle.std.specs.Prelude.{◌||◌, fold, if◌then◌else◌}
use Rattle.vf_base.specs.Faults.{HasRisen, counted}
use Rattle.vf_base.specs.Plans.{FailurePlan, is_planned}
use Rattle.vf_disk.specs.Plans.{StopPlan, after_change, change_fails, counted_down, is_after_stop, is_stopped}
use Rattle.vf_disk.specs.State.{State, after, settled}
use Rattle.vf_disk.specs.Steps.{Ending, MakesSteps, as_failed, ending_of, is_long, noted, step_fails}
use Rattle.vf_disk.specs.declared.step.Step.{Step}
use Rattle.vf_disk.specs.declared.step.Step.TheVariants.{Synced}

abbrev either : Bool → Ending → Ending → Ending
either fails early rest = if fails then early else rest

abbrev pub early : Step → StopPlan → State → Ending
early step plan state = record { plan = after_change plan; state = fold after state (noted plan step); failed = true }

-- ---- a row after another, all of whose calls go well,
then_chosen : (fails : Bool) (first rest both : Ending) (b : List Step) → ((rest.failed ≡ false) → both ≡ ending_of b rest.plan rest.state) → first.failed ≡ true
    → (either fails first rest).failed ≡ false → either fails first both ≡ ending_of b (either fails first rest).plan (either fails first rest).state
then_chosen true first rest both b more bad ok = absurd (true≢false (sym bad ∙ ok))
then_chosen false first rest both b more bad ok = more ok

pub row_then : (a b : List Step) (plan : StopPlan) (state : State) → (ending_of a plan state).failed ≡ false
    → ending_of (a ++ b) plan state ≡ ending_of b (ending_of a plan state).plan (ending_of a plan state).state
row_then [] b plan state ok = refl
row_then (step ∷ a) b plan state ok =
    then_chosen (step_fails plan step) (early step plan state) (ending_of a (after_change plan) (after state step)) (ending_of (a ++ b) (after_change plan) (after state step)) b
    (row_then a b (after_change plan) (after state step)) refl ok

-- and one that isn't begun, since a call of the first fails
fails_chosen : (fails : Bool) (first rest both : Ending) → ((rest.failed ≡ true) → both ≡ rest) → (either fails first rest).failed ≡ true → either fails first both ≡ either fails first rest
fails_chosen true first rest both more bad = refl
fails_chosen false first rest both more bad = more bad

pub row_fails : (a b : List Step) (plan : StopPlan) (state : State) → (ending_of a plan state).failed ≡ true → ending_of (a ++ b) plan state ≡ ending_of a plan state
row_fails [] b plan state bad = absurd (true≢false (sym bad))
row_fails (step ∷ a) b plan state bad =
    fails_chosen (step_fails plan step) (early step plan state) (ending_of a (after_change plan) (after state step)) (ending_of (a ++ b) (after_change plan) (after state step))
    (row_fails a b (after_change plan) (after state step)) bad

-- ---- a sync before others, as a store is opened
pub behind_sync : (steps : List Step) (plan : StopPlan) (state : State) → step_fails plan Synced ≡ false → ending_of (Synced ∷ steps) plan state ≡ ending_of steps (after_change plan) (settled state.shown)
behind_sync steps plan state goes = ap (λ (b : Bool). either b (early Synced plan state) (ending_of steps (after_change plan) (settled state.shown))) goes

pub at_sync : (steps : List Step) (plan : StopPlan) (state : State) → step_fails plan Synced ≡ true → ending_of (Synced ∷ steps) plan state ≡ early Synced plan state
at_sync steps plan state fails = ap (λ (b : Bool). either b (early Synced plan state) (ending_of steps (after_change plan) (settled state.shown))) fails

-- ---- Of two plans with one stop, and no other failure, each row ends alike.
pub record SameStop (one two : StopPlan) : Type 0 where
  pub none : one.numbers.failing ≡ []
  pub other : two.numbers.failing ≡ []
  pub stop : one.until_stop ≡ two.until_stop

none_planned : (numbers : FailurePlan) → numbers.failing ≡ [] → is_planned numbers ≡ false
none_planned numbers none = ap (λ (failing : List ℕ). list_any (λ (number : ℕ). nat_eq number (counted numbers.calls)) failing) none

change_same : (one two : StopPlan) → SameStop one two → change_fails one ≡ change_fails two
change_same one two same =
    ap (λ (b : Bool). is_stopped one.until_stop || b) (none_planned one.numbers same.none) ∙ ap (λ (left : Option ℕ). is_stopped left || false) same.stop
    ∙ sym (ap (λ (b : Bool). is_stopped two.until_stop || b) (none_planned two.numbers same.other))

abbrev noted_by : Option ℕ → Bool → Step → List Step
noted_by left fails step = if is_after_stop left || is_long step then [] else if fails then as_failed step else step ∷ []

noted_same : (one two : StopPlan) (step : Step) → SameStop one two → noted one step ≡ noted two step
noted_same one two step same =
    ap (λ (left : Option ℕ). noted_by left (change_fails one) step) same.stop ∙ ap (λ (b : Bool). noted_by two.until_stop b step) (change_same one two same)

after_same : (one two : StopPlan) → SameStop one two → SameStop (after_change one) (after_change two)
after_same one two same = record { none = same.none; other = same.other; stop = ap counted_down same.stop }

pub record EndsSame (one two : Ending) : Type 0 where
  pub failed : one.failed ≡ two.failed
  pub state : one.state ≡ two.state

same_chosen : (fails : Bool) (first first' rest rest' : Ending) → EndsSame first first' → EndsSame rest rest' → EndsSame (either fails first rest) (either fails first' rest')
same_chosen true first first' rest rest' one other = one
same_chosen false first first' rest rest' one other = other

pub ends_same : (steps : List Step) (one two : StopPlan) (state : State) → SameStop one two → EndsSame (ending_of steps one state) (ending_of steps two state)
ends_same [] one two state same = record { failed = refl; state = refl }
ends_same (step ∷ steps) one two state same =
    let next = after_same one two same in
    let rest = ends_same steps (after_change one) (after_change two) (after state step) next in
    let fails : step_fails one step ≡ step_fails two step = ap (λ (b : Bool). b || is_long step) (change_same one two same) in
    let first : EndsSame (early step one state) (early step two state) = record { failed = refl; state = ap (λ (steps : List Step). fold after state steps) (noted_same one two step same) } in
    let all : EndsSame (either (step_fails two step) (early step one state) (ending_of steps (after_change one) (after state step))) (ending_of (step ∷ steps) two state) =
    same_chosen (step_fails two step) (early step one state) (early step two state) (ending_of steps (after_change one) (after state step)) (ending_of steps (after_change two) (after state step)) first rest in
    subst (λ (b : Bool). EndsSame (either b (early step one state) (ending_of steps (after_change one) (after state step))) (ending_of (step ∷ steps) two state)) (sym fails) all

-- ---- A ROW THAT WAS MADE on a disk in memory: all of it,
pub record Went (steps : List Step) (plan plan' : StopPlan) (state state' : State) : Type 0 where
  pub goes : (ending_of steps plan state).failed ≡ false
  pub next : plan' ≡ (ending_of steps plan state).plan
  pub leaves : state' ≡ (ending_of steps plan state).state

pub went : (steps : List Step) (plan plan' : StopPlan) (state state' : State) (lacks lacks' : ℕ) → MakesSteps steps (Some plan) (Some plan') (Some state) (Some state') false lacks lacks'
    → Went steps plan plan' state state'
went steps plan plan' state state' lacks lacks' (inl planned) =
    record {
      goes = sym planned.fails;
      next = same_Some plan' (ending_of steps plan state).plan planned.next;
      leaves = same_Some state' (ending_of steps plan state).state planned.leaves;
    }
went steps plan plan' state state' lacks lacks' (inr wanting) = absurd (true≢false (sym wanting.fails))

-- or up to a call that fails, where none found no memory
pub record Fell (steps : List Step) (plan : StopPlan) (state state' : State) : Type 0 where
  pub fails : (ending_of steps plan state).failed ≡ true
  pub leaves : state' ≡ (ending_of steps plan state).state

never_risen : (old new : ℕ) → HasRisen old new → new ≡ 0 → ⊥
never_risen old new (inl less) none = omega (arith, less, none)
never_risen old new (inr last) none = let is : new ≡ 18446744073709551615 = last.1 in omega (arith, is, none)

pub fell : (steps : List Step) (plan plan' : StopPlan) (state state' : State) (lacks lacks' : ℕ) → MakesSteps steps (Some plan) (Some plan') (Some state) (Some state') true lacks lacks' → lacks' ≡ 0
    → Fell steps plan state state'
fell steps plan plan' state state' lacks lacks' (inl planned) none =
    record { fails = sym planned.fails; leaves = same_Some state' (ending_of steps plan state).state planned.leaves }
fell steps plan plan' state state' lacks lacks' (inr wanting) none = absurd (never_risen lacks lacks' wanting.memory none)
