-- Rows of calls: how they are joined, and how one call of a disk in memory goes.
use Rattle.std.proofs.Common.{◌≡◌, inl, inr, ℕ, ◌+◌, Bool, true, false, not, ◌||◌, if◌then◌else◌, List, [], ◌∷◌, ◌++◌, length, take, Option, None, Some, refl, sym, ◌∙◌, ap, subst, arith, true≢false, length-append}
use Rattle.std.specs.Prelude.{fold}
use Rattle.std.proofs.Math.Seq.{take-append-add}
use Rattle.std.proofs.lemmas.List.{take-append-le}
use Rattle.std.proofs.lemmas.List.Sums.{fold-append}
use Rattle.vf_base.specs.Faults.{HasRisen}
use Rattle.vf_disk.specs.Calls.{after_changes, no_change_fails}
use Rattle.vf_disk.specs.Plans.{StopPlan, after_change, change_fails}
use Rattle.vf_disk.specs.State.{State, after}
use Rattle.vf_disk.specs.Steps.{Ending, GoesAsPlanned, LacksMemory, MakesSteps, ending_of, is_long, noted, step_fails}
use Rattle.vf_disk.specs.declared.step.Step.{Step}
use Rattle.vf_disk.proofs.CallCounts.{after_add, none_add}

-- a row that succeeds: the next row begins where it ends
chosen_append : (fails : Bool) (early rest both : Ending) (b : List Step) → ((rest.failed ≡ false) → both ≡ ending_of b rest.plan rest.state) → early.failed ≡ true
    → (let all : Ending = if fails then early else rest in all).failed ≡ false
    → (let all : Ending = if fails then early else both in all) ≡ ending_of b (let all : Ending = if fails then early else rest in all).plan (let all : Ending = if fails then early else rest in all).state
chosen_append true early rest both b more bad ok = absurd (true≢false (sym bad ∙ ok))
chosen_append false early rest both b more bad ok = more ok

ending_append : (a b : List Step) (plan : StopPlan) (state : State) → (ending_of a plan state).failed ≡ false
    → ending_of (a ++ b) plan state ≡ ending_of b (ending_of a plan state).plan (ending_of a plan state).state
ending_append [] b plan state ok = refl
ending_append (step ∷ a) b plan state ok =
    chosen_append (step_fails plan step) (record { plan = after_change plan; state = fold after state (noted plan step); failed = true })
    (ending_of a (after_change plan) (after state step)) (ending_of (a ++ b) (after_change plan) (after state step)) b (ending_append a b (after_change plan) (after state step)) refl ok

pub or_left : (a b : Bool) → (a || b) ≡ false → a ≡ false
or_left true b none = cc
or_left false b none = refl

pub or_right : (a b : Bool) → (a || b) ≡ false → b ≡ false
or_right true b none = cc
or_right false b none = none

-- of a row that succeeds each call is made, and none was planned to fail
record IsWhole (steps : List Step) (plan : StopPlan) (state : State) (ending : Ending) : Type 0 where
  none : no_change_fails (length steps) plan ≡ true
  next : ending.plan ≡ after_changes (length steps) plan
  leaves : ending.state ≡ fold after state steps

chosen_whole : (step : Step) (steps : List Step) (plan : StopPlan) (state : State) (fails : Bool) (early rest : Ending) → step_fails plan step ≡ fails → early.failed ≡ true
    → ((rest.failed ≡ false) → IsWhole steps (after_change plan) (after state step) rest)
    → (let all : Ending = if fails then early else rest in all).failed ≡ false → IsWhole (step ∷ steps) plan state (if fails then early else rest)
chosen_whole step steps plan state true early rest is bad more ok = absurd (true≢false (sym bad ∙ ok))
chosen_whole step steps plan state false early rest is bad more ok =
    let whole = more ok in
    let count : 1 + length steps ≡ length (step ∷ steps) = omega arith in
    let good : no_change_fails 1 plan ≡ true = ap not (or_left (change_fails plan) (is_long step) is) in
    record {
      none = subst (λ (n : ℕ). no_change_fails n plan ≡ true) count (none_add 1 (length steps) plan good whole.none);
      next = whole.next ∙ after_add 1 (length steps) plan ∙ ap (λ (n : ℕ). after_changes n plan) count;
      leaves = whole.leaves;
    }

whole_of : (steps : List Step) (plan : StopPlan) (state : State) → (ending_of steps plan state).failed ≡ false → IsWhole steps plan state (ending_of steps plan state)
whole_of [] plan state ok = record { none = refl; next = refl; leaves = refl }
whole_of (step ∷ steps) plan state ok =
    chosen_whole step steps plan state (step_fails plan step) (record { plan = after_change plan; state = fold after state (noted plan step); failed = true })
    (ending_of steps (after_change plan) (after state step)) refl refl (whole_of steps (after_change plan) (after state step)) ok

module _ (a b : List Step) (p q : StopPlan) (r : Option StopPlan) (s t : State) (u : Option State) (failed : Bool) (l m n : ℕ) (first : GoesAsPlanned a p (Some q) s (Some t) false l m) where
  same_plan : q ≡ (ending_of a p s).plan
  same_plan = let is = first.next in cc

  same_state : t ≡ (ending_of a p s).state
  same_state = let is = first.leaves in cc

  whole : IsWhole a p s (ending_of a p s)
  whole = whole_of a p s (sym first.fails)

  end : ending_of b q t ≡ ending_of (a ++ b) p s
  end =
      ap (λ (x : StopPlan). ending_of b x t) same_plan ∙ ap (λ (y : State). ending_of b (ending_of a p s).plan y) same_state
      ∙ sym (ending_append a b p s (sym first.fails))

  planned_joined : GoesAsPlanned b q r t u failed m n → GoesAsPlanned (a ++ b) p r s u failed l n
  planned_joined second = record {
    next = second.next ∙ ap (λ (e : Ending). Some e.plan) end;
    leaves = second.leaves ∙ ap (λ (e : Ending). Some e.state) end;
    fails = second.fails ∙ ap (λ (e : Ending). e.failed) end;
    memory = second.memory ∙ first.memory;
  }

  lacking_joined : LacksMemory b q r t u failed m n → LacksMemory (a ++ b) p r s u failed l n
  lacking_joined second = record {
    made = length a + second.made;
    less = omega (arith, second.less, length-append a b);
    none = none_add (length a) second.made p whole.none (subst (λ (x : StopPlan). no_change_fails second.made x ≡ true) (same_plan ∙ whole.next) second.none);
    next = second.next ∙ ap (λ (x : StopPlan). Some (after_change (after_changes second.made x))) (same_plan ∙ whole.next) ∙ ap (λ (x : StopPlan). Some (after_change x)) (after_add (length a) second.made p);
    leaves = second.leaves ∙ ap (λ (y : State). Some (fold after y (take second.made b))) (same_state ∙ whole.leaves)
        ∙ ap Some (sym (fold-append after s a (take second.made b))) ∙ ap (λ (row : List Step). Some (fold after s row)) (sym (take-append-add a b second.made));
    fails = second.fails;
    memory = subst (λ (x : ℕ). HasRisen x n) first.memory second.memory;
  }

-- a row after another of which all calls succeeded
pub steps_joined : (a b : List Step) (p q r : Option StopPlan) (s t u : Option State) (failed : Bool) (l m n : ℕ)
    → MakesSteps a p q s t false l m → MakesSteps b q r t u failed m n → MakesSteps (a ++ b) p r s u failed l n
steps_joined a b None None r s t u failed l m n first second = second
steps_joined a b None (Some q) r s None u failed l m n first second = second
steps_joined a b None (Some q) r s (Some t) u failed l m n first second = cc
steps_joined a b (Some p) None r None t u failed l m n first second = second
steps_joined a b (Some p) (Some q) r None None u failed l m n first second = second
steps_joined a b (Some p) (Some q) r None (Some t) u failed l m n first second = cc
steps_joined a b (Some p) q r (Some s) t u failed l m n (inr first) second = absurd (true≢false (sym first.fails))
steps_joined a b (Some p) None r (Some s) t u failed l m n (inl first) second = cc first.next
steps_joined a b (Some p) (Some q) r (Some s) None u failed l m n (inl first) second = cc first.leaves
steps_joined a b (Some p) (Some q) r (Some s) (Some t) u failed l m n (inl first) (inl second) = inl (planned_joined a b p q r s t u failed l m n first second)
steps_joined a b (Some p) (Some q) r (Some s) (Some t) u failed l m n (inl first) (inr second) = inr (lacking_joined a b p q r s t u failed l m n first second)

chosen_early : (fails : Bool) (early rest both : Ending) → ((rest.failed ≡ true) → both ≡ rest) → (let all : Ending = if fails then early else rest in all).failed ≡ true
    → (let all : Ending = if fails then early else both in all) ≡ (let all : Ending = if fails then early else rest in all)
chosen_early true early rest both more bad = refl
chosen_early false early rest both more bad = more bad

-- a row that fails ends so whatever is to follow
ending_early : (a b : List Step) (plan : StopPlan) (state : State) → (ending_of a plan state).failed ≡ true → ending_of (a ++ b) plan state ≡ ending_of a plan state
ending_early [] b plan state bad = absurd (true≢false (sym bad))
ending_early (step ∷ a) b plan state bad =
    chosen_early (step_fails plan step) (record { plan = after_change plan; state = fold after state (noted plan step); failed = true })
    (ending_of a (after_change plan) (after state step)) (ending_of (a ++ b) (after_change plan) (after state step)) (ending_early a b (after_change plan) (after state step)) bad

pub steps_failed : (a b : List Step) (p q : Option StopPlan) (s t : Option State) (l n : ℕ) → MakesSteps a p q s t true l n → MakesSteps (a ++ b) p q s t true l n
steps_failed a b None q s t l n made = made
steps_failed a b (Some p) q None t l n made = made
steps_failed a b (Some p) q (Some s) t l n (inl made) =
    let end = ending_early a b p s (sym made.fails) in
    inl (record {
      next = made.next ∙ ap (λ (e : Ending). Some e.plan) (sym end);
      leaves = made.leaves ∙ ap (λ (e : Ending). Some e.state) (sym end);
      fails = made.fails ∙ ap (λ (e : Ending). e.failed) (sym end);
      memory = made.memory;
    })
steps_failed a b (Some p) q (Some s) t l n (inr lacks) = inr (record {
  made = lacks.made;
  less = omega (arith, lacks.less, length-append a b);
  none = lacks.none;
  next = lacks.next;
  leaves = lacks.leaves ∙ ap (λ (row : List Step). Some (fold after s row)) (sym (take-append-le lacks.made a b (omega (arith, lacks.less))));
  fails = lacks.fails;
  memory = lacks.memory;
})
