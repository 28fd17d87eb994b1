-- A stop at the first call of the disk is one in the opening of its store, and no other is.
use Rattle.std.proofs.Common.{◌≡◌, ◌∙◌, ⊎_elim, ℕ, zero, suc, ◌-◌, ◌<◌, max, Bool, true, false, nat_eq, nat_le, List, [], Option, None, Some, ap, refl, sym, subst, arith}
use Rattle.std.specs.Prelude.{◌||◌, IsSome}
use Rattle.std.proofs.lemmas.Bool.{eqb-true}
use Rattle.std.proofs.lemmas.Option.{same_Some}
use Rattle.vf_disk.specs.Calls.{SyncsAndLooks, after_looks}
use Rattle.vf_disk.specs.Memory.{fresh}
use Rattle.vf_disk.specs.Plans.{StopPlan, after_change, counted_down, is_after_stop, look_fails}
use Rattle.vf_disk.specs.Steps.{step_fails}
use Rattle.vf_disk.specs.declared.step.Step.TheVariants.{Synced}
use Rattle.vf_cli_script.specs.declared.line.Stop.{Stop}
use Rattle.vf_cli_replay.specs.Calls.{plan_by}
use Rattle.vf_cli_replay.specs.Standing.{with_stop}

-- a life that is to stop at the first call
abbrev pub at_once : Option Stop → Bool
at_once None = false
at_once (Some stop) = nat_le stop.call 1

-- nothing fails by its number
pub record HasNone (plan : StopPlan) (until : Option ℕ) : Type 0 where
  pub none : plan.numbers.failing ≡ []
  pub stop : plan.until_stop ≡ until

looks_have : (count : ℕ) (plan : StopPlan) (until : Option ℕ) → HasNone plan until → HasNone (after_looks count plan) until
looks_have zero plan until has = has
looks_have (suc count) plan until has = let before = looks_have count plan until has in record { none = before.none; stop = before.stop }

or_none : (b : Bool) → (b || false) ≡ true → b ≡ true
or_none true is = refl
or_none false is = is

look_by : (plan : StopPlan) (until : Option ℕ) → HasNone plan until → look_fails plan ≡ true → is_after_stop until ≡ true
look_by plan until has fails =
    let same : look_fails (record { numbers = record { failing = []; calls = plan.numbers.calls }; until_stop = until }) ≡ look_fails plan =
    λ i. look_fails (record { numbers = record { failing = sym has.none i; calls = plan.numbers.calls }; until_stop = sym has.stop i }) in
    or_none (is_after_stop until) (same ∙ fails)

later_call : (call : ℕ) → 1 < call → max call 1 ≡ call
later_call call later = omega arith

first_call : (call : ℕ) → nat_le (max call 1) 1 ≡ nat_le call 1
first_call zero = refl
first_call (suc zero) = refl
first_call (suc (suc call)) = ap (λ (n : ℕ). nat_le n 1) (later_call (suc (suc call)) (omega arith))

second_call : (call : ℕ) → nat_eq (max call 1 - 1) 0 ≡ true → nat_le call 1 ≡ true
second_call zero is = refl
second_call (suc zero) is = refl
second_call (suc (suc call)) is = absurd (omega (arith, later_call (suc (suc call)) (omega arith), eqb-true (max (suc (suc call)) 1 - 1) 0 is))

-- the plan of the disk, with its stop
abbrev pub plan_of : Option Stop → List ℕ → StopPlan
plan_of stop image = (with_stop stop (fresh image [])).plan

pub plan_is : (stop : Option Stop) (image : List ℕ) → plan_of stop image ≡ plan_by stop
plan_is None image = refl
plan_is (Some stop) image = refl

pub fails_at_once : (stop : Option Stop) → at_once stop ≡ true → step_fails (plan_by stop) Synced ≡ true
fails_at_once None first = absurd cc
fails_at_once (Some stop) first = ap (λ (b : Bool). (b || false) || false) (first_call stop.call ∙ first)

-- As the store is opened no call is stopped. What is left of the plan: the calls of `len` and `read` don't count.
pub opens_with : (plan plan' : StopPlan) → plan.numbers.failing ≡ [] → SyncsAndLooks (Some plan) (Some plan') false → HasNone plan' (counted_down plan.until_stop)
opens_with plan plan' none looks =
    let more = looks.1 in
    let same : plan' ≡ after_looks more.0 (after_change plan) = same_Some plan' (after_looks more.0 (after_change plan)) more.2 in
    let has = looks_have more.0 (after_change plan) (counted_down plan.until_stop) (record { none = none; stop = refl }) in
    subst (λ (p : StopPlan). HasNone p (counted_down plan.until_stop)) (sym same) has

pub opens_well : (plan plan' : StopPlan) → SyncsAndLooks (Some plan) (Some plan') false → step_fails plan Synced ≡ false
opens_well plan plan' looks = ap (λ (b : Bool). b || false) looks.0

-- Or it stops at the first call.
pub stops_at_once : (stop : Option Stop) (image : List ℕ) (plan : Option StopPlan) → SyncsAndLooks (Some (plan_of stop image)) plan true → IsSome stop → at_once stop ≡ true
stops_at_once None image plan looks asked = absurd cc
stops_at_once (Some stop) image plan looks asked =
    ⊎_elim (λ first. sym (first_call stop.call) ∙ or_none (nat_le (max stop.call 1) 1) first.0)
    (λ later.
    let fails = later.1 in
    let plan' = after_change (plan_of (Some stop) image) in
    let has : HasNone plan' (Some (max stop.call 1 - 1)) = record { none = refl; stop = refl } in
    second_call stop.call (look_by (after_looks fails.0 plan') (Some (max stop.call 1 - 1)) (looks_have fails.0 plan' (Some (max stop.call 1 - 1)) has) fails.2))
    looks
