-- How rows of calls are counted.
use Rattle.std.proofs.Common.{◌≡◌, inl, inr, ℕ, zero, suc, ◌+◌, ◌≤◌, Bool, true, false, not, ◌&&◌, Option, None, Some, refl, sym, ◌∙◌, ap, subst, arith, true≢false}
use Rattle.vf_disk.specs.Plans.{StopPlan, after_change, after_look, change_fails, look_fails, ChangesWherePlanned, LooksAsPlanned, SyncsAsPlanned}
use Rattle.vf_disk.specs.Calls.{MakesChanges, MakesLooks, SyncsAndLooks, after_changes, after_looks, no_change_fails, no_look_fails}

pub after_add : (a b : ℕ) (plan : StopPlan) → after_changes b (after_changes a plan) ≡ after_changes (a + b) plan
after_add a zero plan = let same : a ≡ a + 0 = omega arith in ap (λ (n : ℕ). after_changes n plan) same
after_add a (suc b) plan = let same : suc (a + b) ≡ a + suc b = omega arith in ap after_change (after_add a b plan) ∙ ap (λ (n : ℕ). after_changes n plan) same

both : (a b : Bool) → (a && b) ≡ true → (a ≡ true) × (b ≡ true)
both true b is = (refl, is)
both false b is = cc

and_of : (a b : Bool) → a ≡ true → b ≡ true → (a && b) ≡ true
and_of true b is_a is_b = is_b
and_of false b is_a is_b = cc

pub none_add : (a b : ℕ) (plan : StopPlan) → no_change_fails a plan ≡ true → no_change_fails b (after_changes a plan) ≡ true → no_change_fails (a + b) plan ≡ true
none_add a zero plan first second = let same : a ≡ a + 0 = omega arith in subst (λ (n : ℕ). no_change_fails n plan ≡ true) same first
none_add a (suc b) plan first second =
    let same : suc (a + b) ≡ a + suc b = omega arith in
    let parts = both (no_change_fails b (after_changes a plan)) (not (change_fails (after_changes b (after_changes a plan)))) second in
    let last : not (change_fails (after_changes (a + b) plan)) ≡ true = subst (λ (p : StopPlan). not (change_fails p) ≡ true) (after_add a b plan) parts.1 in
    subst (λ (n : ℕ). no_change_fails n plan ≡ true) same (and_of (no_change_fails (a + b) plan) (not (change_fails (after_changes (a + b) plan))) (none_add a b plan first parts.0) last)

-- a row of calls after another
pub changes_joined : (a b : ℕ) (old mid new : Option StopPlan) (failed : Bool) → MakesChanges a old mid false → MakesChanges b mid new failed → MakesChanges (a + b) old new failed
changes_joined a b None None new true first second = second
changes_joined a b None None new false first second = second
changes_joined a b None (Some plan) new failed first second = cc
changes_joined a b (Some old) None new failed first second = cc first.1
changes_joined a b (Some old) (Some mid) new false first second =
    let same : mid ≡ after_changes a old = let is = first.1 in cc in
    let none : no_change_fails b (after_changes a old) ≡ true = subst (λ (p : StopPlan). no_change_fails b p ≡ true) same second.0 in
    (none_add a b old first.0 none, second.1 ∙ ap (λ (p : StopPlan). Some (after_changes b p)) same ∙ ap Some (after_add a b old))
changes_joined a b (Some old) (Some mid) new true first (made, less, none, is) =
    let same : mid ≡ after_changes a old = let is_mid = first.1 in cc in
    let still : no_change_fails made (after_changes a old) ≡ true = subst (λ (p : StopPlan). no_change_fails made p ≡ true) same none in (
      a + made,
      omega arith,
      none_add a made old first.0 still,
      is ∙ ap (λ (p : StopPlan). Some (after_change (after_changes made p))) same ∙ ap (λ (p : StopPlan). Some (after_change p)) (after_add a made old),
    )

not_of : (b : Bool) → (b ≡ true → false ≡ true) → not b ≡ true
not_of true fails = absurd (true≢false (sym (fails refl)))
not_of false fails = refl

-- a write that succeeds
pub one_change : (old new : Option StopPlan) → ChangesWherePlanned old new false → MakesChanges 1 old new false
one_change None new is = is
one_change (Some old) new (fails, is) = (not_of (change_fails old) fails, is)

-- a row that ends early, counted as a longer one
pub changes_fewer : (a b : ℕ) (old new : Option StopPlan) → a ≤ b → MakesChanges a old new true → MakesChanges b old new true
changes_fewer a b None new le made = made
changes_fewer a b (Some old) new le (made, less, none, is) = (made, omega arith, none, is)

look_add : (a b : ℕ) (plan : StopPlan) → after_looks b (after_looks a plan) ≡ after_looks (a + b) plan
look_add a zero plan = let same : a ≡ a + 0 = omega arith in ap (λ (n : ℕ). after_looks n plan) same
look_add a (suc b) plan = let same : suc (a + b) ≡ a + suc b = omega arith in ap after_look (look_add a b plan) ∙ ap (λ (n : ℕ). after_looks n plan) same

no_look_add : (a b : ℕ) (plan : StopPlan) → no_look_fails a plan ≡ true → no_look_fails b (after_looks a plan) ≡ true → no_look_fails (a + b) plan ≡ true
no_look_add a zero plan first second = let same : a ≡ a + 0 = omega arith in subst (λ (n : ℕ). no_look_fails n plan ≡ true) same first
no_look_add a (suc b) plan first second =
    let same : suc (a + b) ≡ a + suc b = omega arith in
    let parts = both (no_look_fails b (after_looks a plan)) (not (look_fails (after_looks b (after_looks a plan)))) second in
    let last : not (look_fails (after_looks (a + b) plan)) ≡ true = subst (λ (p : StopPlan). not (look_fails p) ≡ true) (look_add a b plan) parts.1 in
    subst (λ (n : ℕ). no_look_fails n plan ≡ true) same (and_of (no_look_fails (a + b) plan) (not (look_fails (after_looks (a + b) plan))) (no_look_add a b plan first parts.0) last)

pub looks_joined : (old mid new : Option StopPlan) (failed : Bool) → MakesLooks old mid false → MakesLooks mid new failed → MakesLooks old new failed
looks_joined None None new true first second = second
looks_joined None None new false first second = second
looks_joined None (Some plan) new failed first second = cc
looks_joined (Some old) None new failed (a, none, is) second = cc is
looks_joined (Some old) (Some mid) new false (a, none, is) (b, still, last) =
    let same : mid ≡ after_looks a old = cc in
    let none_b : no_look_fails b (after_looks a old) ≡ true = subst (λ (p : StopPlan). no_look_fails b p ≡ true) same still in
    (a + b, no_look_add a b old none none_b, last ∙ ap (λ (p : StopPlan). Some (after_looks b p)) same ∙ ap Some (look_add a b old))
looks_joined (Some old) (Some mid) new true (a, none, is) (b, still, fails, last) =
    let same : mid ≡ after_looks a old = cc in
    let none_b : no_look_fails b (after_looks a old) ≡ true = subst (λ (p : StopPlan). no_look_fails b p ≡ true) same still in
    let at : after_looks b mid ≡ after_looks (a + b) old = ap (after_looks b) same ∙ look_add a b old in
    (a + b, no_look_add a b old none none_b, subst (λ (p : StopPlan). look_fails p ≡ true) at fails, last ∙ ap (λ (p : StopPlan). Some (after_look p)) at)

-- one call, and none
pub one_look : (old new : Option StopPlan) (failed : Bool) → LooksAsPlanned old new failed → MakesLooks old new failed
one_look None new true is = is
one_look None new false is = is
one_look (Some old) new true (fails, is) = (0, refl, sym fails, is)
one_look (Some old) new false (fails, is) = (1, ap not (sym fails), is)

pub no_look : (plan : Option StopPlan) → MakesLooks plan plan false
no_look None = refl
no_look (Some plan) = (0, refl, refl)

-- a sync, and calls after it that look
pub sync_fails : (old new : Option StopPlan) → SyncsAsPlanned old new true → SyncsAndLooks old new true
sync_fails None new is = is
sync_fails (Some old) new (fails, is) = inl (sym fails, is)

pub sync_looks : (old mid new : Option StopPlan) (failed : Bool) → SyncsAsPlanned old mid false → MakesLooks mid new failed → SyncsAndLooks old new failed
sync_looks None None new true first second = second
sync_looks None None new false first second = second
sync_looks None (Some mid) new failed first second = cc
sync_looks (Some old) None new failed (fails, is) second = cc is
sync_looks (Some old) (Some mid) new false (fails, is) second = (sym fails, subst (λ (p : Option StopPlan). MakesLooks p new false) is second)
sync_looks (Some old) (Some mid) new true (fails, is) second = inr (sym fails, subst (λ (p : Option StopPlan). MakesLooks p new true) is second)

pub syncs_joined : (old mid new : Option StopPlan) (failed : Bool) → SyncsAndLooks old mid false → MakesLooks mid new failed → SyncsAndLooks old new failed
syncs_joined None None new true first second = second
syncs_joined None None new false first second = second
syncs_joined None (Some mid) new failed first second = cc
syncs_joined (Some old) mid new false (good, looks) second = (good, looks_joined (Some (after_change old)) mid new false looks second)
syncs_joined (Some old) mid new true (good, looks) second = inr (good, looks_joined (Some (after_change old)) mid new true looks second)
