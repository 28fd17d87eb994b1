-- What a write or a cut of a disk in memory does, by how it is kept.
use Rattle.std.proofs.Common.{◌≡◌, ◌⊎◌, inl, inr, ℕ, ◌+◌, ◌<◌, ◌≤◌, max, Bool, true, false, ◌||◌, if◌then◌else◌, List, [], ◌∷◌, ◌++◌, length, take, drop, Result, Ok, Err, Some, refl, sym, ◌∙◌, ap, subst, arith, length-append, length-drop}
use Rattle.std.specs.Prelude.{is_err, nat_lt}
use Rattle.std.proofs.lemmas.Bool.Decides.{nat_tests}
use Rattle.std.proofs.lemmas.List.{append-nil, length-take-le}
use Rattle.std.proofs.lemmas.List.Sums.{fold-append}
use Rattle.vf_base.specs.Faults.{HasRisen}
use Rattle.vf_base.specs.declared.errors.Failed.{Failed}
use Rattle.vf_disk.specs.Disk.{Cuts, Elapses, Follows, Shortened, Torn, Within, Writes, greatest_length, length_cut, length_written, overwritten}
use Rattle.vf_disk.specs.Memory.{Keeps, KeepsNothing, LeftSince, Memory, state}
use Rattle.vf_disk.specs.Plans.{ChangesWherePlanned, StopPlan, after_change, change_fails, is_after_stop}
use Rattle.vf_disk.specs.State.{IsImage, State, after, settled, state_of}
use Rattle.vf_disk.specs.Steps.{IsNoted, MakesSteps, as_failed, is_long, noted, step_fails}
use Rattle.vf_disk.specs.declared.step.Step.{Step}
use Rattle.vf_disk.specs.declared.step.Step.TheVariants.{Wrote, CutTo, Synced}
use Rattle.vf_disk.proofs.Calls.{cut_crash, write_crash}
use Rattle.vf_disk.proofs.Elapse.{Left, goes_on, goes_same, one_more}
use Rattle.vf_disk.proofs.Noted.{ends, goes_lacking, noted_made}
use Rattle.vf_disk.proofs.Rows.{or_left, or_right}

-- it was made, it isn't kept, or it is kept as one that failed
abbrev pub Ends : Step → List Step → List Step → Bool → Type 0
Ends step old new failed = ((failed ≡ false) × (new ≡ old ++ step ∷ [])) ⊎ ((failed ≡ true) × ((new ≡ old) ⊎ (new ≡ old ++ as_failed step)))

chosen : (stopped long fails : Bool) (bad whole : List Step) → (fails || long) ≡ true
    → ((let all : List Step = if stopped || long then [] else if fails then bad else whole in all) ≡ []) ⊎ ((let all : List Step = if stopped || long then [] else if fails then bad else whole in all) ≡ bad)
chosen true long fails bad whole is = inl refl
chosen false true fails bad whole is = inl refl
chosen false false true bad whole is = inr refl
chosen false false false bad whole is = cc

noted_ends : (plan : StopPlan) (step : Step) (old new : List Step) (failed fails : Bool) → step_fails plan step ≡ fails → IsNoted plan step old new failed → Ends step old new failed
noted_ends plan step old new failed true is kept =
    inr (
      kept.fails ∙ is,
      elim (chosen (is_after_stop plan.until_stop) (is_long step) (change_fails plan) (as_failed step) (step ∷ []) is) [
        | inl none ↦ inl (kept.keeps ∙ ap (λ (l : List Step). old ++ l) none ∙ append-nil old)
        | inr bad ↦ inr (kept.keeps ∙ ap (λ (l : List Step). old ++ l) bad)
      ],
    )
noted_ends plan step old new failed false is kept =
    inl (kept.fails ∙ is, kept.keeps ∙ ap (λ (l : List Step). old ++ l) (noted_made plan step (or_left (change_fails plan) (is_long step) is) (or_right (change_fails plan) (is_long step) is)))

kept_ends : (old new : Memory) (step : Step) (failed : Bool) → (IsNoted old.plan step old.steps new.steps failed × (new.lacks ≡ old.lacks)) ⊎ KeepsNothing old new failed → Ends step old.steps new.steps failed
kept_ends old new step failed (inl kept) = noted_ends old.plan step old.steps new.steps failed (step_fails old.plan step) refl kept.0
kept_ends old new step failed (inr none) = inr (none.fails, inl none.steps)

long_ends : (plan : StopPlan) (step : Step) (old new : List Step) (failed : Bool) → is_long step ≡ true → IsNoted plan step old new failed → (failed ≡ true) × (new ≡ old)
long_ends plan step old new failed long kept = (
  kept.fails ∙ ap (λ (b : Bool). change_fails plan || b) long ∙ or_true (change_fails plan),
  kept.keeps ∙ ap (λ (b : Bool). old ++ (let all : List Step = if is_after_stop plan.until_stop || b then [] else if change_fails plan then as_failed step else step ∷ [] in all)) long ∙ none (is_after_stop plan.until_stop) (change_fails plan),
)
  where
    or_true : (b : Bool) → (b || true) ≡ true
    or_true true = refl
    or_true false = refl

    none : (a b : Bool) → old ++ (let all : List Step = if a || true then [] else if b then as_failed step else step ∷ [] in all) ≡ old
    none true b = append-nil old
    none false b = append-nil old

kept_long : (old new : Memory) (step : Step) (failed : Bool) → is_long step ≡ true → (IsNoted old.plan step old.steps new.steps failed × (new.lacks ≡ old.lacks)) ⊎ KeepsNothing old new failed → (failed ≡ true) × (new.steps ≡ old.steps)
kept_long old new step failed long (inl kept) = long_ends old.plan step old.steps new.steps failed long kept.0
kept_long old new step failed long (inr none) = (none.fails, none.steps)

module _ (first : List ℕ) (steps now : List Step) where
  now_same : now ≡ steps → state_of first now ≡ state_of first steps
  now_same same = ap (λ (s : List Step). state_of first s) same

  kept_goes : (step : Step) (failed : Bool) → Ends step steps now failed → Elapses (length steps) (length now) (Left first steps) (Left first now) (IsImage (state_of first now))
  kept_goes step failed (inl (ok, more)) = goes_on first steps now step more
  kept_goes step failed (inr (bad, inl same)) = goes_same first steps now same
  kept_goes (Wrote at octets good) failed (inr (bad, inr more)) = goes_on first steps now (Wrote at octets false) more
  kept_goes (CutTo to good) failed (inr (bad, inr more)) = goes_on first steps now (CutTo to false) more
  kept_goes Synced failed (inr (bad, inr more)) = goes_same first steps now (more ∙ append-nil steps)

  within_same : now ≡ steps → Within (IsImage (state_of first steps)) (IsImage (state_of first now))
  within_same same image left = subst (λ (s : State). IsImage s image) (now_same same) left

  failed_shown_write : (at : ℕ) (octets : List ℕ) → (now ≡ steps) ⊎ (now ≡ steps ++ Wrote at octets false ∷ []) → (state_of first now).shown ≡ (state_of first steps).shown
  failed_shown_write at octets (inl same) = ap (λ (s : State). s.shown) (now_same same)
  failed_shown_write at octets (inr more) = ap (λ (s : State). s.shown) (one_more first steps now (Wrote at octets false) more)

  failed_shown_cut : (to : ℕ) → (now ≡ steps) ⊎ (now ≡ steps ++ CutTo to false ∷ []) → (state_of first now).shown ≡ (state_of first steps).shown
  failed_shown_cut to (inl same) = ap (λ (s : State). s.shown) (now_same same)
  failed_shown_cut to (inr more) = ap (λ (s : State). s.shown) (one_more first steps now (CutTo to false) more)

torn_not : (at count : ℕ) (image : List ℕ) → Torn at count image image
torn_not at count image = record { before = refl; past = refl; no_shorter = omega arith; no_longer = omega arith }

not_shortened : (to : ℕ) (image : List ℕ) → Shortened to image image
not_shortened to image = record { kept = refl; no_shorter = omega arith; no_longer = omega arith }

module _ (first : List ℕ) (steps now : List Step) (at : ℕ) (octets : List ℕ) where
  shown_made : now ≡ steps ++ Wrote at octets true ∷ [] → (state_of first now).shown ≡ overwritten (state_of first steps).shown at octets
  shown_made more = ap (λ (s : State). s.shown) (one_more first steps now (Wrote at octets true) more)

  write_shows : (result : Result (Unit {0}) Failed) → Ends (Wrote at octets true) steps now (is_err result) → Writes (Some (state_of first steps).shown) (Some (state_of first now).shown) at octets result
  write_shows (Ok done) (inl (ok, more)) = ap Some (shown_made more)
  write_shows (Ok done) (inr (bad, left)) = cc bad
  write_shows (Err failed) (inl (ok, more)) = cc ok
  write_shows (Err failed) (inr (bad, left)) =
      let shown = (state_of first steps).shown in
      (shown, ap Some (failed_shown_write first steps now at octets left), refl, torn_not at (length octets) shown)

  write_grows : (result : Result (Unit {0}) Failed) → at ≤ length (state_of first steps).shown → Ends (Wrote at octets true) steps now (is_err result)
      → length (state_of first now).shown ≡ length_written (length (state_of first steps).shown) at (length octets) result
  write_grows (Ok done) low (inl (ok, more)) =
      let old = (state_of first steps).shown in
      ap length (shown_made more) ∙ length-over old low
    where
      length-over : (old : List ℕ) → at ≤ length old → length (overwritten old at octets) ≡ max (length old) (at + length octets)
      length-over old le = omega (arith, length-append (take at old ++ octets) (drop (at + length octets) old), length-append (take at old) octets, length-take-le at old le, length-drop (at + length octets) old)
  write_grows (Ok done) low (inr (bad, left)) = cc bad
  write_grows (Err failed) low (inl (ok, more)) = cc ok
  write_grows (Err failed) low (inr (bad, left)) = ap length (failed_shown_write first steps now at octets left)

  write_tears : (failed : Bool) → at ≤ length (state_of first steps).shown → Ends (Wrote at octets true) steps now failed → Follows (Torn at (length octets)) (IsImage (state_of first steps)) (IsImage (state_of first now))
  write_tears failed low (inl (ok, more)) = write_crash first steps now at octets true low more
  write_tears failed low (inr (bad, inl same)) = λ image left. (image, within_same first steps now same image left, torn_not at (length octets) image)
  write_tears failed low (inr (bad, inr more)) = write_crash first steps now at octets false low more

module _ (first : List ℕ) (steps now : List Step) (to : ℕ) where
  cut_made : now ≡ steps ++ CutTo to true ∷ [] → (state_of first now).shown ≡ take to (state_of first steps).shown
  cut_made more = ap (λ (s : State). s.shown) (one_more first steps now (CutTo to true) more)

  cut_shows : (result : Result (Unit {0}) Failed) → Ends (CutTo to true) steps now (is_err result) → Cuts (Some (state_of first steps).shown) (Some (state_of first now).shown) to result
  cut_shows (Ok done) (inl (ok, more)) = ap Some (cut_made more)
  cut_shows (Ok done) (inr (bad, left)) = cc bad
  cut_shows (Err failed) (inl (ok, more)) = cc ok
  cut_shows (Err failed) (inr (bad, left)) =
      let shown = (state_of first steps).shown in
      (shown, ap Some (failed_shown_cut first steps now to left), refl, not_shortened to shown)

  cut_falls : (result : Result (Unit {0}) Failed) → to ≤ length (state_of first steps).shown → Ends (CutTo to true) steps now (is_err result)
      → length (state_of first now).shown ≡ length_cut (length (state_of first steps).shown) to result
  cut_falls (Ok done) low (inl (ok, more)) = ap length (cut_made more) ∙ length-take-le to (state_of first steps).shown low
  cut_falls (Ok done) low (inr (bad, left)) = cc bad
  cut_falls (Err failed) low (inl (ok, more)) = cc ok
  cut_falls (Err failed) low (inr (bad, left)) = ap length (failed_shown_cut first steps now to left)

  cut_shortens : (failed : Bool) → Ends (CutTo to true) steps now failed → Follows (Shortened to) (IsImage (state_of first steps)) (IsImage (state_of first now))
  cut_shortens failed (inl (ok, more)) = cut_crash first steps now to true more
  cut_shortens failed (inr (bad, inl same)) = λ image left. (image, within_same first steps now same image left, not_shortened to image)
  cut_shortens failed (inr (bad, inr more)) = cut_crash first steps now to false more

noted_goes : (first : List ℕ) (plan : StopPlan) (step : Step) (steps now : List Step) (failed : Bool) (old new : ℕ)
    → (IsNoted plan step steps now failed × (new ≡ old)) ⊎ ((failed ≡ true) × (now ≡ steps) × HasRisen old new)
    → MakesSteps (step ∷ []) (Some plan) (Some (after_change plan)) (Some (state_of first steps)) (Some (state_of first now)) failed old new
noted_goes first plan step steps now failed old new (inl (kept, memory)) =
    let end = ends plan step (state_of first steps) (step_fails plan step) refl in
    inl (record {
      next = ap Some (sym end.0);
      leaves = ap Some (ap (λ (row : List Step). state_of first row) kept.keeps ∙ fold-append after (settled first) steps (noted plan step) ∙ sym end.1);
      fails = kept.fails ∙ sym end.2;
      memory = memory;
    })
noted_goes first plan step steps now failed old new (inr (bad, same, risen)) = subst (λ (b : Bool). MakesSteps (step ∷ []) (Some plan) (Some (after_change plan)) (Some (state_of first steps)) (Some (state_of first now)) b old new) (sym bad) (goes_lacking first plan step steps now old new same risen)

-- From here on a disk before the call and after it.
module _ (old new : Memory) (step : Step) where
  pub keeps_time : (failed : Bool) → Keeps old new step failed → Elapses (length old.steps) (length new.steps) (LeftSince old) (LeftSince new) (IsImage (state new))
  keeps_time failed kept =
      subst (λ (f : List ℕ). Elapses (length old.steps) (length new.steps) (Left old.first old.steps) (Left f new.steps) (IsImage (state_of f new.steps))) (sym kept.0)
      (kept_goes old.first old.steps new.steps step failed (kept_ends old new step failed kept.1))

  pub keeps_plan : (failed : Bool) → new.plan ≡ after_change old.plan → Keeps old new step failed → ChangesWherePlanned (Some old.plan) (Some new.plan) failed
  keeps_plan failed counted kept = (λ fails. planned_fails fails kept.1, ap Some counted)
    where
      planned_fails : change_fails old.plan ≡ true → (IsNoted old.plan step old.steps new.steps failed × (new.lacks ≡ old.lacks)) ⊎ KeepsNothing old new failed → failed ≡ true
      planned_fails fails (inl noted) = noted.0.fails ∙ ap (λ (b : Bool). b || is_long step) fails
      planned_fails fails (inr none) = none.fails

  pub keeps_state : (failed : Bool) → new.plan ≡ after_change old.plan → Keeps old new step failed
      → MakesSteps (step ∷ []) (Some old.plan) (Some new.plan) (Some (state old)) (Some (state new)) failed old.lacks new.lacks
  keeps_state failed counted kept =
      subst (λ (p : StopPlan). MakesSteps (step ∷ []) (Some old.plan) (Some p) (Some (state old)) (Some (state new)) failed old.lacks new.lacks) (sym counted)
      (subst (λ (f : List ℕ). MakesSteps (step ∷ []) (Some old.plan) (Some (after_change old.plan)) (Some (state old)) (Some (state_of f new.steps)) failed old.lacks new.lacks) (sym kept.0) (goes kept.1))
    where
      goes : (IsNoted old.plan step old.steps new.steps failed × (new.lacks ≡ old.lacks)) ⊎ KeepsNothing old new failed
          → MakesSteps (step ∷ []) (Some old.plan) (Some (after_change old.plan)) (Some (state_of old.first old.steps)) (Some (state_of old.first new.steps)) failed old.lacks new.lacks
      goes (inl noted) = noted_goes old.first old.plan step old.steps new.steps failed old.lacks new.lacks (inl noted)
      goes (inr none) = noted_goes old.first old.plan step old.steps new.steps failed old.lacks new.lacks (inr (none.fails, none.steps, none.memory))

module _ (old new : Memory) (at : ℕ) (octets : List ℕ) where
  pub write_shown : (result : Result (Unit {0}) Failed) → Keeps old new (Wrote at octets true) (is_err result) → Writes (Some (state old).shown) (Some (state new).shown) at octets result
  write_shown result kept =
      subst (λ (f : List ℕ). Writes (Some (state old).shown) (Some (state_of f new.steps).shown) at octets result) (sym kept.0)
      (write_shows old.first old.steps new.steps at octets result (kept_ends old new (Wrote at octets true) (is_err result) kept.1))

  pub write_size : (result : Result (Unit {0}) Failed) → at ≤ length (state old).shown → Keeps old new (Wrote at octets true) (is_err result)
      → length (state new).shown ≡ length_written (length (state old).shown) at (length octets) result
  write_size result low kept =
      subst (λ (f : List ℕ). length (state_of f new.steps).shown ≡ length_written (length (state old).shown) at (length octets) result) (sym kept.0)
      (write_grows old.first old.steps new.steps at octets result low (kept_ends old new (Wrote at octets true) (is_err result) kept.1))

  pub write_follows : (failed : Bool) → at ≤ length (state old).shown → Keeps old new (Wrote at octets true) failed → Follows (Torn at (length octets)) (IsImage (state old)) (IsImage (state new))
  write_follows failed low kept =
      subst (λ (f : List ℕ). Follows (Torn at (length octets)) (IsImage (state old)) (IsImage (state_of f new.steps))) (sym kept.0)
      (write_tears old.first old.steps new.steps at octets failed low (kept_ends old new (Wrote at octets true) failed kept.1))

  pub write_long : (failed : Bool) → Keeps old new (Wrote at octets true) failed
      → greatest_length < at + length octets → (failed ≡ true) × (Some (state new).shown ≡ Some (state old).shown) × Within (IsImage (state old)) (IsImage (state new))
  write_long failed kept over =
      let long : nat_lt greatest_length (at + length octets) ≡ true = grind (arith, nat_tests) in
      let end = kept_long old new (Wrote at octets true) failed long kept.1 in
      let same : state new ≡ state old = ap (λ (f : List ℕ). state_of f new.steps) kept.0 ∙ ap (λ (s : List Step). state_of old.first s) end.1 in
      (end.0, ap (λ (s : State). Some s.shown) same, λ image left. subst (λ (s : State). IsImage s image) same left)

module _ (old new : Memory) (to : ℕ) where
  pub cut_shown : (result : Result (Unit {0}) Failed) → Keeps old new (CutTo to true) (is_err result) → Cuts (Some (state old).shown) (Some (state new).shown) to result
  cut_shown result kept =
      subst (λ (f : List ℕ). Cuts (Some (state old).shown) (Some (state_of f new.steps).shown) to result) (sym kept.0)
      (cut_shows old.first old.steps new.steps to result (kept_ends old new (CutTo to true) (is_err result) kept.1))

  pub cut_size : (result : Result (Unit {0}) Failed) → to ≤ length (state old).shown → Keeps old new (CutTo to true) (is_err result)
      → length (state new).shown ≡ length_cut (length (state old).shown) to result
  cut_size result low kept =
      subst (λ (f : List ℕ). length (state_of f new.steps).shown ≡ length_cut (length (state old).shown) to result) (sym kept.0)
      (cut_falls old.first old.steps new.steps to result low (kept_ends old new (CutTo to true) (is_err result) kept.1))

  pub cut_follows : (failed : Bool) → Keeps old new (CutTo to true) failed → Follows (Shortened to) (IsImage (state old)) (IsImage (state new))
  cut_follows failed kept =
      subst (λ (f : List ℕ). Follows (Shortened to) (IsImage (state old)) (IsImage (state_of f new.steps))) (sym kept.0)
      (cut_shortens old.first old.steps new.steps to failed (kept_ends old new (CutTo to true) failed kept.1))
