-- Octets that are written or wait, step by step.
use Rattle.std.specs.Prelude.{OnErr, OnOk}
use Rattle.std.proofs.Common.{◌≡◌, ◌+◌, ◌<◌, List, [], ◌∷◌, ◌++◌, ℕ, Option, None, Some, Result, Ok, Err, length, drop, get_or, refl, sym, ap, subst, ◌∙◌, append_assoc}
use Rattle.std.proofs.lemmas.List.{append-nil, drop_more}
use Rattle.vf_transact.specs.Writing.{Passes, PassesAll, PassesFront}

-- Of all octets some were passed, and these are left.
pub record Written (all rest block : List ℕ) (old new : Option (List ℕ)) : Type 0 where
  pub done : List ℕ
  pub is : all ≡ done ++ rest
  pub passes : Passes done block old new

passes_none : (old : Option (List ℕ)) → Passes [] [] old old
passes_none None = refl
passes_none (Some octets) = ([], refl, ap Some (sym (append-nil octets)))

pub begun : (all : List ℕ) (old : Option (List ℕ)) → Written all all [] old old
begun all old = record { done = []; is = refl; passes = passes_none old }

-- what waited is passed with octets more
passes_more : (done block s block' : List ℕ) (old mid new : Option (List ℕ)) → Passes done block old mid → Passes (block ++ s) block' mid new → Passes (done ++ s) block' old new
passes_more done block s block' None mid new first second = subst (λ (o : Option (List ℕ)). Passes (block ++ s) block' o new) first second
passes_more done block s block' (Some old) mid new first second =
    let again = subst (λ (o : Option (List ℕ)). Passes (block ++ s) block' o new) first.2 second in (
      first.0 ++ again.0,
      ap (λ (l : List ℕ). l ++ s) first.1 ∙ append_assoc first.0 block s ∙ ap (λ (l : List ℕ). first.0 ++ l) again.1 ∙ sym (append_assoc first.0 again.0 block'),
      again.2 ∙ ap Some (append_assoc old first.0 again.0),
    )

pub more : {all block : List ℕ} {old mid : Option (List ℕ)} (s rest block' : List ℕ) (new : Option (List ℕ)) → Written all (s ++ rest) block old mid → Passes (block ++ s) block' mid new → Written all rest block' old new
more {all = all} {block = block} {old = old} {mid = mid} s rest block' new written passes = record {
  done = written.done ++ s;
  is = written.is ∙ sym (append_assoc written.done s rest);
  passes = passes_more written.done block s block' old mid new written.passes passes;
}

front_of : (done block : List ℕ) (old new : Option (List ℕ)) (all rest : List ℕ) → all ≡ done ++ rest → Passes done block old new → PassesFront all old new
front_of done block None new all rest is passes = passes
front_of done block (Some old) new all rest is passes =
    (passes.0, block ++ rest, is ∙ ap (λ (l : List ℕ). l ++ rest) passes.1 ∙ append_assoc passes.0 block rest, passes.2)

-- a front of all was written
pub front : {all rest block : List ℕ} {old new : Option (List ℕ)} → Written all rest block old new → PassesFront all old new
front {all = all} {rest = rest} {block = block} {old = old} {new = new} written = front_of written.done block old new all rest written.is written.passes

front_then : (done block s : List ℕ) (old mid new : Option (List ℕ)) (all rest : List ℕ) → all ≡ done ++ (s ++ rest) → Passes done block old mid → PassesFront (block ++ s) mid new → PassesFront all old new
front_then done block s None mid new all rest is first second = subst (λ (o : Option (List ℕ)). PassesFront (block ++ s) o new) first second
front_then done block s (Some old) mid new all rest is first second =
    let again = subst (λ (o : Option (List ℕ)). PassesFront (block ++ s) o new) first.2 second in (
      first.0 ++ again.0,
      again.1 ++ rest,
      is ∙ sym (append_assoc done s rest) ∙ ap (λ (l : List ℕ). (l ++ s) ++ rest) first.1 ∙ ap (λ (l : List ℕ). l ++ rest) (append_assoc first.0 block s ∙ ap (λ (l : List ℕ). first.0 ++ l) again.2 ∙ sym (append_assoc first.0 again.0 again.1)) ∙ append_assoc (first.0 ++ again.0) again.1 rest,
      again.3 ∙ ap Some (append_assoc old first.0 again.0),
    )

pub front_more : {all block : List ℕ} {old mid : Option (List ℕ)} (s rest : List ℕ) (new : Option (List ℕ)) → Written all (s ++ rest) block old mid → PassesFront (block ++ s) mid new → PassesFront all old new
front_more {all = all} {block = block} {old = old} {mid = mid} s rest new written passes =
    front_then written.done block s old mid new all rest written.is written.passes passes

all_then : (done block s : List ℕ) (old mid new : Option (List ℕ)) → Passes done block old mid → PassesAll (block ++ s) mid new → PassesAll (done ++ s) old new
all_then done block s None mid new first second = subst (λ (o : Option (List ℕ)). PassesAll (block ++ s) o new) first second
all_then done block s (Some old) mid new first second =
    let again = subst (λ (o : Option (List ℕ)). PassesAll (block ++ s) o new) first.2 second in
    again ∙ ap Some (append_assoc old first.0 (block ++ s) ∙ ap (λ (l : List ℕ). old ++ l) (sym (append_assoc first.0 block s) ∙ ap (λ (l : List ℕ). l ++ s) (sym first.1)))

-- all was written
pub ended : {all block : List ℕ} {old mid : Option (List ℕ)} (s : List ℕ) (new : Option (List ℕ)) → Written all s block old mid → PassesAll (block ++ s) mid new → PassesAll all old new
ended {block = block} {old = old} {mid = mid} s new written passes =
    subst (λ (l : List ℕ). PassesAll l old new) (sym written.is) (all_then written.done block s old mid new written.passes passes)

pub ended_front : {all block : List ℕ} {old mid : Option (List ℕ)} (s : List ℕ) (new : Option (List ℕ)) → Written all s block old mid → PassesFront (block ++ s) mid new → PassesFront all old new
ended_front {all = all} {block = block} {old = old} {mid = mid} s new written passes =
    front_then written.done block s old mid new all [] (written.is ∙ ap (λ (l : List ℕ). written.done ++ l) (sym (append-nil s))) written.passes passes

-- ---- over a loop: what is left begins with what an element gives

-- the element at a place, before those after it
pub at_place : {A : Type 0} (elements : List A) (place : ℕ) (element : A) → place < length elements → element ≡ get_or elements place element → drop place elements ≡ element ∷ drop (place + 1) elements
at_place elements place element there is = drop_more elements place element there ∙ ap (λ x. x ∷ drop (place + 1) elements) (sym is)

pub step : {all whole block mid-block : List ℕ} {old mid : Option (List ℕ)} (s rest block' : List ℕ) (new : Option (List ℕ))
    → Written all whole block old mid → whole ≡ s ++ rest → mid-block ≡ block ++ s → Passes mid-block block' mid new → Written all rest block' old new
step {all = all} {block = block} {old = old} {mid = mid} s rest block' new written left appended passes =
    more s rest block' new (subst (λ (l : List ℕ). Written all l block old mid) left written) (subst (λ (l : List ℕ). Passes l block' mid new) appended passes)

pub step_front : {all whole block mid-block : List ℕ} {old mid : Option (List ℕ)} (s rest : List ℕ) (new : Option (List ℕ))
    → Written all whole block old mid → whole ≡ s ++ rest → mid-block ≡ block ++ s → PassesFront mid-block mid new → PassesFront all old new
step_front {all = all} {block = block} {old = old} {mid = mid} s rest new written left appended passes =
    front_more s rest new (subst (λ (l : List ℕ). Written all l block old mid) left written) (subst (λ (l : List ℕ). PassesFront l mid new) appended passes)

pub on_err : {T E : Type 0} {P : Type 0} (r : Result T E) → P → OnErr r P
on_err (Ok value) p = tt
on_err (Err error) p = p

pub on_ok : {T E : Type 0} {P : Type 0} (r : Result T E) → P → OnOk r P
on_ok (Ok value) p = p
on_ok (Err error) p = tt

-- ---- where nothing is left but what ends the last line

pub last_all : {all whole block last-block : List ℕ} {old mid : Option (List ℕ)} (s : List ℕ) (new : Option (List ℕ))
    → Written all whole block old mid → whole ≡ s → last-block ≡ block ++ s → PassesAll last-block mid new → PassesAll all old new
last_all {all = all} {block = block} {old = old} {mid = mid} s new written left appended passes =
    ended s new (subst (λ (l : List ℕ). Written all l block old mid) left written) (subst (λ (l : List ℕ). PassesAll l mid new) appended passes)

pub last_front : {all whole block last-block : List ℕ} {old mid : Option (List ℕ)} (s : List ℕ) (new : Option (List ℕ))
    → Written all whole block old mid → whole ≡ s → last-block ≡ block ++ s → PassesFront last-block mid new → PassesFront all old new
last_front {all = all} {block = block} {old = old} {mid = mid} s new written left appended passes =
    ended_front s new (subst (λ (l : List ℕ). Written all l block old mid) left written) (subst (λ (l : List ℕ). PassesFront l mid new) appended passes)
