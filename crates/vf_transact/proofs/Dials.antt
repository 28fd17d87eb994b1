-- What is said and heard on the newest connection of a dial.
use Rattle.std.specs.Prelude.{OnErr, OnOk, is_err, is_ok, if◌then◌else◌}
use Rattle.std.proofs.Common.{◌≡◌, inr, ℕ, true, false, List, [], ◌∷◌, ◌++◌, take, Option, None, Some, Result, Ok, Err, refl, sym, ap, subst, ◌∙◌}
use Rattle.std.proofs.lemmas.List.{append-nil}
use Rattle.vf_base.specs.Dial.{Call, Connections, Connects, Hears, OnNewest, Reads, after_connect, next_of}
use Rattle.vf_base.specs.Faults.{HasRisen, counted}
use Rattle.vf_base.specs.declared.errors.Failed.{Failed}
use Rattle.vf_transact.specs.Connecting.{HearsOn, IsOn}
use Rattle.vf_transact.specs.Transaction.{Counts}

-- ---- connecting

abbrev record_of : (faults lost : ℕ) → Counts
record_of faults lost = record { faults = faults; lost = lost }

on_first : (before : Connections) (old new : Option Connections) → old ≡ Some before → Connects old new (Ok tt) → IsOn before.calls [] [] new
on_first before old new told connects =
    let is : new ≡ Some (after_connect before) = subst (λ (o : Option Connections). Connects o new (Ok tt)) told connects in
    record { now = after_connect before; left = next_of before.coming; told_is = is; calls_are = refl }

not_on : (before : Connections) (old new : Option Connections) (failed : Failed) → old ≡ Some before → Connects old new (Err failed) → new ≡ Some before
not_on before old new failed told connects = subst (λ (o : Option Connections). Connects o new (Err failed)) told connects

-- by the answer

pub had : (before : Connections) (old new : Option Connections) (r : Result (Unit {0}) Failed) → is_err r ≡ false → old ≡ Some before → Connects old new r → IsOn before.calls [] [] new
had before old new (Ok done) good told connects = on_first before old new told connects
had before old new (Err failed) good told connects = absurd (let no : true ≡ false = good in cc)

pub not_had : (before : Connections) (old new : Option Connections) (r : Result (Unit {0}) Failed) → is_err r ≡ true → old ≡ Some before → Connects old new r → new ≡ Some before
not_had before old new (Ok done) failed told connects = absurd (let no : false ≡ true = failed in cc)
not_had before old new (Err failed) is told connects = not_on before old new failed told connects

-- ---- the counts of a dial after it

pub at_err : (r : Result (Unit {0}) Failed) (counts mid now : ℕ) → is_err r ≡ true → mid ≡ counts → OnErr r (HasRisen mid now) → HasRisen counts now
at_err (Ok done) counts mid now failed same risen = absurd (let no : false ≡ true = failed in cc)
at_err (Err failed) counts mid now is same risen = subst (λ (n : ℕ). HasRisen n now) same risen

pub lost_at_err : (r : Result (Unit {0}) Failed) (counts mid now : ℕ) → is_err r ≡ true → mid ≡ counts → now ≡ (if is_ok r then mid else counted mid) → now ≡ counted counts
lost_at_err (Ok done) counts mid now failed same lost = absurd (let no : false ≡ true = failed in cc)
lost_at_err (Err failed) counts mid now is same lost = lost ∙ ap (λ (n : ℕ). counted n) same

pub same_at_ok : (r : Result (Unit {0}) Failed) (old now : ℕ) → is_err r ≡ false → OnOk r (now ≡ old) → now ≡ old
same_at_ok (Ok done) old now good same = same
same_at_ok (Err failed) old now good same = absurd (let no : true ≡ false = good in cc)

pub stood_at_ok : (r : Result (Unit {0}) Failed) (old now : ℕ) → is_err r ≡ false → now ≡ (if is_ok r then old else counted old) → now ≡ old
stood_at_ok (Ok done) old now good lost = lost
stood_at_ok (Err failed) old now good lost = absurd (let no : true ≡ false = good in cc)

pub same_counts : (faults faults' lost lost' : ℕ) → faults ≡ faults' → lost ≡ lost' → record_of faults lost ≡ record_of faults' lost'
same_counts faults faults' lost lost' one other = ap (λ (n : ℕ). record_of n lost) one ∙ ap (λ (n : ℕ). record_of faults' n) other

-- ---- hearing

module _ (before : List Call) (said heard : List ℕ) where
  heard_newest : (into : List ℕ) (count : ℕ) (now : Connections) (left : List ℕ) (new : Option Connections) → now.calls ≡ record { said = said; heard = heard; left = left } ∷ before
      → OnNewest now.calls (λ call calls. (more : Call) × Hears call more into count × (new ≡ Some (record now { calls = more ∷ calls })))
      → (left' : List ℕ) × ((left ≡ take count into ++ left') × (count ≡ 0 → left ≡ []) × (new ≡ Some (record now { calls = record { said = said; heard = heard ++ take count into; left = left' } ∷ before })))
  heard_newest into count now left new calls newest =
      let is = subst (λ (l : List Call). OnNewest l (λ call calls. (more : Call) × Hears call more into count × (new ≡ Some (record now { calls = more ∷ calls })))) calls newest in
      (is.1.0, (is.1.1, is.1.2, is.2 ∙ ap (λ (c : Call). Some (record now { calls = c ∷ before })) is.1.3))

  -- the other end ended the stream
  none_left : (into left left' : List ℕ) (count : ℕ) → count ≡ 0 → left ≡ take count into ++ left' → left ≡ [] → left' ≡ []
  none_left into left left' count none is ended =
      let here : take count into ≡ [] = ap (λ (n : ℕ). take n into) none in
      sym (is ∙ ap (λ (l : List ℕ). l ++ left') here) ∙ ended

  pub heard_end : (into : List ℕ) (count : ℕ) (old new : Option Connections) (faults faults' : ℕ) → IsOn before said heard old → Reads old new into (Ok count) → count ≡ 0 → HearsOn before said heard new faults faults' None
  heard_end into count old new faults faults' on reads none =
      let more = heard_newest into count on.now on.left new on.calls_are (subst (λ (o : Option Connections). Reads o new into (Ok count)) on.told_is reads) in
      let nothing : heard ++ take count into ≡ heard = ap (λ (n : ℕ). heard ++ take n into) none ∙ append-nil heard in
      let call : Call = record { said = said; heard = heard ++ take count into; left = more.0 } in (
        record { now = record on.now { calls = call ∷ before }; left = more.0; told_is = more.1.2; calls_are = ap (λ (l : List ℕ). record { said = said; heard = l; left = more.0 } ∷ before) nothing },
        inr (none_left into on.left more.0 count none more.1.0 (more.1.1 none)),
      )
