-- The changes that keep the pieces of a get, one by one.
use Rattle.std.proofs.Common.{◌≡◌, ℕ, zero, suc, ◌+◌, List, [], ◌∷◌, ◌++◌, drop, sym, ap, ◌∙◌, Some, arith, append_assoc}
use Rattle.std.specs.Prelude.{slice_get}
use Rattle.vf_base.specs.declared.element.Element.{Element}
use Rattle.vf_initiator.specs.Keeping.{stages_from}
use Rattle.vf_tables.specs.Snapshot.{task_stages_after}
use Rattle.vf_tables.specs.declared.change.Change.{Change}
use Rattle.vf_tables.specs.declared.change.Change.TheVariants.{StageTask}
use Rattle.vf_tables.specs.declared.task.Way.TheVariants.{Get}

-- what stands from a place on begins with what stands there
drop_there : (n : ℕ) (pieces : List (List Element)) (piece : List Element) → slice_get pieces n ≡ Some piece → drop n pieces ≡ piece ∷ drop (suc n) pieces
drop_there n [] piece there = absurd (cc)
drop_there zero (first ∷ pieces) piece there = cc
drop_there (suc n) (first ∷ pieces) piece there = drop_there n pieces piece there

stages_more : (activity n : ℕ) (pieces : List (List Element)) (piece : List Element) → slice_get pieces n ≡ Some piece
    → stages_from activity n pieces ≡ StageTask activity (n + 1) piece ∷ stages_from activity (n + 1) pieces
stages_more activity n pieces piece there =
    let more : suc n ≡ n + 1 = omega arith in
    ap (task_stages_after Get activity n) (drop_there n pieces piece there)
    ∙ ap (λ (k : ℕ). StageTask activity (n + 1) piece ∷ task_stages_after Get activity (n + 1) (drop k pieces)) more

-- One of them was appended, and the others are left.
pub staged_more : (activity n : ℕ) (pieces : List (List Element)) (piece : List Element) (changes now whole : List Change) → slice_get pieces n ≡ Some piece
    → now ≡ changes ++ StageTask activity (n + 1) piece ∷ [] → changes ++ stages_from activity n pieces ≡ whole
    → now ++ stages_from activity (n + 1) pieces ≡ whole
staged_more activity n pieces piece changes now whole there is was =
    let later : List Change = stages_from activity (n + 1) pieces in
    ap (λ (l : List Change). l ++ later) is
    ∙ (append_assoc changes (StageTask activity (n + 1) piece ∷ []) later
    ∙ (ap (λ (l : List Change). changes ++ l) (sym (stages_more activity n pieces piece there)) ∙ was))
