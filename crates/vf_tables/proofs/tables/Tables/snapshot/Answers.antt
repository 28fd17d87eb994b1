use Rattle.std.proofs.Common.{◌≡◌, List, [], ◌++◌, append_assoc, ap, ◌∙◌}
use Rattle.vf_tables.specs.declared.change.Change.{Change}
use Rattle.vf_tables.proofs.tables.Tables.snapshot.Goals as goal

-- six lists put one after another
regrouped : (a b c d e f : List Change) → ((((([] ++ a) ++ b) ++ c) ++ d) ++ e) ++ f ≡ a ++ (b ++ (c ++ (d ++ (e ++ f))))
regrouped a b c d e f = simp append_assoc

put_in_turn : (a b c d e f s t u v w x y : List Change) → s ≡ [] → t ≡ s ++ a → u ≡ t ++ b → v ≡ u ++ c → w ≡ v ++ d → x ≡ w ++ e → y ≡ x ++ f → y ≡ a ++ (b ++ (c ++ (d ++ (e ++ f))))
put_in_turn a b c d e f s t u v w x y none first second third fourth fifth sixth =
    sixth ∙ ap (λ (l : List Change). l ++ f) (fifth ∙ ap (λ (l : List Change). l ++ e) (fourth ∙ ap (λ (l : List Change). l ++ d)
    (third ∙ ap (λ (l : List Change). l ++ c) (second ∙ ap (λ (l : List Change). l ++ b) (first ∙ ap (λ (l : List Change). l ++ a) none)))))
    ∙ regrouped a b c d e f

pub returns : goal.returns
returns c =
    let first = rw c.as_slice.ensures at c.in_ok-put_users.ensures in
    let second = rw c.as_slice-2.ensures at c.in_ok-put_files.ensures in
    let third = rw c.as_slice-3.ensures at c.in_ok-put_regimes.ensures in
    let fourth = rw c.as_slice-4.ensures at c.in_ok-stage_dockets.ensures in
    let fifth = rw c.as_slice-5.ensures at c.in_ok-put_plans.ensures in
    let sixth = rw c.as_slice-6.ensures at c.in_ok-stage_tasks.ensures in
    put_in_turn _ _ _ _ _ _ _ _ _ _ _ _ _ c.new-changes.ensures first second third fourth fifth sixth
