-- Writing the rows of a group one after the other, as a loop does.
use Rattle.std.proofs.Common.{◌≡◌, ℕ, suc, ◌≤◌, ◌<◌, Bool, true, false, cond, nat_eq, List, [], ◌∷◌, ◌++◌, length, take, drop, get_or, refl, ap, sym, ◌∙◌, arith, append_assoc}
use Rattle.std.proofs.Math.Seq.{drop-cons}
use Rattle.std.proofs.lemmas.List.{length-append, take-append-drop}
use Rattle.std.specs.List.{filter, flat_map}
use Rattle.vf_session_spdu.specs.declared.spdu.Spdu.{Spdu}
use Rattle.vf_session_spdu.specs.declared.table.Row.{Row}
use Rattle.vf_session_spdu.specs.Spelling.{spelled_row}

-- what the rows of a group are written as
abbrev pub written : Spdu → ℕ → List Row → List ℕ
written spdu group rows = flat_map (spelled_row spdu) (filter (λ row. nat_eq row.group group) rows)

chosen : (spdu : Spdu) (b : Bool) (row : Row) (xs ys : List Row) (f g : List ℕ) → flat_map (spelled_row spdu) xs ≡ f ++ g → flat_map (spelled_row spdu) ys ≡ f →
    flat_map (spelled_row spdu) (cond b (row ∷ xs) xs) ≡ flat_map (spelled_row spdu) (cond b (row ∷ ys) ys) ++ g
chosen spdu true row xs ys f g h k = ap (λ (o : List ℕ). spelled_row spdu row ++ o) h ∙ sym (append_assoc (spelled_row spdu row) f g) ∙ ap (λ (o : List ℕ). spelled_row spdu row ++ o ++ g) (sym k)
chosen spdu false row xs ys f g h k = h ∙ ap (λ (o : List ℕ). o ++ g) (sym k)

pub written-append : (spdu : Spdu) (group : ℕ) (xs ys : List Row) → written spdu group (xs ++ ys) ≡ written spdu group xs ++ written spdu group ys
written-append spdu group [] ys = refl
written-append spdu group (x ∷ xs) ys =
    chosen spdu (nat_eq x.group group) x (filter (λ row. nat_eq row.group group) (xs ++ ys)) (filter (λ row. nat_eq row.group group) xs) (written spdu group xs) (written spdu group ys) (written-append spdu group xs ys) refl

one-written : (spdu : Spdu) (group : ℕ) (row : Row) → nat_eq row.group group ≡ true → written spdu group (row ∷ []) ≡ spelled_row spdu row ++ []
one-written spdu group row h = rw h refl

append-nil : (o : List ℕ) → o ++ [] ≡ o
append-nil [] = refl
append-nil (x ∷ o) = ap (λ (o : List ℕ). x ∷ o) (append-nil o)

-- one row is no longer than all
pub row-short : (spdu : Spdu) (group : ℕ) (rows : List Row) (i : ℕ) (d : Row) → i < length rows → nat_eq (get_or rows i d).group group ≡ true
    → length (spelled_row spdu (get_or rows i d)) ≤ length (written spdu group rows)
row-short spdu group rows i d lt test =
    let row = get_or rows i d in
    let split : rows ≡ take i rows ++ (row ∷ drop (suc i) rows) = sym (take-append-drop i rows) ∙ ap (λ (r : List Row). take i rows ++ r) (drop-cons rows i d lt) in
    let whole : written spdu group rows ≡ written spdu group (take i rows) ++ (written spdu group (row ∷ []) ++ written spdu group (drop (suc i) rows)) =
    ap (written spdu group) split ∙ written-append spdu group (take i rows) (row ∷ drop (suc i) rows) ∙ ap (λ (o : List ℕ). written spdu group (take i rows) ++ o) (written-append spdu group (row ∷ []) (drop (suc i) rows)) in
    let a = ap length whole in
    let b = length-append (written spdu group (take i rows)) (written spdu group (row ∷ []) ++ written spdu group (drop (suc i) rows)) in
    let c = length-append (written spdu group (row ∷ [])) (written spdu group (drop (suc i) rows)) in
    let d = ap length (one-written spdu group row test ∙ append-nil (spelled_row spdu row)) in
    omega arith
