-- An entry whose key is after distinct keys goes after their entries.
use Rattle.std.proofs.Common.{◌≡◌, ◌∙◌, ℕ, false, cond, List, [], ◌∷◌, ◌++◌, refl, sym, ap, subst, append_assoc, nat_eq}
use Rattle.std.specs.Cmp.Lexicographic.{nat_list_eq_equiv, pointwise}
use Rattle.std.specs.List.{AllByRecursion, IsDistinct}
use Rattle.std.specs.Map.{keys_of}
use Rattle.std.proofs.lemmas.Map.Keys.{IsDistinct-head, IsDistinct-tail}
use Rattle.indexmap.specs.IndexMap.{insert_entry}
use Rattle.vf_locks.specs.declared.held.Held.{Held}

at_key : (P : List ℕ → Type 0) (es : List (List ℕ × List Held)) (key : List ℕ) (helds : List Held) (rest : List (List ℕ × List Held))
    → AllByRecursion P (keys_of (es ++ (key, helds) ∷ rest)) → P key
at_key P [] key helds rest all = all.0
at_key P (e ∷ es) key helds rest all = at_key P es key helds rest all.1

pub insert_entry-distinct : (es : List (List ℕ × List Held)) (key : List ℕ) (helds : List Held) (rest : List (List ℕ × List Held))
    → IsDistinct (pointwise nat_eq) (keys_of (es ++ (key, helds) ∷ rest))
    → insert_entry (pointwise nat_eq) es key helds ≡ es ++ (key, helds) ∷ []
insert_entry-distinct [] key helds rest distinct = refl
insert_entry-distinct (e ∷ es) key helds rest distinct =
    let apart : pointwise nat_eq e.0 key ≡ false
    = at_key (λ y. pointwise nat_eq e.0 y ≡ false) es key helds rest (IsDistinct-head (pointwise nat_eq) e.0 (keys_of (es ++ (key, helds) ∷ rest)) distinct) in
    let other : pointwise nat_eq key e.0 ≡ false = nat_list_eq_equiv.symm key e.0 ∙ apart in
    let later = insert_entry-distinct es key helds rest (IsDistinct-tail (pointwise nat_eq) e.0 (keys_of (es ++ (key, helds) ∷ rest)) distinct) in
    λ i. cond (other i) ((e.0, helds) ∷ es) (e ∷ later i)

-- a turn of a loop that inserts the entries one after another
pub entries_more : (es rest next all new : List (List ℕ × List Held)) (key name : List ℕ) (helds holders : List Held)
    → es ++ rest ≡ all → rest ≡ (name, holders) ∷ next → key ≡ name → helds ≡ holders → IsDistinct (pointwise nat_eq) (keys_of all)
    → new ≡ insert_entry (pointwise nat_eq) es key helds → new ++ next ≡ all
entries_more es rest next all new key name helds holders so_far turn is has distinct inserted =
    let here : es ++ (name, holders) ∷ next ≡ all = ap (λ rest. es ++ rest) (sym turn) ∙ so_far in
    let last = insert_entry-distinct es name holders next (subst (λ all. IsDistinct (pointwise nat_eq) (keys_of all)) (sym here) distinct) in
    (λ i. inserted i ++ next) ∙ (λ i. insert_entry (pointwise nat_eq) es (is i) (has i) ++ next) ∙ ap (λ es. es ++ next) last
    ∙ append_assoc es ((name, holders) ∷ []) next ∙ here
