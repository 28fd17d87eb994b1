-- A record that stands after four octets at a place, in its built form.
use Rattle.std.proofs.Common.{◌≡◌, ℕ, ◌+◌, ◌-◌, ◌≤◌, List, [], ◌∷◌, ◌++◌, length, take, drop, sym, ◌∙◌, ap, arith, append_assoc, length-drop}
use Rattle.std.proofs.lemmas.List.{drop-append-le, drop-drop, take-append-le}
use Rattle.vf_journal.specs.Layout.{length_octets}
use Rattle.vf_journal.specs.Records.{entry_of}

pub ended : (old : List ℕ) (at count : ℕ) → at + 4 ≤ length old → count ≡ length old - at - 4
    → take at (old ++ 0 ∷ []) ++ (length_octets count ++ drop 4 (drop at (old ++ 0 ∷ []))) ≡ take at old ++ entry_of (drop (at + 4) old)
ended old at count long is =
    let item = drop (at + 4) old in
    let front : take at (old ++ 0 ∷ []) ≡ take at old = take-append-le at old (0 ∷ []) (omega arith) in
    let back : drop 4 (drop at (old ++ 0 ∷ [])) ≡ item ++ 0 ∷ [] = drop-drop 4 at (old ++ 0 ∷ []) ∙ drop-append-le (at + 4) old (0 ∷ []) long in
    let size : count ≡ length item = omega (arith, is, length-drop (at + 4) old) in
    ap (λ (l : List ℕ). l ++ (length_octets count ++ drop 4 (drop at (old ++ 0 ∷ [])))) front
    ∙ ap (λ (l : List ℕ). take at old ++ (length_octets count ++ l)) back
    ∙ ap (λ (n : ℕ). take at old ++ (length_octets n ++ (item ++ 0 ∷ []))) size
    ∙ ap (λ (l : List ℕ). take at old ++ l) (sym (append_assoc (length_octets (length item)) item (0 ∷ [])))
