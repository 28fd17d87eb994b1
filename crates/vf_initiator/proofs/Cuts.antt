-- Pieces that are cut, and a single one of them.
use Rattle.std.proofs.Common.{◌≡◌, ℕ, zero, suc, ◌+◌, ◌-◌, ◌≤◌, List, [], ◌∷◌, length, take, drop, refl, sym, ap, subst, ◌∙◌, Some, arith, drop-drop, length-drop, take-take}
use Rattle.std.specs.Prelude.{slice_get}
use Rattle.std.specs.List.{slice_index}
use Rattle.std.proofs.lemmas.List.{drop-take, length-take}
use Rattle.vf_base.specs.declared.element.Element.{Element}
use Rattle.vf_initiator.specs.Gathering.{AreMarks, after_marks, by_marks, end_of}

index_end : (n before : ℕ) (marks : List ℕ) → suc n ≤ length marks → slice_index marks n ≡ end_of before (suc n) marks
index_end n before [] within = absurd (omega (arith, within))
index_end zero before (m ∷ marks) within = refl
index_end (suc n) before (m ∷ marks) within = index_end n m marks (omega (arith, within))

-- the mark of the last of so many pieces
pub mark_there : (n : ℕ) (marks : List ℕ) → 1 ≤ n → n ≤ length marks → slice_index marks (n - 1) ≡ end_of 0 n marks
mark_there zero marks some within = absurd (omega (arith, some))
mark_there (suc n) marks some within = let less : suc n - 1 ≡ n = omega arith in rw less (index_end n 0 marks within)

pub end_rises : (before n : ℕ) (marks : List ℕ) (elements : List Element) → AreMarks before marks elements → before ≤ end_of before n marks
end_rises before zero marks elements are = omega arith
end_rises before (suc n) [] elements are = omega arith
end_rises before (suc n) (m ∷ marks) elements are = let rest = end_rises m n marks (drop (m - before) elements) are.2 in omega (arith, are.0, rest)

pub end_within : (before n : ℕ) (marks : List ℕ) (elements : List Element) → AreMarks before marks elements → end_of before n marks ≤ before + length elements
end_within before zero marks elements are = omega arith
end_within before (suc n) [] elements are = omega arith
end_within before (suc n) (m ∷ marks) elements are =
    let rest = end_within m n marks (drop (m - before) elements) are.2 in omega (arith, are.0, are.1, rest, length-drop (m - before) elements)

pub by_cut : (before n : ℕ) (marks : List ℕ) (elements : List Element) → AreMarks before marks elements → by_marks before (take n marks) (take (end_of before n marks - before) elements) ≡ take n (by_marks before marks elements)
by_cut before zero marks elements are = refl
by_cut before (suc n) [] elements are = refl
by_cut before (suc n) (m ∷ marks) elements are =
    let rises = end_rises m n marks (drop (m - before) elements) are.2 in
    let same : end_of m n marks - before ≡ (m - before) + (end_of m n marks - m) = omega (arith, are.0, rises) in
    let shorter : m - before ≤ (m - before) + (end_of m n marks - m) = omega arith in
    rw (same, take-take (m - before) ((m - before) + (end_of m n marks - m)) elements shorter, drop-take (m - before) (end_of m n marks - m) elements)
    (ap (λ rest. take (m - before) elements ∷ rest) (by_cut m n marks (drop (m - before) elements) are.2))

pub after_cut : (before n : ℕ) (marks : List ℕ) (elements : List Element) → AreMarks before marks elements → n ≤ length marks → after_marks before (take n marks) (take (end_of before n marks - before) elements) ≡ []
after_cut before zero marks elements are within =
    let none : before - before ≡ 0 = omega arith in
    subst (λ (n : ℕ). take n elements ≡ []) (sym none) refl
after_cut before (suc n) [] elements are within = absurd (omega (arith, within))
after_cut before (suc n) (m ∷ marks) elements are within =
    let rises = end_rises m n marks (drop (m - before) elements) are.2 in
    let same : end_of m n marks - before ≡ (m - before) + (end_of m n marks - m) = omega (arith, are.0, rises) in
    subst (λ (e : ℕ). after_marks m (take n marks) (drop (m - before) (take e elements)) ≡ []) (sym same)
    (subst (λ (l : List Element). after_marks m (take n marks) l ≡ []) (sym (drop-take (m - before) (end_of m n marks - m) elements))
    (after_cut m n marks (drop (m - before) elements) are.2 (omega (arith, within))))

pub marks_cut : (before n : ℕ) (marks : List ℕ) (elements : List Element) → AreMarks before marks elements → AreMarks before (take n marks) (take (end_of before n marks - before) elements)
marks_cut before zero marks elements are = tt
marks_cut before (suc n) [] elements are = tt
marks_cut before (suc n) (m ∷ marks) elements are =
    let rises = end_rises m n marks (drop (m - before) elements) are.2 in
    let same : end_of m n marks - before ≡ (m - before) + (end_of m n marks - m) = omega (arith, are.0, rises) in
    let rest = marks_cut m n marks (drop (m - before) elements) are.2 in
    let within : m ≤ before + length (take ((m - before) + (end_of m n marks - m)) elements) =
    omega (arith, are.0, are.1, length-take ((m - before) + (end_of m n marks - m)) elements) in
    let later = subst (λ (l : List Element). AreMarks m (take n marks) l) (sym (drop-take (m - before) (end_of m n marks - m) elements)) rest in
    subst (λ (e : ℕ). (before ≤ m) × (m ≤ before + length (take e elements)) × AreMarks m (take n marks) (drop (m - before) (take e elements))) (sym same) (are.0, within, later)

-- ---- a single piece

pub by_there : (before n : ℕ) (marks : List ℕ) (elements : List Element) → AreMarks before marks elements → suc n ≤ length marks
    → slice_get (by_marks before marks elements) n ≡ Some (drop (end_of before n marks - before) (take (end_of before (suc n) marks - before) elements))
by_there before n [] elements are within = absurd (omega (arith, within))
by_there before zero (m ∷ marks) elements are within =
    let none : before - before ≡ 0 = omega arith in
    subst (λ (k : ℕ). Some (take (m - before) elements) ≡ Some (drop k (take (m - before) elements))) (sym none) refl
by_there before (suc n) (m ∷ marks) elements are within =
    let low = end_rises m n marks (drop (m - before) elements) are.2 in
    let high = end_rises m (suc n) marks (drop (m - before) elements) are.2 in
    let i : ℕ = m - before in
    let start : ℕ = end_of m n marks - m in
    let stop : ℕ = end_of m (suc n) marks - m in
    let first : end_of m n marks - before ≡ i + start = omega (arith, are.0, low) in
    let last : end_of m (suc n) marks - before ≡ i + stop = omega (arith, are.0, high) in
    by_there m n marks (drop i elements) are.2 (omega (arith, within))
    ∙ (ap (λ (l : List Element). Some (drop start l)) (sym (drop-take i stop elements))
    ∙ (ap (λ (l : List Element). Some l) (drop-drop start i (take (i + stop) elements))
    ∙ (ap (λ (k : ℕ). Some (drop k (take (i + stop) elements))) (sym first)
    ∙ ap (λ (k : ℕ). Some (drop (end_of m n marks - before) (take k elements))) (sym last))))

pub end_order : (before n : ℕ) (marks : List ℕ) (elements : List Element) → AreMarks before marks elements → end_of before n marks ≤ end_of before (suc n) marks
end_order before zero [] elements are = omega arith
end_order before zero (m ∷ marks) elements are = are.0
end_order before (suc n) [] elements are = omega arith
end_order before (suc n) (m ∷ marks) elements are = end_order m n marks (drop (m - before) elements) are.2

-- ---- the same from the first element on

pub end_fits : (n : ℕ) (marks : List ℕ) (elements : List Element) → AreMarks 0 marks elements → end_of 0 n marks ≤ length elements
end_fits n marks elements are = let within = end_within 0 n marks elements are in omega (arith, within)

pub by_left : (n : ℕ) (marks : List ℕ) (elements : List Element) → AreMarks 0 marks elements → by_marks 0 (take n marks) (take (end_of 0 n marks) elements) ≡ take n (by_marks 0 marks elements)
by_left n marks elements are =
    let whole : end_of 0 n marks - 0 ≡ end_of 0 n marks = omega arith in
    subst (λ (e : ℕ). by_marks 0 (take n marks) (take e elements) ≡ take n (by_marks 0 marks elements)) whole (by_cut 0 n marks elements are)

pub after_left : (n : ℕ) (marks : List ℕ) (elements : List Element) → AreMarks 0 marks elements → n ≤ length marks → after_marks 0 (take n marks) (take (end_of 0 n marks) elements) ≡ []
after_left n marks elements are within =
    let whole : end_of 0 n marks - 0 ≡ end_of 0 n marks = omega arith in
    subst (λ (e : ℕ). after_marks 0 (take n marks) (take e elements) ≡ []) whole (after_cut 0 n marks elements are within)

pub marks_left : (n : ℕ) (marks : List ℕ) (elements : List Element) → AreMarks 0 marks elements → AreMarks 0 (take n marks) (take (end_of 0 n marks) elements)
marks_left n marks elements are =
    let whole : end_of 0 n marks - 0 ≡ end_of 0 n marks = omega arith in
    subst (λ (e : ℕ). AreMarks 0 (take n marks) (take e elements)) whole (marks_cut 0 n marks elements are)

pub piece_there : (n : ℕ) (marks : List ℕ) (elements : List Element) → AreMarks 0 marks elements → n + 1 ≤ length marks
    → slice_get (by_marks 0 marks elements) n ≡ Some (drop (end_of 0 n marks) (take (end_of 0 (n + 1) marks) elements))
piece_there n marks elements are within =
    let more : n + 1 ≡ suc n = omega arith in
    let first : end_of 0 n marks - 0 ≡ end_of 0 n marks = omega arith in
    let last : end_of 0 (suc n) marks - 0 ≡ end_of 0 (suc n) marks = omega arith in
    by_there 0 n marks elements are (omega (arith, within))
    ∙ (ap (λ (k : ℕ). Some (drop k (take (end_of 0 (suc n) marks - 0) elements))) first
    ∙ (ap (λ (k : ℕ). Some (drop (end_of 0 n marks) (take k elements))) last
    ∙ ap (λ (k : ℕ). Some (drop (end_of 0 n marks) (take (end_of 0 k marks) elements))) (sym more)))

pub start_fits : (n : ℕ) (marks : List ℕ) (elements : List Element) → AreMarks 0 marks elements → end_of 0 n marks ≤ length (take (end_of 0 (n + 1) marks) elements)
start_fits n marks elements are =
    let more : n + 1 ≡ suc n = omega arith in
    let order : end_of 0 n marks ≤ end_of 0 (n + 1) marks = subst (λ (k : ℕ). end_of 0 n marks ≤ end_of 0 k marks) (sym more) (end_order 0 n marks elements are) in
    omega (arith, order, end_fits n marks elements are, length-take (end_of 0 (n + 1) marks) elements)

pub ruleset cuts = (piece_there, start_fits, mark_there, end_fits, by_left, after_left, marks_left)
