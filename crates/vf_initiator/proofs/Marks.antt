-- Elements in one list, and the pieces that marks cut them into.
use Rattle.std.proofs.Common.{◌≡◌, ℕ, suc, ◌+◌, ◌-◌, ◌≤◌, List, [], ◌∷◌, ◌++◌, length, take, drop, min, refl, sym, ap, subst, ◌∙◌, arith, length-append}
use Rattle.std.proofs.Math.ListN.{drop_of_length-le}
use Rattle.std.proofs.lemmas.List.{append_assoc, drop-append-le, length-drop, take-append-drop, take-append-le, take_all}
use Rattle.std.proofs.lemmas.List.Sums.{sum_by_push}
use Rattle.vf_base.specs.declared.element.Element.{Element}
use Rattle.vf_initiator.specs.Gathering.{AreMarks, after_marks, by_marks, common, kept_by}
use Rattle.vf_transfer.specs.Transfer.{joined}
use Rattle.vf_tree.specs.FileTree.{octets_of, octets_of_unit}

-- ---- more elements after the others

pub by_more : (before : ℕ) (marks : List ℕ) (elements more : List Element) → AreMarks before marks elements → by_marks before marks (elements ++ more) ≡ by_marks before marks elements
by_more before [] elements more are = refl
by_more before (mark ∷ marks) elements more are =
    let fits : mark - before ≤ length elements = omega (arith, are.0, are.1) in
    rw (take-append-le (mark - before) elements more fits, drop-append-le (mark - before) elements more fits)
    (ap (λ rest. take (mark - before) elements ∷ rest) (by_more mark marks (drop (mark - before) elements) more are.2))

pub after_more : (before : ℕ) (marks : List ℕ) (elements more : List Element) → AreMarks before marks elements → after_marks before marks (elements ++ more) ≡ after_marks before marks elements ++ more
after_more before [] elements more are = refl
after_more before (mark ∷ marks) elements more are =
    let fits : mark - before ≤ length elements = omega (arith, are.0, are.1) in
    rw (drop-append-le (mark - before) elements more fits) (after_more mark marks (drop (mark - before) elements) more are.2)

pub marks_more : (before : ℕ) (marks : List ℕ) (elements more : List Element) → AreMarks before marks elements → AreMarks before marks (elements ++ more)
marks_more before [] elements more are = are
marks_more before (mark ∷ marks) elements more are =
    let fits : mark - before ≤ length elements = omega (arith, are.0, are.1) in
    let within : mark ≤ before + length (elements ++ more) = omega (arith, are.1, length-append elements more) in
    let rest = marks_more mark marks (drop (mark - before) elements) more are.2 in
    (are.0, within, rw (drop-append-le (mark - before) elements more fits) rest)

-- ---- a mark at the end of the elements

pub by_last : (before : ℕ) (marks : List ℕ) (elements : List Element) → AreMarks before marks elements → by_marks before (marks ++ (before + length elements) ∷ []) elements ≡ by_marks before marks elements ++ after_marks before marks elements ∷ []
by_last before [] elements are =
    let all : length elements ≤ before + length elements - before = omega arith in
    rw (take_all (before + length elements - before) elements all) refl
by_last before (mark ∷ marks) elements are =
    let same : before + length elements ≡ mark + length (drop (mark - before) elements) = omega (arith, are.0, are.1, length-drop (mark - before) elements) in
    rw same (ap (λ rest. take (mark - before) elements ∷ rest) (by_last mark marks (drop (mark - before) elements) are.2))

pub after_last : (before : ℕ) (marks : List ℕ) (elements : List Element) → AreMarks before marks elements → after_marks before (marks ++ (before + length elements) ∷ []) elements ≡ []
after_last before [] elements are =
    let all : length elements ≤ before + length elements - before = omega arith in drop_of_length-le elements all
after_last before (mark ∷ marks) elements are =
    let same : before + length elements ≡ mark + length (drop (mark - before) elements) = omega (arith, are.0, are.1, length-drop (mark - before) elements) in
    rw same (after_last mark marks (drop (mark - before) elements) are.2)

pub marks_last : (before : ℕ) (marks : List ℕ) (elements : List Element) → AreMarks before marks elements → AreMarks before (marks ++ (before + length elements) ∷ []) elements
marks_last before [] elements are = (omega arith, omega arith, tt)
marks_last before (mark ∷ marks) elements are =
    let same : before + length elements ≡ mark + length (drop (mark - before) elements) = omega (arith, are.0, are.1, length-drop (mark - before) elements) in
    let rest = marks_last mark marks (drop (mark - before) elements) are.2 in
    (are.0, are.1, rw same rest)

pub pieces_are_marks : (before : ℕ) (marks : List ℕ) (elements : List Element) → length (by_marks before marks elements) ≡ length marks
pieces_are_marks before [] elements = refl
pieces_are_marks before (mark ∷ marks) elements = ap (λ n. suc n) (pieces_are_marks mark marks (drop (mark - before) elements))

-- all elements stand in the pieces and after them
pub all_there : (before : ℕ) (marks : List ℕ) (elements : List Element) → joined (by_marks before marks elements) ++ after_marks before marks elements ≡ elements
all_there before [] elements = refl
all_there before (mark ∷ marks) elements =
    append_assoc (take (mark - before) elements) (joined (by_marks mark marks (drop (mark - before) elements))) (after_marks mark marks (drop (mark - before) elements))
    ∙ (ap (λ rest. take (mark - before) elements ++ rest) (all_there mark marks (drop (mark - before) elements)) ∙ take-append-drop (mark - before) elements)

-- the same from the first element on, as an end of the elements is pushed
pub by_end : (marks : List ℕ) (elements : List Element) → AreMarks 0 marks elements → by_marks 0 (marks ++ length elements ∷ []) elements ≡ by_marks 0 marks elements ++ after_marks 0 marks elements ∷ []
by_end marks elements are =
    let zero_more : 0 + length elements ≡ length elements = omega arith in
    subst (λ (n : ℕ). by_marks 0 (marks ++ n ∷ []) elements ≡ by_marks 0 marks elements ++ after_marks 0 marks elements ∷ []) zero_more (by_last 0 marks elements are)

pub after_end : (marks : List ℕ) (elements : List Element) → AreMarks 0 marks elements → after_marks 0 (marks ++ length elements ∷ []) elements ≡ []
after_end marks elements are =
    let zero_more : 0 + length elements ≡ length elements = omega arith in
    subst (λ (n : ℕ). after_marks 0 (marks ++ n ∷ []) elements ≡ []) zero_more (after_last 0 marks elements are)

pub marks_end : (marks : List ℕ) (elements : List Element) → AreMarks 0 marks elements → AreMarks 0 (marks ++ length elements ∷ []) elements
marks_end marks elements are =
    let zero_more : 0 + length elements ≡ length elements = omega arith in
    subst (λ (n : ℕ). AreMarks 0 (marks ++ n ∷ []) elements) zero_more (marks_last 0 marks elements are)

-- ---- what an element more leaves

pub value_marks : (marks : List ℕ) (elements now : List Element) (element : Element) → now ≡ elements ++ element ∷ [] → AreMarks 0 marks elements → AreMarks 0 marks now
value_marks marks elements now element is are = subst (λ (l : List Element). AreMarks 0 marks l) (sym is) (marks_more 0 marks elements (element ∷ []) are)

pub value_octets : (elements now : List Element) (element : Element) (octets more sum : ℕ) → now ≡ elements ++ element ∷ [] → octets ≡ min (octets_of_unit elements) 18446744073709551615
    → more ≡ octets_of element → sum ≡ min (octets + more) 18446744073709551615 → sum ≡ min (octets_of_unit now) 18446744073709551615
value_octets elements now element octets more sum is was one added =
    let all : octets_of_unit now ≡ octets_of_unit elements + octets_of element = ap octets_of_unit is ∙ sum_by_push octets_of elements element in
    omega (arith, all, was, one, added)

pub value_same : (marks : List ℕ) (elements now : List Element) (element : Element) (before : List (List Element)) (standing : ℕ) → now ≡ elements ++ element ∷ [] → AreMarks 0 marks elements
    → common (kept_by before standing (by_marks 0 marks elements)) (by_marks 0 marks elements) ≡ standing → common (kept_by before standing (by_marks 0 marks now)) (by_marks 0 marks now) ≡ standing
value_same marks elements now element before standing is are same =
    let pieces : by_marks 0 marks now ≡ by_marks 0 marks elements = ap (by_marks 0 marks) is ∙ by_more 0 marks elements (element ∷ []) are in
    subst (λ (l : List (List Element)). common (kept_by before standing l) l ≡ standing) (sym pieces) same

pub ruleset marks = (by_more, after_more, marks_more, by_end, after_end, marks_end, pieces_are_marks, all_there)
