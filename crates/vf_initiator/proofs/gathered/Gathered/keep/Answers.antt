use Rattle.std.proofs.Common.{◌≡◌, ◌≤◌, ◌+◌, ◌∙◌, ap, arith, ℕ, List, ◌++◌, ◌∷◌, [], length, length-append}
use Rattle.std.proofs.lemmas.Bool.Decides.{nat_tests}
use Rattle.vf_initiator.specs.Gathering.{by_marks}
use Rattle.vf_initiator.proofs.Kept.{back_at, other_at, same_back, same_other, seen_back, seen_other}
use Rattle.vf_initiator.proofs.Marks.{marks_end, pieces_are_marks}
use Rattle.vf_initiator.proofs.gathered.Gathered.keep.Goals as goal

pub invariant_of-self-then-is_back : goal.invariant_of-self-then-is_back
invariant_of-self-then-is_back c =
    let i = c.self.inside in
    let is : c.push.new.self.items ≡ i.marks.items ++ length i.elements ∷ [] = c.in_ok-push.ensures.items ∙ ap (λ (n : ℕ). i.marks.items ++ n ∷ []) c.len-2.ensures in
    let size : length c.push.new.self.items ≡ length i.marks.items + 1 = ap (λ (l : List ℕ). length l) is ∙ length-append i.marks.items (length i.elements ∷ []) in (
      rw is (marks_end i.marks.items i.elements c.self.invariant.0),
      grind (arith, nat_tests, size, c.len.ensures, c.if-len-ge-MOST_PIECES.false),
      omega (arith, size, c.self.invariant.2),
      same_back i.marks.items c.push.new.self.items i.elements i.before.items i.standing is c.self.invariant.0 (back_at c.as_slice.result.now i.before.items c.as_slice-marks.result.now i.marks.items c.as_slice-all.result.now i.elements i.standing c.as_slice.ensures.value c.as_slice-marks.ensures.value c.as_slice-all.ensures
          (c.is_back-is_back.ensures.back c.if-is_back.true)),
      c.self.invariant.4,
    )

pub invariant_of-self-else-is_back : goal.invariant_of-self-else-is_back
invariant_of-self-else-is_back c =
    let i = c.self.inside in
    let is : c.push.new.self.items ≡ i.marks.items ++ length i.elements ∷ [] = c.in_ok-push.ensures.items ∙ ap (λ (n : ℕ). i.marks.items ++ n ∷ []) c.len-2.ensures in
    let size : length c.push.new.self.items ≡ length i.marks.items + 1 = ap (λ (l : List ℕ). length l) is ∙ length-append i.marks.items (length i.elements ∷ []) in
    let within : i.standing ≤ length (by_marks 0 i.marks.items i.elements) = omega (arith, pieces_are_marks 0 i.marks.items i.elements, c.self.invariant.2) in (
      rw is (marks_end i.marks.items i.elements c.self.invariant.0),
      grind (arith, nat_tests, size, c.len.ensures, c.if-len-ge-MOST_PIECES.false),
      omega (arith, size, c.self.invariant.2),
      same_other i.marks.items c.push.new.self.items i.elements i.before.items i.standing is c.self.invariant.0 within (other_at c.as_slice.result.now i.before.items c.as_slice-marks.result.now i.marks.items c.as_slice-all.result.now i.elements i.standing c.as_slice.ensures.value c.as_slice-marks.ensures.value c.as_slice-all.ensures
          (c.is_back-is_back.ensures.other c.if-is_back.false)),
      c.self.invariant.4,
    )

pub returns-then-is_back : goal.returns-then-is_back
returns-then-is_back c =
    let i = c.self.inside in
    let is : c.push.new.self.items ≡ i.marks.items ++ length i.elements ∷ [] = c.in_ok-push.ensures.items ∙ ap (λ (n : ℕ). i.marks.items ++ n ∷ []) c.len-2.ensures in
    rw (← c.self.view_is) (seen_back i.marks.items c.push.new.self.items i.elements i.before.items i.standing is c.self.invariant.0 (back_at c.as_slice.result.now i.before.items c.as_slice-marks.result.now i.marks.items c.as_slice-all.result.now i.elements i.standing c.as_slice.ensures.value c.as_slice-marks.ensures.value c.as_slice-all.ensures
    (c.is_back-is_back.ensures.back c.if-is_back.true)))

pub returns-else-is_back : goal.returns-else-is_back
returns-else-is_back c =
    let i = c.self.inside in
    let is : c.push.new.self.items ≡ i.marks.items ++ length i.elements ∷ [] = c.in_ok-push.ensures.items ∙ ap (λ (n : ℕ). i.marks.items ++ n ∷ []) c.len-2.ensures in
    let within : i.standing ≤ length (by_marks 0 i.marks.items i.elements) = omega (arith, pieces_are_marks 0 i.marks.items i.elements, c.self.invariant.2) in
    rw (← c.self.view_is) (seen_other i.marks.items c.push.new.self.items i.elements i.before.items i.standing is c.self.invariant.0 within)
