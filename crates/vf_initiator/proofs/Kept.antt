-- The pieces that were kept last, and how many of the pieces are still the same.
use Rattle.std.proofs.Common.{◌≡◌, ◌≤◌, ◌+◌, ◌-◌, get_or, ℕ, zero, suc, Bool, true, false, ◌&&◌, nat_lt, cond, min, List, [], ◌∷◌, ◌++◌, length, take, drop, refl, sym, ap, subst, ◌∙◌, Some, arith, drop-drop, length-take}
use Rattle.std.specs.Prelude.{slice_get}
use Rattle.std.proofs.Math.ListN.{drop_of_length-le}
use Rattle.std.proofs.lemmas.Bool.Decides.{nat_tests}
use Rattle.std.proofs.lemmas.List.{take-append-le, take_all}
use Rattle.vf_base.specs.declared.element.Element.{Element}
use Rattle.vf_initiator.proofs.Cuts.{after_left, by_left, end_rises}
use Rattle.vf_initiator.proofs.Marks.{after_end, by_end}
use Rattle.vf_initiator.specs.Gathering.{AreMarks, Gathering, IsBack, IsOther, after_marks, by_marks, common, end_of, kept_by, kept_whole, left_of}
use Rattle.vf_tree.specs.Same.{are_same_units, is_same_unit}
use Rattle.vf_tree.proofs.EqualUnits.{units_refl, units_true}

-- ---- what both begin with

unit_itself : (unit : List Element) → is_same_unit unit unit ≡ true
unfolding are_same_units
unit_itself unit = by (is_same_unit unit unit) (units_refl (unit ∷ []))
  where
    by : (b : Bool) → (b && true) ≡ true → b ≡ true
    by true is = refl
    by false is = is

unit_true : (unit other : List Element) → is_same_unit unit other ≡ true → unit ≡ other
unfolding are_same_units
unit_true unit other is = ap first (units_true (unit ∷ []) (other ∷ []) (by (is_same_unit unit other) is))
  where
    first : List (List Element) → List Element
    first [] = []
    first (x ∷ xs) = x

    by : (b : Bool) → b ≡ true → (b && true) ≡ true
    by true is = refl
    by false is = is

no_others : (pieces : List (List Element)) → common pieces [] ≡ 0
no_others [] = refl
no_others (piece ∷ pieces) = refl

none_taken : (n : ℕ) → take {A = List Element} n [] ≡ []
none_taken zero = refl
none_taken (suc n) = refl

none_dropped : (n : ℕ) → drop {A = List Element} n [] ≡ []
none_dropped zero = refl
none_dropped (suc n) = refl

pub common_taken : (n : ℕ) (pieces : List (List Element)) → n ≤ length pieces → common (take n pieces) pieces ≡ n
common_taken zero pieces within = refl
common_taken (suc n) [] within = absurd (omega (arith, within))
common_taken (suc n) (piece ∷ pieces) within = by (is_same_unit piece piece) (unit_itself piece) (common_taken n pieces (omega (arith, within)))
  where
    by : (b : Bool) → b ≡ true → common (take n pieces) pieces ≡ n → cond b (1 + common (take n pieces) pieces) 0 ≡ suc n
    by true is rest = omega (arith, rest)
    by false is rest = absurd cc

pub common_least : (pieces others : List (List Element)) → common pieces others ≤ length pieces
common_least [] others = omega arith
common_least (piece ∷ pieces) [] = omega arith
common_least (piece ∷ pieces) (other ∷ others) = by (is_same_unit piece other) (common_least pieces others)
  where
    by : (b : Bool) → common pieces others ≤ length pieces → cond b (1 + common pieces others) 0 ≤ suc (length pieces)
    by true rest = omega (arith, rest)
    by false rest = omega arith

-- so many of both are equal
pub common_same : (pieces others : List (List Element)) → take (common pieces others) others ≡ take (common pieces others) pieces
common_same [] others = refl
common_same (piece ∷ pieces) [] = refl
common_same (piece ∷ pieces) (other ∷ others) = by (is_same_unit piece other) refl (common_same pieces others)
  where
    by : (b : Bool) → is_same_unit piece other ≡ b → take (common pieces others) others ≡ take (common pieces others) pieces
        → take (cond b (1 + common pieces others) 0) (other ∷ others) ≡ take (cond b (1 + common pieces others) 0) (piece ∷ pieces)
    by true is rest =
        let more : 1 + common pieces others ≡ suc (common pieces others) = omega arith in
        rw more (λ i. sym (unit_true piece other is) i ∷ rest i)
    by false is rest = refl

pub common_cut : (pieces others : List (List Element)) (n : ℕ) → common pieces (take n others) ≡ min (common pieces others) n
common_cut [] others n = omega arith
common_cut (piece ∷ pieces) [] zero = refl
common_cut (piece ∷ pieces) [] (suc n) = omega arith
common_cut (piece ∷ pieces) (other ∷ others) zero = omega arith
common_cut (piece ∷ pieces) (other ∷ others) (suc n) = by (is_same_unit piece other) (common_cut pieces others n)
  where
    by : (b : Bool) → common pieces (take n others) ≡ min (common pieces others) n → cond b (1 + common pieces (take n others)) 0 ≡ min (cond b (1 + common pieces others) 0) (suc n)
    by true rest = omega (arith, rest)
    by false rest = omega arith

-- another one after some that aren't all the same
common_stays : (pieces others : List (List Element)) (more : List Element) → suc (common pieces others) ≤ length others → common pieces (others ++ more ∷ []) ≡ common pieces others
common_stays [] others more few = refl
common_stays (piece ∷ pieces) [] more few = absurd (omega (arith, few))
common_stays (piece ∷ pieces) (other ∷ others) more few = by (is_same_unit piece other) few (common_stays pieces others more)
  where
    by : (b : Bool) → suc (cond b (1 + common pieces others) 0) ≤ suc (length others) → (suc (common pieces others) ≤ length others → common pieces (others ++ more ∷ []) ≡ common pieces others)
        → cond b (1 + common pieces (others ++ more ∷ [])) 0 ≡ cond b (1 + common pieces others) 0
    by true few rest = ap (λ n. 1 + n) (rest (omega (arith, few)))
    by false few rest = refl

-- and after some that all are
common_next : (pieces others : List (List Element)) (more : List Element) → common pieces others ≡ length others → common pieces (others ++ more ∷ []) ≡ length others + common (drop (length others) pieces) (more ∷ [])
common_next pieces [] more all = omega arith
common_next [] (other ∷ others) more all = absurd (omega (arith, all))
common_next (piece ∷ pieces) (other ∷ others) more all = by (is_same_unit piece other) all (common_next pieces others more)
  where
    by : (b : Bool) → cond b (1 + common pieces others) 0 ≡ suc (length others)
        → (common pieces others ≡ length others → common pieces (others ++ more ∷ []) ≡ length others + common (drop (length others) pieces) (more ∷ []))
        → cond b (1 + common pieces (others ++ more ∷ [])) 0 ≡ suc (length others) + common (drop (length others) pieces) (more ∷ [])
    by true all rest = let r = rest (omega (arith, all)) in omega (arith, r)
    by false all rest = absurd (omega (arith, all))

first_there : (n : ℕ) (pieces : List (List Element)) (piece more : List Element) → slice_get pieces n ≡ Some piece → common (drop n pieces) (more ∷ []) ≡ cond (is_same_unit piece more) 1 0
first_there n [] piece more there = absurd (cc)
first_there zero (first ∷ pieces) piece more there =
    let same : first ≡ piece = cc in
    by (is_same_unit first more) ∙ ap (λ (p : List Element). cond (is_same_unit p more) 1 0) same
  where
    by : (b : Bool) → cond b (1 + common pieces []) 0 ≡ cond b 1 0
    by true = let none = no_others pieces in omega (arith, none)
    by false = refl
first_there (suc n) (first ∷ pieces) piece more there = first_there n pieces piece more there

-- ---- the pieces that were kept

kept_length : (before : List (List Element)) (standing : ℕ) (pieces : List (List Element)) → length before ≤ standing → length (kept_by before standing pieces) ≤ standing
kept_length [] standing pieces few = omega (arith, length-take standing pieces)
kept_length (piece ∷ before) standing pieces few = few

kept_there : (before : List (List Element)) (standing : ℕ) (pieces : List (List Element)) (piece : List Element) → slice_get before standing ≡ Some piece → kept_by before standing pieces ≡ before
kept_there [] standing pieces piece there = absurd (cc)
kept_there (first ∷ before) standing pieces piece there = refl

-- a piece more
pub kept_more : (before : List (List Element)) (standing : ℕ) (pieces : List (List Element)) (piece : List Element) → standing ≤ length pieces → kept_by before standing (pieces ++ piece ∷ []) ≡ kept_by before standing pieces
kept_more [] standing pieces piece within = take-append-le standing pieces (piece ∷ []) within
kept_more (first ∷ before) standing pieces piece within = refl

pub kept_back : (before : List (List Element)) (standing : ℕ) (pieces : List (List Element)) (piece : List Element) → IsBack before standing pieces piece → kept_by before (standing + 1) (pieces ++ piece ∷ []) ≡ kept_by before standing pieces
kept_back [] standing pieces piece back =
    let least = common_least (take standing pieces) (pieces ++ piece ∷ []) in absurd (omega (arith, back, least, length-take standing pieces))
kept_back (first ∷ before) standing pieces piece back = refl

-- so many pieces are left
pub kept_cut : (before : List (List Element)) (standing : ℕ) (pieces : List (List Element)) (n : ℕ) → kept_by (kept_by before standing pieces) (min standing n) (take n pieces) ≡ kept_by before standing pieces
kept_cut (first ∷ before) standing pieces n = refl
kept_cut [] zero pieces n = let none : min 0 n ≡ 0 = omega arith in ap (λ (k : ℕ). take k (take n pieces)) none
kept_cut [] (suc standing) [] n = ap (take (min (suc standing) n)) (none_taken n) ∙ none_taken (min (suc standing) n)
kept_cut [] (suc standing) (piece ∷ pieces) n = refl

pub kept_all : (pieces : List (List Element)) (n : ℕ) → n ≡ length pieces → kept_by [] n pieces ≡ pieces
kept_all pieces n all = take_all n pieces (omega (arith, all))

pub none_cut : (before : List (List Element)) (n : ℕ) (pieces : List (List Element)) → before ≡ [] → n ≡ length pieces → common (kept_by before n pieces) pieces ≡ n
none_cut before n pieces none all =
    ap (λ (l : List (List Element)). common (kept_by l n pieces) pieces) none ∙ common_taken n pieces (omega (arith, all))

pub kept_cut_off : (before : List (List Element)) (standing : ℕ) (pieces : List (List Element)) → standing ≤ length pieces → nat_lt standing (length before) ≡ nat_lt standing (length (kept_by before standing pieces))
kept_cut_off [] standing pieces within = let size : length (take standing pieces) ≡ standing = omega (arith, length-take standing pieces, within) in grind (arith, nat_tests, size)
kept_cut_off (first ∷ before) standing pieces within = refl

-- ---- whether the next one is back

pub other_early : (before : List (List Element)) (standing : ℕ) (pieces : List (List Element)) (piece : List Element) → suc standing ≤ length pieces → common (kept_by before standing pieces) pieces ≡ standing → IsOther before standing pieces piece
other_early before standing pieces piece few same = common_stays (kept_by before standing pieces) pieces piece (omega (arith, few, same)) ∙ same

pub other_none : (before : List (List Element)) (standing : ℕ) (pieces : List (List Element)) (piece : List Element) → standing ≡ length pieces → length before ≤ standing → common (kept_by before standing pieces) pieces ≡ standing → IsOther before standing pieces piece
other_none before standing pieces piece all few same =
    let kept = kept_by before standing pieces in
    let short = kept_length before standing pieces few in
    let none : drop (length pieces) kept ≡ [] = drop_of_length-le kept (omega (arith, short, all)) in
    let next = common_next kept pieces piece (same ∙ all) in
    let last : common (drop (length pieces) kept) (piece ∷ []) ≡ 0 = ap (λ (l : List (List Element)). common l (piece ∷ [])) none in
    omega (arith, next, last, all)

next_is : (before : List (List Element)) (standing : ℕ) (pieces : List (List Element)) (piece there : List Element) → standing ≡ length pieces → slice_get before standing ≡ Some there → common (kept_by before standing pieces) pieces ≡ standing
    → common (kept_by before standing pieces) (pieces ++ piece ∷ []) ≡ standing + cond (is_same_unit there piece) 1 0
next_is before standing pieces piece there all is same =
    let kept = kept_by before standing pieces in
    let next = common_next kept pieces piece (same ∙ all) in
    let last : common (drop (length pieces) kept) (piece ∷ []) ≡ cond (is_same_unit there piece) 1 0 =
    ap (λ (l : List (List Element)). common (drop (length pieces) l) (piece ∷ [])) (kept_there before standing pieces there is)
    ∙ (ap (λ (n : ℕ). common (drop n before) (piece ∷ [])) (sym all) ∙ first_there standing before there piece is) in
    next ∙ (ap (λ (n : ℕ). length pieces + n) last ∙ ap (λ (n : ℕ). n + cond (is_same_unit there piece) 1 0) (sym all))

pub other_there : (before : List (List Element)) (standing : ℕ) (pieces : List (List Element)) (piece there : List Element) → standing ≡ length pieces → slice_get before standing ≡ Some there → common (kept_by before standing pieces) pieces ≡ standing
    → is_same_unit there piece ≡ false → IsOther before standing pieces piece
other_there before standing pieces piece there all is same differs =
    let next = next_is before standing pieces piece there all is same in
    next ∙ (ap (λ (b : Bool). standing + cond b 1 0) differs ∙ omega arith)

pub back_there : (before : List (List Element)) (standing : ℕ) (pieces : List (List Element)) (piece there : List Element) → standing ≡ length pieces → slice_get before standing ≡ Some there → common (kept_by before standing pieces) pieces ≡ standing
    → is_same_unit there piece ≡ true → IsBack before standing pieces piece
back_there before standing pieces piece there all is same equal =
    let next = next_is before standing pieces piece there all is same in
    next ∙ (ap (λ (b : Bool). standing + cond b 1 0) equal ∙ omega arith)

-- ---- as the code keeps them

pub there_by : (n : ℕ) (pieces : List (List Element)) (piece : List Element) → true ≡ nat_lt n (length pieces) → piece ≡ get_or pieces n piece → slice_get pieces n ≡ Some piece
there_by n [] piece within is = absurd (grind (arith, nat_tests, within))
there_by zero (first ∷ pieces) piece within is = ap (λ (l : List Element). Some l) (sym is)
there_by (suc n) (first ∷ pieces) piece within is = there_by n pieces piece (let less : true ≡ nat_lt n (length pieces) = grind (arith, nat_tests, within) in less) is

pub take_more : (n : ℕ) (pieces : List (List Element)) (piece : List Element) → slice_get pieces n ≡ Some piece → take (n + 1) pieces ≡ take n pieces ++ piece ∷ []
take_more n [] piece there = absurd (cc)
take_more zero (first ∷ pieces) piece there = ap (λ (l : List Element). l ∷ []) (let same : first ≡ piece = cc in same)
take_more (suc n) (first ∷ pieces) piece there =
    let more : suc n + 1 ≡ suc (n + 1) = omega arith in
    rw more (ap (λ (l : List (List Element)). first ∷ l) (take_more n pieces piece there))

after_from : (before : ℕ) (marks : List ℕ) (elements : List Element) → AreMarks before marks elements → after_marks before marks elements ≡ drop (end_of before (length marks) marks - before) elements
after_from before [] elements are = let none : before - before ≡ 0 = omega arith in rw none refl
after_from before (mark ∷ marks) elements are =
    let rises = end_rises mark (length marks) marks (drop (mark - before) elements) are.2 in
    let same : end_of mark (length marks) marks - before ≡ (mark - before) + (end_of mark (length marks) marks - mark) = omega (arith, are.0, rises) in
    rw same (after_from mark marks (drop (mark - before) elements) are.2 ∙ drop-drop (end_of mark (length marks) marks - mark) (mark - before) elements)

pub after_there : (marks : List ℕ) (elements : List Element) → AreMarks 0 marks elements → after_marks 0 marks elements ≡ drop (end_of 0 (length marks) marks) elements
after_there marks elements are =
    let whole : end_of 0 (length marks) marks - 0 ≡ end_of 0 (length marks) marks = omega arith in
    subst (λ (e : ℕ). after_marks 0 marks elements ≡ drop e elements) whole (after_from 0 marks elements are)

-- a mark at the end
module _ (marks now : List ℕ) (elements : List Element) (before : List (List Element)) (standing : ℕ) (is : now ≡ marks ++ length elements ∷ []) (are : AreMarks 0 marks elements) where
  abbrev pieces : List (List Element)
  pieces = by_marks 0 marks elements

  abbrev fresh : List Element
  fresh = after_marks 0 marks elements

  ends : by_marks 0 now elements ≡ pieces ++ fresh ∷ []
  ends = ap (λ (m : List ℕ). by_marks 0 m elements) is ∙ by_end marks elements are

  none_after : after_marks 0 now elements ≡ []
  none_after = ap (λ (m : List ℕ). after_marks 0 m elements) is ∙ after_end marks elements are

  pub same_back : IsBack before standing pieces fresh → common (kept_by before (standing + 1) (by_marks 0 now elements)) (by_marks 0 now elements) ≡ standing + 1
  same_back back =
      subst (λ (l : List (List Element)). common (kept_by before (standing + 1) l) l ≡ standing + 1) (sym ends)
      (ap (λ (kept : List (List Element)). common kept (pieces ++ fresh ∷ [])) (kept_back before standing pieces fresh back) ∙ (back ∙ omega arith))

  pub same_other : standing ≤ length pieces → IsOther before standing pieces fresh → common (kept_by before standing (by_marks 0 now elements)) (by_marks 0 now elements) ≡ standing
  same_other within other =
      subst (λ (l : List (List Element)). common (kept_by before standing l) l ≡ standing) (sym ends)
      (ap (λ (kept : List (List Element)). common kept (pieces ++ fresh ∷ [])) (kept_more before standing pieces fresh within) ∙ other)

  abbrev seen_at : (n : ℕ) → (marks : List ℕ) → Gathering
  seen_at n marks = record { pieces = by_marks 0 marks elements; fresh = after_marks 0 marks elements; kept = kept_by before n (by_marks 0 marks elements) }

  pub seen_back : IsBack before standing pieces fresh → seen_at (standing + 1) now ≡ kept_whole (seen_at standing marks)
  seen_back back =
      let kept : kept_by before (standing + 1) (by_marks 0 now elements) ≡ kept_by before standing pieces =
      ap (λ (l : List (List Element)). kept_by before (standing + 1) l) ends ∙ kept_back before standing pieces fresh back in
      λ i. record { pieces = ends i; fresh = none_after i; kept = kept i }

  pub seen_other : standing ≤ length pieces → seen_at standing now ≡ kept_whole (seen_at standing marks)
  seen_other within =
      let kept : kept_by before standing (by_marks 0 now elements) ≡ kept_by before standing pieces =
      ap (λ (l : List (List Element)). kept_by before standing l) ends ∙ kept_more before standing pieces fresh within in
      λ i. record { pieces = ends i; fresh = none_after i; kept = kept i }

-- the same of equal lists
pub back_at : (a b : List (List Element)) (m n : List ℕ) (e f : List Element) (standing : ℕ) → a ≡ b → m ≡ n → e ≡ f → IsBack a standing (by_marks 0 m e) (after_marks 0 m e) → IsBack b standing (by_marks 0 n f) (after_marks 0 n f)
back_at a b m n e f standing first second third is =
    subst (λ (x : List (List Element)). IsBack x standing (by_marks 0 n f) (after_marks 0 n f)) first
    (subst (λ (x : List ℕ). IsBack a standing (by_marks 0 x f) (after_marks 0 x f)) second (subst (λ (x : List Element). IsBack a standing (by_marks 0 m x) (after_marks 0 m x)) third is))

pub other_at : (a b : List (List Element)) (m n : List ℕ) (e f : List Element) (standing : ℕ) → a ≡ b → m ≡ n → e ≡ f → IsOther a standing (by_marks 0 m e) (after_marks 0 m e) → IsOther b standing (by_marks 0 n f) (after_marks 0 n f)
other_at a b m n e f standing first second third is =
    subst (λ (x : List (List Element)). IsOther x standing (by_marks 0 n f) (after_marks 0 n f)) first
    (subst (λ (x : List ℕ). IsOther a standing (by_marks 0 x f) (after_marks 0 x f)) second (subst (λ (x : List Element). IsOther a standing (by_marks 0 m x) (after_marks 0 m x)) third is))

-- so many pieces are left, and those that were kept stand in a list of their own
module _ (marks now : List ℕ) (elements later : List Element) (before aside : List (List Element)) (standing least n : ℕ) (are : AreMarks 0 marks elements) (within : n ≤ length marks) (first : now ≡ take n marks)
    (those : later ≡ take (end_of 0 n marks) elements) (all : aside ≡ kept_by before standing (by_marks 0 marks elements)) (least_is : least ≡ min standing n) where
  abbrev there : List (List Element)
  there = by_marks 0 marks elements

  left : by_marks 0 now later ≡ take n there
  left = ap (λ (m : List ℕ). by_marks 0 m later) first ∙ (ap (λ (l : List Element). by_marks 0 (take n marks) l) those ∙ by_left n marks elements are)

  none_left : after_marks 0 now later ≡ []
  none_left = ap (λ (m : List ℕ). after_marks 0 m later) first ∙ (ap (λ (l : List Element). after_marks 0 (take n marks) l) those ∙ after_left n marks elements are within)

  kept_left : kept_by aside least (by_marks 0 now later) ≡ kept_by before standing there
  kept_left =
      ap (λ (l : List (List Element)). kept_by aside least l) left
      ∙ (ap (λ (l : List (List Element)). kept_by l least (take n there)) all
      ∙ (ap (λ (k : ℕ). kept_by (kept_by before standing there) k (take n there)) least_is ∙ kept_cut before standing there n))

  pub same_left : common (kept_by before standing there) there ≡ standing → common (kept_by aside least (by_marks 0 now later)) (by_marks 0 now later) ≡ least
  same_left same =
      ap (λ (l : List (List Element)). common l (by_marks 0 now later)) kept_left
      ∙ (ap (λ (l : List (List Element)). common (kept_by before standing there) l) left
      ∙ (common_cut (kept_by before standing there) there n ∙ (ap (λ (k : ℕ). min k n) same ∙ sym least_is)))

  pub seen_left : record { pieces = by_marks 0 now later; fresh = after_marks 0 now later; kept = kept_by aside least (by_marks 0 now later) }
      ≡ left_of n (record { pieces = there; fresh = after_marks 0 marks elements; kept = kept_by before standing there })
  seen_left = λ i. record { pieces = left i; fresh = none_left i; kept = kept_left i }
