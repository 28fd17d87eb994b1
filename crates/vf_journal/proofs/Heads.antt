-- What the octets before the areas say of an image.
use Rattle.std.proofs.Common.{◌≡◌, ◌≢◌, ◌==◌, ◌||◌, ◌⊎◌, inl, inr, ℕ, zero, suc, ◌+◌, ◌<◌, ◌≤◌, min, Bool, true, false, not, if◌then◌else◌, nat_le, nat_lt, List, [], ◌∷◌, ◌++◌, length, get_or, take, drop, Option, None, Some, Err, refl, sym, ◌∙◌, ap, subst, arith}
use Rattle.std.proofs.lemmas.Bool.Decides.{nat_tests}
use Rattle.std.proofs.lemmas.List.{drop_all, drop_more, get_or-take, length-take, take-take, take_at, take_min}
use Rattle.std.specs.Prelude.{option_map}
use Rattle.vf_journal.specs.declared.error.JournalError.{JournalError}
use Rattle.vf_journal.specs.declared.error.JournalError.TheVariants.{NotAStore, Full, DiskFault, NoMemory}
use Rattle.vf_journal.specs.declared.head.Head.{Head}
use Rattle.vf_journal.specs.Answers.{HeadAnswers, HeadCauses, is_fault, not_a_store}
use Rattle.vf_journal.specs.Image.{Refusal, difference, misplaced, or_else, refusal}
use Rattle.vf_journal.specs.Layout.{anchor, anchor_place, first_start, header, part, place_named, selector_place, selects_second, selected_start}
use Rattle.vf_journal.specs.Reading.{BeginsWith}
use Rattle.vf_journal.proofs.Held.{placed_right}
use Rattle.vf_journal.proofs.Images.{anchor_low}
use Rattle.vf_journal.proofs.Numbers.{place_named-take}
use Rattle.vf_journal.proofs.Parts.{part_before}

-- where no call is made none fails
pub not_fault : (error : JournalError) → ((faults : ℕ) → HeadCauses {T = Unit {0}} faults faults (Err error)) → is_fault {T = Unit {0}} (Err error) ≡ false
not_fault (NotAStore place found expected) causes = refl
not_fault (Full end limit) causes = absurd (causes 0)
not_fault DiskFault causes = let risen = causes 0 in absurd (omega (arith, risen))
not_fault NoMemory causes = absurd (causes 0)

head_made : Bool → ℕ → ℕ → Head
head_made second start count = record { second = second; start = start; length = count }

pub head_same : (second second' : Bool) (start start' count count' : ℕ) → second ≡ second' → start ≡ start' → count ≡ count'
    → (let head : Head = record { second = second; start = start; length = count } in head) ≡ record { second = second'; start = start'; length = count' }
unfolding head_made
head_same second second' start start' count count' p q r =
    ap (λ (b : Bool). head_made b start count) p ∙ ap (λ (n : ℕ). head_made second' n count) q ∙ ap (λ (n : ℕ). head_made second' start' n) r

-- what is refused for its anchor
at_anchor : ℕ → Option Refusal
at_anchor place = Some (record { place = place; found = None; expected = 0 })

-- octets that were read into a prefix, as the prefix of an image
pub prefix_begins : (image into rest : List ℕ) (n count : ℕ) → into ≡ take n image → length into ≡ count → take count (into ++ rest) ≡ take (length (take count (into ++ rest))) image
prefix_begins image into rest n count is size =
    let whole : take count (into ++ rest) ≡ into = take_at into rest count size in
    let long : length (take count (into ++ rest)) ≡ min n (length image) = ap length (whole ∙ is) ∙ length-take n image in
    whole ∙ is ∙ sym (take_min n image) ∙ ap (λ (k : ℕ). take k image) (sym long)

-- octets differ from those wanted as a prefix of them does that is long enough
pub difference_prefix : (wanted octets : List ℕ) (place count : ℕ) → length wanted ≤ count → difference place wanted (take count octets) ≡ difference place wanted octets
difference_prefix [] octets place count le = refl
difference_prefix (expected ∷ wanted) octets place zero le = absurd (omega arith)
difference_prefix (expected ∷ wanted) [] place (suc count) le = refl
difference_prefix (expected ∷ wanted) (found ∷ octets) place (suc count) le =
    ap (λ (other : Option Refusal). if found == expected then other else Some (record { place = place; found = Some found; expected = expected }))
    (difference_prefix wanted octets (place + 1) count (omega arith))

-- the octets end, differ, or agree at a place
module _ (wanted octets : List ℕ) (place : ℕ) (less : place < length wanted) where
  pub ends_at : length octets ≤ place → difference place (drop place wanted) (drop place octets) ≡ Some (record { place = place; found = None; expected = get_or wanted place 0 })
  ends_at ends =
      ap (λ (l : List ℕ). difference place l (drop place octets)) (drop_more wanted place 0 less)
      ∙ ap (λ (l : List ℕ). difference place (get_or wanted place 0 ∷ drop (place + 1) wanted) l) (drop_all place octets ends)

  both : place < length octets → difference place (drop place wanted) (drop place octets)
      ≡ (if get_or octets place 0 == get_or wanted place 0 then difference (place + 1) (drop (place + 1) wanted) (drop (place + 1) octets) else Some (record { place = place; found = Some (get_or octets place 0); expected = get_or wanted place 0 }))
  both within =
      ap (λ (l : List ℕ). difference place l (drop place octets)) (drop_more wanted place 0 less)
      ∙ ap (λ (l : List ℕ). difference place (get_or wanted place 0 ∷ drop (place + 1) wanted) l) (drop_more octets place 0 within)

  pub differs_at : place < length octets → get_or octets place 0 ≢ get_or wanted place 0
      → difference place (drop place wanted) (drop place octets) ≡ Some (record { place = place; found = Some (get_or octets place 0); expected = get_or wanted place 0 })
  differs_at within other =
      let test : (get_or octets place 0 == get_or wanted place 0) ≡ false = grind (arith, nat_tests) in
      both within ∙ rw test refl

  pub agrees_at : place < length octets → get_or octets place 0 ≡ get_or wanted place 0
      → difference place (drop place wanted) (drop place octets) ≡ difference (place + 1) (drop (place + 1) wanted) (drop (place + 1) octets)
  agrees_at within same =
      let test : (get_or octets place 0 == get_or wanted place 0) ≡ true = grind (arith, nat_tests) in
      both within ∙ rw test refl

module _ (image : List ℕ) (error : JournalError) where
  refused_by : (found : Option Refusal) → difference 0 header image ≡ found → Some error ≡ option_map not_a_store found → HeadAnswers image (Err error)
  unfolding refusal
  refused_by None same none = cc
  refused_by (Some refused) same some =
      let told : error ≡ not_a_store refused = cc in
      subst (λ (e : JournalError). HeadAnswers image (Err e)) (sym told) (ap (λ (r : Option Refusal). or_else r (misplaced image)) same)

module _ (octets : List ℕ) (count : ℕ) (image : List ℕ) (size : length octets ≡ min first_start count) (begins : BeginsWith octets count image) where
  pub prefix_is : octets ≡ take first_start image
  prefix_is = begins.0 ∙ ap (λ (n : ℕ). take n image) (size ∙ ap (λ (n : ℕ). min first_start n) (sym begins.1)) ∙ take_min first_start image

  same_difference : difference 0 header octets ≡ difference 0 header image
  same_difference = ap (λ (l : List ℕ). difference 0 header l) prefix_is ∙ difference_prefix header image 0 first_start (omega arith)

  -- the octets differ from the header
  pub head_refused : (error : JournalError) → Some error ≡ option_map not_a_store (difference 0 header octets) → HeadAnswers image (Err error)
  head_refused error is = refused_by image error (difference 0 header octets) (sym same_difference) is

  module _ (agree : None ≡ option_map not_a_store (difference 0 header octets)) where
    no_difference : difference 0 header image ≡ None
    no_difference = sym same_difference ∙ by (difference 0 header octets) agree
      where
        by : (found : Option Refusal) → None ≡ option_map not_a_store found → found ≡ None
        by None is = refl
        by (Some refused) is = cc

    placed_as : refusal image ≡ misplaced image
    unfolding refusal
    placed_as = ap (λ (r : Option Refusal). or_else r (misplaced image)) no_difference

    -- there are too few octets
    pub head_short : count ≤ first_start → refusal image ≡ Some (record { place = count; found = None; expected = 0 })
    head_short short =
        let few : nat_le (length image) first_start ≡ true = let is = begins.1 in grind (arith, nat_tests) in
        placed_as ∙ rw (few, begins.1) refl

    module _ (long : first_start < count) where
      pub head_selects : not (get_or octets selector_place 0 == 0) ≡ selects_second image
      head_selects = ap (λ (n : ℕ). not (n == 0)) (ap (λ (l : List ℕ). get_or l selector_place 0) prefix_is ∙ get_or-take first_start image selector_place 0 (omega arith))

      pub head_starts : (second : Bool) → place_named (drop (anchor_place second) octets) ≡ anchor image second
      head_starts second =
          sym (place_named-take (drop (anchor_place second) octets))
          ∙ ap (λ (l : List ℕ). place_named (part l (anchor_place second) 8)) prefix_is
          ∙ ap place_named (part_before first_start (anchor_place second) 8 image (take first_start image) (take-take first_start first_start image (omega arith)) (anchor_low second))

      -- the selected anchor names a place before the areas, or after the end
      pub head_misplaced : (place : ℕ) → place ≡ anchor_place (selects_second image) → (selected_start image < first_start) ⊎ (count ≤ selected_start image) → refusal image ≡ Some (record { place = place; found = None; expected = 0 })
      unfolding at_anchor
      head_misplaced place at outside =
          let enough : nat_le (length image) first_start ≡ false = let is = begins.1 in grind (arith, nat_tests) in
          let wrong : (nat_lt (selected_start image) first_start || nat_le (length image) (selected_start image)) ≡ true = outside_is outside in
          placed_as ∙ rw (enough, wrong) (ap at_anchor (sym at))
        where
          or_right : (b : Bool) → (b || true) ≡ true
          or_right true = refl
          or_right false = refl

          outside_is : (selected_start image < first_start) ⊎ (count ≤ selected_start image) → (nat_lt (selected_start image) first_start || nat_le (length image) (selected_start image)) ≡ true
          outside_is (inl low) = let test : nat_lt (selected_start image) first_start ≡ true = grind (arith, nat_tests) in rw test refl
          outside_is (inr high) = let is = begins.1 in let test : nat_le (length image) (selected_start image) ≡ true = grind (arith, nat_tests) in rw test (or_right (nat_lt (selected_start image) first_start))

      pub head_right : first_start ≤ selected_start image → selected_start image < count → refusal image ≡ None
      head_right high within = placed_as ∙ placed_right image (omega (arith, begins.1)) high (omega (arith, begins.1))
