-- Strings of so many octets, one after another.
use Rattle.std.proofs.Common.{◌≡◌, ℕ, zero, suc, ◌+◌, ◌-◌, ◌*◌, ◌<◌, ◌≤◌, List, [], ◌∷◌, length, take, drop, min, refl, sym, ap, subst, ◌∙◌, arith, length-drop, drop-drop, Bool, true, false, sum_by}
use Rattle.std.specs.List.{list_all}
use Rattle.std.specs.Prelude.{nat_eq, nat_le, if◌then◌else◌}
use Rattle.std.proofs.lemmas.Bool.Decides.{nat_tests}
use Rattle.std.proofs.lemmas.List.{take_all}
use Rattle.std.proofs.lemmas.List.Sums.{sum_by-cons}
use Rattle.std.proofs.Math.ListN.{drop_of_length-le}
use Rattle.vf_initiator.proofs.TaskEntries.{both as both_true}
use Rattle.vf_initiator.specs.Cutting.{strings_after, strings_of}

not_full : (left : ℕ) → nat_eq (suc left) 0 ≡ false
not_full left = grind (arith, nat_tests)

full : (most : ℕ) (octet : ℕ) (octets : List ℕ) → List ℕ × List (List ℕ)
full most octet octets = let rest = strings_after most (most - 1) octets in ([], (octet ∷ rest.0) ∷ rest.1)

joins : (most left octet : ℕ) (octets : List ℕ) → List ℕ × List (List ℕ)
joins most left octet octets = let rest = strings_after most left octets in (octet ∷ rest.0, rest.1)

-- an octet joins the string that has begun
one_more : (most left octet : ℕ) (octets : List ℕ) → strings_after most (suc left) (octet ∷ octets) ≡ joins most left octet octets
unfolding full joins
one_more most left octet octets =
    let less : suc left - 1 ≡ left = omega arith in
    ap (λ b. if b then full most octet octets else joins most (suc left - 1) octet octets) (not_full left) ∙ ap (λ (n : ℕ). joins most n octet octets) less

-- the string that has begun gets what it lacks, and the others come from what is behind that
gets : (most left : ℕ) (octets : List ℕ) → (strings_after most left octets).0 ≡ take left octets
unfolding joins
gets most zero [] = refl
gets most (suc left) [] = refl
gets most zero (octet ∷ octets) = refl
gets most (suc left) (octet ∷ octets) = ap (λ (p : List ℕ × List (List ℕ)). p.0) (one_more most left octet octets) ∙ ap (λ (l : List ℕ). octet ∷ l) (gets most left octets)

leaves : (most left : ℕ) (octets : List ℕ) → (strings_after most left octets).1 ≡ strings_of most (drop left octets)
unfolding joins
leaves most zero octets = refl
leaves most (suc left) [] = refl
leaves most (suc left) (octet ∷ octets) = ap (λ (p : List ℕ × List (List ℕ)). p.1) (one_more most left octet octets) ∙ leaves most left octets

both : {line line' : List ℕ} {later later' : List (List ℕ)} → line ≡ line' → later ≡ later' → line ∷ later ≡ line' ∷ later'
both {line' = line'} {later = later} same rest = ap (λ l. l ∷ later) same ∙ ap (λ l. line' ∷ l) rest

first_whole : (left : ℕ) (octets : List ℕ) → 0 < length octets → strings_of (suc left) octets ≡ take (suc left) octets ∷ strings_of (suc left) (drop (suc left) octets)
first_whole left [] some = absurd (omega (arith, some))
first_whole left (octet ∷ octets) some =
    let less : suc left - 1 ≡ left = omega arith in
    both (ap (λ (l : List ℕ). octet ∷ l) (ap (λ (n : ℕ). (strings_after (suc left) n octets).0) less ∙ gets (suc left) left octets))
    (ap (λ (n : ℕ). (strings_after (suc left) n octets).1) less ∙ leaves (suc left) left octets)

by_length : (octets : List ℕ) (count : ℕ) → count ≡ min 4096 (length octets) → take 4096 octets ≡ take count octets
by_length octets count is = same (nat_le 4096 (length octets)) refl where
  same : (b : Bool) → nat_le 4096 (length octets) ≡ b → take 4096 octets ≡ take count octets
  same true enough = let e : 4096 ≡ count = grind (arith, nat_tests) in ap (λ (n : ℕ). take n octets) e
  same false few =
      let short : length octets ≤ 4096 = grind (arith, nat_tests) in
      let all : length octets ≤ count = grind (arith, nat_tests) in
      take_all 4096 octets short ∙ sym (take_all count octets all)

behind : (octets : List ℕ) (count : ℕ) → count ≡ min 4096 (length octets) → drop 4096 octets ≡ drop count octets
behind octets count is = same (nat_le 4096 (length octets)) refl where
  same : (b : Bool) → nat_le 4096 (length octets) ≡ b → drop 4096 octets ≡ drop count octets
  same true enough = let e : 4096 ≡ count = grind (arith, nat_tests) in ap (λ (n : ℕ). drop n octets) e
  same false few =
      let short : length octets ≤ 4096 = grind (arith, nat_tests) in
      let all : length octets ≤ count = grind (arith, nat_tests) in
      drop_of_length-le octets short ∙ sym (drop_of_length-le octets all)

-- the string from a place on, which is shorter at the end
pub next_string : (input : List ℕ) (start count : ℕ) → start < length input → count ≡ min 4096 (length input - start)
    → strings_of 4096 (drop start input) ≡ take count (drop start input) ∷ strings_of 4096 (drop (start + count) input)
next_string input start count there is =
    let all = length-drop start input in
    let rest : strings_of 4096 (drop start input) ≡ take 4096 (drop start input) ∷ strings_of 4096 (drop 4096 (drop start input)) = first_whole 4095 (drop start input) (omega (arith, all, there)) in
    rest ∙ both (by_length (drop start input) count (is ∙ ap (min 4096) (sym all)))
    (ap (strings_of 4096) (behind (drop start input) count (is ∙ ap (min 4096) (sym all)) ∙ drop-drop count start input))

-- ---- the strings of an input: none is longer than it may be, all octets stand in them, and all but the last one are full

pub record AreCut (left all : ℕ) (strings : List ℕ × List (List ℕ)) : Type 0 where
  pub begun : length strings.0 ≤ left
  pub short : list_all (λ (s : List ℕ). nat_le (length s) 4096) strings.1 ≡ true
  pub octets : length strings.0 + sum_by length strings.1 ≡ all
  pub few : 4096 * length strings.1 ≤ all + 4095 - left

at_most : (n : ℕ) → n ≤ 4096 → nat_le n 4096 ≡ true
at_most n few = grind (arith, nat_tests)

are_cut : (left : ℕ) (octets : List ℕ) → left ≤ 4096 → AreCut left (length octets) (strings_after 4096 left octets)
unfolding joins
are_cut left [] within = record { begun = omega arith; short = refl; octets = refl; few = omega arith }
are_cut zero (octet ∷ octets) within =
    let rest = strings_after 4096 4095 octets in
    let later = are_cut 4095 octets (omega arith) in
    record {
      begun = omega arith;
      short = both_true (nat_le (length (octet ∷ rest.0)) 4096) (list_all (λ (s : List ℕ). nat_le (length s) 4096) rest.1) (at_most (length (octet ∷ rest.0)) (omega (arith, later.begun))) later.short;
      octets = omega (arith, later.octets, sum_by-cons length (octet ∷ rest.0) rest.1);
      few = omega (arith, later.few);
    }
are_cut (suc left) (octet ∷ octets) within =
    let later = are_cut left octets (omega (arith, within)) in
    subst (AreCut (suc left) (length (octet ∷ octets))) (sym (one_more 4096 left octet octets))
    (record {
      begun = omega (arith, later.begun);
      short = later.short;
      octets = omega (arith, later.octets);
      few = omega (arith, later.few);
    })

pub record AreAll (all : ℕ) (strings : List (List ℕ)) : Type 0 where
  pub short : list_all (λ (s : List ℕ). nat_le (length s) 4096) strings ≡ true
  pub octets : sum_by length strings ≡ all
  pub few : 4096 * length strings ≤ all + 4095

pub all_cut : (input : List ℕ) → AreAll (length input) (strings_of 4096 input)
all_cut input =
    let cut = are_cut 0 input (omega arith) in
    record { short = cut.short; octets = omega (arith, cut.begun, cut.octets); few = omega (arith, cut.few) }
