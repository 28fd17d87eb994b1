-- The elements of an input that passes no limit are within a file.
use Rattle.std.specs.Prelude.{if◌then◌else◌}
use Rattle.std.proofs.Common.{◌≡◌, ℕ, ◌+◌, ◌<◌, ◌≤◌, Bool, true, false, ◌&&◌, nat_eq, nat_le, nat_lt, List, [], ◌∷◌, ◌++◌, length, map, Option, Some, None, refl, sym, ap, subst, ◌∙◌, arith, length-append, sum_by}
use Rattle.std.specs.List.{flat_map, list_all}
use Rattle.std.proofs.lemmas.Bool.Decides.{nat_tests}
use Rattle.std.proofs.lemmas.List.{length-map}
use Rattle.std.proofs.lemmas.List.Concat.{flat_map_single}
use Rattle.std.proofs.lemmas.List.Folds.{list_all-append, list_all-map}
use Rattle.std.proofs.lemmas.List.Sums.{sum_by-append, sum_by-cons}
use Rattle.vf_base.specs.declared.element.Element.{Element}
use Rattle.vf_initiator.proofs.Gathers.{is_within as within_file}
use Rattle.vf_initiator.proofs.TaskEntries.{both, first_of, second_of}
use Rattle.vf_initiator.specs.Cutting.{binary_of, elements_a_line, elements_by, fault_of, fault_of_lines, is_too_long, lines, record_of, strings_of, text_of}
use Rattle.vf_initiator.specs.Keepable.{is_element, is_within_file}
use Rattle.vf_tables.specs.Fitting.{is_within}
use Rattle.vf_tree.specs.FileTree.{octets_of, octets_of_unit}
use Rattle.vf_tree.specs.declared.limits.TheConstants.{MOST_FILE_OCTETS, MOST_FILE_PARTS}
use Rattle.vf_transact.proofs.Prefixes.{and_left, chain_none}
use Rattle.vf_transact.proofs.Strings.{all_cut}

at_most : (n most : ℕ) → n ≤ most → nat_le n most ≡ true
at_most n most few = grind (arith, nat_tests)

-- ---- text and records, line by line

-- what a line gives has its octets, and so many elements
pub record Gives (each : ℕ) (line : List ℕ) (elements : List Element) : Type 0 where
  pub good : length line ≤ 65536 → list_all is_element elements ≡ true
  pub octets : octets_of_unit elements ≡ length line
  pub parts : length elements ≡ each

text_gives : (line : List ℕ) → Gives 1 line (text_of line ∷ [])
text_gives line = record {
  good = λ short. both (nat_le (length line) 65536) true (at_most (length line) 65536 short) refl;
  octets = omega (arith, sum_by-cons octets_of (text_of line) []);
  parts = refl;
}

record_gives : (line : List ℕ) → Gives 2 line (record_of line)
record_gives line = record {
  good = λ short. both (nat_le (length line) 65536) true (at_most (length line) 65536 short) refl;
  octets = omega (arith, sum_by-cons octets_of (text_of line) []);
  parts = refl;
}

-- after so many octets and elements, all are within a file
pub record AreFew (octets elements : ℕ) (made : List Element) : Type 0 where
  pub good : list_all is_element made ≡ true
  pub octets_few : octets + octets_of_unit made ≤ 16777216
  pub parts_few : elements + length made ≤ 262144

is_short : (octets count : ℕ) (b : Bool) → nat_le (octets + 65536) 16777216 ≡ b → (nat_lt 65536 count && nat_le (octets + 65536) 16777216) ≡ false → octets + count ≤ 16777216 → count ≤ 65536
is_short octets count true room short few = let within : nat_lt 65536 count ≡ false = and_left (nat_lt 65536 count) (nat_le (octets + 65536) 16777216) room short in grind (arith, nat_tests)
is_short octets count false none short few = let over : 16777216 < octets + 65536 = grind (arith, nat_tests) in omega (arith, over, few)

module _ (kind : ℕ) (f : List ℕ → List Element) (gives : (line : List ℕ) → Gives (elements_a_line kind) line (f line)) where
  all_few : (octets elements : ℕ) (ls : List (List ℕ)) → octets ≤ 16777216 → elements ≤ 262144 → fault_of_lines kind octets elements ls ≡ None → AreFew octets elements (flat_map f ls)
  all_few octets elements [] few least is = record { good = refl; octets_few = omega (arith, few); parts_few = omega (arith, least) }
  all_few octets elements (line ∷ ls) few least is =
      let tests = chain_none (nat_lt MOST_FILE_PARTS (elements + elements_a_line kind)) (is_too_long octets line) (nat_lt MOST_FILE_OCTETS (octets + length line)) (fault_of_lines kind (octets + length line) (elements + elements_a_line kind) ls) is in
      let parts : elements + elements_a_line kind ≤ 262144 = grind (arith, nat_tests, tests.0) in
      let room : octets + length line ≤ 16777216 = grind (arith, nat_tests, tests.2) in
      let short = is_short octets (length line) (nat_le (octets + 65536) 16777216) refl tests.1 room in
      let one = gives line in
      let later = all_few (octets + length line) (elements + elements_a_line kind) ls room parts tests.3 in
      let octets_are : octets_of_unit (f line ++ flat_map f ls) ≡ octets_of_unit (f line) + octets_of_unit (flat_map f ls) = sum_by-append octets_of (f line) (flat_map f ls) in
      record {
        good = list_all-append is_element (f line) (flat_map f ls) ∙ both (list_all is_element (f line)) (list_all is_element (flat_map f ls)) (one.good short) later.good;
        octets_few = omega (arith, octets_are, one.octets, later.octets_few);
        parts_few = omega (arith, length-append (f line) (flat_map f ls), one.parts, later.parts_few);
      }

within_of : (made : List Element) → AreFew 0 0 made → is_within_file made ≡ true
within_of made few = within_file made (record { each = few.good; octets = omega (arith, few.octets_few); parts = omega (arith, few.parts_few) })

text_within : (input : List ℕ) → fault_of 1 input ≡ None → is_within_file (elements_by 1 input) ≡ true
text_within input none =
    subst (λ (made : List Element). is_within_file made ≡ true) (flat_map_single text_of (lines input))
    (within_of (flat_map (λ (line : List ℕ). text_of line ∷ []) (lines input)) (all_few 1 (λ (line : List ℕ). text_of line ∷ []) text_gives 0 0 (lines input) (omega arith) (omega arith) none))

records_within : (input : List ℕ) → fault_of 2 input ≡ None → is_within_file (elements_by 2 input) ≡ true
records_within input none = within_of (flat_map record_of (lines input)) (all_few 2 record_of record_gives 0 0 (lines input) (omega arith) (omega arith) none)

-- ---- binary contents

weaker : {A : Type 0} (p q : A → Bool) → ((x : A) → p x ≡ true → q x ≡ true) → (xs : List A) → list_all p xs ≡ true → list_all q xs ≡ true
weaker p q gives [] all = refl
weaker p q gives (x ∷ xs) all = both (q x) (list_all q xs) (gives x (first_of (p x) (list_all p xs) all)) (weaker p q gives xs (second_of (p x) (list_all p xs) all))

shorter : (n : ℕ) → nat_le n 4096 ≡ true → nat_le n 65536 ≡ true
shorter n few = grind (arith, nat_tests)

octets_kept : (ss : List (List ℕ)) → octets_of_unit (map binary_of ss) ≡ sum_by length ss
octets_kept [] = refl
octets_kept (s ∷ ss) = sum_by-cons octets_of (binary_of s) (map binary_of ss) ∙ ap (λ (n : ℕ). length s + n) (octets_kept ss) ∙ sym (sum_by-cons length s ss)

none_full : (count : ℕ) (b : Bool) → nat_lt 16777216 count ≡ b → (let full : Option ℕ = if b then Some 23 else None in full) ≡ None → count ≤ 16777216
none_full count true large none = absurd cc
none_full count false few none = grind (arith, nat_tests)

strings_within : (input : List ℕ) → fault_of 3 input ≡ None → is_within_file (elements_by 3 input) ≡ true
strings_within input none =
    let few = none_full (length input) (nat_lt 16777216 (length input)) refl none in
    let all = all_cut input in
    let ss = strings_of 4096 input in
    within_file (map binary_of ss) (record {
      each = list_all-map is_element binary_of ss ∙ weaker (λ (s : List ℕ). nat_le (length s) 4096) (λ (s : List ℕ). is_element (binary_of s)) (λ s is. shorter (length s) is) ss all.short;
      octets = omega (arith, octets_kept ss, all.octets, few);
      parts = omega (arith, length-map ss binary_of, all.few, few);
    })

-- ---- of each kind

module _ (P : ℕ → Type 0) (one : P 1) (two : P 2) (three : P 3) where
  by_tests : (kind : ℕ) (b1 b2 : Bool) → nat_eq kind 1 ≡ b1 → nat_eq kind 2 ≡ b2 → nat_le 1 kind ≡ true → nat_le kind 3 ≡ true → P kind
  by_tests kind true b2 first second least most = let e : 1 ≡ kind = grind (arith, nat_tests) in subst P e one
  by_tests kind false true first second least most = let e : 2 ≡ kind = grind (arith, nat_tests) in subst P e two
  by_tests kind false false first second least most = let e : 3 ≡ kind = grind (arith, nat_tests) in subst P e three

  by_kind : (kind : ℕ) → is_within 1 3 kind ≡ true → P kind
  by_kind kind within = by_tests kind (nat_eq kind 1) (nat_eq kind 2) refl refl (first_of (nat_le 1 kind) (nat_le kind 3) within) (second_of (nat_le 1 kind) (nat_le kind 3) within)

-- an input that passes no limit
pub elements_within : (kind : ℕ) (input : List ℕ) → is_within 1 3 kind ≡ true → fault_of kind input ≡ None → is_within_file (elements_by kind input) ≡ true
elements_within kind input within =
    by_kind (λ (k : ℕ). fault_of k input ≡ None → is_within_file (elements_by k input) ≡ true) (text_within input) (records_within input) (strings_within input) kind within
