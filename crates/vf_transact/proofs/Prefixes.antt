-- An input passes the limit that its first octets pass, whatever follows them.
use Rattle.std.specs.Prelude.{if◌then◌else◌, ◌&&◌, nat_le, nat_lt}
use Rattle.std.proofs.Common.{◌≡◌, ℕ, ◌+◌, ◌<◌, ◌≤◌, Bool, true, false, List, [], ◌∷◌, ◌++◌, length, Option, Some, None, refl, sym, ap, subst, ◌∙◌, arith, nat_eq, length-append, sum_by}
use Rattle.std.proofs.lemmas.List.Sums.{sum_by-cons}
use Rattle.std.proofs.lemmas.Bool.Decides.{nat_tests}
use Rattle.std.proofs.lemmas.Bool.{false≢true}
use Rattle.std.proofs.lemmas.Option.{none-some}
use Rattle.vf_initiator.specs.Cutting.{elements_a_line, fault_of, fault_of_lines, is_too_long, lines, with_octet}
use Rattle.vf_tree.specs.declared.limits.TheConstants.{MOST_FILE_OCTETS, MOST_FILE_PARTS}

-- ---- lines of octets that go on: all but the last one stay, and that goes on

-- the last of these lines goes on with octets more, and others follow
abbrev pub Goes : List (List ℕ) → List (List ℕ) → Type 0
Goes [] longer = Unit {0}
Goes (line ∷ []) longer = (more : List ℕ) × (later : List (List ℕ)) × (longer ≡ (line ++ more) ∷ later)
Goes (line ∷ next ∷ lines) longer = (later : List (List ℕ)) × (longer ≡ line ∷ later) × Goes (next ∷ lines) later

with_goes : (octet : ℕ) (short long : List (List ℕ)) → Goes short long → Goes (with_octet octet short) (with_octet octet long)
with_goes octet [] [] goes = ([], [], refl)
with_goes octet [] (line ∷ lines) goes = (line, lines, refl)
with_goes octet (line ∷ []) long goes = (goes.0, goes.1, ap (with_octet octet) goes.2)
with_goes octet (line ∷ next ∷ lines) long goes = (goes.0, ap (with_octet octet) goes.1, goes.2)

fed_goes : (short long : List (List ℕ)) → Goes short long → Goes ([] ∷ short) ([] ∷ long)
fed_goes [] long goes = ([], long, refl)
fed_goes (line ∷ lines) long goes = (long, refl, goes)

pub lines_go : (octets more : List ℕ) → Goes (lines octets) (lines (octets ++ more))
lines_go [] more = tt
lines_go (octet ∷ octets) more = by_octet (nat_eq octet 10) (lines_go octets more) where
  by_octet : (b : Bool) → Goes (lines octets) (lines (octets ++ more))
      → Goes (if b then [] ∷ lines octets else with_octet octet (lines octets)) (if b then [] ∷ lines (octets ++ more) else with_octet octet (lines (octets ++ more)))
  by_octet true goes = fed_goes (lines octets) (lines (octets ++ more)) goes
  by_octet false goes = with_goes octet (lines octets) (lines (octets ++ more)) goes

-- ---- and the limit that they pass

abbrev chain : (b1 b2 b3 : Bool) → Option ℕ → Option ℕ
chain b1 b2 b3 rest = if b1 then Some 23 else if b2 then Some 22 else if b3 then Some 23 else rest

stay_later : (b1 b2 b3 : Bool) (rest rest' : Option ℕ) (n : ℕ) → (rest ≡ Some n → rest' ≡ Some n) → chain b1 b2 b3 rest ≡ Some n → chain b1 b2 b3 rest' ≡ Some n
stay_later true b2 b3 rest rest' n later is = is
stay_later false true b3 rest rest' n later is = is
stay_later false false true rest rest' n later is = is
stay_later false false false rest rest' n later is = later is

stay_last : (b1 b2 b3 b2' b3' : Bool) (rest' : Option ℕ) (n : ℕ) → (b2 ≡ true → b2' ≡ true) → (b2 ≡ false → b3 ≡ true → (b2' ≡ false) × (b3' ≡ true)) → chain b1 b2 b3 None ≡ Some n → chain b1 b2' b3' rest' ≡ Some n
stay_last true b2 b3 b2' b3' rest' n long large is = is
stay_last false true b3 b2' b3' rest' n long large is = ap (λ b. chain false b b3' rest') (long refl) ∙ is
stay_last false false true b2' b3' rest' n long large is = let both = large refl refl in ap (λ b. chain false b b3' rest') both.0 ∙ ap (λ b. chain false false b rest') both.1 ∙ is
stay_last false false false b2' b3' rest' n long large is = absurd (none-some n is)

and_first : (a b : Bool) → (a && b) ≡ true → a ≡ true
and_first true b is = refl
and_first false b is = is

and_second : (a b : Bool) → (a && b) ≡ true → b ≡ true
and_second true b is = is
and_second false b is = absurd (false≢true is)

and_both : (a b : Bool) → a ≡ true → b ≡ true → (a && b) ≡ true
and_both true b first second = second
and_both false b first second = first

and_none : (a b : Bool) → b ≡ false → (a && b) ≡ false
and_none true b is = is
and_none false b is = refl

pub and_left : (a b : Bool) → b ≡ true → (a && b) ≡ false → a ≡ false
and_left true b is none = sym is ∙ none
and_left false b is none = refl

module _ (octets count more : ℕ) where
  abbrev long_by : (n : ℕ) → Bool
  long_by n = nat_lt 65536 n && nat_le (octets + 65536) 16777216

  stays_long : long_by count ≡ true → long_by (count + more) ≡ true
  stays_long is =
      let above : nat_lt 65536 count ≡ true = and_first (nat_lt 65536 count) (nat_le (octets + 65536) 16777216) is in
      let more_above : nat_lt 65536 (count + more) ≡ true = grind (arith, nat_tests) in
      and_both (nat_lt 65536 (count + more)) (nat_le (octets + 65536) 16777216) more_above (and_second (nat_lt 65536 count) (nat_le (octets + 65536) 16777216) is)

  by_room : (b : Bool) → nat_le (octets + 65536) 16777216 ≡ b → long_by count ≡ false → nat_lt 16777216 (octets + count) ≡ true → long_by (count + more) ≡ false
  by_room true room short large =
      let within : nat_lt 65536 count ≡ false = and_left (nat_lt 65536 count) (nat_le (octets + 65536) 16777216) room short in
      let few : count ≤ 65536 = grind (arith, nat_tests) in
      let fits : octets + 65536 ≤ 16777216 = grind (arith, nat_tests) in
      let over : 16777216 < octets + count = grind (arith, nat_tests) in
      absurd (omega (arith, few, fits, over))
  by_room false none short large = and_none (nat_lt 65536 (count + more)) (nat_le (octets + 65536) 16777216) none

  stays_large : long_by count ≡ false → nat_lt 16777216 (octets + count) ≡ true → (long_by (count + more) ≡ false) × (nat_lt 16777216 (octets + (count + more)) ≡ true)
  stays_large short large = (by_room (nat_le (octets + 65536) 16777216) refl short large, grind (arith, nat_tests))

-- Lines that go on pass the limit that was passed.
pub faults_stay : (kind octets elements : ℕ) (short long : List (List ℕ)) (n : ℕ) → Goes short long → fault_of_lines kind octets elements short ≡ Some n → fault_of_lines kind octets elements long ≡ Some n
faults_stay kind octets elements [] long n goes is = absurd (none-some n is)
faults_stay kind octets elements (line ∷ []) long n goes is =
    let more = length goes.0 in
    let count : length (line ++ goes.0) ≡ length line + more = length-append line goes.0 in
    subst (λ (l : List (List ℕ)). fault_of_lines kind octets elements l ≡ Some n) (sym goes.2)
    (stay_last (nat_lt MOST_FILE_PARTS (elements + elements_a_line kind)) (is_too_long octets line) (nat_lt MOST_FILE_OCTETS (octets + length line)) (is_too_long octets (line ++ goes.0)) (nat_lt MOST_FILE_OCTETS (octets + length (line ++ goes.0)))
    (fault_of_lines kind (octets + length (line ++ goes.0)) (elements + elements_a_line kind) goes.1) n
    (λ long. subst (λ (m : ℕ). long_by octets 0 0 m ≡ true) (sym count) (stays_long octets (length line) more long))
    (λ short large. subst (λ (m : ℕ). (long_by octets 0 0 m ≡ false) × (nat_lt 16777216 (octets + m) ≡ true)) (sym count) (stays_large octets (length line) more short large))
    is)
faults_stay kind octets elements (line ∷ next ∷ lines) long n goes is =
    subst (λ (l : List (List ℕ)). fault_of_lines kind octets elements l ≡ Some n) (sym goes.1)
    (stay_later (nat_lt MOST_FILE_PARTS (elements + elements_a_line kind)) (is_too_long octets line) (nat_lt MOST_FILE_OCTETS (octets + length line))
    (fault_of_lines kind (octets + length line) (elements + elements_a_line kind) (next ∷ lines)) (fault_of_lines kind (octets + length line) (elements + elements_a_line kind) goes.0) n
    (λ later. faults_stay kind (octets + length line) (elements + elements_a_line kind) (next ∷ lines) goes.0 n goes.2 later) is)

if_full : (count more n : ℕ) (b : Bool) → nat_lt 16777216 count ≡ b → (if b then Some 23 else None) ≡ Some n → (if nat_lt 16777216 (count + more) then Some 23 else None) ≡ Some n
if_full count more n true large is = let larger : nat_lt 16777216 (count + more) ≡ true = grind (arith, nat_tests) in ap (λ b. if b then Some 23 else None) larger ∙ is
if_full count more n false large is = absurd (none-some n is)

-- an input passes the limit that a front of it passes
pub fault_stays : (kind : ℕ) (octets more : List ℕ) (n : ℕ) → fault_of kind octets ≡ Some n → fault_of kind (octets ++ more) ≡ Some n
fault_stays kind octets more n is = by_kind (nat_eq kind 3) is where
  by_kind : (b : Bool) → (if b then (if nat_lt MOST_FILE_OCTETS (length octets) then Some 23 else None) else fault_of_lines kind 0 0 (lines octets)) ≡ Some n
      → (if b then (if nat_lt MOST_FILE_OCTETS (length (octets ++ more)) then Some 23 else None) else fault_of_lines kind 0 0 (lines (octets ++ more))) ≡ Some n
  by_kind true is =
      subst (λ (m : ℕ). (if nat_lt 16777216 m then Some 23 else None) ≡ Some n) (sym (length-append octets more)) (if_full (length octets) (length more) n (nat_lt 16777216 (length octets)) refl is)
  by_kind false is = faults_stay kind 0 0 (lines octets) (lines (octets ++ more)) n (lines_go octets more) is

-- ---- no input within the limits is longer than all strings of a file and a line feed for each of its elements
-- no test passed
pub chain_none : (b1 b2 b3 : Bool) (rest : Option ℕ) → chain b1 b2 b3 rest ≡ None → (b1 ≡ false) × (b2 ≡ false) × (b3 ≡ false) × (rest ≡ None)
chain_none true b2 b3 rest is = absurd (none-some 23 (sym is))
chain_none false true b3 rest is = absurd (none-some 22 (sym is))
chain_none false false true rest is = absurd (none-some 23 (sym is))
chain_none false false false rest is = (refl, refl, refl, is)

each_one : (kind : ℕ) (b : Bool) → nat_eq kind 2 ≡ b → 1 ≤ elements_a_line kind
each_one kind true is = let two : elements_a_line kind ≡ 2 = ap (λ b. if b then 2 else 1) is in omega (arith, two)
each_one kind false is = let one : elements_a_line kind ≡ 1 = ap (λ b. if b then 2 else 1) is in omega (arith, one)

all_within : (kind octets elements : ℕ) (ls : List (List ℕ)) → octets ≤ 16777216 → elements ≤ 262144 → fault_of_lines kind octets elements ls ≡ None
    → (octets + sum_by length ls ≤ 16777216) × (elements + length ls ≤ 262144)
all_within kind octets elements [] few least is = (omega (arith, few), omega (arith, least))
all_within kind octets elements (line ∷ ls) few least is =
    let tests = chain_none (nat_lt MOST_FILE_PARTS (elements + elements_a_line kind)) (is_too_long octets line) (nat_lt MOST_FILE_OCTETS (octets + length line)) (fault_of_lines kind (octets + length line) (elements + elements_a_line kind) ls) is in
    let parts : elements + elements_a_line kind ≤ 262144 = grind (arith, nat_tests, tests.0) in
    let room : octets + length line ≤ 16777216 = grind (arith, nat_tests, tests.2) in
    let one = each_one kind (nat_eq kind 2) refl in
    let later = all_within kind (octets + length line) (elements + elements_a_line kind) ls room parts tests.3 in
    let sum : sum_by length (line ∷ ls) ≡ length line + sum_by length ls = sum_by-cons length line ls in
    (omega (arith, later.0, sum), omega (arith, later.1, one))

with_more : (octet : ℕ) (ls : List (List ℕ)) → sum_by length ls + length ls + 1 ≤ sum_by length (with_octet octet ls) + length (with_octet octet ls)
with_more octet [] = omega arith
with_more octet (line ∷ ls) =
    let before : sum_by length (line ∷ ls) ≡ length line + sum_by length ls = sum_by-cons length line ls in
    let now : sum_by length ((octet ∷ line) ∷ ls) ≡ length (octet ∷ line) + sum_by length ls = sum_by-cons length (octet ∷ line) ls in
    omega (arith, before, now)

fed_more : (ls : List (List ℕ)) → sum_by length ls + length ls + 1 ≤ sum_by length ([] ∷ ls) + length ([] ∷ ls)
fed_more ls = let now : sum_by length ([] ∷ ls) ≡ length {A = ℕ} [] + sum_by length ls = sum_by-cons length [] ls in omega (arith, now)

-- each octet stands in a line or ends one
pub in_lines : (octets : List ℕ) → length octets ≤ sum_by length (lines octets) + length (lines octets)
in_lines [] = omega arith
in_lines (octet ∷ octets) = by_octet (nat_eq octet 10) (in_lines octets) where
  by_octet : (b : Bool) → length octets ≤ sum_by length (lines octets) + length (lines octets) → length (octet ∷ octets) ≤ sum_by length (if b then [] ∷ lines octets else with_octet octet (lines octets)) + length (if b then [] ∷ lines octets else with_octet octet (lines octets))
  by_octet true rest = let more = fed_more (lines octets) in omega (arith, rest, more)
  by_octet false rest = let more = with_more octet (lines octets) in omega (arith, rest, more)

abbrev full_by : Bool → Option ℕ
full_by b = if b then Some 23 else None

not_full : (count : ℕ) (b : Bool) → nat_lt 16777216 count ≡ b → full_by b ≡ None → count ≤ 17039360
not_full count true large is = absurd (none-some 23 (sym is))
not_full count false large is = grind (arith, nat_tests)

pub few_octets : (kind : ℕ) (octets : List ℕ) → fault_of kind octets ≡ None → length octets ≤ 17039360
few_octets kind octets is = by_kind (nat_eq kind 3) is where
  by_kind : (b : Bool) → (if b then full_by (nat_lt MOST_FILE_OCTETS (length octets)) else fault_of_lines kind 0 0 (lines octets)) ≡ None → length octets ≤ 17039360
  by_kind true is = not_full (length octets) (nat_lt 16777216 (length octets)) refl is
  by_kind false is =
      let within = all_within kind 0 0 (lines octets) (omega arith) (omega arith) is in
      let all = in_lines octets in
      omega (arith, within.0, within.1, all)
