-- How octets fall into lines, by where the first line feed stands.
use Rattle.std.specs.Prelude.{if◌then◌else◌, ◌==◌, nat_lt}
use Rattle.std.proofs.Common.{◌≡◌, ℕ, suc, ◌+◌, ◌<◌, ◌≤◌, Bool, true, false, List, [], ◌∷◌, length, take, drop, refl, sym, ap, subst, ◌∙◌, cond, length-drop, drop-drop, arith, nat_eq, Option, Some, None, not}
use Rattle.std.proofs.lemmas.Bool.Decides.{nat_tests}
use Rattle.std.proofs.lemmas.Option.{cond_some, none-some}
use Rattle.std.specs.List.{position, position_or_len}
use Rattle.std.proofs.lemmas.List.{take_all}
use Rattle.std.proofs.Math.Seq.{drop-length}
use Rattle.vf_initiator.specs.Cutting.{lines, with_octet}
use Rattle.vf_transact.specs.Cutting.{IsLineAt}

abbrev pub feed_at : List ℕ → ℕ
feed_at octets = position_or_len (λ octet. octet == 10) octets

-- the lines, where the first octet is a line feed, and where it isn't
ended : (octet : ℕ) (octets : List ℕ) → nat_eq octet 10 ≡ true → lines (octet ∷ octets) ≡ [] ∷ lines octets
ended octet octets is = ap (λ b. if b then [] ∷ lines octets else with_octet octet (lines octets)) is

goes_on : (octet : ℕ) (octets : List ℕ) → nat_eq octet 10 ≡ false → lines (octet ∷ octets) ≡ with_octet octet (lines octets)
goes_on octet octets is = ap (λ b. if b then [] ∷ lines octets else with_octet octet (lines octets)) is

feed_here : (octet : ℕ) (octets : List ℕ) → nat_eq octet 10 ≡ true → feed_at (octet ∷ octets) ≡ 0
feed_here octet octets is = ap (λ b. cond (not b) (1 + feed_at octets) 0) is

feed_later : (octet : ℕ) (octets : List ℕ) → nat_eq octet 10 ≡ false → feed_at (octet ∷ octets) ≡ suc (feed_at octets)
feed_later octet octets is =
    let one : 1 + feed_at octets ≡ suc (feed_at octets) = omega arith in
    ap (λ b. cond (not b) (1 + feed_at octets) 0) is ∙ one

abbrev FirstEnds : List ℕ → Type 0
FirstEnds octets = feed_at octets < length octets → lines octets ≡ take (feed_at octets) octets ∷ lines (drop (feed_at octets + 1) octets)

first_by : (octet : ℕ) (octets : List ℕ) (b : Bool) → nat_eq octet 10 ≡ b → FirstEnds octets → FirstEnds (octet ∷ octets)
first_by octet octets true is later there = rw (feed_here octet octets is) (ended octet octets is)
first_by octet octets false is later there =
    let more = feed_later octet octets is in
    let rest = later (omega (arith, there, more)) in
    let place : suc (feed_at octets) + 1 ≡ suc (feed_at octets + 1) = omega arith in
    rw (more, place) (goes_on octet octets is ∙ ap (with_octet octet) rest)

-- the first line ends at the first line feed
pub first_ends : (octets : List ℕ) → feed_at octets < length octets → lines octets ≡ take (feed_at octets) octets ∷ lines (drop (feed_at octets + 1) octets)
first_ends [] there = absurd (omega (arith, there))
first_ends (octet ∷ octets) there = first_by octet octets (nat_eq octet 10) refl (first_ends octets) there

-- without a line feed all is one line
abbrev AllOne : ℕ → List ℕ → Type 0
AllOne octet octets = length (octet ∷ octets) ≤ feed_at (octet ∷ octets) → lines (octet ∷ octets) ≡ (octet ∷ octets) ∷ []

all_by : (octet next : ℕ) (octets : List ℕ) (b : Bool) → nat_eq octet 10 ≡ b → AllOne next octets → AllOne octet (next ∷ octets)
all_by octet next octets true is later none = let here = feed_here octet (next ∷ octets) is in absurd (omega (arith, none, here))
all_by octet next octets false is later none =
    let more = feed_later octet (next ∷ octets) is in
    let rest = later (omega (arith, none, more)) in
    goes_on octet (next ∷ octets) is ∙ ap (with_octet octet) rest

last_by : (octet : ℕ) (b : Bool) → nat_eq octet 10 ≡ b → AllOne octet []
last_by octet true is none = let here = feed_here octet [] is in absurd (omega (arith, none, here))
last_by octet false is none = goes_on octet [] is

pub all_one : (octet : ℕ) (octets : List ℕ) → length (octet ∷ octets) ≤ feed_at (octet ∷ octets) → lines (octet ∷ octets) ≡ (octet ∷ octets) ∷ []
all_one octet [] none = last_by octet (nat_eq octet 10) refl none
all_one octet (next ∷ octets) none = all_by octet next octets (nat_eq octet 10) refl (all_one next octets) none

found_by : (at all place : ℕ) → Some place ≡ cond (nat_lt at all) (Some at) None → (place ≡ at) × (at < all)
found_by at all place is =
    let found = cond_some (nat_lt at all) at place (sym is) in
    (sym found.1, grind (arith, nat_tests, found.0))

none_by : (at all : ℕ) (b : Bool) → nat_lt at all ≡ b → None ≡ cond (nat_lt at all) (Some at) None → all ≤ at
none_by at all true less is =
    let found : None ≡ Some at = is ∙ ap (λ b. let o : Option ℕ = cond b (Some at) None in o) less in
    absurd (none-some at found)
none_by at all false less is = grind (arith, nat_tests)

-- what a search for the first line feed found
pub found_place : (octets : List ℕ) (place : ℕ) → Some place ≡ position (λ octet. octet == 10) octets → (place ≡ feed_at octets) × (feed_at octets < length octets)
found_place octets place is = found_by (feed_at octets) (length octets) place is

pub found_none : (octets : List ℕ) → None ≡ position (λ octet. octet == 10) octets → length octets ≤ feed_at octets
found_none octets is = none_by (feed_at octets) (length octets) (nat_lt (feed_at octets) (length octets)) refl is

-- ---- the line that begins at a place of an input

-- it ends at a line feed
pub line_found : (input : List ℕ) (start count : ℕ) → start < length input → count ≡ feed_at (drop start input) → feed_at (drop start input) < length (drop start input) → IsLineAt input start (record { length = count; next = start + count + 1 })
line_found input start count there is less =
    let all = length-drop start input in
    let next : start + (count + 1) ≡ start + count + 1 = omega arith in
    let behind : drop (count + 1) (drop start input) ≡ drop (start + count + 1) input = drop-drop (count + 1) start input ∙ ap (λ (n : ℕ). drop n input) next in
    record {
      lines_are = subst (λ (n : ℕ). lines (drop start input) ≡ take n (drop start input) ∷ lines (drop (n + 1) (drop start input))) (sym is) (first_ends (drop start input) less)
          ∙ ap (λ (l : List ℕ). take count (drop start input) ∷ lines l) behind;
      within = omega (arith, all, is, less);
      further = omega arith;
      next_within = omega (arith, all, is, less);
    }

one_line : (octets : List ℕ) → 0 < length octets → length octets ≤ feed_at octets → lines octets ≡ octets ∷ []
one_line [] some none = absurd (omega (arith, some))
one_line (octet ∷ octets) some none = all_one octet octets none

line_is : {line line' : List ℕ} {later later' : List (List ℕ)} → line ≡ line' → later ≡ later' → line ∷ later ≡ line' ∷ later'
line_is {line' = line'} {later = later} same rest = ap (λ l. l ∷ later) same ∙ ap (λ l. line' ∷ l) rest

-- it ends with the input
pub line_left : (input : List ℕ) (start : ℕ) → start < length input → length (drop start input) ≤ feed_at (drop start input) → IsLineAt input start (record { length = length (drop start input); next = length input })
line_left input start there none =
    let all = length-drop start input in
    let whole : take (length (drop start input)) (drop start input) ≡ drop start input = take_all (length (drop start input)) (drop start input) (omega arith) in
    let behind : drop (length input) input ≡ [] = drop-length input in
    record {
      lines_are = one_line (drop start input) (omega (arith, all, there)) none ∙ line_is (sym whole) (ap lines (sym behind));
      within = omega (arith, all, there);
      further = there;
      next_within = omega arith;
    }
