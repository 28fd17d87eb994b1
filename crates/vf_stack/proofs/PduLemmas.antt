-- How long and how deep the values of requests are.
use Rattle.std.proofs.Common.{◌≡◌, ℕ, ◌+◌, ◌≤◌, ◌<◌, Bool, true, false, nat_eq, List, [], ◌∷◌, ◌++◌, length, refl, ap, sym, subst, ◌∙◌, arith, Option, None, Some, if◌then◌else◌}
use Rattle.std.specs.Prelude.{ℤ, pos, ◌&&◌, nat_le}
use Rattle.std.specs.Ordering.{int_eq}
use Rattle.std.proofs.lemmas.Bool.{and_parts, leb-true}
use Rattle.std.proofs.lemmas.Bool.Decides.{nat_tests}
use Rattle.std.proofs.lemmas.List.{length-append}
use Rattle.std.specs.Int.{w64, to_be_bytes, cast_unsigned}
use Rattle.vf_base.specs.declared.diagnostic.Diagnostic.{Diagnostic}
use Rattle.vf_base.specs.declared.element.Element.{Element}
use Rattle.vf_base.specs.declared.element.Element.TheVariants.{Descriptor, Enter, Exit, Text, Binary}
use Rattle.vf_ber.specs.Contents.{integer_octets, is_redundant, shortened}
use Rattle.vf_ber.specs.Spelling.{first_octet, header, length_octets, spell, spells}
use Rattle.vf_ber.proofs.Names.{identifier-short}
use Rattle.vf_ber.specs.Tree.{Tag, Tree, Trees, depth, none, more, built, plain}
use Rattle.vf_elements.specs.ElementValue.{value as element_value}
use Rattle.vf_pdu_fields.specs.Content.{slots}
use Rattle.vf_pdu_fields.specs.Meaning.{context}
use Rattle.vf_pdu_fields.specs.Rows.{Row}
use Rattle.vf_pdu_fields.specs.Sizes.{most_in}
use Rattle.vf_pdu_fields.specs.Writing.{fields}
use Rattle.vf_pdu_fields.proofs.Sizes.{Fits, built-fits, fields-fit, levels_in}
use Rattle.vf_pdu.specs.PduEntry.{Entry}
use Rattle.vf_pdu.specs.PduMeaning.{IsInRange}
use Rattle.vf_pdu.specs.PduNumbers.{number_of}
use Rattle.vf_pdu.specs.PduRows.{entries, row_of}
use Rattle.vf_pdu.specs.PduSlots.{slots_of}
use Rattle.vf_pdu.specs.PduValue.{value as pdu_value}
use Rattle.vf_pdu.specs.declared.pdu.Pdu.{Pdu}
use Rattle.vf_pdu.specs.declared.pdu.Pdu.TheVariants.{InitializeResponse}
use Rattle.vf_pdu.proofs.Tables.{at_each}
use Rattle.vf_stack.specs.Lengths.{default_octets, diagnostic_octets, number_octets}

-- ---- PDUs in range

fits-row : (pdu : Pdu) → IsInRange pdu → Fits (pdu_value pdu) (most_in (row_of (number_of pdu)) + 7) (levels_in (row_of (number_of pdu)) + 1)
fits-row pdu in_range =
    let row : Row = row_of (number_of pdu) in
    let parts : Trees = fields row (slots (slots_of pdu)) in
    built-fits (context (number_of pdu)) parts (most_in row) (levels_in row) (fields-fit row (slots (slots_of pdu)) in_range)

abbrev is_small : Entry → Bool
is_small entry = nat_le (most_in entry.its_row) 900000 && nat_le (levels_in entry.its_row) 20

row-small : (n : ℕ) → (nat_le (most_in (row_of n)) 900000 && nat_le (levels_in (row_of n)) 20) ≡ true
unfolding row_of
row-small n = at_each is_small refl entries refl n

-- A PDU has at most so many octets and levels,
pub pdu-fits : (pdu : Pdu) → IsInRange pdu → Fits (pdu_value pdu) 900007 21
pdu-fits pdu in_range =
    let row : Row = row_of (number_of pdu) in
    let both = and_parts (nat_le (most_in row) 900000) (nat_le (levels_in row) 20) (row-small (number_of pdu)) in
    let few : most_in row ≤ 900000 = leb-true (most_in row) 900000 both.0 in
    let low : levels_in row ≤ 20 = leb-true (levels_in row) 20 both.1 in
    let fit = fits-row pdu in_range in
    record { short = omega (arith, few, fit.short); shallow = omega (arith, low, fit.shallow) }

-- and one that doesn't go in P-DATA has few.
pub same-by : (a b : ℕ) → nat_eq a b ≡ true → a ≡ b
same-by a b e = grind (arith, nat_tests)

pub few-by : (n : ℕ) → nat_le (most_in (row_of n)) 2000 ≡ true → (pdu : Pdu) → nat_eq (number_of pdu) n ≡ true → IsInRange pdu → length (spell (pdu_value pdu)) ≤ 2007
few-by n small pdu is in_range =
    let same : number_of pdu ≡ n = same-by (number_of pdu) n is in
    let P : ℕ → Type 0 = λ k. nat_le (most_in (row_of k)) 2000 ≡ true in
    let here : most_in (row_of (number_of pdu)) ≤ 2000 = leb-true (most_in (row_of (number_of pdu))) 2000 (subst P (sym same) small) in
    let fit = fits-row pdu in_range in
    omega (arith, here, fit.short)

pub few-0 : nat_le (most_in (row_of 0)) 2000 ≡ true
unfolding row_of
few-0 = refl

pub few-2 : nat_le (most_in (row_of 2)) 2000 ≡ true
unfolding row_of
few-2 = refl

pub few-3 : nat_le (most_in (row_of 3)) 2000 ≡ true
unfolding row_of
few-3 = refl

pub few-4 : nat_le (most_in (row_of 4)) 2000 ≡ true
unfolding row_of
few-4 = refl

pub few-5 : nat_le (most_in (row_of 5)) 2000 ≡ true
unfolding row_of
few-5 = refl

pub few-37 : nat_le (most_in (row_of 37)) 2000 ≡ true
unfolding row_of
few-37 = refl

pub few-38 : nat_le (most_in (row_of 38)) 2000 ≡ true
unfolding row_of
few-38 = refl

pub few-39 : nat_le (most_in (row_of 39)) 2000 ≡ true
unfolding row_of
few-39 = refl

pub few-40 : nat_le (most_in (row_of 40)) 2000 ≡ true
unfolding row_of
few-40 = refl

-- ---- elements

pub element-shallow : (element : Element) → depth (element_value element) ≤ 23
element-shallow (Descriptor None true) = omega arith
element-shallow (Descriptor None false) = omega arith
element-shallow (Descriptor (Some name) true) = omega arith
element-shallow (Descriptor (Some name) false) = omega arith
element-shallow Enter = omega arith
element-shallow Exit = omega arith
element-shallow (Text class octets) = omega arith
element-shallow (Binary octets) = omega arith

-- ---- the octets of a response to F-INITIALIZE

picked-short : (b : Bool) (x y : List ℕ) (n : ℕ) → length x ≤ n → length y ≤ n → length (if b then x else y) ≤ n
picked-short true x y n p q = p
picked-short false x y n p q = q

shortened-short : (octets : List ℕ) → length (shortened octets) ≤ length octets
shortened-short [] = omega arith
shortened-short (octet ∷ octets) =
    picked-short (is_redundant (octet ∷ octets)) (shortened octets) (octet ∷ octets) _ (omega (arith, shortened-short octets)) (omega arith)

pub integer-short : (n : ℤ) → length (integer_octets n) ≤ 8
integer-short n = let eight : length (to_be_bytes w64 (cast_unsigned w64 n)) ≡ 8 = refl in omega (arith, shortened-short (to_be_bytes w64 (cast_unsigned w64 n)))

one-octet : (n : ℕ) → n ≤ 8 → length (length_octets n) ≡ 1
one-octet n le = grind (arith, nat_tests)

one-octet-more : (n : ℕ) → n ≤ 127 → length (length_octets n) ≡ 1
one-octet-more n le = grind (arith, nat_tests)

sums : (h o n : ℕ) → h ≡ 1 + o → o ≡ 1 → h + n ≡ 2 + n
sums h o n e f = omega arith

header-long : (constructed : Bool) (tag : Tag) (n : ℕ) → tag.number < 31 → length (header constructed tag n) ≡ 1 + length (length_octets n)
header-long constructed tag n low =
    ap (λ (i : List ℕ). length (i ++ length_octets n)) (identifier-short constructed tag.class tag.number low)
    ∙ length-append (first_octet constructed tag.class tag.number ∷ []) (length_octets n)

-- a field with a number
number-length : (tag : Tag) (n : ℤ) → tag.number < 31 → length (spell (plain tag (integer_octets n))) ≡ number_octets n
unfolding number_octets
number-length tag n low =
    let short = integer-short n in
    let long = header-long false tag (length (integer_octets n)) low in
    let one = one-octet (length (integer_octets n)) short in
    length-append (header false tag (length (integer_octets n))) (integer_octets n) ∙ sums _ _ _ long one

-- fields, of which the first is left out where it has its default
default-length : (b : Bool) (tree : Tree) (rest : Trees) (n : ℕ) → length (spell tree) ≡ n → length (spells (if b then rest else more tree rest)) ≡ (if b then 0 else n) + length (spells rest)
default-length true tree rest n e = omega arith
default-length false tree rest n e = length-append (spell tree) (spells rest) ∙ ap (λ (k : ℕ). k + length (spells rest)) e

first-length : (tree : Tree) (rest : Trees) (n : ℕ) → length (spell tree) ≡ n → length (spells (more tree rest)) ≡ n + length (spells rest)
first-length tree rest n e = length-append (spell tree) (spells rest) ∙ ap (λ (k : ℕ). k + length (spells rest)) e

picked-few : (b : Bool) (n : ℕ) → n ≤ 10 → (if b then 0 else n) ≤ 10
picked-few true n le = omega arith
picked-few false n le = le

pub number-few : (n : ℤ) → number_octets n ≤ 10
unfolding number_octets
number-few n = omega (arith, integer-short n)

pub default-few : (n usual : ℤ) → default_octets n usual ≤ 10
default-few n usual = picked-few (int_eq n usual) (number_octets n) (number-few n)

-- a constructed value with few octets in it
built-length : (tag : Tag) (parts : Trees) (n : ℕ) → tag.number < 31 → length (spells parts) ≡ n → n ≤ 127 → length (spell (built tag parts)) ≡ 2 + n
built-length tag parts n low l le =
    let long = header-long true tag (length (spells parts)) low in
    let one = one-octet-more (length (spells parts)) (omega arith) in
    length-append (header true tag (length (spells parts))) (spells parts) ∙ sums _ _ _ long one ∙ ap (λ (k : ℕ). 2 + k) l

-- the diagnostic's fields
abbrev second_part : Diagnostic → Trees
second_part d = if int_eq d.second (pos 0) then none else more (plain (context 2) (integer_octets d.second)) none

abbrev first_part : Diagnostic → Trees
first_part d = if int_eq d.first (pos 0) then second_part d else more (plain (context 1) (integer_octets d.first)) (second_part d)

abbrev number_part : Diagnostic → Tree
number_part d = plain (context 0) (integer_octets (pos d.number))

second-length : (d : Diagnostic) → length (spells (second_part d)) ≡ default_octets d.second (pos 0) + 0
second-length d = default-length (int_eq d.second (pos 0)) (plain (context 2) (integer_octets d.second)) none (number_octets d.second) (number-length (context 2) d.second (omega arith))

three : (whole first rest second third : ℕ) → whole ≡ first + rest → rest ≡ second + third → whole ≡ first + (second + third)
three whole first rest second third a b = omega arith

diagnostic-fields : (d : Diagnostic) → length (spells (more (number_part d) (first_part d))) ≡ number_octets (pos d.number) + (default_octets d.first (pos 0) + (default_octets d.second (pos 0) + 0))
diagnostic-fields d =
    three _ _ _ _ _
    (first-length (number_part d) (first_part d) (number_octets (pos d.number)) (number-length (context 0) (pos d.number) (omega arith)))
    (default-length (int_eq d.first (pos 0)) (plain (context 1) (integer_octets d.first)) (second_part d) (number_octets d.first) (number-length (context 1) d.first (omega arith))
    ∙ ap (λ (n : ℕ). default_octets d.first (pos 0) + n) (second-length d))

-- the numbers after it
abbrev window_part : ℕ → Trees
window_part window = if int_eq (pos window) (pos 1) then none else more (plain (context 2) (integer_octets (pos window))) none

abbrev numbers : ℕ → ℕ → Trees
numbers units window = if int_eq (pos units) (pos 0) then window_part window else more (plain (context 1) (integer_octets (pos units))) (window_part window)

numbers-length : (units window : ℕ) → length (spells (numbers units window)) ≡ default_octets (pos units) (pos 0) + (default_octets (pos window) (pos 1) + 0)
numbers-length units window =
    default-length (int_eq (pos units) (pos 0)) (plain (context 1) (integer_octets (pos units))) (window_part window) (number_octets (pos units)) (number-length (context 1) (pos units) (omega arith))
    ∙ ap (λ (n : ℕ). default_octets (pos units) (pos 0) + n)
    (default-length (int_eq (pos window) (pos 1)) (plain (context 2) (integer_octets (pos window))) none (number_octets (pos window)) (number-length (context 2) (pos window) (omega arith)))

bare-response : (u w : ℕ) → u + (w + 0) ≡ 0 + (u + w)
bare-response u w = omega arith

whole-response : (n f s u w : ℕ) → (2 + (n + (f + (s + 0)))) + (u + (w + 0)) ≡ (2 + n + (f + s)) + (u + w)
whole-response n f s u w = omega arith

few-numbers : (u w : ℕ) → u ≤ 10 → w ≤ 10 → 0 + (u + w) ≤ 127
few-numbers u w a b = omega arith

few-fields : (n f s : ℕ) → n ≤ 10 → f ≤ 10 → s ≤ 10 → n + (f + (s + 0)) ≤ 127
few-fields n f s a b c = omega arith

few-all : (n f s u w : ℕ) → n ≤ 10 → f ≤ 10 → s ≤ 10 → u ≤ 10 → w ≤ 10 → (2 + n + (f + s)) + (u + w) ≤ 127
few-all n f s u w a b c d e = omega arith

pub response-octets : (diagnostic : Option Diagnostic) (units window : ℕ)
    → length (spell (pdu_value (InitializeResponse diagnostic units window))) ≡ 2 + (diagnostic_octets diagnostic + (default_octets (pos units) (pos 0) + default_octets (pos window) (pos 1)))
unfolding row_of
response-octets None units window =
    let u = default_octets (pos units) (pos 0) in
    let w = default_octets (pos window) (pos 1) in
    built-length (context 1) (numbers units window) (0 + (u + w)) (omega arith) (numbers-length units window ∙ bare-response u w)
    (few-numbers u w (default-few (pos units) (pos 0)) (default-few (pos window) (pos 1)))
response-octets (Some d) units window =
    let u = default_octets (pos units) (pos 0) in
    let w = default_octets (pos window) (pos 1) in
    let n = number_octets (pos d.number) in
    let f = default_octets d.first (pos 0) in
    let s = default_octets d.second (pos 0) in
    let part = built (context 0) (more (number_part d) (first_part d)) in
    let inner : length (spell part) ≡ 2 + (n + (f + (s + 0))) =
    built-length (context 0) (more (number_part d) (first_part d)) (n + (f + (s + 0))) (omega arith) (diagnostic-fields d)
    (few-fields n f s (number-few (pos d.number)) (default-few d.first (pos 0)) (default-few d.second (pos 0))) in
    let all : length (spells (more part (numbers units window))) ≡ (2 + n + (f + s)) + (u + w) =
    first-length part (numbers units window) (2 + (n + (f + (s + 0)))) inner ∙ ap (λ (k : ℕ). (2 + (n + (f + (s + 0)))) + k) (numbers-length units window) ∙ whole-response n f s u w in
    built-length (context 1) (more part (numbers units window)) ((2 + n + (f + s)) + (u + w)) (omega arith) all
    (few-all n f s u w (number-few (pos d.number)) (default-few d.first (pos 0)) (default-few d.second (pos 0)) (default-few (pos units) (pos 0)) (default-few (pos window) (pos 1)))
