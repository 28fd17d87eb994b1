-- How long the parts of spellings are.
use Rattle.std.proofs.Common.{◌≡◌, ℕ, ◌+◌, ◌<◌, ◌≤◌, Bool, true, false, List, length, arith, length-append}
use Rattle.std.specs.Prelude.{IsTrue, Option, Some}
use Rattle.std.proofs.lemmas.Bool.Decides.{nat_tests}
use Rattle.vf_base.specs.Name.{IsName}
use Rattle.vf_ber.specs.Spelling.{header, identifier, length_octets, spell, spells}
use Rattle.vf_ber.specs.Tree.{Tag, plain, built, Trees}
use Rattle.vf_elements.specs.ElementValue.{descriptor_parts, filled_part}
use Rattle.vf_elements.specs.Elements.{application, is_text, octet_string}
use Rattle.vf_pdu_fields.specs.Meaning.{context, universal}

pub one_octet : (n : ℕ) → n < 128 → length (length_octets n) ≡ 1
one_octet n lt = grind (arith, nat_tests)

pub two_octets : (n : ℕ) → 128 ≤ n → n < 256 → length (length_octets n) ≡ 2
two_octets n le lt = grind (arith, nat_tests)

pub three_octets : (n : ℕ) → 256 ≤ n → n < 65536 → length (length_octets n) ≡ 3
three_octets n le lt = grind (arith, nat_tests)

pub four_octets : (n : ℕ) → 65536 ≤ n → length (length_octets n) ≡ 4
four_octets n le = grind (arith, nat_tests)

one_for_tag : (constructed : Bool) (tag : Tag) → tag.number < 31 → length (identifier constructed tag) ≡ 1
one_for_tag constructed tag lt = grind (arith, nat_tests)

-- a value of one octet for its tag
pub plain-length : (tag : Tag) (octets : List ℕ) → tag.number < 31 → length (spell (plain tag octets)) ≡ 1 + length (length_octets (length octets)) + length octets
plain-length tag octets lt =
    omega (arith, length-append (identifier false tag) (length_octets (length octets)), one_for_tag false tag lt, length-append (header false tag (length octets)) octets)

pub built-length : (tag : Tag) (parts : Trees) → tag.number < 31 → length (spell (built tag parts)) ≡ 1 + length (length_octets (length (spells parts))) + length (spells parts)
built-length tag parts lt =
    omega (arith, length-append (identifier true tag) (length_octets (length (spells parts))), one_for_tag true tag lt, length-append (header true tag (length (spells parts))) (spells parts))

text_low : (class : ℕ) → IsTrue (is_text class) → class < 31
text_low class t = grind (arith, nat_tests)

-- what a call has counted is the length
pub text_counted : (class n : ℕ) (octets : List ℕ) → IsTrue (is_text class) → n ≡ 1 + length (length_octets (length octets)) + length octets
    → n ≡ length (spell (plain (universal class) octets))
text_counted class n octets t e = omega (arith, e, plain-length (universal class) octets (text_low class t))

pub binary_counted : (n : ℕ) (octets : List ℕ) → n ≡ 1 + length (length_octets (length octets)) + length octets
    → n ≡ length (spell (plain (universal octet_string) octets))
binary_counted n octets e = omega (arith, e, plain-length (universal octet_string) octets (omega arith))

pub descriptor_counted : (name : Option (List ℕ)) (filled : Bool) (n inside : ℕ) → inside ≡ length (spells (descriptor_parts name filled))
    → n ≡ 1 + length (length_octets inside) + inside → n ≡ length (spell (built (application 0) (descriptor_parts name filled)))
descriptor_counted name filled n inside i e =
    let parts : Trees = descriptor_parts name filled in
    grind (arith, i, e, built-length (application 0) parts (omega arith))

pub named_length : (name : List ℕ) (filled : Bool) (n first rest : ℕ) → n ≡ rest + first → first ≡ 1 + length (length_octets (length name)) + length name
    → rest ≡ length (spells (filled_part filled)) → n ≡ length (spells (descriptor_parts (Some name) filled))
named_length name filled n first rest e f r =
    omega (arith, e, f, r, plain-length (context 0) name (omega arith), length-append (spell (plain (context 0) name)) (spells (filled_part filled)))

name_short : (name : List ℕ) → IsName name → length name ≤ 255
name_short name is = grind (arith, nat_tests)

-- the octets of a name with its tag and length
pub name_small : (name : List ℕ) (n : ℕ) → IsName name → n ≡ 1 + length (length_octets (length name)) + length name → n ≤ 260
name_small name n is e = let short : length name ≤ 255 = name_short name is in grind (arith, nat_tests)

pub ruleset lengths = (one_octet, two_octets, three_octets, four_octets)
