-- How long and how deep the values of fields are at most.
use Rattle.std.proofs.Common.{◌≡◌, ℕ, ◌+◌, ◌*◌, ◌≤◌, max, Bool, true, false, cond, List, [], ◌∷◌, length, take, drop, refl, arith, length-append}
use Rattle.std.specs.Prelude.{ℤ, ◌&&◌, nat_eq, nat_le}
use Rattle.std.specs.Int.{w64, to_be_bytes, cast_unsigned}
use Rattle.std.specs.List.{flat_map, list_all}
use Rattle.std.proofs.Math.Nat.{mul-le-mul_right}
use Rattle.std.proofs.lemmas.Bool.{eqb-true, leb-true, and_parts}
use Rattle.std.proofs.lemmas.Bool.Decides.{nat_tests}
use Rattle.vf_base.specs.Name.{is_name, is_printable}
use Rattle.vf_base.specs.Oid.{is_oid, is_root, is_arc}
use Rattle.vf_ber.specs.Tree.{Tag, Tree, plain, built, Trees, none, more, depth, depth_in}
use Rattle.vf_ber.specs.Spelling.{header, spell, spells}
use Rattle.vf_ber.specs.Contents.{is_redundant, shortened, integer_octets, arc_octets, oid_octets}
use Rattle.vf_pdu_fields.specs.Content.{Content, Number, Truth, Octets, Arcs, Fields, Listed, Slots, nil, present, absent, Items, nothing, item}
use Rattle.vf_pdu_fields.specs.Forms.{has_date_form, is_control, is_date, is_digit, is_moment, within}
use Rattle.vf_pdu_fields.specs.Meaning.{context, universal, count, each_within, fits, all_fit}
use Rattle.vf_pdu_fields.specs.Rows.{Simple, Integer, Boolean, Text, String, Controls, Oid, Date, required, optional, default, Form, one, sequence, list, Row, end, field}
use Rattle.vf_pdu_fields.specs.Sizes.{most, most_in, most_of}
use Rattle.vf_pdu_fields.specs.Writing.{contents_octets, fields, is_default, spelled, spelled_items}

pub record Fits (tree : Tree) (octets levels : ℕ) : Type 0 where
  pub short : length (spell tree) ≤ octets
  pub shallow : depth tree ≤ levels

pub record FitIn (trees : Trees) (octets levels : ℕ) : Type 0 where
  pub short : length (spells trees) ≤ octets
  pub shallow : depth_in trees ≤ levels

-- ---- contents of primitive values

picked-short : (b : Bool) (x y : List ℕ) (n : ℕ) → length x ≤ n → length y ≤ n → length (cond b x y) ≤ n
picked-short true x y n p q = p
picked-short false x y n p q = q

shortened-short : (octets : List ℕ) → length (shortened octets) ≤ length octets
shortened-short [] = omega arith
shortened-short (octet ∷ octets) =
    picked-short (is_redundant (octet ∷ octets)) (shortened octets) (octet ∷ octets) _ (omega (arith, shortened-short octets)) (omega arith)

integer-short : (n : ℤ) → length (integer_octets n) ≤ 8
integer-short n = let eight : length (to_be_bytes w64 (cast_unsigned w64 n)) ≡ 8 = refl in omega (arith, shortened-short (to_be_bytes w64 (cast_unsigned w64 n)))

arc-short : (n : ℕ) → length (arc_octets n) ≤ 5
arc-short n = grind (arith, nat_tests)

arcs-short : (arcs : List ℕ) → length (flat_map arc_octets arcs) ≤ 5 * length arcs
arcs-short [] = omega arith
arcs-short (arc ∷ arcs) = omega (arith, length-append (arc_octets arc) (flat_map arc_octets arcs), arc-short arc, arcs-short arcs)

oid-short : (arcs : List ℕ) → length (oid_octets arcs) ≤ 5 * length arcs
oid-short [] = omega arith
oid-short (first ∷ []) = omega arith
oid-short (first ∷ second ∷ arcs) =
    omega (arith, length-append (arc_octets (40 * first + second)) (flat_map arc_octets arcs), arc-short (40 * first + second), arcs-short arcs)

-- ---- how deep, by the row

abbrev mutual
  pub levels : Form → ℕ
  levels (one simple) = 1
  levels (sequence row) = levels_in row + 1
  levels (list row) = levels_in row + 1 + 1

  pub levels_in : Row → ℕ
  levels_in end = 0
  levels_in (field number form need row) = max (levels form) (levels_in row)

-- ---- values

header-short : (constructed : Bool) (tag : Tag) (n : ℕ) → length (header constructed tag n) ≤ 7
header-short constructed tag n = grind (arith, nat_tests, length-append)

plain-fits : (tag : Tag) (octets : List ℕ) (n : ℕ) → length octets ≤ n → Fits (plain tag octets) (n + 7) 1
plain-fits tag octets n le = record {
  short = omega (arith, header-short false tag (length octets), length-append (header false tag (length octets)) octets);
  shallow = omega arith;
}

pub built-fits : (tag : Tag) (parts : Trees) (n d : ℕ) → FitIn parts n d → Fits (built tag parts) (n + 7) (d + 1)
built-fits tag parts n d fit = record {
  short = omega (arith, fit.short, header-short true tag (length (spells parts)), length-append (header true tag (length (spells parts))) (spells parts));
  shallow = omega (arith, fit.shallow);
}

none-fits : (n d : ℕ) → FitIn none n d
none-fits n d = record { short = omega arith; shallow = omega arith }

more-fits : (part : Tree) (parts : Trees) (n m d e : ℕ) → Fits part n d → FitIn parts m e → FitIn (more part parts) (n + m) (max d e)
more-fits part parts n m d e first rest = record {
  short = omega (arith, first.short, rest.short, length-append (spell part) (spells parts));
  shallow = omega (arith, first.shallow, rest.shallow);
}

wider : (parts : Trees) (n m d e : ℕ) → FitIn parts m e → FitIn parts (n + m) (max d e)
wider parts n m d e fit = record { short = omega (arith, fit.short); shallow = omega (arith, fit.shallow) }

at_most : (b : Bool) (octets : List ℕ) (n : ℕ) → (nat_le (length octets) n && b) ≡ true → length octets ≤ n
at_most b octets n e = leb-true (length octets) n (and_parts (nat_le (length octets) n) b e).0

exactly : (b : Bool) (octets : List ℕ) (n : ℕ) → (nat_eq (length octets) n && b) ≡ true → length octets ≤ n
exactly b octets n e = let same : length octets ≡ n = eqb-true (length octets) n (and_parts (nat_eq (length octets) n) b e).0 in omega arith

name-short : (name : List ℕ) → is_name name ≡ true → length name ≤ 255
name-short name e =
    let b = and_parts (nat_le 1 (length name) && nat_le (length name) 255) (list_all is_printable name) e in
    leb-true (length name) 255 (and_parts (nat_le 1 (length name)) (nat_le (length name) 255) b.0).1

oid-few : (arcs : List ℕ) → is_oid arcs ≡ true → length arcs ≤ 16
oid-few arcs e =
    let b = and_parts (nat_le (length arcs) 16 && is_root arcs) (list_all is_arc arcs) e in
    at_most (is_root arcs) arcs 16 b.0

date-short : (text : List ℕ) → is_date text ≡ true → length text ≤ 15
date-short text e =
    let b = and_parts (has_date_form text) (is_moment text) e in
    let d = and_parts (nat_eq (length text) 15 && list_all is_digit (take 14 text)) (list_all (nat_eq 90) (drop 14 text)) b.0 in
    exactly (list_all is_digit (take 14 text)) text 15 d.0

simple-short : (simple : Simple) (content : Content) → within simple content ≡ true → length (contents_octets content) ≤ most_of simple
simple-short (Integer range) (Number n) w = integer-short n
simple-short (Integer range) _ w = absurd cc
simple-short Boolean (Truth true) w = omega arith
simple-short Boolean (Truth false) w = omega arith
simple-short Boolean _ w = absurd cc
simple-short Text (Octets name) w = name-short name w
simple-short Text _ w = absurd cc
simple-short String (Octets octets) w = leb-true (length octets) 255 w
simple-short String _ w = absurd cc
simple-short (Controls number) (Octets octets) w = exactly (list_all is_control octets) octets number w
simple-short (Controls number) _ w = absurd cc
simple-short Oid (Arcs arcs) w = omega (arith, oid-short arcs, oid-few arcs w)
simple-short Oid _ w = absurd cc
simple-short Date (Octets octets) w = date-short octets w
simple-short Date _ w = absurd cc

-- ---- fields

-- each of a list is this long at most
items-fit : (inner : Slots → Trees) (test : Slots → Bool) (n d : ℕ) → ((inside : Slots) → test inside ≡ true → FitIn (inner inside) n d)
    → (items : Items) → each_within test items ≡ true → FitIn (spelled_items inner items) (count items * (n + 7)) (d + 1)
items-fit inner test n d fit nothing w = none-fits (0 * (n + 7)) (d + 1)
items-fit inner test n d fit (item first rest) w =
    let b = and_parts (test first) (each_within test rest) w in
    let here = built-fits (universal 16) (inner first) n d (fit first b.0) in
    let others = items-fit inner test n d fit rest b.1 in
    let both = more-fits (built (universal 16) (inner first)) (spelled_items inner rest) (n + 7) (count rest * (n + 7)) (d + 1) (d + 1) here others in
    record { short = omega (arith, both.short); shallow = omega (arith, both.shallow) }

-- by whether it is left out
field-fits : (part : Tree) (rest : Trees) (n m d e : ℕ) (b : Bool) → Fits part n d → FitIn rest m e → FitIn (cond b rest (more part rest)) (n + m) (max d e)
field-fits part rest n m d e true first others = wider rest n m d e others
field-fits part rest n m d e false first others = more-fits part rest n m d e first others

mutual
  pub spelled-fits : (form : Form) (tag : Tag) (content : Content) → fits form content ≡ true → Fits (spelled tag form content) (most form) (levels form)
  spelled-fits (one simple) tag content w = plain-fits tag (contents_octets content) (most_of simple) (simple-short simple content w)
  spelled-fits (sequence row) tag (Fields inside) w = built-fits tag (fields row inside) (most_in row) (levels_in row) (fields-fit row inside w)
  spelled-fits (sequence row) tag _ w = absurd cc
  spelled-fits (list row) tag (Listed inside) w =
      let b = and_parts (nat_le (count inside) 256) (each_within (all_fit row) inside) w in
      let few : count inside ≤ 256 = leb-true (count inside) 256 b.0 in
      let all = items-fit (fields row) (all_fit row) (most_in row) (levels_in row) (fields-fit row) inside b.1 in
      let some : count inside * (most_in row + 7) ≤ 256 * (most_in row + 7) = mul-le-mul_right (most_in row + 7) few in
      built-fits tag (spelled_items (fields row) inside) (256 * (most_in row + 7)) (levels_in row + 1) record { short = omega (arith, all.short, some); shallow = all.shallow }
  spelled-fits (list row) tag _ w = absurd cc

  pub fields-fit : (row : Row) (inside : Slots) → all_fit row inside ≡ true → FitIn (fields row inside) (most_in row) (levels_in row)
  fields-fit end nil w = none-fits 0 0
  fields-fit end (present content rest) w = absurd cc
  fields-fit end (absent rest) w = absurd cc
  fields-fit (field number form need row) nil w = absurd cc
  fields-fit (field number form need row) (present content rest) w =
      let b = and_parts (fits form content) (all_fit row rest) w in
      field-fits (spelled (context number) form content) (fields row rest) (most form) (most_in row) (levels form) (levels_in row) (is_default need content)
      (spelled-fits form (context number) content b.0) (fields-fit row rest b.1)
  fields-fit (field number form required row) (absent rest) w = absurd cc
  fields-fit (field number form optional row) (absent rest) w = wider (fields row rest) (most form) (most_in row) (levels form) (levels_in row) (fields-fit row rest w)
  fields-fit (field number form (default content) row) (absent rest) w = absurd cc
