-- What is written of a row has what was written.
use Rattle.std.proofs.Common.{◌≡◌, ℕ, ◌+◌, ◌<◌, ◌≤◌, Bool, true, false, cond, refl, ap, sym, inl, inr, arith, rules}
use Rattle.std.specs.Prelude.{ℤ, pos, negsuc, FitsSigned, Option, Some, None, nat_le, IsTrue}
use Rattle.std.specs.Option.{option_map}
use Rattle.std.specs.Int.{w64}
use Rattle.std.proofs.lemmas.Bool.{leb-true, ltb-true, lt-ltb, and_parts}
use Rattle.std.proofs.lemmas.Bool.Decides.{Decides-int_eq}
use Rattle.std.proofs.lemmas.Int.{ints}
use Rattle.vf_base.specs.Oid.{is_oid}
use Rattle.vf_ber.specs.Contents.{boolean_octets}
use Rattle.vf_ber.specs.Primitive.{boolean_at}
use Rattle.vf_ber.specs.Tree.{Tag, plain, more, root}
use Rattle.vf_ber.proofs.Integers.{integer-read}
use Rattle.vf_ber.proofs.Oids.{oid-read}
use Rattle.vf_pdu_fields.specs.Content.{Content, Number, Truth, Octets, Arcs, Fields, Listed, Slots, nil, present, absent, Items, nothing, item}
use Rattle.vf_pdu_fields.specs.Forms.{has_date_form, is_from_to, is_long, is_moment, is_unit, shape_of, within, in_range}
use Rattle.vf_pdu_fields.specs.Meaning.{context, count, Each, Has, Holds, each_within, fits, all_fit}
use Rattle.vf_pdu_fields.specs.Rows.{Range, Any, FromTo, Fadu, Simple, Integer, Boolean, Text, String, Controls, Oid, Date, Need, required, optional, default, Form, one, sequence, list, Row, end, field}
use Rattle.vf_pdu_fields.specs.Writing.{contents_octets, fields, is_default, is_usual, spelled, spelled_items}
use Rattle.vf_pdu_fields.proofs.Complete.{tests}
use Rattle.vf_pdu_fields.proofs.Tables.{is_form, is_short, is_table}

long_fits : (n : ℤ) → is_long n ≡ true → FitsSigned w64 n
long_fits (pos n) e = let lt : n < 9223372036854775808 = ltb-true n 9223372036854775808 e in omega (arith, ints)
long_fits (negsuc n) e = let lt : n < 9223372036854775808 = ltb-true n 9223372036854775808 e in omega (arith, ints)

pub fits_long : (n : ℤ) → FitsSigned w64 n → is_long n ≡ true
fits_long (pos n) f = lt-ltb n 9223372036854775808 (omega (arith, ints, f))
fits_long (negsuc n) f = lt-ltb n 9223372036854775808 (omega (arith, ints, f))

from_to_long : (low high : ℕ) (n : ℤ) → high < 9223372036854775808 → is_from_to low high n ≡ true → is_long n ≡ true
from_to_long low high (pos n) short e =
    let le : n ≤ high = leb-true n high (and_parts (nat_le low n) (nat_le n high) e).1 in
    lt-ltb n 9223372036854775808 (omega arith)
from_to_long low high (negsuc n) short e = absurd cc

unit_long : (n : ℤ) → is_unit n ≡ true → is_long n ≡ true
unit_long (pos n) e = let le : n ≤ 4294967295 = leb-true n 4294967295 e in lt-ltb n 9223372036854775808 (omega arith)
unit_long (negsuc n) e = let lt : n < 6 = ltb-true n 6 e in lt-ltb n 9223372036854775808 (omega arith)

range_long : (range : Range) (n : ℤ) → is_short range ≡ true → in_range range n ≡ true → is_long n ≡ true
range_long Any n t e = e
range_long (FromTo low high) n t e = from_to_long low high n (ltb-true high 9223372036854775808 t) e
range_long Fadu n t e = unit_long n e

truth_read : (truth : Bool) → boolean_at (boolean_octets truth) ≡ Some truth
truth_read true = refl
truth_read false = refl

true_is : (b : Bool) → b ≡ true → IsTrue b
true_is b e = search rules

simple_has : (simple : Simple) (tag : Tag) (content : Content) → is_form (one simple) ≡ true → within simple content ≡ true → shape_of simple (plain tag (contents_octets content)) ≡ Some content
simple_has (Integer range) tag (Number n) t w = ap (option_map Number) (integer-read n (long_fits n (range_long range n t w)))
simple_has (Integer range) tag _ t w = absurd cc
simple_has Boolean tag (Truth truth) t w = ap (option_map Truth) (truth_read truth)
simple_has Boolean tag _ t w = absurd cc
simple_has Text tag (Octets name) t w = refl
simple_has Text tag _ t w = absurd cc
simple_has String tag (Octets octets) t w = refl
simple_has String tag _ t w = absurd cc
simple_has (Controls number) tag (Octets octets) t w = refl
simple_has (Controls number) tag _ t w = absurd cc
simple_has Oid tag (Arcs arcs) t w = ap (option_map Arcs) (oid-read arcs (true_is (is_oid arcs) w))
simple_has Oid tag _ t w = absurd cc
simple_has Date tag (Octets text) t w =
    ap (λ b. let o : Option Content = cond b (Some (Octets text)) None in o) (and_parts (has_date_form text) (is_moment text) w).0
simple_has Date tag _ t w = absurd cc

root_is : (form : Form) (tag : Tag) (content : Content) → root (spelled tag form content) ≡ tag
root_is (one simple) tag content = refl
root_is (sequence row) tag (Number n) = refl
root_is (sequence row) tag (Truth truth) = refl
root_is (sequence row) tag (Octets octets) = refl
root_is (sequence row) tag (Arcs arcs) = refl
root_is (sequence row) tag (Fields inside) = refl
root_is (sequence row) tag (Listed inside) = refl
root_is (list row) tag (Number n) = refl
root_is (list row) tag (Truth truth) = refl
root_is (list row) tag (Octets octets) = refl
root_is (list row) tag (Arcs arcs) = refl
root_is (list row) tag (Fields inside) = refl
root_is (list row) tag (Listed inside) = refl

each_has : (row : Row) → ((inside : Slots) → all_fit row inside ≡ true → Holds row (fields row inside) inside)
    → (items : Items) → each_within (all_fit row) items ≡ true → Each (Holds row) (spelled_items (fields row) items) items
each_has row has nothing w = refl
each_has row has (item first rest) w =
    let b = and_parts (all_fit row first) (each_within (all_fit row) rest) w in
    (fields row first, first, rest, refl, refl, has first b.0, each_has row has rest b.1)

-- contents that are usual are the default
usual_is : (usual content : Content) → is_usual usual content ≡ true → content ≡ usual
usual_is (Number m) (Number n) e = ap Number ((Decides-int_eq n m).0 e)
usual_is (Truth true) (Truth true) e = refl
usual_is (Truth true) (Truth false) e = absurd cc
usual_is (Truth false) (Truth true) e = absurd cc
usual_is (Truth false) (Truth false) e = refl
usual_is (Listed nothing) (Listed nothing) e = refl
usual_is _ _ e = absurd cc

-- by whether it is left out
field_has : (number : ℕ) (form : Form) (need : Need) (row : Row) (content : Content) (rest : Slots) (b : Bool) → b ≡ is_default need content
    → Has form (spelled (context number) form content) content → Holds row (fields row rest) rest
    → Holds (field number form need row) (cond b (fields row rest) (more (spelled (context number) form content) (fields row rest))) (present content rest)
field_has number form need row content rest false s h r =
    inl (spelled (context number) form content, fields row rest, content, rest, refl, refl, root_is form (context number) content, h, r)
field_has number form required row content rest true s h r = absurd cc
field_has number form optional row content rest true s h r = absurd cc
field_has number form (default usual) row content rest true s h r =
    inr (Some content, rest, refl, ap (λ (c : Content). Some c) (usual_is usual content (sym s)), r)

mutual
  pub spelled_has : (form : Form) (tag : Tag) (content : Content) → is_form form ≡ true → fits form content ≡ true → Has form (spelled tag form content) content
  spelled_has (one simple) tag content t w = simple_has simple tag content t w
  spelled_has (sequence row) tag (Fields inside) t w = (tag, fields row inside, inside, refl, refl, fields_hold row 0 inside t w)
  spelled_has (sequence row) tag _ t w = absurd cc
  spelled_has (list row) tag (Listed inside) t w = (
    tag,
    spelled_items (fields row) inside,
    inside,
    refl,
    refl,
    each_has row (λ items. fields_hold row 0 items t) inside (and_parts (nat_le (count inside) 256) (each_within (all_fit row) inside) w).1,
  )
  spelled_has (list row) tag _ t w = absurd cc

  pub fields_hold : (row : Row) (least : ℕ) (inside : Slots) → is_table least row ≡ true → all_fit row inside ≡ true → Holds row (fields row inside) inside
  fields_hold end least nil t w = (refl, refl)
  fields_hold end least (present content rest) t w = absurd cc
  fields_hold end least (absent rest) t w = absurd cc
  fields_hold (field number form need row) least nil t w = absurd cc
  fields_hold (field number form need row) least (present content rest) t w =
      let q = tests least number form need row t in
      let b = and_parts (fits form content) (all_fit row rest) w in
      field_has number form need row content rest (is_default need content) refl (spelled_has form (context number) content q.inside b.0) (fields_hold row (number + 1) rest q.rest b.1)
  fields_hold (field number form required row) least (absent rest) t w = absurd cc
  fields_hold (field number form optional row) least (absent rest) t w =
      inr (None, rest, refl, refl, fields_hold row (number + 1) rest (tests least number form optional row t).rest w)
  fields_hold (field number form (default content) row) least (absent rest) t w = absurd cc
