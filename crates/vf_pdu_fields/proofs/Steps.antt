-- Reading a sequence, a field at a time.
use Rattle.std.proofs.Common.{◌≡◌, ℕ, ℤ, true, false, w64, to_z, of_z, ap, sym, ◌∙◌, refl, arith}
use Rattle.std.proofs.lemmas.Int.{to_z-of_z}
use Rattle.std.specs.Prelude.{◌&&◌, Bool, FitsSigned, Option, Some, None, is_some}
use Rattle.std.specs.Option.{option_and_then, option_map}
use Rattle.vf_ber.specs.Tree.{Tree, Trees}
use Rattle.vf_pdu_fields.specs.Content.{Fields, Slots, Slot, slot}
use Rattle.vf_pdu_fields.specs.Reading.{part_here, parts_after, parts_of, sequence_parts, lacking, slot_at, shape, shapes}
use Rattle.vf_pdu_fields.specs.Rows.{Need, Form, sequence, Row, field}

some_mapped : {A B : Type 0} (f : A → B) (o : Option A) → is_some (option_map f o) ≡ is_some o
some_mapped f None = refl
some_mapped f (Some x) = refl

-- the field has this, and those after it have those
pub step : (number : ℕ) (form : Form) (need : Need) (row : Row) (parts after : Trees) (first : Slot) (others : Slots)
    → slot_at (shape form) (lacking need) (part_here number parts) ≡ Some first → after ≡ parts_after number parts → shapes row after ≡ Some others
    → shapes (field number form need row) parts ≡ Some (slot first others)
step number form need row parts after first others e b r = grind (arith, e, b, r)

pub whole : (row : Row) (tree : Tree) (parts start : Trees) (inside : Slots) → parts_of tree ≡ Some parts → start ≡ parts
    → shapes row start ≡ Some inside → shape (sequence row) tree ≡ Some (Fields inside)
whole row tree parts start inside p b s = grind (arith, p, b, s)

-- the same of an item
pub whole_item : (row : Row) (tree : Tree) (parts start : Trees) (inside : Slots) → sequence_parts tree ≡ Some parts → start ≡ parts
    → shapes row start ≡ Some inside → option_and_then (shapes row) (sequence_parts tree) ≡ Some inside
whole_item row tree parts start inside p b s = grind (arith, p, b, s)

-- a stored number reads as itself
pub stored : (z : ℤ) → FitsSigned w64 z → to_z w64 (of_z w64 z) ≡ z
stored z fits = to_z-of_z w64 z fits

by_first : (o : Option Slot) (others : Option Slots) → is_some (option_and_then (λ (x : Slot). option_map (slot x) others) o) ≡ (is_some o && is_some others)
by_first None others = refl
by_first (Some x) others = some_mapped (slot x) others

-- fields have their form where the first one has and those after it have
pub by_field : (number : ℕ) (form : Form) (need : Need) (row : Row) (parts after : Trees) (b : Bool) → b ≡ is_some (slot_at (shape form) (lacking need) (part_here number parts))
    → after ≡ parts_after number parts → is_some (shapes (field number form need row) parts) ≡ (b && is_some (shapes row after))
by_field number form need row parts after b e a =
    by_first (slot_at (shape form) (lacking need) (part_here number parts)) (shapes row (parts_after number parts))
    ∙ ap (λ (x : Bool). x && is_some (shapes row (parts_after number parts))) (sym e) ∙ ap (λ (t : Trees). b && is_some (shapes row t)) (sym a)

-- a field that has the form: what follows decides
pub go_on : (number : ℕ) (form : Form) (need : Need) (row : Row) (parts after : Trees) (first : Slot) → slot_at (shape form) (lacking need) (part_here number parts) ≡ Some first
    → after ≡ parts_after number parts → is_some (shapes (field number form need row) parts) ≡ is_some (shapes row after)
go_on number form need row parts after first e b =
    ap (λ (o : Option Slot). is_some (option_and_then (λ (x : Slot). option_map (slot x) (shapes row (parts_after number parts))) o)) e
    ∙ some_mapped (slot first) (shapes row (parts_after number parts)) ∙ ap (λ (t : Trees). is_some (shapes row t)) (sym b)

-- where a first test decides that of the whole
pub stopped : (whole first others : Bool) → first ≡ false → whole ≡ (first && others) → false ≡ whole
stopped whole first others f e = sym (e ∙ ap (λ (b : Bool). b && others) f)

pub went_on : (whole first others : Bool) → first ≡ true → whole ≡ (first && others) → whole ≡ others
went_on whole first others f e = e ∙ ap (λ (b : Bool). b && others) f

pub sequence_has : (row : Row) (tree : Tree) (parts start : Trees) → parts_of tree ≡ Some parts → start ≡ parts → is_some (shape (sequence row) tree) ≡ is_some (shapes row start)
sequence_has row tree parts start p s =
    ap (λ (o : Option Trees). is_some (option_and_then (λ (x : Trees). option_map Fields (shapes row x)) o)) p
    ∙ some_mapped Fields (shapes row parts) ∙ ap (λ (t : Trees). is_some (shapes row t)) (sym s)
