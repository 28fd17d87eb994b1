-- Reading the fields of a row in one pass, from the first part on. What is read is what the parts have, and a fault
-- is the first one (specs of meanings and faults, and the laws).
use Rattle.std.specs.Prelude.{ℕ, ◌+◌, Bool, ◌&&◌, nat_eq, List, [], ◌∷◌, Option, None, Some, Result, Ok, Err, if◌then◌else◌, drop}
use Rattle.std.specs.Option.{option_and_then, option_map}
use Rattle.vf_ber.specs.declared.value.Value.{Value}
use Rattle.vf_ber.specs.Tree.{Tag, Tree, plain, built, Trees, none, more, root}
use Rattle.vf_ber.specs.Views.{trees_in}
use Rattle.vf_pdu_fields.specs.Content.{Content, Fields, Listed, Slots, nil, Items, nothing, item, Slot, slot}
use Rattle.vf_pdu_fields.specs.Forms.{shape_of}
use Rattle.vf_pdu_fields.specs.Fault.{Fault, Field, Range, Missing}
use Rattle.vf_pdu_fields.specs.Meaning.{fits}
use Rattle.vf_pdu_fields.specs.Rows.{Need, required, optional, default, Form, one, sequence, list, Row, end, field}

abbrev pub is_field : ℕ → Tag → Bool
is_field number tag = nat_eq tag.class 2 && nat_eq tag.number number

-- the first part, where it is this field
unfoldable pub part_here : ℕ → Trees → Option Tree
part_here number none = None
part_here number (more part parts) = if is_field number (root part) then Some part else None

-- the parts after this field, where it is the first
unfoldable pub parts_after : ℕ → Trees → Trees
parts_after number none = none
parts_after number (more part parts) = if is_field number (root part) then parts else more part parts

abbrev pub parts_of : Tree → Option Trees
parts_of (plain tag octets) = None
parts_of (built tag parts) = Some parts

-- the parts of a universal SEQUENCE
abbrev pub sequence_parts : Tree → Option Trees
sequence_parts (plain tag octets) = None
sequence_parts (built tag parts) = if nat_eq tag.class 0 && nat_eq tag.number 16 then Some parts else None

unfoldable pub each_shape : (Trees → Option Slots) → Trees → Option Items
each_shape inner none = Some nothing
each_shape inner (more part parts) =
    option_and_then (λ first. option_map (item first) (each_shape inner parts)) (option_and_then inner (sequence_parts part))

-- what an absent field means inside a sequence, where a required one is not of the form
abbrev pub lacking : Need → Option Slot
lacking required = None
lacking optional = Some None
lacking (default content) = Some (Some content)

unfoldable pub slot_at : (Tree → Option Content) → Option Slot → Option Tree → Option Slot
slot_at inner lack None = lack
slot_at inner lack (Some part) = option_map Some (inner part)

abbrev pub ended : Trees → Option Slots
ended none = Some nil
ended (more part parts) = None

abbrev mutual
  -- the contents of a value of this form, whatever their range
  pub shape : Form → Tree → Option Content
  shape (one simple) tree = shape_of simple tree
  shape (sequence row) tree = option_and_then (λ parts. option_map Fields (shapes row parts)) (parts_of tree)
  shape (list row) tree = option_and_then (λ parts. option_map Listed (each_shape (shapes row) parts)) (parts_of tree)

  pub shapes : Row → Trees → Option Slots
  shapes end parts = ended parts
  shapes (field number form need row) parts =
      option_and_then (λ first. option_map (slot first) (shapes row (parts_after number parts)))
      (slot_at (shape form) (lacking need) (part_here number parts))

infixl 10 ◌>>=◌
abbrev pub ◌>>=◌ : {A B : Type 0} → Result A Fault → (A → Result B Fault) → Result B Fault
(Ok x) >>= f = f x
(Err e) >>= f = Err e

abbrev pub checked : ℕ → ℕ → Form → Option Content → Result Slot Fault
checked place number form None = Err (Field place)
checked place number form (Some content) = if fits form content then Ok (Some content) else Err (Range number)

-- a part that isn't read: out of range where it has the form
abbrev pub unread : ℕ → ℕ → Bool → Result Slot Fault
unread place number has_form = if has_form then Err (Range number) else Err (Field place)

-- a field of a PDU, whose part is at this place where it is there
unfoldable pub field_at : ℕ → ℕ → Form → Slot → Option Tree → Result Slot Fault
field_at place number form lack None = Ok lack
field_at place number form lack (Some part) = checked place number form (shape form part)

unfoldable pub next_place : ℕ → Option Tree → ℕ
next_place place None = place
next_place place (Some part) = place + 1

abbrev pub absence : Need → Slot
absence required = None
absence optional = None
absence (default content) = Some content

unfoldable pub end_at : ℕ → Trees → Result (List Slot) Fault
end_at place none = Ok []
end_at place (more part parts) = Err (Field place)

abbrev pub found : Row → ℕ → Trees → Result (List Slot) Fault
found end place parts = end_at place parts
found (field number form need row) place parts =
    field_at place number form (absence need) (part_here number parts) >>= λ first.
    found row (next_place place (part_here number parts)) (parts_after number parts) >>= λ rest. Ok (first ∷ rest)

-- a required field is there
abbrev pub needed : ℕ → Slot → Result Slot Fault
needed number None = Err (Missing number)
needed number (Some content) = Ok (Some content)

abbrev pub filled : ℕ → Need → Slot → Result Slot Fault
filled number required slot = needed number slot
filled number optional slot = Ok slot
filled number (default content) slot = Ok slot

abbrev pub completed : Row → List Slot → Result (List Slot) Fault
completed end slots = Ok slots
completed (field number form need row) [] = Ok []
completed (field number form need row) (first ∷ rest) =
    filled number need first >>= λ kept. completed row rest >>= λ others. Ok (kept ∷ others)

abbrev pub reading : Row → Trees → Result (List Slot) Fault
reading row parts = found row 0 parts >>= completed row

-- the parts from this place on
abbrev pub rest : List Value → ℕ → Trees
rest parts place = trees_in (drop place parts)
