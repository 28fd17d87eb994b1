-- The one value of what the fields of a row hold: each part in one piece and in the fewest octets, and a field that is
-- absent or has its default left out (profile).
use Rattle.std.specs.Prelude.{ℕ, Bool, true, false, not, List, [], ◌∷◌, Option, Some, None, if◌then◌else◌}
use Rattle.std.specs.Option.{option_and_then}
use Rattle.std.specs.Ordering.{int_eq}
use Rattle.vf_ber.specs.Contents.{boolean_octets, integer_octets, oid_octets}
use Rattle.vf_ber.specs.Tree.{Tag, Tree, plain, built, Trees, none, more, joined}
use Rattle.vf_pdu_fields.specs.Content.{Content, Number, Truth, Octets, Arcs, Fields, Listed, Slots, nil, present, absent, Items, nothing, item, Slot}
use Rattle.vf_pdu_fields.specs.Meaning.{context, universal}
use Rattle.vf_pdu_fields.specs.Rows.{Need, required, optional, default, Form, one, sequence, list, Row, end, field}

-- the contents octets of what isn't constructed
abbrev pub contents_octets : Content → List ℕ
contents_octets (Number n) = integer_octets n
contents_octets (Truth truth) = boolean_octets truth
contents_octets (Octets octets) = octets
contents_octets (Arcs arcs) = oid_octets arcs
contents_octets (Fields inside) = []
contents_octets (Listed inside) = []

-- defaults are numbers, truth values and empty lists
abbrev pub is_usual : Content → Content → Bool
is_usual (Number usual) (Number n) = int_eq n usual
is_usual (Truth usual) (Truth truth) = if usual then truth else not truth
is_usual (Listed nothing) (Listed nothing) = true
is_usual _ _ = false

abbrev pub is_default : Need → Content → Bool
is_default required content = false
is_default optional content = false
is_default (default usual) content = is_usual usual content

-- each item of a list is a universal SEQUENCE
abbrev pub spelled_items : (Slots → Trees) → Items → Trees
spelled_items inner nothing = none
spelled_items inner (item first rest) = more (built (universal 16) (inner first)) (spelled_items inner rest)

abbrev mutual
  -- a value of this tag and form with these contents
  pub spelled : Tag → Form → Content → Tree
  spelled tag (one simple) content = plain tag (contents_octets content)
  spelled tag (sequence row) (Fields inside) = built tag (fields row inside)
  spelled tag (sequence row) _ = built tag none
  spelled tag (list row) (Listed inside) = built tag (spelled_items (fields row) inside)
  spelled tag (list row) _ = built tag none

  pub fields : Row → Slots → Trees
  fields end slots = none
  fields (field number form need row) nil = none
  fields (field number form need row) (absent slots) = fields row slots
  fields (field number form need row) (present content slots) =
      if is_default need content then fields row slots else more (spelled (context number) form content) (fields row slots)

-- The same from the first field on, each put after those before it.

abbrev pub part_of : ℕ → Form → Need → Slot → Option Tree
part_of number form need slot =
    option_and_then (λ content. if is_default need content then None else Some (spelled (context number) form content)) slot

infixl 10 ◌▸◌
abbrev pub ◌▸◌ : Trees → Option Tree → Trees
parts ▸ None = parts
parts ▸ (Some part) = joined parts (more part none)

abbrev pub appended : Trees → Row → List Slot → Trees
appended parts end slots = parts
appended parts (field number form need row) [] = parts
appended parts (field number form need row) (slot ∷ slots) = appended (parts ▸ part_of number form need slot) row slots
