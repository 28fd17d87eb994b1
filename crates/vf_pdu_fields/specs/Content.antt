-- What the fields of PDUs hold, apart from how it is spelled.
use Rattle.std.specs.Prelude.{ℕ, ℤ, Bool, List, [], ◌∷◌, Option, None, Some}

mutual
  pub data Content : Type 0 where
    Number : ℤ → Content
    Truth : Bool → Content
    Octets : List ℕ → Content
    Arcs : List ℕ → Content
    Fields : Slots → Content
    Listed : Items → Content

  -- the fields of a PDU or of a sequence by their row: each is there or absent
  pub data Slots : Type 0 where
    nil : Slots
    present : Content → Slots → Slots
    absent : Slots → Slots

  -- a list of sequences
  pub data Items : Type 0 where
    nothing : Items
    item : Slots → Items → Items

-- what is in a slot
abbrev pub Slot : Type 0
Slot = Option Content

abbrev pub slot : Slot → Slots → Slots
slot None slots = absent slots
slot (Some content) slots = present content slots

abbrev pub slots : List Slot → Slots
slots [] = nil
slots (first ∷ rest) = slot first (slots rest)

abbrev pub items_of : List Slots → Items
items_of [] = nothing
items_of (first ∷ rest) = item first (items_of rest)
