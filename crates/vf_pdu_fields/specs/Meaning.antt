-- Which PDU a value means (ISO 8571-4; the fields are this profile's).
use Rattle.std.specs.Prelude.{◌≡◌, ℕ, ◌+◌, Bool, true, false, ◌&&◌, ◌⊎◌, nat_le, None, Some}
use Rattle.vf_ber.specs.Tree.{Tag, Tree, built, Trees, none, more, root}
use Rattle.vf_pdu_fields.specs.Content.{Content, Fields, Listed, Slots, nil, present, absent, Items, nothing, item, Slot, slot, slots}
use Rattle.vf_pdu_fields.specs.Forms.{shape_of, within}
use Rattle.vf_pdu_fields.specs.declared.limits.TheConstants.{MOST_ITEMS}
use Rattle.vf_pdu_fields.specs.Rows.{Need, required, optional, default, Form, one, sequence, list, Row, end, field}

abbrev pub context : ℕ → Tag
context number = record { class = 2; number = number }

abbrev pub universal : ℕ → Tag
universal number = record { class = 0; number = number }

-- what an absent field means
abbrev pub Lacks : Need → Slot → Type 0
Lacks required slot = ⊥
Lacks optional slot = slot ≡ None
Lacks (default content) slot = slot ≡ Some content

-- each part of a list is a universal SEQUENCE, whose parts mean its item
abbrev pub Each : (Trees → Slots → Type 0) → Trees → Items → Type 0
Each Means none items = items ≡ nothing
Each Means (more part parts) items =
    (inner : Trees) × (first : Slots) × (rest : Items) × (part ≡ built (universal 16) inner) × (items ≡ item first rest)
    × Means inner first × Each Means parts rest

abbrev mutual
  -- a value of this form has these contents, whatever their range
  pub Has : Form → Tree → Content → Type 0
  Has (one simple) tree content = shape_of simple tree ≡ Some content
  Has (sequence row) tree content =
      (tag : Tag) × (parts : Trees) × (inside : Slots) × (tree ≡ built tag parts) × (content ≡ Fields inside) × Holds row parts inside
  Has (list row) tree content =
      (tag : Tag) × (parts : Trees) × (inside : Items) × (tree ≡ built tag parts) × (content ≡ Listed inside) × Each (Holds row) parts inside

  -- The parts have these contents by the row, field by field: the first part is the field's, or the field is absent,
  -- and the others follow.
  pub Holds : Row → Trees → Slots → Type 0
  Holds end parts slots = (parts ≡ none) × (slots ≡ nil)
  Holds (field number form need row) parts slots =
      ((part : Tree) × (others : Trees) × (content : Content) × (rest : Slots) × (parts ≡ more part others)
      × (slots ≡ present content rest) × (root part ≡ context number) × Has form part content × Holds row others rest)
      ⊎ ((first : Slot) × (rest : Slots) × (slots ≡ slot first rest) × Lacks need first × Holds row parts rest)

abbrev pub count : Items → ℕ
count nothing = 0
count (item first rest) = count rest + 1

abbrev pub each_within : (Slots → Bool) → Items → Bool
each_within test nothing = true
each_within test (item first rest) = test first && each_within test rest

-- The contents are of the form and in range: that of each simple value, and so many items at most. Each field is there or
-- may be absent.
abbrev mutual
  pub fits : Form → Content → Bool
  fits (one simple) content = within simple content
  fits (sequence row) (Fields inside) = all_fit row inside
  fits (sequence row) _ = false
  fits (list row) (Listed inside) = nat_le (count inside) MOST_ITEMS && each_within (all_fit row) inside
  fits (list row) _ = false

  pub all_fit : Row → Slots → Bool
  all_fit end nil = true
  all_fit end (present content slots) = false
  all_fit end (absent slots) = false
  all_fit (field number form need row) nil = false
  all_fit (field number form need row) (present content slots) = fits form content && all_fit row slots
  all_fit (field number form optional row) (absent slots) = all_fit row slots
  all_fit (field number form required row) (absent slots) = false
  all_fit (field number form (default content) row) (absent slots) = false
