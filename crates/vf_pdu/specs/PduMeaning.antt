-- Which PDU a value means (ISO 8571-4; the fields are this profile's).
use Rattle.std.specs.Prelude.{◌≡◌, IsTrue}
use Rattle.vf_ber.specs.Tree.{Tree, built, Trees}
use Rattle.vf_pdu_fields.specs.Content.{slots}
use Rattle.vf_pdu_fields.specs.Meaning.{Holds, all_fit, context}
use Rattle.vf_pdu.specs.PduRows.{row_of}
use Rattle.vf_pdu.specs.PduNumbers.{number_of}
use Rattle.vf_pdu.specs.PduSlots.{slots_of}
use Rattle.vf_pdu.specs.declared.pdu.Pdu.{Pdu}

-- each field of the PDU is in the range of its row
abbrev pub IsInRange : Pdu → Type 0
IsInRange pdu = IsTrue (all_fit (row_of (number_of pdu)) (slots (slots_of pdu)))

-- The value is built, of context class and of the PDU's number, and its parts have the PDU's fields, in range.
pub record Means (tree : Tree) (pdu : Pdu) : Type 0 where
  pub parts : Trees
  pub built_of : tree ≡ built (context (number_of pdu)) parts
  pub has : Holds (row_of (number_of pdu)) parts (slots (slots_of pdu))
  pub in_range : IsInRange pdu
