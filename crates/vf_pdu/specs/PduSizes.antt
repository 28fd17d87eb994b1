-- How long the values of PDUs are.
use Rattle.std.specs.Prelude.{ℕ, ◌+◌, ◌≤◌, length}
use Rattle.vf_ber.specs.Limits.{IsTooLarge}
use Rattle.vf_ber.specs.Spelling.{spell}
use Rattle.vf_pdu_fields.specs.Sizes.{most_in}
use Rattle.vf_pdu.specs.PduMeaning.{IsInRange}
use Rattle.vf_pdu.specs.PduNumbers.{number_of}
use Rattle.vf_pdu.specs.PduRows.{row_of}
use Rattle.vf_pdu.specs.PduValue.{value}
use Rattle.vf_pdu.specs.declared.pdu.Pdu.{Pdu}

-- the most octets of a PDU of this number: those of its fields, and seven for its tag and length
abbrev pub most : ℕ → ℕ
most number = most_in (row_of number) + 7

-- the value of a PDU has so many octets at most
abbrev pub PduIsShort : Type 0
PduIsShort = (pdu : Pdu) → IsInRange pdu → length (spell (value pdu)) ≤ most (number_of pdu)

-- and is within the limits of values
abbrev pub PduIsWithin : Type 0
PduIsWithin = (pdu : Pdu) → IsInRange pdu → IsTooLarge (value pdu) → ⊥
