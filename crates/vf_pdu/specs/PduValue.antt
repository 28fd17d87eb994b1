-- The one value of each PDU (ISO 8571-4; defaults left out, each part in one piece and in the fewest octets).
use Rattle.vf_ber.specs.Tree.{Tree, built, Trees, none}
use Rattle.vf_pdu_fields.specs.Content.{slots}
use Rattle.vf_pdu_fields.specs.Meaning.{context}
use Rattle.vf_pdu_fields.specs.Writing.{appended, fields}
use Rattle.vf_pdu.specs.PduMeaning.{IsInRange, Means}
use Rattle.vf_pdu.specs.PduRows.{row_of}
use Rattle.vf_pdu.specs.PduNumbers.{number_of}
use Rattle.vf_pdu.specs.PduSlots.{slots_of}
use Rattle.vf_pdu.specs.declared.pdu.Pdu.{Pdu}

abbrev pub value : Pdu → Tree
value pdu = built (context (number_of pdu)) (fields (row_of (number_of pdu)) (slots (slots_of pdu)))

-- its fields, each put after those before it
abbrev pub parts_put : Pdu → Trees
parts_put pdu = appended none (row_of (number_of pdu)) (slots_of pdu)

-- the value of a PDU means it
abbrev pub ValueMeans : Type 0
ValueMeans = (pdu : Pdu) → IsInRange pdu → Means (value pdu) pdu
