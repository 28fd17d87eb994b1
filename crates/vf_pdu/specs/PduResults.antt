-- What reading the fields of a PDU answers.
use Rattle.std.specs.Prelude.{◌≡◌, ℕ, Result, Ok, Err}
use Rattle.vf_ber.specs.Tree.{Trees}
use Rattle.vf_pdu_fields.specs.Reading.{reading}
use Rattle.vf_pdu_fields.specs.Results.{Fails}
use Rattle.vf_pdu_fields.specs.Rows.{Row}
use Rattle.vf_pdu_fields.specs.declared.errors.PduError.{PduError}
use Rattle.vf_pdu.specs.PduNumbers.{number_of}
use Rattle.vf_pdu.specs.PduSlots.{slots_of}
use Rattle.vf_pdu.specs.declared.pdu.Pdu.{Pdu}

-- a PDU of this number, whose fields are read by this row
abbrev pub Reads : ℕ → Row → Trees → Result Pdu PduError → Type 0
Reads number row parts (Ok pdu) = (number_of pdu ≡ number) × (reading row parts ≡ Ok (slots_of pdu))
Reads number row parts (Err error) = Fails error (reading row parts)
