-- The value of a PDU means it.
use Rattle.std.proofs.Common.{◌≡◌, refl}
use Rattle.vf_ber.specs.Tree.{Trees}
use Rattle.vf_pdu_fields.specs.Content.{slots}
use Rattle.vf_pdu_fields.specs.Meaning.{all_fit}
use Rattle.vf_pdu_fields.specs.Writing.{fields}
use Rattle.vf_pdu_fields.proofs.ReadAgain.{fields_hold}
use Rattle.vf_pdu_fields.proofs.Written.{all_appended}
use Rattle.vf_pdu.specs.Laws.{WrittenIsReadAgain}
use Rattle.vf_pdu.specs.PduMeaning.{Means}
use Rattle.vf_pdu.specs.PduRows.{row_of}
use Rattle.vf_pdu.specs.PduNumbers.{number_of}
use Rattle.vf_pdu.specs.PduSlots.{slots_of}
use Rattle.vf_pdu.specs.PduValue.{ValueMeans, parts_put, value}
use Rattle.vf_pdu.specs.declared.pdu.Pdu.{Pdu}
use Rattle.vf_pdu.proofs.OneMeaning.{has_no_fault, is_one, true_of}
use Rattle.vf_pdu.proofs.Tables.{row_is_table}

pub value_is : ValueMeans
value_is pdu h = record {
  parts = fields (row_of (number_of pdu)) (slots (slots_of pdu));
  built_of = refl;
  has = fields_hold (row_of (number_of pdu)) 0 (slots (slots_of pdu)) (row_is_table (number_of pdu)) (true_of (all_fit (row_of (number_of pdu)) (slots (slots_of pdu))) h);
  in_range = h;
}

-- the fields that are put one after another are those of the value
pub put_is : (pdu : Pdu) (made : Trees) → made ≡ parts_put pdu → made ≡ fields (row_of (number_of pdu)) (slots (slots_of pdu))
put_is pdu made e = all_appended (row_of (number_of pdu)) (slots_of pdu) made e

pub is_read_again : WrittenIsReadAgain
is_read_again pdu h =
    let means : Means (value pdu) pdu = value_is pdu h in
    (has_no_fault (value pdu) pdu means, λ other m. is_one (value pdu) other pdu m means)
