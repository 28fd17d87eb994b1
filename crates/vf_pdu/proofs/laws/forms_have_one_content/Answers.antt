use Rattle.vf_pdu.specs.PduRows.{row_of}
use Rattle.vf_pdu_fields.proofs.Complete.{has_shape}
use Rattle.vf_pdu_fields.proofs.FieldForms.{form_in}
use Rattle.vf_pdu_fields.proofs.Shapes.{shape_has}
use Rattle.vf_pdu.proofs.Tables.{row_is_table}
use Rattle.vf_pdu.proofs.laws.forms_have_one_content.Goals as goal

pub returns : goal.returns
returns c = λ number tag form f tree content.
    (has_shape form tree content (form_in (row_of number) 0 tag form (row_is_table number) f), shape_has form tree content)
