use Rattle.std.proofs.Common.{◌≡◌, Bool, subst, sym, ◌∙◌}
use Rattle.std.specs.Prelude.{IsTrue}
use Rattle.vf_pdu_fields.specs.Content.{slots}
use Rattle.vf_pdu_fields.specs.Meaning.{all_fit}
use Rattle.vf_pdu_fields.proofs.InRange.{by_slots}
use Rattle.vf_pdu.specs.PduNumbers.{number_of}
use Rattle.vf_pdu.specs.PduRows.{row_of}
use Rattle.vf_pdu.specs.PduSlots.{slots_of}
use Rattle.vf_pdu.proofs.range.is_in_range.Goals as goal

pub returns : goal.returns
returns c =
    let pdu = c.args.pdu.now in
    let same : c.are_in_range.result ≡ all_fit (row_of (number_of pdu)) (slots (slots_of pdu)) =
    c.are_in_range.ensures ∙ sym (by_slots (row_of (number_of pdu)) (slots_of pdu)) in
    let T : Bool → Type 0 = λ b. IsTrue b in
    (subst T same, subst T (sym same))
