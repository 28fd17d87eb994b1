use Rattle.std.proofs.Common.{sym, ◌∙◌}
use Rattle.vf_ber.specs.Views.{tree_of, trees_in}
use Rattle.vf_pdu_fields.proofs.Steps.{sequence_has}
use Rattle.vf_pdu_parameters.specs.Parameters.{attribute_fields}
use Rattle.vf_pdu_parameters.proofs.ItemLists.{if_ok}
use Rattle.vf_pdu_parameters.proofs.attributes_read.AttributesParameter.has_form.Goals as goal

pub returns-in-Some : goal.returns-in-Some
returns-in-Some c =
    if_ok _ _ (λ found h. h ∙ sym (sequence_has attribute_fields (tree_of c.args.part.now) c.in-Some.fields.now (trees_in c.as_slice.result.now) (sym c.in-Some.ensures) c.as_slice.ensures.values))
    c.has_form.result c.has_form.ensures
