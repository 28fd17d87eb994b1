use Rattle.std.proofs.Common.{sym, ◌∙◌}
use Rattle.vf_pdu_fields.proofs.InRange.{by_slots}
use Rattle.vf_pdu_parameters.specs.ParameterSlots.{attribute_slots}
use Rattle.vf_pdu_parameters.specs.Parameters.{attribute_fields}
use Rattle.vf_pdu_parameters.proofs.attributes_read.AttributesParameter.is_in_range.Goals as goal

pub returns : goal.returns
returns c = c.are_fields_in_range.ensures ∙ sym (by_slots attribute_fields (attribute_slots c.args.self.now))
