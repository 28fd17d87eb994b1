use Rattle.std.proofs.Common.{◌≡◌, rules}
use Rattle.vf_ber.specs.Tree.{none}
use Rattle.vf_pdu_fields.specs.Rows.{optional}
use Rattle.vf_pdu_fields.specs.Writing.{◌▸◌, appended, part_of}
use Rattle.vf_pdu_fields.proofs.Written.{all_appended}
use Rattle.vf_pdu_parameters.specs.ParameterSlots.{attribute_slots, maybe_grants}
use Rattle.vf_pdu_parameters.specs.Parameters.{attribute_fields, grants}
use Rattle.vf_pdu_parameters.proofs.writing_attributes.attribute_parts.Goals as goal

pub returns : goal.returns
returns c =
    let listed : c.put_maybe_list.new.parts ≡ c.put_maybe_contents.new.parts ▸ part_of 3 grants optional (maybe_grants c.args.attributes.now.terms) = c.in_ok-put_maybe_list.ensures.ok in
    let put : c.put_maybe_integer-2.new.parts ≡ appended none attribute_fields (attribute_slots c.args.attributes.now) = search (rules, listed) in
    all_appended attribute_fields (attribute_slots c.args.attributes.now) c.put_maybe_integer-2.new.parts put
