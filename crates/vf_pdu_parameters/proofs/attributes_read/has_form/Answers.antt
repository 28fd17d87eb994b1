use Rattle.std.proofs.Common.{ap, sym, ◌∙◌}
use Rattle.std.specs.Option.{option_map}
use Rattle.vf_pdu_fields.specs.Reading.{rest}
use Rattle.vf_pdu_fields.specs.Rows.{Any, Integer, Row, Text, field, one, optional}
use Rattle.vf_pdu_fields.specs.Slots.{maybe_integer, maybe_octets}
use Rattle.vf_pdu_fields.proofs.Steps.{go_on}
use Rattle.vf_pdu_parameters.specs.AttributeTails.{contents_and_terms}
use Rattle.vf_pdu_parameters.proofs.ItemLists.{if_ok}
use Rattle.vf_pdu_parameters.proofs.attributes_read.has_form.Goals as goal

abbrev later : Row
later = field 1 (one (Integer Any)) optional contents_and_terms

pub returns : goal.returns
returns c =
    let p = c.args.parts.now in
    let first = go_on 0 (one Text) optional later (rest p 0) (rest p c.maybe_octets_in.new.at) (maybe_octets c.in-Some.field-0)
    (sym c.in_ok-maybe_octets_in.ensures.value ∙ ap (option_map maybe_octets) c.in-Some.is) c.in_ok-maybe_octets_in.ensures.others in
    let second = go_on 1 (one (Integer Any)) optional contents_and_terms (rest p c.maybe_octets_in.new.at) (rest p c.maybe_integer_in.new.at) (maybe_integer c.in-Some-maybe_integer_in.field-0)
    (sym c.in-Some-maybe_integer_in.ensures.value) c.in-Some-maybe_integer_in.ensures.others in
    if_ok _ _ (λ found h. h ∙ sym (first ∙ second)) c.have_contents_and_terms.result c.have_contents_and_terms.ensures
