use Rattle.std.proofs.Common.{◌≡◌, Bool, true, sym, ◌∙◌, arith}
use Rattle.std.specs.Prelude.{is_some}
use Rattle.vf_pdu_fields.specs.Reading.{rest, shapes}
use Rattle.vf_pdu_fields.specs.Rows.{Row, field, optional}
use Rattle.vf_pdu_fields.proofs.Steps.{by_field, went_on}
use Rattle.vf_pdu_parameters.specs.AttributeTails.{contents_and_terms}
use Rattle.vf_pdu_parameters.specs.Parameters.{attribute_stamps, contents, grants}
use Rattle.vf_pdu_parameters.proofs.ItemLists.{if_ok}
use Rattle.vf_pdu_parameters.proofs.attributes_read.have_contents_and_terms.Goals as goal

abbrev later : Row
later = field 3 grants optional attribute_stamps

pub returns : goal.returns
returns c =
    let p = c.args.parts.now in
    let first : c.in_ok-maybe_has.field-0 ≡ true = grind (arith, c.if-not-branch.false) in
    let second : c.in_ok-maybe_has-2.field-0 ≡ true = grind (arith, c.if-not-branch-2.false) in
    let whole : Bool = is_some (shapes contents_and_terms (rest p c.args.from)) in
    let rest_of : Bool = is_some (shapes later (rest p c.maybe_has.new.at)) in
    let last : Bool = is_some (shapes attribute_stamps (rest p c.maybe_has-2.new.at)) in
    let a = went_on whole c.in_ok-maybe_has.field-0 rest_of first
    (by_field 2 contents optional later (rest p c.args.from) (rest p c.maybe_has.new.at) c.in_ok-maybe_has.field-0 c.in_ok-maybe_has.ensures.value c.in_ok-maybe_has.ensures.others) in
    let b = went_on rest_of c.in_ok-maybe_has-2.field-0 last second
    (by_field 3 grants optional attribute_stamps (rest p c.maybe_has.new.at) (rest p c.maybe_has-2.new.at) c.in_ok-maybe_has-2.field-0 c.in_ok-maybe_has-2.ensures.value c.in_ok-maybe_has-2.ensures.others) in
    if_ok _ _ (λ found h. h ∙ sym (a ∙ b)) c.have_all_stamps.result c.have_all_stamps.ensures
