use Rattle.std.proofs.Common.{refl, rules}
use Rattle.vf_ber.specs.Views.{trees_in}
use Rattle.vf_pdu.specs.PduAttribute.{change_attrib_request}
use Rattle.vf_pdu_parameters.proofs.ReadingSteps.{found_end, found_next, read_is, stops_at_end, stops_here, stops_later}
use Rattle.vf_pdu.proofs.ReadingSteps.{read_stops}
use Rattle.vf_pdu.proofs.attribute.read_change_attrib_request.Goals as goal

pub returns-in_err-name : goal.returns-in_err-name
returns-in_err-name c =
    let error = c.in_err-name.field-0.0 in
    read_stops error 16 change_attrib_request (trees_in c.args.parts.now) c.from_residual.result c.from_residual.ensures.1
    (stops_here error _ _ _ _ _ _ c.in_err-name.ensures.value)

pub returns-in_err-permitted : goal.returns-in_err-permitted
returns-in_err-permitted c =
    let error = c.in_err-permitted.field-0.0 in
    read_stops error 16 change_attrib_request (trees_in c.args.parts.now) c.from_residual-in_err-permitted.result c.from_residual-in_err-permitted.ensures.1
    (stops_later error _ _ _ _ _ _ _ _ _ c.in_ok-name.ensures.value c.in_ok-name.ensures.place c.in_ok-name.ensures.others
    (stops_here error _ _ _ _ _ _ c.in_err-permitted.ensures.value))

pub returns-in_err-terms : goal.returns-in_err-terms
returns-in_err-terms c =
    let error = c.in_err-terms.field-0.0 in
    read_stops error 16 change_attrib_request (trees_in c.args.parts.now) c.from_residual-in_err-terms.result c.from_residual-in_err-terms.ensures.1
    (stops_later error _ _ _ _ _ _ _ _ _ c.in_ok-name.ensures.value c.in_ok-name.ensures.place c.in_ok-name.ensures.others
    (stops_later error _ _ _ _ _ _ _ _ _ c.in_ok-permitted.ensures.value c.in_ok-permitted.ensures.place c.in_ok-permitted.ensures.others
    (stops_here error _ _ _ _ _ _ c.in_err-terms.ensures.value)))

pub returns-in_err-others : goal.returns-in_err-others
returns-in_err-others c =
    let error = c.in_err-others.field-0.0 in
    read_stops error 16 change_attrib_request (trees_in c.args.parts.now) c.from_residual-in_err-others.result c.from_residual-in_err-others.ensures.1
    (stops_later error _ _ _ _ _ _ _ _ _ c.in_ok-name.ensures.value c.in_ok-name.ensures.place c.in_ok-name.ensures.others
    (stops_later error _ _ _ _ _ _ _ _ _ c.in_ok-permitted.ensures.value c.in_ok-permitted.ensures.place c.in_ok-permitted.ensures.others
    (stops_later error _ _ _ _ _ _ _ _ _ c.in_ok-terms.ensures.value c.in_ok-terms.ensures.place c.in_ok-terms.ensures.others
    (stops_here error _ _ _ _ _ _ c.in_err-others.ensures.value))))

pub returns-in_err-end : goal.returns-in_err-end
returns-in_err-end c =
    let error = c.in_err-end.field-0.0 in
    read_stops error 16 change_attrib_request (trees_in c.args.parts.now) c.from_residual-in_err-end.result c.from_residual-in_err-end.ensures.1
    (stops_later error _ _ _ _ _ _ _ _ _ c.in_ok-name.ensures.value c.in_ok-name.ensures.place c.in_ok-name.ensures.others
    (stops_later error _ _ _ _ _ _ _ _ _ c.in_ok-permitted.ensures.value c.in_ok-permitted.ensures.place c.in_ok-permitted.ensures.others
    (stops_later error _ _ _ _ _ _ _ _ _ c.in_ok-terms.ensures.value c.in_ok-terms.ensures.place c.in_ok-terms.ensures.others
    (stops_later error _ _ _ _ _ _ _ _ _ c.in_ok-others.ensures.value c.in_ok-others.ensures.place c.in_ok-others.ensures.others
    (stops_at_end error _ _ c.in_err-end.ensures)))))

pub returns : goal.returns
returns c = (
  refl,
  read_is change_attrib_request (trees_in c.args.parts.now) _ _
      (found_next _ _ _ _ _ _ _ _ _ _ c.in_ok-name.ensures.value c.in_ok-name.ensures.place c.in_ok-name.ensures.others
      (found_next _ _ _ _ _ _ _ _ _ _ c.in_ok-permitted.ensures.value c.in_ok-permitted.ensures.place c.in_ok-permitted.ensures.others
      (found_next _ _ _ _ _ _ _ _ _ _ c.in_ok-terms.ensures.value c.in_ok-terms.ensures.place c.in_ok-terms.ensures.others
      (found_next _ _ _ _ _ _ _ _ _ _ c.in_ok-others.ensures.value c.in_ok-others.ensures.place c.in_ok-others.ensures.others
      (found_end _ _ c.in_ok-end.ensures))))) (search rules),
)
