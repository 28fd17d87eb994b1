use Rattle.std.proofs.Common.{refl, rules}
use Rattle.vf_ber.specs.Views.{trees_in}
use Rattle.vf_pdu.specs.PduAttribute.{open_response}
use Rattle.vf_pdu_parameters.proofs.ReadingSteps.{found_end, found_next, read_is, stops_at_end, stops_here, stops_later}
use Rattle.vf_pdu.proofs.ReadingSteps.{read_stops}
use Rattle.vf_pdu.proofs.attribute.read_open_response.Goals as goal

pub returns-in_err-diagnostic : goal.returns-in_err-diagnostic
returns-in_err-diagnostic c =
    let error = c.in_err-diagnostic.field-0.0 in
    read_stops error 19 open_response (trees_in c.args.parts.now) c.from_residual.result c.from_residual.ensures.1
    (stops_here error _ _ _ _ _ _ c.in_err-diagnostic.ensures.value)

pub returns-in_err-contents : goal.returns-in_err-contents
returns-in_err-contents c =
    let error = c.in_err-contents.field-0.0 in
    read_stops error 19 open_response (trees_in c.args.parts.now) c.from_residual-in_err-contents.result c.from_residual-in_err-contents.ensures.1
    (stops_later error _ _ _ _ _ _ _ _ _ c.in_ok-diagnostic.ensures.value c.in_ok-diagnostic.ensures.place c.in_ok-diagnostic.ensures.others
    (stops_here error _ _ _ _ _ _ c.in_err-contents.ensures.value))

pub returns-in_err-end : goal.returns-in_err-end
returns-in_err-end c =
    let error = c.in_err-end.field-0.0 in
    read_stops error 19 open_response (trees_in c.args.parts.now) c.from_residual-in_err-end.result c.from_residual-in_err-end.ensures.1
    (stops_later error _ _ _ _ _ _ _ _ _ c.in_ok-diagnostic.ensures.value c.in_ok-diagnostic.ensures.place c.in_ok-diagnostic.ensures.others
    (stops_later error _ _ _ _ _ _ _ _ _ c.in_ok-contents.ensures.value c.in_ok-contents.ensures.place c.in_ok-contents.ensures.others
    (stops_at_end error _ _ c.in_err-end.ensures)))

pub returns : goal.returns
returns c = (
  refl,
  read_is open_response (trees_in c.args.parts.now) _ _
      (found_next _ _ _ _ _ _ _ _ _ _ c.in_ok-diagnostic.ensures.value c.in_ok-diagnostic.ensures.place c.in_ok-diagnostic.ensures.others
      (found_next _ _ _ _ _ _ _ _ _ _ c.in_ok-contents.ensures.value c.in_ok-contents.ensures.place c.in_ok-contents.ensures.others
      (found_end _ _ c.in_ok-end.ensures))) (search rules),
)
