use Rattle.std.proofs.Common.{refl, rules}
use Rattle.vf_ber.specs.Views.{trees_in}
use Rattle.vf_pdu.specs.PduSelection.{create_request}
use Rattle.vf_pdu_parameters.proofs.ReadingSteps.{found_end, found_next, read_is, stops_at_end, stops_here, stops_later}
use Rattle.vf_pdu.proofs.ReadingSteps.{read_stops}
use Rattle.vf_pdu.proofs.selection.read_create_request.Goals as goal

pub returns-in_err-over : goal.returns-in_err-over
returns-in_err-over c =
    let error = c.in_err-over.field-0.0 in
    read_stops error 10 create_request (trees_in c.args.parts.now) c.from_residual.result c.from_residual.ensures.1
    (stops_here error _ _ _ _ _ _ c.in_err-over.ensures.value)

pub returns-in_err-name : goal.returns-in_err-name
returns-in_err-name c =
    let error = c.in_err-name.field-0.0 in
    read_stops error 10 create_request (trees_in c.args.parts.now) c.from_residual-in_err-name.result c.from_residual-in_err-name.ensures.1
    (stops_later error _ _ _ _ _ _ _ _ _ c.in_ok-over.ensures.value c.in_ok-over.ensures.place c.in_ok-over.ensures.others
    (stops_here error _ _ _ _ _ _ c.in_err-name.ensures.value))

pub returns-in_err-contents : goal.returns-in_err-contents
returns-in_err-contents c =
    let error = c.in_err-contents.field-0.0 in
    read_stops error 10 create_request (trees_in c.args.parts.now) c.from_residual-in_err-contents.result c.from_residual-in_err-contents.ensures.1
    (stops_later error _ _ _ _ _ _ _ _ _ c.in_ok-over.ensures.value c.in_ok-over.ensures.place c.in_ok-over.ensures.others
    (stops_later error _ _ _ _ _ _ _ _ _ c.in_ok-name.ensures.value c.in_ok-name.ensures.place c.in_ok-name.ensures.others
    (stops_here error _ _ _ _ _ _ c.in_err-contents.ensures.value)))

pub returns-in_err-permitted : goal.returns-in_err-permitted
returns-in_err-permitted c =
    let error = c.in_err-permitted.field-0.0 in
    read_stops error 10 create_request (trees_in c.args.parts.now) c.from_residual-in_err-permitted.result c.from_residual-in_err-permitted.ensures.1
    (stops_later error _ _ _ _ _ _ _ _ _ c.in_ok-over.ensures.value c.in_ok-over.ensures.place c.in_ok-over.ensures.others
    (stops_later error _ _ _ _ _ _ _ _ _ c.in_ok-name.ensures.value c.in_ok-name.ensures.place c.in_ok-name.ensures.others
    (stops_later error _ _ _ _ _ _ _ _ _ c.in_ok-contents.ensures.value c.in_ok-contents.ensures.place c.in_ok-contents.ensures.others
    (stops_here error _ _ _ _ _ _ c.in_err-permitted.ensures.value))))

pub returns-in_err-terms : goal.returns-in_err-terms
returns-in_err-terms c =
    let error = c.in_err-terms.field-0.0 in
    read_stops error 10 create_request (trees_in c.args.parts.now) c.from_residual-in_err-terms.result c.from_residual-in_err-terms.ensures.1
    (stops_later error _ _ _ _ _ _ _ _ _ c.in_ok-over.ensures.value c.in_ok-over.ensures.place c.in_ok-over.ensures.others
    (stops_later error _ _ _ _ _ _ _ _ _ c.in_ok-name.ensures.value c.in_ok-name.ensures.place c.in_ok-name.ensures.others
    (stops_later error _ _ _ _ _ _ _ _ _ c.in_ok-contents.ensures.value c.in_ok-contents.ensures.place c.in_ok-contents.ensures.others
    (stops_later error _ _ _ _ _ _ _ _ _ c.in_ok-permitted.ensures.value c.in_ok-permitted.ensures.place c.in_ok-permitted.ensures.others
    (stops_here error _ _ _ _ _ _ c.in_err-terms.ensures.value)))))

pub returns-in_err-requested : goal.returns-in_err-requested
returns-in_err-requested c =
    let error = c.in_err-requested.field-0.0 in
    read_stops error 10 create_request (trees_in c.args.parts.now) c.from_residual-in_err-requested.result c.from_residual-in_err-requested.ensures.1
    (stops_later error _ _ _ _ _ _ _ _ _ c.in_ok-over.ensures.value c.in_ok-over.ensures.place c.in_ok-over.ensures.others
    (stops_later error _ _ _ _ _ _ _ _ _ c.in_ok-name.ensures.value c.in_ok-name.ensures.place c.in_ok-name.ensures.others
    (stops_later error _ _ _ _ _ _ _ _ _ c.in_ok-contents.ensures.value c.in_ok-contents.ensures.place c.in_ok-contents.ensures.others
    (stops_later error _ _ _ _ _ _ _ _ _ c.in_ok-permitted.ensures.value c.in_ok-permitted.ensures.place c.in_ok-permitted.ensures.others
    (stops_later error _ _ _ _ _ _ _ _ _ c.in_ok-terms.ensures.value c.in_ok-terms.ensures.place c.in_ok-terms.ensures.others
    (stops_here error _ _ _ _ _ _ c.in_err-requested.ensures.value))))))

pub returns-in_err-controls : goal.returns-in_err-controls
returns-in_err-controls c =
    let error = c.in_err-controls.field-0.0 in
    read_stops error 10 create_request (trees_in c.args.parts.now) c.from_residual-in_err-controls.result c.from_residual-in_err-controls.ensures.1
    (stops_later error _ _ _ _ _ _ _ _ _ c.in_ok-over.ensures.value c.in_ok-over.ensures.place c.in_ok-over.ensures.others
    (stops_later error _ _ _ _ _ _ _ _ _ c.in_ok-name.ensures.value c.in_ok-name.ensures.place c.in_ok-name.ensures.others
    (stops_later error _ _ _ _ _ _ _ _ _ c.in_ok-contents.ensures.value c.in_ok-contents.ensures.place c.in_ok-contents.ensures.others
    (stops_later error _ _ _ _ _ _ _ _ _ c.in_ok-permitted.ensures.value c.in_ok-permitted.ensures.place c.in_ok-permitted.ensures.others
    (stops_later error _ _ _ _ _ _ _ _ _ c.in_ok-terms.ensures.value c.in_ok-terms.ensures.place c.in_ok-terms.ensures.others
    (stops_later error _ _ _ _ _ _ _ _ _ c.in_ok-requested.ensures.value c.in_ok-requested.ensures.place c.in_ok-requested.ensures.others
    (stops_here error _ _ _ _ _ _ c.in_err-controls.ensures.value)))))))

pub returns-in_err-password : goal.returns-in_err-password
returns-in_err-password c =
    let error = c.in_err-password.field-0.0 in
    read_stops error 10 create_request (trees_in c.args.parts.now) c.from_residual-in_err-password.result c.from_residual-in_err-password.ensures.1
    (stops_later error _ _ _ _ _ _ _ _ _ c.in_ok-over.ensures.value c.in_ok-over.ensures.place c.in_ok-over.ensures.others
    (stops_later error _ _ _ _ _ _ _ _ _ c.in_ok-name.ensures.value c.in_ok-name.ensures.place c.in_ok-name.ensures.others
    (stops_later error _ _ _ _ _ _ _ _ _ c.in_ok-contents.ensures.value c.in_ok-contents.ensures.place c.in_ok-contents.ensures.others
    (stops_later error _ _ _ _ _ _ _ _ _ c.in_ok-permitted.ensures.value c.in_ok-permitted.ensures.place c.in_ok-permitted.ensures.others
    (stops_later error _ _ _ _ _ _ _ _ _ c.in_ok-terms.ensures.value c.in_ok-terms.ensures.place c.in_ok-terms.ensures.others
    (stops_later error _ _ _ _ _ _ _ _ _ c.in_ok-requested.ensures.value c.in_ok-requested.ensures.place c.in_ok-requested.ensures.others
    (stops_later error _ _ _ _ _ _ _ _ _ c.in_ok-controls.ensures.value c.in_ok-controls.ensures.place c.in_ok-controls.ensures.others
    (stops_here error _ _ _ _ _ _ c.in_err-password.ensures.value))))))))

pub returns-in_err-end : goal.returns-in_err-end
returns-in_err-end c =
    let error = c.in_err-end.field-0.0 in
    read_stops error 10 create_request (trees_in c.args.parts.now) c.from_residual-in_err-end.result c.from_residual-in_err-end.ensures.1
    (stops_later error _ _ _ _ _ _ _ _ _ c.in_ok-over.ensures.value c.in_ok-over.ensures.place c.in_ok-over.ensures.others
    (stops_later error _ _ _ _ _ _ _ _ _ c.in_ok-name.ensures.value c.in_ok-name.ensures.place c.in_ok-name.ensures.others
    (stops_later error _ _ _ _ _ _ _ _ _ c.in_ok-contents.ensures.value c.in_ok-contents.ensures.place c.in_ok-contents.ensures.others
    (stops_later error _ _ _ _ _ _ _ _ _ c.in_ok-permitted.ensures.value c.in_ok-permitted.ensures.place c.in_ok-permitted.ensures.others
    (stops_later error _ _ _ _ _ _ _ _ _ c.in_ok-terms.ensures.value c.in_ok-terms.ensures.place c.in_ok-terms.ensures.others
    (stops_later error _ _ _ _ _ _ _ _ _ c.in_ok-requested.ensures.value c.in_ok-requested.ensures.place c.in_ok-requested.ensures.others
    (stops_later error _ _ _ _ _ _ _ _ _ c.in_ok-controls.ensures.value c.in_ok-controls.ensures.place c.in_ok-controls.ensures.others
    (stops_later error _ _ _ _ _ _ _ _ _ c.in_ok-password.ensures.value c.in_ok-password.ensures.place c.in_ok-password.ensures.others
    (stops_at_end error _ _ c.in_err-end.ensures)))))))))

pub returns-in_default : goal.returns-in_default
returns-in_default c =
    read_is create_request (trees_in c.args.parts.now) _ _
    (found_next _ _ _ _ _ _ _ _ _ _ c.in_ok-over.ensures.value c.in_ok-over.ensures.place c.in_ok-over.ensures.others
    (found_next _ _ _ _ _ _ _ _ _ _ c.in_ok-name.ensures.value c.in_ok-name.ensures.place c.in_ok-name.ensures.others
    (found_next _ _ _ _ _ _ _ _ _ _ c.in_ok-contents.ensures.value c.in_ok-contents.ensures.place c.in_ok-contents.ensures.others
    (found_next _ _ _ _ _ _ _ _ _ _ c.in_ok-permitted.ensures.value c.in_ok-permitted.ensures.place c.in_ok-permitted.ensures.others
    (found_next _ _ _ _ _ _ _ _ _ _ c.in_ok-terms.ensures.value c.in_ok-terms.ensures.place c.in_ok-terms.ensures.others
    (found_next _ _ _ _ _ _ _ _ _ _ c.in_ok-requested.ensures.value c.in_ok-requested.ensures.place c.in_ok-requested.ensures.others
    (found_next _ _ _ _ _ _ _ _ _ _ c.in_ok-controls.ensures.value c.in_ok-controls.ensures.place c.in_ok-controls.ensures.others
    (found_next _ _ _ _ _ _ _ _ _ _ c.in_ok-password.ensures.value c.in_ok-password.ensures.place c.in_ok-password.ensures.others
    (found_end _ _ c.in_ok-end.ensures))))))))) (search rules)

pub returns-in_default-contents : goal.returns-in_default-contents
returns-in_default-contents c =
    read_is create_request (trees_in c.args.parts.now) _ _
    (found_next _ _ _ _ _ _ _ _ _ _ c.in_ok-over.ensures.value c.in_ok-over.ensures.place c.in_ok-over.ensures.others
    (found_next _ _ _ _ _ _ _ _ _ _ c.in_ok-name.ensures.value c.in_ok-name.ensures.place c.in_ok-name.ensures.others
    (found_next _ _ _ _ _ _ _ _ _ _ c.in_ok-contents.ensures.value c.in_ok-contents.ensures.place c.in_ok-contents.ensures.others
    (found_next _ _ _ _ _ _ _ _ _ _ c.in_ok-permitted.ensures.value c.in_ok-permitted.ensures.place c.in_ok-permitted.ensures.others
    (found_next _ _ _ _ _ _ _ _ _ _ c.in_ok-terms.ensures.value c.in_ok-terms.ensures.place c.in_ok-terms.ensures.others
    (found_next _ _ _ _ _ _ _ _ _ _ c.in_ok-requested.ensures.value c.in_ok-requested.ensures.place c.in_ok-requested.ensures.others
    (found_next _ _ _ _ _ _ _ _ _ _ c.in_ok-controls.ensures.value c.in_ok-controls.ensures.place c.in_ok-controls.ensures.others
    (found_next _ _ _ _ _ _ _ _ _ _ c.in_ok-password.ensures.value c.in_ok-password.ensures.place c.in_ok-password.ensures.others
    (found_end _ _ c.in_ok-end.ensures))))))))) (search rules)

pub returns : goal.returns
returns c = (
  refl,
  read_is create_request (trees_in c.args.parts.now) _ _
      (found_next _ _ _ _ _ _ _ _ _ _ c.in_ok-over.ensures.value c.in_ok-over.ensures.place c.in_ok-over.ensures.others
      (found_next _ _ _ _ _ _ _ _ _ _ c.in_ok-name.ensures.value c.in_ok-name.ensures.place c.in_ok-name.ensures.others
      (found_next _ _ _ _ _ _ _ _ _ _ c.in_ok-contents.ensures.value c.in_ok-contents.ensures.place c.in_ok-contents.ensures.others
      (found_next _ _ _ _ _ _ _ _ _ _ c.in_ok-permitted.ensures.value c.in_ok-permitted.ensures.place c.in_ok-permitted.ensures.others
      (found_next _ _ _ _ _ _ _ _ _ _ c.in_ok-terms.ensures.value c.in_ok-terms.ensures.place c.in_ok-terms.ensures.others
      (found_next _ _ _ _ _ _ _ _ _ _ c.in_ok-requested.ensures.value c.in_ok-requested.ensures.place c.in_ok-requested.ensures.others
      (found_next _ _ _ _ _ _ _ _ _ _ c.in_ok-controls.ensures.value c.in_ok-controls.ensures.place c.in_ok-controls.ensures.others
      (found_next _ _ _ _ _ _ _ _ _ _ c.in_ok-password.ensures.value c.in_ok-password.ensures.place c.in_ok-password.ensures.others
      (found_end _ _ c.in_ok-end.ensures))))))))) (search rules),
)
