use Rattle.std.proofs.Common.{refl, rules}
use Rattle.vf_ber.specs.Views.{trees_in}
use Rattle.vf_pdu.specs.PduSelection.{select_request}
use Rattle.vf_pdu_parameters.proofs.ReadingSteps.{found_end, found_next, read_is, stops_at_end, stops_here, stops_later}
use Rattle.vf_pdu.proofs.ReadingSteps.{read_stops}
use Rattle.vf_pdu.proofs.selection.read_select_request.Goals as goal

pub returns-in_err-name : goal.returns-in_err-name
returns-in_err-name c =
    let error = c.in_err-name.field-0.0 in
    read_stops error 6 select_request (trees_in c.args.parts.now) c.from_residual.result c.from_residual.ensures.1
    (stops_here error _ _ _ _ _ _ c.in_err-name.ensures.value)

pub returns-in_err-requested : goal.returns-in_err-requested
returns-in_err-requested c =
    let error = c.in_err-requested.field-0.0 in
    read_stops error 6 select_request (trees_in c.args.parts.now) c.from_residual-in_err-requested.result c.from_residual-in_err-requested.ensures.1
    (stops_later error _ _ _ _ _ _ _ _ _ c.in_ok-name.ensures.value c.in_ok-name.ensures.place c.in_ok-name.ensures.others
    (stops_here error _ _ _ _ _ _ c.in_err-requested.ensures.value))

pub returns-in_err-controls : goal.returns-in_err-controls
returns-in_err-controls c =
    let error = c.in_err-controls.field-0.0 in
    read_stops error 6 select_request (trees_in c.args.parts.now) c.from_residual-in_err-controls.result c.from_residual-in_err-controls.ensures.1
    (stops_later error _ _ _ _ _ _ _ _ _ c.in_ok-name.ensures.value c.in_ok-name.ensures.place c.in_ok-name.ensures.others
    (stops_later error _ _ _ _ _ _ _ _ _ c.in_ok-requested.ensures.value c.in_ok-requested.ensures.place c.in_ok-requested.ensures.others
    (stops_here error _ _ _ _ _ _ c.in_err-controls.ensures.value)))

pub returns-in_err-password : goal.returns-in_err-password
returns-in_err-password c =
    let error = c.in_err-password.field-0.0 in
    read_stops error 6 select_request (trees_in c.args.parts.now) c.from_residual-in_err-password.result c.from_residual-in_err-password.ensures.1
    (stops_later error _ _ _ _ _ _ _ _ _ c.in_ok-name.ensures.value c.in_ok-name.ensures.place c.in_ok-name.ensures.others
    (stops_later error _ _ _ _ _ _ _ _ _ c.in_ok-requested.ensures.value c.in_ok-requested.ensures.place c.in_ok-requested.ensures.others
    (stops_later error _ _ _ _ _ _ _ _ _ c.in_ok-controls.ensures.value c.in_ok-controls.ensures.place c.in_ok-controls.ensures.others
    (stops_here error _ _ _ _ _ _ c.in_err-password.ensures.value))))

pub returns-in_err-end : goal.returns-in_err-end
returns-in_err-end c =
    let error = c.in_err-end.field-0.0 in
    read_stops error 6 select_request (trees_in c.args.parts.now) c.from_residual-in_err-end.result c.from_residual-in_err-end.ensures.1
    (stops_later error _ _ _ _ _ _ _ _ _ c.in_ok-name.ensures.value c.in_ok-name.ensures.place c.in_ok-name.ensures.others
    (stops_later error _ _ _ _ _ _ _ _ _ c.in_ok-requested.ensures.value c.in_ok-requested.ensures.place c.in_ok-requested.ensures.others
    (stops_later error _ _ _ _ _ _ _ _ _ c.in_ok-controls.ensures.value c.in_ok-controls.ensures.place c.in_ok-controls.ensures.others
    (stops_later error _ _ _ _ _ _ _ _ _ c.in_ok-password.ensures.value c.in_ok-password.ensures.place c.in_ok-password.ensures.others
    (stops_at_end error _ _ c.in_err-end.ensures)))))

pub returns-in_default : goal.returns-in_default
returns-in_default c =
    read_is select_request (trees_in c.args.parts.now) _ _
    (found_next _ _ _ _ _ _ _ _ _ _ c.in_ok-name.ensures.value c.in_ok-name.ensures.place c.in_ok-name.ensures.others
    (found_next _ _ _ _ _ _ _ _ _ _ c.in_ok-requested.ensures.value c.in_ok-requested.ensures.place c.in_ok-requested.ensures.others
    (found_next _ _ _ _ _ _ _ _ _ _ c.in_ok-controls.ensures.value c.in_ok-controls.ensures.place c.in_ok-controls.ensures.others
    (found_next _ _ _ _ _ _ _ _ _ _ c.in_ok-password.ensures.value c.in_ok-password.ensures.place c.in_ok-password.ensures.others
    (found_end _ _ c.in_ok-end.ensures))))) (search rules)

pub returns : goal.returns
returns c = (
  refl,
  read_is select_request (trees_in c.args.parts.now) _ _
      (found_next _ _ _ _ _ _ _ _ _ _ c.in_ok-name.ensures.value c.in_ok-name.ensures.place c.in_ok-name.ensures.others
      (found_next _ _ _ _ _ _ _ _ _ _ c.in_ok-requested.ensures.value c.in_ok-requested.ensures.place c.in_ok-requested.ensures.others
      (found_next _ _ _ _ _ _ _ _ _ _ c.in_ok-controls.ensures.value c.in_ok-controls.ensures.place c.in_ok-controls.ensures.others
      (found_next _ _ _ _ _ _ _ _ _ _ c.in_ok-password.ensures.value c.in_ok-password.ensures.place c.in_ok-password.ensures.others
      (found_end _ _ c.in_ok-end.ensures))))) (search rules),
)
