use Rattle.std.proofs.Common.{refl, rules}
use Rattle.vf_ber.specs.Views.{trees_in}
use Rattle.vf_pdu.specs.PduAssociation.{initialize_response}
use Rattle.vf_pdu_parameters.proofs.ReadingSteps.{found_end, found_next, read_is, stops_at_end, stops_here, stops_later}
use Rattle.vf_pdu.proofs.ReadingSteps.{read_stops}
use Rattle.vf_pdu.proofs.association.read_initialize_response.Goals as goal

pub returns-in_err-diagnostic : goal.returns-in_err-diagnostic
returns-in_err-diagnostic c =
    let error = c.in_err-diagnostic.field-0.0 in
    read_stops error 1 initialize_response (trees_in c.args.parts.now) c.from_residual.result c.from_residual.ensures.1
    (stops_here error _ _ _ _ _ _ c.in_err-diagnostic.ensures.value)

pub returns-in_err-units : goal.returns-in_err-units
returns-in_err-units c =
    let error = c.in_err-units.field-0.0 in
    read_stops error 1 initialize_response (trees_in c.args.parts.now) c.from_residual-in_err-units.result c.from_residual-in_err-units.ensures.1
    (stops_later error _ _ _ _ _ _ _ _ _ c.in_ok-diagnostic.ensures.value c.in_ok-diagnostic.ensures.place c.in_ok-diagnostic.ensures.others
    (stops_here error _ _ _ _ _ _ c.in_err-units.ensures.value))

pub returns-in_err-window : goal.returns-in_err-window
returns-in_err-window c =
    let error = c.in_err-window.field-0.0 in
    read_stops error 1 initialize_response (trees_in c.args.parts.now) c.from_residual-in_err-window.result c.from_residual-in_err-window.ensures.1
    (stops_later error _ _ _ _ _ _ _ _ _ c.in_ok-diagnostic.ensures.value c.in_ok-diagnostic.ensures.place c.in_ok-diagnostic.ensures.others
    (stops_later error _ _ _ _ _ _ _ _ _ c.in_ok-units.ensures.value c.in_ok-units.ensures.place c.in_ok-units.ensures.others
    (stops_here error _ _ _ _ _ _ c.in_err-window.ensures.value)))

pub returns-in_err-end : goal.returns-in_err-end
returns-in_err-end c =
    let error = c.in_err-end.field-0.0 in
    read_stops error 1 initialize_response (trees_in c.args.parts.now) c.from_residual-in_err-end.result c.from_residual-in_err-end.ensures.1
    (stops_later error _ _ _ _ _ _ _ _ _ c.in_ok-diagnostic.ensures.value c.in_ok-diagnostic.ensures.place c.in_ok-diagnostic.ensures.others
    (stops_later error _ _ _ _ _ _ _ _ _ c.in_ok-units.ensures.value c.in_ok-units.ensures.place c.in_ok-units.ensures.others
    (stops_later error _ _ _ _ _ _ _ _ _ c.in_ok-window.ensures.value c.in_ok-window.ensures.place c.in_ok-window.ensures.others
    (stops_at_end error _ _ c.in_err-end.ensures))))

pub returns : goal.returns
returns c = (
  refl,
  read_is initialize_response (trees_in c.args.parts.now) _ _
      (found_next _ _ _ _ _ _ _ _ _ _ c.in_ok-diagnostic.ensures.value c.in_ok-diagnostic.ensures.place c.in_ok-diagnostic.ensures.others
      (found_next _ _ _ _ _ _ _ _ _ _ c.in_ok-units.ensures.value c.in_ok-units.ensures.place c.in_ok-units.ensures.others
      (found_next _ _ _ _ _ _ _ _ _ _ c.in_ok-window.ensures.value c.in_ok-window.ensures.place c.in_ok-window.ensures.others
      (found_end _ _ c.in_ok-end.ensures)))) (search rules),
)
