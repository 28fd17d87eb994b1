use Rattle.std.proofs.Common.{refl, rules}
use Rattle.vf_ber.specs.Views.{trees_in}
use Rattle.vf_pdu.specs.PduAssociation.{initialize_request}
use Rattle.vf_pdu_parameters.proofs.ReadingSteps.{found_end, found_next, read_is, stops_at_end, stops_here, stops_later}
use Rattle.vf_pdu.proofs.ReadingSteps.{read_stops}
use Rattle.vf_pdu.proofs.association.read_initialize_request.Goals as goal

pub returns-in_err-units : goal.returns-in_err-units
returns-in_err-units c =
    let error = c.in_err-units.field-0.0 in
    read_stops error 0 initialize_request (trees_in c.args.parts.now) c.from_residual.result c.from_residual.ensures.1
    (stops_here error _ _ _ _ _ _ c.in_err-units.ensures.value)

pub returns-in_err-identity : goal.returns-in_err-identity
returns-in_err-identity c =
    let error = c.in_err-identity.field-0.0 in
    read_stops error 0 initialize_request (trees_in c.args.parts.now) c.from_residual-in_err-identity.result c.from_residual-in_err-identity.ensures.1
    (stops_later error _ _ _ _ _ _ _ _ _ c.in_ok-units.ensures.value c.in_ok-units.ensures.place c.in_ok-units.ensures.others
    (stops_here error _ _ _ _ _ _ c.in_err-identity.ensures.value))

pub returns-in_err-password : goal.returns-in_err-password
returns-in_err-password c =
    let error = c.in_err-password.field-0.0 in
    read_stops error 0 initialize_request (trees_in c.args.parts.now) c.from_residual-in_err-password.result c.from_residual-in_err-password.ensures.1
    (stops_later error _ _ _ _ _ _ _ _ _ c.in_ok-units.ensures.value c.in_ok-units.ensures.place c.in_ok-units.ensures.others
    (stops_later error _ _ _ _ _ _ _ _ _ c.in_ok-identity.ensures.value c.in_ok-identity.ensures.place c.in_ok-identity.ensures.others
    (stops_here error _ _ _ _ _ _ c.in_err-password.ensures.value)))

pub returns-in_err-window : goal.returns-in_err-window
returns-in_err-window c =
    let error = c.in_err-window.field-0.0 in
    read_stops error 0 initialize_request (trees_in c.args.parts.now) c.from_residual-in_err-window.result c.from_residual-in_err-window.ensures.1
    (stops_later error _ _ _ _ _ _ _ _ _ c.in_ok-units.ensures.value c.in_ok-units.ensures.place c.in_ok-units.ensures.others
    (stops_later error _ _ _ _ _ _ _ _ _ c.in_ok-identity.ensures.value c.in_ok-identity.ensures.place c.in_ok-identity.ensures.others
    (stops_later error _ _ _ _ _ _ _ _ _ c.in_ok-password.ensures.value c.in_ok-password.ensures.place c.in_ok-password.ensures.others
    (stops_here error _ _ _ _ _ _ c.in_err-window.ensures.value))))

pub returns-in_err-end : goal.returns-in_err-end
returns-in_err-end c =
    let error = c.in_err-end.field-0.0 in
    read_stops error 0 initialize_request (trees_in c.args.parts.now) c.from_residual-in_err-end.result c.from_residual-in_err-end.ensures.1
    (stops_later error _ _ _ _ _ _ _ _ _ c.in_ok-units.ensures.value c.in_ok-units.ensures.place c.in_ok-units.ensures.others
    (stops_later error _ _ _ _ _ _ _ _ _ c.in_ok-identity.ensures.value c.in_ok-identity.ensures.place c.in_ok-identity.ensures.others
    (stops_later error _ _ _ _ _ _ _ _ _ c.in_ok-password.ensures.value c.in_ok-password.ensures.place c.in_ok-password.ensures.others
    (stops_later error _ _ _ _ _ _ _ _ _ c.in_ok-window.ensures.value c.in_ok-window.ensures.place c.in_ok-window.ensures.others
    (stops_at_end error _ _ c.in_err-end.ensures)))))

pub returns-in_default : goal.returns-in_default
returns-in_default c =
    read_is initialize_request (trees_in c.args.parts.now) _ _
    (found_next _ _ _ _ _ _ _ _ _ _ c.in_ok-units.ensures.value c.in_ok-units.ensures.place c.in_ok-units.ensures.others
    (found_next _ _ _ _ _ _ _ _ _ _ c.in_ok-identity.ensures.value c.in_ok-identity.ensures.place c.in_ok-identity.ensures.others
    (found_next _ _ _ _ _ _ _ _ _ _ c.in_ok-password.ensures.value c.in_ok-password.ensures.place c.in_ok-password.ensures.others
    (found_next _ _ _ _ _ _ _ _ _ _ c.in_ok-window.ensures.value c.in_ok-window.ensures.place c.in_ok-window.ensures.others
    (found_end _ _ c.in_ok-end.ensures))))) (search rules)

pub returns : goal.returns
returns c = (
  refl,
  read_is initialize_request (trees_in c.args.parts.now) _ _
      (found_next _ _ _ _ _ _ _ _ _ _ c.in_ok-units.ensures.value c.in_ok-units.ensures.place c.in_ok-units.ensures.others
      (found_next _ _ _ _ _ _ _ _ _ _ c.in_ok-identity.ensures.value c.in_ok-identity.ensures.place c.in_ok-identity.ensures.others
      (found_next _ _ _ _ _ _ _ _ _ _ c.in_ok-password.ensures.value c.in_ok-password.ensures.place c.in_ok-password.ensures.others
      (found_next _ _ _ _ _ _ _ _ _ _ c.in_ok-window.ensures.value c.in_ok-window.ensures.place c.in_ok-window.ensures.others
      (found_end _ _ c.in_ok-end.ensures))))) (search rules),
)
