use Rattle.std.proofs.Common.{refl, rules}
use Rattle.vf_ber.specs.Views.{trees_in}
use Rattle.vf_pdu.specs.PduAccess.{write_request}
use Rattle.vf_pdu_parameters.proofs.ReadingSteps.{found_end, found_next, read_is, stops_at_end, stops_here, stops_later}
use Rattle.vf_pdu.proofs.ReadingSteps.{read_stops}
use Rattle.vf_pdu.proofs.access.read_write_request.Goals as goal

pub returns-in_err-operation : goal.returns-in_err-operation
returns-in_err-operation c =
    let error = c.in_err-operation.field-0.0 in
    read_stops error 33 write_request (trees_in c.args.parts.now) c.from_residual.result c.from_residual.ensures.1
    (stops_here error _ _ _ _ _ _ c.in_err-operation.ensures.value)

pub returns-in_err-fadu : goal.returns-in_err-fadu
returns-in_err-fadu c =
    let error = c.in_err-fadu.field-0.0 in
    read_stops error 33 write_request (trees_in c.args.parts.now) c.from_residual-in_err-fadu.result c.from_residual-in_err-fadu.ensures.1
    (stops_later error _ _ _ _ _ _ _ _ _ c.in_ok-operation.ensures.value c.in_ok-operation.ensures.place c.in_ok-operation.ensures.others
    (stops_here error _ _ _ _ _ _ c.in_err-fadu.ensures.value))

pub returns-in_err-end : goal.returns-in_err-end
returns-in_err-end c =
    let error = c.in_err-end.field-0.0 in
    read_stops error 33 write_request (trees_in c.args.parts.now) c.from_residual-in_err-end.result c.from_residual-in_err-end.ensures.1
    (stops_later error _ _ _ _ _ _ _ _ _ c.in_ok-operation.ensures.value c.in_ok-operation.ensures.place c.in_ok-operation.ensures.others
    (stops_later error _ _ _ _ _ _ _ _ _ c.in_ok-fadu.ensures.value c.in_ok-fadu.ensures.place c.in_ok-fadu.ensures.others
    (stops_at_end error _ _ c.in_err-end.ensures)))

pub returns-in_default : goal.returns-in_default
returns-in_default c =
    read_is write_request (trees_in c.args.parts.now) _ _
    (found_next _ _ _ _ _ _ _ _ _ _ c.in_ok-operation.ensures.value c.in_ok-operation.ensures.place c.in_ok-operation.ensures.others
    (found_next _ _ _ _ _ _ _ _ _ _ c.in_ok-fadu.ensures.value c.in_ok-fadu.ensures.place c.in_ok-fadu.ensures.others
    (found_end _ _ c.in_ok-end.ensures))) (search rules)

pub returns : goal.returns
returns c = (
  refl,
  read_is write_request (trees_in c.args.parts.now) _ _
      (found_next _ _ _ _ _ _ _ _ _ _ c.in_ok-operation.ensures.value c.in_ok-operation.ensures.place c.in_ok-operation.ensures.others
      (found_next _ _ _ _ _ _ _ _ _ _ c.in_ok-fadu.ensures.value c.in_ok-fadu.ensures.place c.in_ok-fadu.ensures.others
      (found_end _ _ c.in_ok-end.ensures))) (search rules),
)
