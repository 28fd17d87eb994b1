use Rattle.std.proofs.Common.{refl, rules}
use Rattle.vf_ber.specs.Views.{trees_in}
use Rattle.vf_pdu.specs.PduAccess.{locate_response}
use Rattle.vf_pdu_parameters.proofs.ReadingSteps.{found_end, found_next, read_is, stops_at_end, stops_here, stops_later}
use Rattle.vf_pdu.proofs.ReadingSteps.{read_stops}
use Rattle.vf_pdu.proofs.access.read_locate_response.Goals as goal

pub returns-in_err-diagnostic : goal.returns-in_err-diagnostic
returns-in_err-diagnostic c =
    let error = c.in_err-diagnostic.field-0.0 in
    read_stops error 29 locate_response (trees_in c.args.parts.now) c.from_residual.result c.from_residual.ensures.1
    (stops_here error _ _ _ _ _ _ c.in_err-diagnostic.ensures.value)

pub returns-in_err-position : goal.returns-in_err-position
returns-in_err-position c =
    let error = c.in_err-position.field-0.0 in
    read_stops error 29 locate_response (trees_in c.args.parts.now) c.from_residual-in_err-position.result c.from_residual-in_err-position.ensures.1
    (stops_later error _ _ _ _ _ _ _ _ _ c.in_ok-diagnostic.ensures.value c.in_ok-diagnostic.ensures.place c.in_ok-diagnostic.ensures.others
    (stops_here error _ _ _ _ _ _ (rw c.from.ensures at c.in_err-position.ensures.value)))

pub returns-in_err-end : goal.returns-in_err-end
returns-in_err-end c =
    let error = c.in_err-end.field-0.0 in
    read_stops error 29 locate_response (trees_in c.args.parts.now) c.from_residual-in_err-end.result c.from_residual-in_err-end.ensures.1
    (stops_later error _ _ _ _ _ _ _ _ _ c.in_ok-diagnostic.ensures.value c.in_ok-diagnostic.ensures.place c.in_ok-diagnostic.ensures.others
    (stops_later error _ _ _ _ _ _ _ _ _ (rw c.from.ensures at c.in_ok-position.ensures.value) c.in_ok-position.ensures.place c.in_ok-position.ensures.others
    (stops_at_end error _ _ c.in_err-end.ensures)))

pub returns : goal.returns
returns c = (
  refl,
  read_is locate_response (trees_in c.args.parts.now) _ _
      (found_next _ _ _ _ _ _ _ _ _ _ c.in_ok-diagnostic.ensures.value c.in_ok-diagnostic.ensures.place c.in_ok-diagnostic.ensures.others
      (found_next _ _ _ _ _ _ _ _ _ _ (rw c.from.ensures at c.in_ok-position.ensures.value) c.in_ok-position.ensures.place c.in_ok-position.ensures.others
      (found_end _ _ c.in_ok-end.ensures))) (search rules),
)
