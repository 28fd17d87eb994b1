use Rattle.std.proofs.Common.{refl, rules}
use Rattle.vf_ber.specs.Views.{trees_in}
use Rattle.vf_pdu.specs.PduGroup.{recover_response}
use Rattle.vf_pdu_parameters.proofs.ReadingSteps.{found_end, found_next, read_is, stops_at_end, stops_here, stops_later}
use Rattle.vf_pdu.proofs.ReadingSteps.{read_stops}
use Rattle.vf_pdu.proofs.group.read_recover_response.Goals as goal

pub returns-in_err-diagnostic : goal.returns-in_err-diagnostic
returns-in_err-diagnostic c =
    let error = c.in_err-diagnostic.field-0.0 in
    read_stops error 27 recover_response (trees_in c.args.parts.now) c.from_residual.result c.from_residual.ensures.1
    (stops_here error _ _ _ _ _ _ c.in_err-diagnostic.ensures.value)

pub returns-in_err-number : goal.returns-in_err-number
returns-in_err-number c =
    let error = c.in_err-number.field-0.0 in
    read_stops error 27 recover_response (trees_in c.args.parts.now) c.from_residual-in_err-number.result c.from_residual-in_err-number.ensures.1
    (stops_later error _ _ _ _ _ _ _ _ _ c.in_ok-diagnostic.ensures.value c.in_ok-diagnostic.ensures.place c.in_ok-diagnostic.ensures.others
    (stops_here error _ _ _ _ _ _ (rw c.from.ensures at c.in_err-number.ensures.value)))

pub returns-in_err-point : goal.returns-in_err-point
returns-in_err-point c =
    let error = c.in_err-point.field-0.0 in
    read_stops error 27 recover_response (trees_in c.args.parts.now) c.from_residual-in_err-point.result c.from_residual-in_err-point.ensures.1
    (stops_later error _ _ _ _ _ _ _ _ _ c.in_ok-diagnostic.ensures.value c.in_ok-diagnostic.ensures.place c.in_ok-diagnostic.ensures.others
    (stops_later error _ _ _ _ _ _ _ _ _ (rw c.from.ensures at c.in_ok-number.ensures.value) c.in_ok-number.ensures.place c.in_ok-number.ensures.others
    (stops_here error _ _ _ _ _ _ (rw c.from-2.ensures at c.in_err-point.ensures.value))))

pub returns-in_err-moving : goal.returns-in_err-moving
returns-in_err-moving c =
    let error = c.in_err-moving.field-0.0 in
    read_stops error 27 recover_response (trees_in c.args.parts.now) c.from_residual-in_err-moving.result c.from_residual-in_err-moving.ensures.1
    (stops_later error _ _ _ _ _ _ _ _ _ c.in_ok-diagnostic.ensures.value c.in_ok-diagnostic.ensures.place c.in_ok-diagnostic.ensures.others
    (stops_later error _ _ _ _ _ _ _ _ _ (rw c.from.ensures at c.in_ok-number.ensures.value) c.in_ok-number.ensures.place c.in_ok-number.ensures.others
    (stops_later error _ _ _ _ _ _ _ _ _ (rw c.from-2.ensures at c.in_ok-point.ensures.value) c.in_ok-point.ensures.place c.in_ok-point.ensures.others
    (stops_here error _ _ _ _ _ _ c.in_err-moving.ensures.value))))

pub returns-in_err-last : goal.returns-in_err-last
returns-in_err-last c =
    let error = c.in_err-last.field-0.0 in
    read_stops error 27 recover_response (trees_in c.args.parts.now) c.from_residual-in_err-last.result c.from_residual-in_err-last.ensures.1
    (stops_later error _ _ _ _ _ _ _ _ _ c.in_ok-diagnostic.ensures.value c.in_ok-diagnostic.ensures.place c.in_ok-diagnostic.ensures.others
    (stops_later error _ _ _ _ _ _ _ _ _ (rw c.from.ensures at c.in_ok-number.ensures.value) c.in_ok-number.ensures.place c.in_ok-number.ensures.others
    (stops_later error _ _ _ _ _ _ _ _ _ (rw c.from-2.ensures at c.in_ok-point.ensures.value) c.in_ok-point.ensures.place c.in_ok-point.ensures.others
    (stops_later error _ _ _ _ _ _ _ _ _ c.in_ok-moving.ensures.value c.in_ok-moving.ensures.place c.in_ok-moving.ensures.others
    (stops_here error _ _ _ _ _ _ c.in_err-last.ensures.value)))))

pub returns-in_err-end : goal.returns-in_err-end
returns-in_err-end c =
    let error = c.in_err-end.field-0.0 in
    read_stops error 27 recover_response (trees_in c.args.parts.now) c.from_residual-in_err-end.result c.from_residual-in_err-end.ensures.1
    (stops_later error _ _ _ _ _ _ _ _ _ c.in_ok-diagnostic.ensures.value c.in_ok-diagnostic.ensures.place c.in_ok-diagnostic.ensures.others
    (stops_later error _ _ _ _ _ _ _ _ _ (rw c.from.ensures at c.in_ok-number.ensures.value) c.in_ok-number.ensures.place c.in_ok-number.ensures.others
    (stops_later error _ _ _ _ _ _ _ _ _ (rw c.from-2.ensures at c.in_ok-point.ensures.value) c.in_ok-point.ensures.place c.in_ok-point.ensures.others
    (stops_later error _ _ _ _ _ _ _ _ _ c.in_ok-moving.ensures.value c.in_ok-moving.ensures.place c.in_ok-moving.ensures.others
    (stops_later error _ _ _ _ _ _ _ _ _ c.in_ok-last.ensures.value c.in_ok-last.ensures.place c.in_ok-last.ensures.others
    (stops_at_end error _ _ c.in_err-end.ensures))))))

pub returns : goal.returns
returns c = (
  refl,
  read_is recover_response (trees_in c.args.parts.now) _ _
      (found_next _ _ _ _ _ _ _ _ _ _ c.in_ok-diagnostic.ensures.value c.in_ok-diagnostic.ensures.place c.in_ok-diagnostic.ensures.others
      (found_next _ _ _ _ _ _ _ _ _ _ (rw c.from.ensures at c.in_ok-number.ensures.value) c.in_ok-number.ensures.place c.in_ok-number.ensures.others
      (found_next _ _ _ _ _ _ _ _ _ _ (rw c.from-2.ensures at c.in_ok-point.ensures.value) c.in_ok-point.ensures.place c.in_ok-point.ensures.others
      (found_next _ _ _ _ _ _ _ _ _ _ c.in_ok-moving.ensures.value c.in_ok-moving.ensures.place c.in_ok-moving.ensures.others
      (found_next _ _ _ _ _ _ _ _ _ _ c.in_ok-last.ensures.value c.in_ok-last.ensures.place c.in_ok-last.ensures.others
      (found_end _ _ c.in_ok-end.ensures)))))) (search rules),
)
