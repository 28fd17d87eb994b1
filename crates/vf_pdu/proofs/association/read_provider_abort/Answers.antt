use Rattle.std.proofs.Common.{refl, rules}
use Rattle.vf_ber.specs.Views.{trees_in}
use Rattle.vf_pdu.specs.PduAssociation.{provider_abort}
use Rattle.vf_pdu_parameters.proofs.ReadingSteps.{found_end, found_next, read_is, stops_at_end, stops_here, stops_later}
use Rattle.vf_pdu.proofs.ReadingSteps.{read_stops}
use Rattle.vf_pdu.proofs.association.read_provider_abort.Goals as goal

pub returns-in_err-number : goal.returns-in_err-number
returns-in_err-number c =
    let error = c.in_err-number.field-0.0 in
    read_stops error 5 provider_abort (trees_in c.args.parts.now) c.from_residual.result c.from_residual.ensures.1
    (stops_here error _ _ _ _ _ _ c.in_err-number.ensures.value)

pub returns-in_err-place : goal.returns-in_err-place
returns-in_err-place c =
    let error = c.in_err-place.field-0.0 in
    read_stops error 5 provider_abort (trees_in c.args.parts.now) c.from_residual-in_err-place.result c.from_residual-in_err-place.ensures.1
    (stops_later error _ _ _ _ _ _ _ _ _ c.in_ok-number.ensures.value c.in_ok-number.ensures.place c.in_ok-number.ensures.others
    (stops_here error _ _ _ _ _ _ c.in_err-place.ensures.value))

pub returns-in_err-end : goal.returns-in_err-end
returns-in_err-end c =
    let error = c.in_err-end.field-0.0 in
    read_stops error 5 provider_abort (trees_in c.args.parts.now) c.from_residual-in_err-end.result c.from_residual-in_err-end.ensures.1
    (stops_later error _ _ _ _ _ _ _ _ _ c.in_ok-number.ensures.value c.in_ok-number.ensures.place c.in_ok-number.ensures.others
    (stops_later error _ _ _ _ _ _ _ _ _ c.in_ok-place.ensures.value c.in_ok-place.ensures.place c.in_ok-place.ensures.others
    (stops_at_end error _ _ c.in_err-end.ensures)))

pub returns-in_default : goal.returns-in_default
returns-in_default c =
    read_is provider_abort (trees_in c.args.parts.now) _ _
    (found_next _ _ _ _ _ _ _ _ _ _ c.in_ok-number.ensures.value c.in_ok-number.ensures.place c.in_ok-number.ensures.others
    (found_next _ _ _ _ _ _ _ _ _ _ c.in_ok-place.ensures.value c.in_ok-place.ensures.place c.in_ok-place.ensures.others
    (found_end _ _ c.in_ok-end.ensures))) (search rules)

pub returns : goal.returns
returns c = (
  refl,
  read_is provider_abort (trees_in c.args.parts.now) _ _
      (found_next _ _ _ _ _ _ _ _ _ _ c.in_ok-number.ensures.value c.in_ok-number.ensures.place c.in_ok-number.ensures.others
      (found_next _ _ _ _ _ _ _ _ _ _ c.in_ok-place.ensures.value c.in_ok-place.ensures.place c.in_ok-place.ensures.others
      (found_end _ _ c.in_ok-end.ensures))) (search rules),
)
