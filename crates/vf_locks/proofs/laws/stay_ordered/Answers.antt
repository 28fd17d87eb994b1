use Rattle.vf_locks.proofs.Ordered.{ordered_granted, ordered_others, ordered_passed}
use Rattle.vf_locks.proofs.laws.stay_ordered.Goals as goal

pub returns-clause-granted : goal.returns-clause-granted
returns-clause-granted c = λ holder controls helds. ordered_granted (record { holder = holder; controls = controls }) helds

pub returns-clause-released : goal.returns-clause-released
returns-clause-released c = ordered_others

pub returns-clause-passed : goal.returns-clause-passed
returns-clause-passed c = ordered_passed
