use Rattle.vf_incarnations.proofs.Answered.{events_are_answered}
use Rattle.vf_incarnations.proofs.laws.events_are_answered.Goals as goal

pub returns : goal.returns
returns c = events_are_answered
