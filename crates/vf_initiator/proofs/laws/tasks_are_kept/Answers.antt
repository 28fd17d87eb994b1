use Rattle.vf_initiator.proofs.KeptTalks.{begins_kept, stands_as_kept, takes_kept}
use Rattle.vf_initiator.proofs.laws.tasks_are_kept.Goals as goal

pub returns : goal.returns
returns c = record { same = stands_as_kept; begun = begins_kept; taken = takes_kept }
