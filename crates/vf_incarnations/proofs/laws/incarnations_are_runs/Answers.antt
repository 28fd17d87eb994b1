use Rattle.vf_incarnations.proofs.Lives.{begins_so, incarnations_are_runs, new_stores_begin}
use Rattle.vf_incarnations.proofs.laws.incarnations_are_runs.Goals as goal

pub returns : goal.returns
returns c = record { runs = incarnations_are_runs; begins = begins_so; first = new_stores_begin }
