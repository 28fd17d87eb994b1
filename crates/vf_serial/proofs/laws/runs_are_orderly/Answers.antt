use Rattle.vf_serial.proofs.Orderly.{runs_orderly}
use Rattle.vf_serial.proofs.laws.runs_are_orderly.Goals as goal

pub returns : goal.returns
returns c = runs_orderly
