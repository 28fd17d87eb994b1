use Rattle.vf_serial.proofs.Serial.{runs_perform}
use Rattle.vf_serial.proofs.laws.runs_perform.Goals as goal

pub returns : goal.returns
returns c = runs_perform
