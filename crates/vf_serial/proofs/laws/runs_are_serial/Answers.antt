use Rattle.vf_serial.proofs.Serial.{runs_serial}
use Rattle.vf_serial.proofs.laws.runs_are_serial.Goals as goal

pub returns : goal.returns
returns c = runs_serial
