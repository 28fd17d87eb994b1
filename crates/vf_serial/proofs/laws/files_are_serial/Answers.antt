use Rattle.vf_serial.proofs.FilesSerial.{files_serial}
use Rattle.vf_serial.proofs.laws.files_are_serial.Goals as goal

pub returns : goal.returns
returns c = files_serial
