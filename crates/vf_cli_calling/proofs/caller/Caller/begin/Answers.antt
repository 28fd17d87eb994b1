use Rattle.vf_cli_calling.proofs.Speaking.{based}
use Rattle.vf_cli_calling.proofs.caller.Caller.begin.Goals as goal

pub returns : goal.returns
returns c = λ calling is. based c.args.self.now c.next_serial.result c.args.point calling (c.next_serial.ensures.association calling.association is.association) is
