use Rattle.std.proofs.Common.{None, Some}
use Rattle.vf_cli_calling.specs.Calling.{point_of}
use Rattle.vf_cli_calling.proofs.Speaking.{noted_so}
use Rattle.vf_cli_calling.proofs.caller.Caller.note.Goals as goal

pub returns-in-Some : goal.returns-in-Some
returns-in-Some c = λ calling is. noted_so c.begin.new.self (Some c.in-Some.point) (point_of c.args.indication.now) calling c.in-Some.ensures (c.begin.ensures calling is)

pub returns-in-None : goal.returns-in-None
returns-in-None c = λ calling is. noted_so c.args.self.now None (point_of c.args.indication.now) calling c.in-None.ensures is
