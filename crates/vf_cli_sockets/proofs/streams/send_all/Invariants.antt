use Rattle.std.proofs.Common.{length}
use Rattle.vf_cli_sockets.proofs.streams.send_all.Given as goal

abbrev pub decreases-loop-rest : goal.decreases-loop-rest
decreases-loop-rest l = length l.rest
