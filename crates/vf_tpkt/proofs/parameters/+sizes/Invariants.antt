use Rattle.std.proofs.Common.{length}
use Rattle.vf_tpkt.proofs.parameters.+sizes.Given as goal

abbrev pub decreases-sizes : goal.decreases-sizes
decreases-sizes l = length l.octets.now
