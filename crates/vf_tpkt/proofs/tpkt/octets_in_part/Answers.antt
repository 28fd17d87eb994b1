use Rattle.std.proofs.Common.{arith}
use Rattle.vf_tpkt.proofs.PacketLemmas.{part-short}
use Rattle.vf_tpkt.proofs.tpkt.octets_in_part.Goals as goal

pub returns-clause-bound : goal.returns-clause-bound
returns-clause-bound c = part-short c.args.place c.args.packet.now (λ i. omega (arith, c.type_inv.packet i)) c.requires
