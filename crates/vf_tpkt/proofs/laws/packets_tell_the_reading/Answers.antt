use Rattle.vf_tpkt.proofs.StreamLemmas.{receives-reads}
use Rattle.vf_tpkt.proofs.laws.packets_tell_the_reading.Goals as goal

pub returns : goal.returns
returns c = receives-reads
