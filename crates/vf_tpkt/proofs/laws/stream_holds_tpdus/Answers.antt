use Rattle.vf_tpkt.proofs.StreamLemmas.{holds-tpdus}
use Rattle.vf_tpkt.proofs.laws.stream_holds_tpdus.Goals as goal

pub returns : goal.returns
returns c = holds-tpdus
