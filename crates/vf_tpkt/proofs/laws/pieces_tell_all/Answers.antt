use Rattle.vf_tpkt.proofs.RoundTrip.{onward-pieces}
use Rattle.vf_tpkt.proofs.laws.pieces_tell_all.Goals as goal

pub returns : goal.returns
returns c = onward-pieces
