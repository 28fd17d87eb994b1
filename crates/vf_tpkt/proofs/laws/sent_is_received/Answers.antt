use Rattle.vf_tpkt.proofs.RoundTrip.{sent-received}
use Rattle.vf_tpkt.proofs.laws.sent_is_received.Goals as goal

pub returns : goal.returns
returns c = sent-received
