use Rattle.vf_session.proofs.MutualLemmas.{begins, turns, sent-received}
use Rattle.vf_session.proofs.laws.sent_is_received.Goals as goal

pub returns-clause-begins : goal.returns-clause-begins
returns-clause-begins c = begins

pub returns-clause-turns : goal.returns-clause-turns
returns-clause-turns c = turns

pub returns-clause-received : goal.returns-clause-received
returns-clause-received c = sent-received
