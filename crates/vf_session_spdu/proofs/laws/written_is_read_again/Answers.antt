use Rattle.vf_session_spdu.proofs.RoundTrip.{reads-alone, reads-after}
use Rattle.vf_session_spdu.proofs.laws.written_is_read_again.Goals as goal

pub returns-clause-alone : goal.returns-clause-alone
returns-clause-alone c = reads-alone

pub returns-clause-after : goal.returns-clause-after
returns-clause-after c = reads-after
