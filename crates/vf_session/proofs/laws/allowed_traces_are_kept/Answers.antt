use Rattle.vf_session.proofs.AllowedLemmas.{allowed-kept, allowed-ordered}
use Rattle.vf_session.proofs.laws.allowed_traces_are_kept.Goals as goal

pub returns-clause-kept : goal.returns-clause-kept
returns-clause-kept c = allowed-kept

pub returns-clause-ordered : goal.returns-clause-ordered
returns-clause-ordered c = allowed-ordered
