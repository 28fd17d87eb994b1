use Rattle.std.proofs.Common.{refl}
use Rattle.vf_session.specs.Allowed.{nothing}
use Rattle.vf_session.proofs.session.Session.calling.Goals as goal

pub returns-clause-trace : goal.returns-clause-trace
returns-clause-trace c = record { allowed = nothing; state_is = refl; token_is = refl }
