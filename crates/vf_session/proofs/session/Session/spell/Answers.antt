use Rattle.vf_session.proofs.SentLemmas.{may-written}
use Rattle.vf_session.proofs.session.Session.spell.Goals as goal

pub returns-in_err-put_spdus-clause-written : goal.returns-in_err-put_spdus-clause-written
returns-in_err-put_spdus-clause-written c = may-written c.args.self.now (record { side = c.self.inside.side; offer = c.self.inside.offer; state = c.self.inside.state; token = c.self.inside.before }) c.args.say.now c.self.view_is c.self.invariant c.requires

pub returns-clause-written : goal.returns-clause-written
returns-clause-written c = may-written c.args.self.now (record { side = c.self.inside.side; offer = c.self.inside.offer; state = c.self.inside.state; token = c.self.inside.before }) c.args.say.now c.self.view_is c.self.invariant c.requires
