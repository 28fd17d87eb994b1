use Rattle.vf_party_steps.proofs.Recovers.{aborts_read}
use Rattle.vf_party_steps.proofs.states.Associated.would_read.Goals as goal

pub returns-clause-aborts : goal.returns-clause-aborts
returns-clause-aborts c = aborts_read c.args.tables.now c.args.locks.now c.args.self.now c.args.activity c.args.number c.args.point c.in_ok-reads.reads c.in_ok-reads.ensures
