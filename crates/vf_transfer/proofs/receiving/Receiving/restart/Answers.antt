use Rattle.std.proofs.Common.{sym}
use Rattle.vf_transfer.proofs.Entries.{received_restart}
use Rattle.vf_transfer.proofs.receiving.Receiving.restart.Goals as goal

pub returns-clause-ok : goal.returns-clause-ok
returns-clause-ok c =
    let end = c.self.inside in
    let done = c.in_ok-values.ensures in
    rw (← c.self.view_is, done.ok, c.truncate.ensures.items)
    (λ entries same. received_restart (record { checks = end.checks; values = end.values.items }) entries c.args.point c.in_ok-values.values (sym done.known) done.values same)
