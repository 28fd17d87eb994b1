use Rattle.std.proofs.Common.{sym}
use Rattle.vf_transfer.proofs.Entries.{sent_restart}
use Rattle.vf_transfer.proofs.sending.Sending.restart.Goals as goal

pub returns-clause-ok : goal.returns-clause-ok
returns-clause-ok c =
    let end = c.self.inside in
    let done = c.in_ok-values.ensures in
    rw (← c.self.view_is, done.ok, c.min-self-inside.ensures)
    (λ entries same. sent_restart (record { checks = end.checks; elements = end.elements.items; sent = end.sent }) entries c.args.point c.in_ok-values.values (sym done.known) done.values same)
