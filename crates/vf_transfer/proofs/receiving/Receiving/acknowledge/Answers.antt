use Rattle.std.proofs.Common.{sym}
use Rattle.vf_transfer.proofs.Entries.{received_acknowledgement}
use Rattle.vf_transfer.proofs.receiving.Receiving.acknowledge.Goals as goal

pub returns-clause-ok : goal.returns-clause-ok
returns-clause-ok c =
    let end = c.self.inside in
    let done = c.in_ok-acknowledge.ensures in
    rw (← c.self.view_is, done.ok)
    (λ entries same. received_acknowledgement (record { checks = end.checks; values = end.values.items }) entries c.args.point (sym done.known) same)
