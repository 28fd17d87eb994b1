use Rattle.std.proofs.Common.{sym}
use Rattle.vf_transfer.proofs.Entries.{sent_acknowledgement}
use Rattle.vf_transfer.proofs.sending.Sending.acknowledge.Goals as goal

pub returns-clause-ok : goal.returns-clause-ok
returns-clause-ok c =
    let end = c.self.inside in
    let done = c.in_ok-acknowledge.ensures in
    rw (← c.self.view_is, done.ok)
    (λ entries same. sent_acknowledgement (record { checks = end.checks; elements = end.elements.items; sent = end.sent }) entries c.args.point (sym done.known) same)
