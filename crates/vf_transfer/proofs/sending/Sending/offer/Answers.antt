use Rattle.vf_transfer.proofs.Entries.{sent_check}
use Rattle.vf_transfer.proofs.sending.Sending.offer.Goals as goal

pub returns-clause-ok : goal.returns-clause-ok
returns-clause-ok c =
    let end = c.self.inside in
    rw (← c.self.view_is, c.in_ok-number.ensures.ok)
    (λ entries same. sent_check (record { checks = end.checks; elements = end.elements.items; sent = end.sent }) entries c.self.invariant same)
