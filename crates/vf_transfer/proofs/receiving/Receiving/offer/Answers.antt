use Rattle.std.proofs.Common.{◌≡◌, length, rules}
use Rattle.vf_transfer.proofs.Entries.{received_check}
use Rattle.vf_transfer.proofs.receiving.Receiving.offer.Goals as goal

pub returns-clause-ok : goal.returns-clause-ok
returns-clause-ok c =
    let end = c.self.inside in
    let values : c.len.result ≡ length end.values.items = search rules in
    rw (← c.self.view_is, c.in_ok-number.ensures.ok, values)
    (λ entries same. received_check (record { checks = end.checks; values = end.values.items }) entries same)
