use Rattle.std.proofs.Common.{◌≡◌, ℕ, ◌+◌, ◌∷◌, ap, sym, subst, ◌∙◌}
use Rattle.vf_transfer.specs.Checks.{Receiver, RepresentsReceived, offered}
use Rattle.vf_transfer.specs.Transfer.{Acknowledgement, Check}
use Rattle.vf_party_steps.proofs.received.Received.check.Goals as goal

pub returns-clause-ok : goal.returns-clause-ok
returns-clause-ok c = λ entries represents.
    let number : c.in-Ok.number ≡ offered c.args.self.now.checks + 1 = c.in-Ok.ensures.number ∙ ap (λ (receiver : Receiver). offered receiver.checks + 1) c.self.view_is in
    subst (λ (n : ℕ). RepresentsReceived c.acknowledge.new.self (Acknowledgement n ∷ Check ∷ entries)) number
    (c.in-Ok-acknowledge.ensures.ok (Check ∷ entries) (c.in-Ok.ensures.ok entries (subst (λ (receiver : Receiver). RepresentsReceived receiver entries) (sym c.self.view_is) represents)))
