use Rattle.std.proofs.Common.{◌≡◌, refl, None}
use Rattle.vf_initiator.proofs.Greeting.{greeting_sent, greeting_waits, no_greeting}
use Rattle.vf_initiator.proofs.initiator.Initiator.greet.Goals as goal

pub returns-in_default-clause-greets : goal.returns-in_default-clause-greets
returns-in_default-clause-greets c = let none : c.args.self.now.greeting ≡ None = cc in λ talk holds. no_greeting c.args.self.now talk c.args.out.now.items none holds

pub returns-then-not-may-clause-greets : goal.returns-then-not-may-clause-greets
returns-then-not-may-clause-greets c = λ talk holds.
    greeting_waits c.args.self.now talk c.in-Some.request c.args.out.now.items c.may.result c.in-Some.is c.if-not-may.true (c.may.ensures.association talk.association holds.association).1 holds

pub returns-clause-greets : goal.returns-clause-greets
returns-clause-greets c = λ talk holds.
    greeting_sent c.args.self.now _ talk c.in-Some.request c.args.out.now.items c.send.new.out.items c.in-Some.is ((c.may.ensures.association talk.association holds.association).0 c.if-not-may.false)
    (c.in_ok-send.ensures.sent talk.association holds.association) c.send.ensures.end refl refl refl refl holds
