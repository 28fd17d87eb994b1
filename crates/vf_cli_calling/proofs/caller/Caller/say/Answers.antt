use Rattle.std.proofs.Common.{◌≡◌, None}
use Rattle.vf_cli_calling.proofs.Speaking.{says_left, says_none, says_sent}
use Rattle.vf_cli_calling.proofs.caller.Caller.say.Goals as goal

pub returns-in_default : goal.returns-in_default
returns-in_default c = let none : c.in_ok-found.found ≡ None = cc in λ calling is.
    says_none c.args.self.now calling c.args.message.now c.in_ok-found.found c.args.out.now.items is c.in_ok-found.ensures none

pub returns-then-not-sent : goal.returns-then-not-sent
returns-then-not-sent c = λ calling is.
    says_left c.args.self.now c.send.new.self calling c.args.message.now c.in_ok-found.found c.in-Some.request c.in_ok-sent.sent c.args.out.now.items c.send.new.out.items is
    c.in_ok-found.ensures c.in-Some.is c.if-not-sent.true (c.in_ok-sent.ensures calling is)

pub returns : goal.returns
returns c = λ calling is.
    says_sent c.args.self.now c.send.new.self c.begin_by.new.self calling c.args.message.now c.in_ok-found.found c.in-Some.request c.in_ok-sent.sent c.args.out.now.items c.send.new.out.items is
    c.in_ok-found.ensures c.in-Some.is c.if-not-sent.false (c.in_ok-sent.ensures calling is) c.begin_by.ensures
