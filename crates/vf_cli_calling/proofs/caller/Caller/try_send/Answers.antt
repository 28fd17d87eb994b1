use Rattle.std.proofs.Common.{refl}
use Rattle.vf_cli_calling.proofs.Speaking.{asks_left, asks_sent}
use Rattle.vf_cli_calling.proofs.caller.Caller.try_send.Goals as goal

pub returns-then-not-may : goal.returns-then-not-may
returns-then-not-may c = λ calling is.
    asks_left c.args.self.now calling c.args.request.now c.args.out.now.items c.may.result is c.if-not-may.true (c.may.ensures.association calling.association is.association).1

pub returns : goal.returns
returns c = λ calling is.
    asks_sent c.args.self.now _ calling c.args.request.now c.args.out.now.items c.send.new.out.items is ((c.may.ensures.association calling.association is.association).0 c.if-not-may.false)
    (c.in_ok-send.ensures.sent calling.association is.association) c.send.ensures.end refl refl
