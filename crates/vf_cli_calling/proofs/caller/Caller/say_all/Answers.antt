use Rattle.vf_cli_calling.proofs.Speaking.{says_first, says_last, says_next}
use Rattle.vf_cli_calling.proofs.caller.Caller.say_all.Goals as goal

pub loop-message-init : goal.loop-message-init
loop-message-init c = λ calling is. says_first c.args.self.now calling c.args.messages.now c.args.out.now.items is

pub loop-message-preserved : goal.loop-message-preserved
loop-message-preserved c = λ calling is.
    says_next calling c.args.messages.now c.args.out.now.items c.loop-message.self c.loop-message.out.items c.say.new.self c.say.new.out.items c.message-item.result c.loop-message.message-index c.loop-message-test.true c.message-item.is
    (c.loop-message.invariant calling is) c.in_ok-say.ensures

pub returns : goal.returns
returns c = λ calling is.
    says_last calling c.args.messages.now c.args.out.now.items c.loop-message.self c.loop-message.out.items c.loop-message.message-index c.loop-message-test.false (c.loop-message.invariant calling is)
