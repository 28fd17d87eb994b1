use Rattle.vf_initiator.proofs.Took.{took_whole}
use Rattle.vf_initiator.proofs.initiator.Initiator.take.Goals as goal

pub returns-clause-taken : goal.returns-clause-taken
returns-clause-taken c = λ talk is.
    took_whole c.args.self.now c.take_waiting.new.self c.say_all.new.self talk c.args.piece.now c.args.changes.now c.take_waiting.new.changes c.new-sent.result.items c.take_waiting.new.out.items c.say_all.new.out.items c.args.out.now.items c.append_all.new.out.items c.in_ok-doing.doing
    c.new-sent.ensures.items c.in_ok-append_all.ensures.all (c.in_ok-doing.ensures.taken talk is) (λ t r lags. c.in_ok-say_all.ensures.said t r lags)
