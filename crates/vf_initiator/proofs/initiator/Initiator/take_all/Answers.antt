use Rattle.vf_initiator.proofs.Took.{took_all, took_none, took_on}
use Rattle.vf_initiator.proofs.initiator.Initiator.take_all.Goals as goal

pub loop-rest-init : goal.loop-rest-init
loop-rest-init c = λ talk is. took_none c.args.self.now talk c.args.piece.now c.args.out.now.items is

pub loop-rest-preserved : goal.loop-rest-preserved
loop-rest-preserved c = λ talk is.
    took_on c.args.self.now c.loop-rest.self c.say_all.new.self c.take_few.new.self talk c.args.piece.now c.args.out.now.items c.loop-rest.out.items c.say_all.new.out.items c.take_few.new.out.items c.loop-rest.rest.now c.split_at.result.0.now c.split_at.result.1.now
    c.split_at.ensures.by_index.0 (c.is_done.ensures.goes c.loop-rest-test.true) (c.loop-rest.invariant talk is) c.in_ok-say_all.ensures.said c.in_ok-take_few.ensures

pub returns : goal.returns
returns c = λ talk is.
    took_all c.args.self.now c.loop-rest.self talk c.args.piece.now c.args.out.now.items c.loop-rest.out.items c.loop-rest.rest.now (c.is_done.ensures.done c.loop-rest-test.false) (c.loop-rest.invariant talk is)
