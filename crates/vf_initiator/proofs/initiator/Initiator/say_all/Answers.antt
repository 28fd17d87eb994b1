use Rattle.std.proofs.Common.{◌≡◌, [], arith, rules}
use Rattle.std.proofs.lemmas.Grind.{common_steps}
use Rattle.vf_initiator.proofs.Saying.{says_all, says_more, says_none}
use Rattle.vf_initiator.proofs.initiator.Initiator.say_all.Goals as goal

pub loop-alloc-init : goal.loop-alloc-init
loop-alloc-init c = λ talk rest lags. says_none c.args.self.now talk rest c.args.out.now.items lags

pub loop-alloc-preserved : goal.loop-alloc-preserved
loop-alloc-preserved c = λ talk rest lags.
    says_more c.args.self.now c.loop-alloc.self c.say_next.new.self talk rest c.args.out.now.items c.loop-alloc.out.items c.say_next.new.out.items (c.loop-alloc.invariant talk rest lags) (λ r now. c.in_ok-say_next.ensures.said talk r now)

pub returns-clause-said : goal.returns-clause-said
returns-clause-said c = λ talk rest lags.
    let none : c.loop-alloc.self.waiting.items ≡ [] = first_of (search rules, grind (arith, common_steps)) in
    says_all c.args.self.now c.loop-alloc.self talk rest c.args.out.now.items c.loop-alloc.out.items none (c.loop-alloc.invariant talk rest lags)
