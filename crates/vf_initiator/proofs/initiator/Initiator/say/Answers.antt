use Rattle.std.proofs.Common.{◌≡◌, not, false, refl, arith, rules, inl, inr}
use Rattle.std.proofs.lemmas.Grind.{common_steps}
use Rattle.vf_initiator.proofs.Saying.{fewer_now, said_so, says_more, says_none}
use Rattle.vf_initiator.proofs.initiator.Initiator.say.Goals as goal

pub loop-alloc-init : goal.loop-alloc-init
loop-alloc-init c = (λ talk rest lags. says_none c.args.self.now talk rest c.args.out.now.items lags, inl (refl, refl))

pub loop-alloc-preserved : goal.loop-alloc-preserved
loop-alloc-preserved c = (
  λ talk rest lags.
      says_more c.args.self.now c.loop-alloc.self c.say_next.new.self talk rest c.args.out.now.items c.loop-alloc.out.items c.say_next.new.out.items (c.loop-alloc.invariant.0 talk rest lags) (λ r now. c.in_ok-say_next.ensures.said talk r now),
  inr (fewer_now c.args.self.now c.loop-alloc.self c.say_next.new.self c.args.out.now.items c.loop-alloc.out.items c.in_ok-say_next.ensures.fewer c.loop-alloc.invariant.1),
)

pub returns-clause-said : goal.returns-clause-said
returns-clause-said c = λ talk rest owes.
    said_so c.args.self.now c.loop-alloc.self talk rest c.args.out.now.items c.loop-alloc.out.items _ (λ (done : not c.is_empty.result ≡ false). first_of (search rules, grind (arith, common_steps))) owes (c.loop-alloc.invariant.0 talk rest owes.lags)
