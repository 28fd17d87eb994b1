use Rattle.std.proofs.Common.{arith}
use Rattle.vf_ber.proofs.Subidentifiers.{cut_tail, no_group}
use Rattle.vf_ber.proofs.primitive.first_group.Goals as goal

pub returns-then-octet-lt128-clause-some : goal.returns-then-octet-lt128-clause-some
returns-then-octet-lt128-clause-some c = (
  cut_tail c.args.octets.now _ _ c.loop-i.i c.loop-i-test.true c.loop-i.invariant c.if-octet-lt128.true c.split_at.ensures.front c.split_at.ensures.back,
  omega arith,
)

pub returns-clause-none : goal.returns-clause-none
returns-clause-none c =
    λ some. no_group c.args.octets.now some (λ k lt. c.loop-i.invariant k (omega arith))
