use Rattle.vf_ber.proofs.Subidentifiers.{too_large}
use Rattle.vf_ber.proofs.primitive.number_of.Goals as goal

pub returns-then-n-gt2097152 : goal.returns-then-n-gt2097152
returns-then-n-gt2097152 c =
    too_large c.args.group.now c.loop-octet.octet-index c.loop-octet.n c.loop-octet-test.true c.if-n-gt2097152.true c.loop-octet.invariant.1
