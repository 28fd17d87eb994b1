use Rattle.std.proofs.Common.{◌∙◌, arith}
use Rattle.vf_tpkt.proofs.SendingLemmas.{joined-ends}
use Rattle.vf_tpkt.proofs.data.write_front.Goals as goal

pub returns-clause-front : goal.returns-clause-front
returns-clause-front c = λ is tail count.
    c.in_ok-write_before.ensures.ok tail count ∙ joined-ends c.args.most c.args.out.now.items c.args.head.now tail (omega (arith, count))
