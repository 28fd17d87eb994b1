use Rattle.std.proofs.Common.{◌-◌, arith, length}
use Rattle.std.proofs.lemmas.Result.{IfOk-equal}
use Rattle.vf_tpkt.proofs.SendingLemmas.{joined-ends, joined-more}
use Rattle.vf_tpkt.proofs.data.write_rest.Goals as goal

pub returns-then-tail-room-clause-ok : goal.returns-then-tail-room-clause-ok
returns-then-tail-room-clause-ok c =
    IfOk-equal c.write_two.result _ _ _ c.write_two.ensures.ok (joined-ends c.args.most c.args.out.now.items c.args.head.now c.args.tail.now (omega arith))

pub returns-clause-ok : goal.returns-clause-ok
returns-clause-ok c =
    IfOk-equal c.write_tsdu.result _ _ _ c.write_tsdu.ensures.ok
    (joined-more c.args.most (c.args.most - length c.args.head.now) c.args.out.now.items c.write_two-2.new.out.items c.args.head.now c.args.tail.now c.split_at.result.0.now c.split_at.result.1.now
    c.requires.some (omega arith) (omega arith) c.split_at.ensures.front c.split_at.ensures.back c.in_ok-write_two.ensures.ok)
