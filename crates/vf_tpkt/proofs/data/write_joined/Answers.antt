use Rattle.std.proofs.Common.{◌≡◌, ◌++◌, arith, sym, take}
use Rattle.std.proofs.lemmas.Result.{IfOk-equal}
use Rattle.vf_tpkt.specs.Sending.{sent, other_dt}
use Rattle.vf_tpkt.specs.Tpdu.{packet}
use Rattle.vf_tpkt.proofs.SendingLemmas.{joined-goes-on}
use Rattle.vf_tpkt.proofs.StepLemmas.{extends-twice}
use Rattle.vf_tpkt.proofs.data.write_joined.Goals as goal

pub loop-rest-preserved : goal.loop-rest-preserved
loop-rest-preserved c =
    let l = c.loop-rest in
    let appended : c.write_dt.new.out.items ≡ l.out.items ++ packet (other_dt (take c.args.most l.rest.now)) =
    rw (← c.split_at.ensures.front) c.in_ok-write_dt.ensures.ok in (
      rw c.split_at.ensures.back (joined-goes-on c.args.most (c.args.out.now.items ++ sent c.args.most (c.args.head.now ++ c.args.tail.now)) l.out.items c.write_dt.new.out.items l.rest.now c.args.tail.now c.requires.some (omega arith) l.invariant.0 appended),
      extends-twice c.args.out.now.items l.out.items c.write_dt.new.out.items l.invariant.1 (packet (other_dt (take c.args.most l.rest.now)), appended),
    )

pub returns-clause-ok : goal.returns-clause-ok
returns-clause-ok c =
    let l = c.loop-rest in
    IfOk-equal c.write_rest.result _ _ _ c.write_rest.ensures.ok (sym l.invariant.0)
