use Rattle.std.proofs.Common.{◌≡◌, true}
use Rattle.vf_tpkt.specs.declared.kind.Kind.TheVariants.{Cr}
use Rattle.vf_tpkt.specs.Tpdu.{has_fixed}
use Rattle.vf_tpkt.proofs.CheckLemmas.{right}
use Rattle.vf_tpkt.proofs.connection.Connection.tell.Goals as goal

pub accept-requires-clause-fixed : goal.accept-requires-clause-fixed
accept-requires-clause-fixed c =
    let fixed : has_fixed Cr c.args.tpdu.now ≡ true = rw c.in-Cr.is at ((right c.args.self.now c.args.tpdu.now c.args.kind c.requires.right).fixed) in fixed
