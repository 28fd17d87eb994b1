use Rattle.std.proofs.Common.{arith, drop, length, ◌-◌, length-drop}
use Rattle.std.proofs.lemmas.List.{take_all}
use Rattle.vf_tpkt.proofs.SizeLemmas.{room}
use Rattle.vf_tpkt.proofs.connection.Connection.accept.Goals as goal

pub invariant_of-self : goal.invariant_of-self
invariant_of-self c =
    let tpdu = c.args.tpdu.now in
    let parameters = take_all (length tpdu - 7) (drop 7 tpdu) (omega (arith, length-drop 7 tpdu)) in
    (c.self.invariant.0, rw (c.data_size.ensures, c.proposal-size.ensures) (room tpdu _ parameters c.requires.fixed))
