use Rattle.vf_tpkt.proofs.StepLemmas.{tells-onward}
use Rattle.vf_tpkt.proofs.tpkt.Tpkt.receive.Goals as goal

pub returns-in-Ok : goal.returns-in-Ok
returns-in-Ok c =
    let inside = c.self.inside in
    tells-onward c.args.self.now inside.connection c.receive_all.new.connection inside.packet.items c.args.piece.now c.receive_all.new.packet.items inside.fault c.args.units.now.items c.receive_all.new.units.items c.args.answers.now.items c.receive_all.new.answers.items c.self.view_is c.in_default.is c.in-Ok.ensures
