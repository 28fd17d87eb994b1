use Rattle.vf_tpkt.proofs.StepLemmas.{tells-piece, keeps-piece}
use Rattle.vf_tpkt.proofs.tpkt.Tpkt.feed.Goals as goal

pub returns-clause-stream : goal.returns-clause-stream
returns-clause-stream c = λ side stream represents.
    tells-piece side stream c.args.piece.now c.args.self.now c.receive.new.self c.args.units.now.items c.receive.new.units.items c.args.answers.now.items c.receive.new.answers.items c.receive.result represents c.receive.ensures

pub returns-clause-kept : goal.returns-clause-kept
returns-clause-kept c = λ side stream represents.
    keeps-piece side stream c.args.piece.now c.args.self.now c.receive.new.self c.args.units.now.items c.receive.new.units.items c.args.answers.now.items c.receive.new.answers.items c.receive.result represents c.receive.ensures
