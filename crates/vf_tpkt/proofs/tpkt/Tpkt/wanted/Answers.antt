use Rattle.vf_tpkt.proofs.WantLemmas.{tells-once_at}
use Rattle.vf_tpkt.proofs.tpkt.Tpkt.wanted.Goals as goal

pub returns-clause-once : goal.returns-clause-once
returns-clause-once c =
    let inside = c.self.inside in
    tells-once_at c.args.self.now (record { connection = inside.connection; packet = inside.packet.items; fault = inside.fault }) c.as_slice.result.now c.most_wanted.result c.self.view_is c.as_slice.ensures.value c.most_wanted.ensures.fits
