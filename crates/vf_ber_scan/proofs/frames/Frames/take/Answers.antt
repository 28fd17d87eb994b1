use Rattle.std.proofs.Common.{arith}
use Rattle.vf_ber_scan.proofs.FrameLemmas.{take_is_less_in}
use Rattle.vf_ber_scan.proofs.frames.Frames.take.Goals as goal

pub returns : goal.returns
returns c = take_is_less_in c.self.inside.count c.args.n c.self.inside.held c.args.self.now c.lessened.result (omega arith) (omega arith) c.self.view_is c.lessened.ensures
