use Rattle.std.proofs.Common.{arith}
use Rattle.vf_ber_scan.proofs.FrameLemmas.{resume_is_ended_in}
use Rattle.vf_ber_scan.proofs.frames.Frames.resume.Goals as goal

pub returns : goal.returns
returns c = resume_is_ended_in c.self.inside.count c.args.room c.self.inside.held c.args.self.now c.resumed.result (omega arith) (omega arith) c.self.view_is c.resumed.ensures
