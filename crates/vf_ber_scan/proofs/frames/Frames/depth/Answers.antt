use Rattle.std.proofs.Common.{◌-◌, ap, length, sym, ◌∙◌}
use Rattle.vf_ber_scan.proofs.FrameLemmas.{length-innermost_first}
use Rattle.vf_ber_scan.proofs.frames.Frames.depth.Goals as goal

pub returns : goal.returns
returns c = ap (λ n. 32 - n) (sym (length-innermost_first c.self.inside.count c.self.inside.held) ∙ ap length c.self.view_is)
