use Rattle.std.proofs.Common.{ap, ◌∷◌, ◌∙◌, length, arith}
use Rattle.vf_ber_scan.proofs.FrameLemmas.{innermost_first-push, length-innermost_first}
use Rattle.vf_ber_scan.proofs.frames.Frames.push.Goals as goal

pub returns : goal.returns
returns c =
    innermost_first-push c.self.inside.count c.self.inside.held c.args.frame (omega (arith, length-innermost_first c.self.inside.count c.self.inside.held, ap length c.self.view_is))
    ∙ ap (λ fs. c.args.frame ∷ fs) c.self.view_is
