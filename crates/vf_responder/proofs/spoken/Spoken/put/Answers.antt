use Rattle.std.proofs.Common.{ℕ, List, ◌++◌, ap, ◌∙◌}
use Rattle.vf_responder.specs.Spoken.{joined}
use Rattle.vf_responder.proofs.SpokenLemmas.{joined-more}
use Rattle.vf_responder.proofs.spoken.Spoken.put.Goals as goal

pub returns : goal.returns
returns c =
    c.in_ok-close_long.ensures
    ∙ ap (joined c.self.inside.parts.items) (c.in_ok-extend_from_slice.ensures.items ∙ ap (λ (o : List ℕ). c.self.inside.last.items ++ o) c.as_slice.ensures)
    ∙ joined-more c.self.inside.parts.items c.self.inside.last.items c.args.string.now ∙ ap (λ (o : List ℕ). o ++ c.args.string.now) c.self.view_is
