use Rattle.std.proofs.Common.{ℕ, List, ◌++◌, ap, refl, ◌∙◌}
use Rattle.vf_responder.specs.Spoken.{joined}
use Rattle.vf_responder.proofs.SpokenLemmas.{joined-closed}
use Rattle.vf_responder.proofs.spoken.Spoken.close.Goals as goal

pub returns : goal.returns
returns c =
    rw (c.in_ok-push.ensures.items, c.replace-before.ensures.after, c.new.ensures.items)
    (joined-closed c.self.inside.parts.items (record { before = c.replace-before.result; string = c.args.string })
    ∙ ap (λ (o : List ℕ). joined c.self.inside.parts.items o ++ c.args.string) (rw c.replace-before.ensures.value refl)
    ∙ ap (λ (o : List ℕ). o ++ c.args.string) c.self.view_is)
