use Rattle.std.proofs.Common.{sym, ◌∙◌, subst}
use Rattle.vf_session.specs.Advances.{Grows}
use Rattle.vf_session.specs.Kept.{Kept}
use Rattle.vf_session.proofs.GrowLemmas.{receives-grows}
use Rattle.vf_session.proofs.session.Session.receive.Goals as goal

pub returns-clause-grows : goal.returns-clause-grows
returns-clause-grows c = λ unit h.
    let P : Kept → Type 0 = λ k. Grows k.side k.state unit in
    subst P c.self.view_is (receives-grows c.self.inside.side c.self.inside.state c.args.spdu unit c.requires c.self.invariant.0 (sym c.receives.ensures ∙ h))
