use Rattle.std.proofs.Common.{sym, subst}
use Rattle.vf_session.specs.Advances.{Grows}
use Rattle.vf_session.specs.Kept.{Kept}
use Rattle.vf_session.specs.declared.state.SessionState.{SessionState}
use Rattle.vf_session.proofs.GrowLemmas.{InBounds, advanced-bounds}
use Rattle.vf_session.proofs.session.Session.advance.Goals as goal

pub invariant_of-self : goal.invariant_of-self
invariant_of-self c =
    let P : Kept → Type 0 = λ k. Grows k.side k.state c.args.told.now in
    let grows : Grows c.self.inside.side c.self.inside.state c.args.told.now = subst P (sym c.self.view_is) c.requires in
    let Q : SessionState → Type 0 = InBounds in
    subst Q (sym c.advanced-self-inside.ensures) (advanced-bounds c.self.inside.side c.args.from c.self.inside.before c.self.inside.state c.args.told.now grows c.self.invariant)
