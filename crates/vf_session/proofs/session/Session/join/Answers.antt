use Rattle.std.proofs.Common.{◌∙◌, ap, sym, subst}
use Rattle.vf_session.specs.Advances.{kept_after}
use Rattle.vf_session.specs.Kept.{Kept}
use Rattle.vf_session.specs.Represents.{Represents}
use Rattle.vf_session.specs.Trace.{with_sent}
use Rattle.vf_session.specs.declared.units.TokenSide.{TokenSide}
use Rattle.vf_session.proofs.AllowedLemmas.{represents-sent}
use Rattle.vf_session.proofs.SentLemmas.{may-grows}
use Rattle.vf_session.proofs.session.Session.join.Goals as goal

pub advance-requires : goal.advance-requires
advance-requires c =
    let inside = c.advance.inside in
    may-grows c.args.self.now (record { side = inside.side; offer = inside.offer; state = inside.state; token = inside.before }) c.args.say.now c.advance.view_is c.advance.invariant c.requires

pub returns-clause-trace : goal.returns-clause-trace
returns-clause-trace c = λ trace r.
    let kept = c.args.self.now in
    let unit = c.args.say.now in
    let inside = c.advance.inside in
    let grows = may-grows kept (record { side = inside.side; offer = inside.offer; state = inside.state; token = inside.before }) unit c.advance.view_is c.advance.invariant c.requires in
    let own = ap (λ (k : Kept). k.side) c.advance.view_is in
    let next = c.advance-2.ensures ∙ ap (λ (side : TokenSide). kept_after side kept unit) own in
    let P : Kept → Type 0 = λ k. Represents k (with_sent kept.side unit trace) in
    subst P (sym next) (represents-sent kept trace unit c.requires grows r)
