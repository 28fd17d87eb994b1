use Rattle.std.proofs.Common.{false, ap, sym, subst}
use Rattle.vf_session.specs.Advances.{kept_after}
use Rattle.vf_session.specs.Kept.{Kept}
use Rattle.vf_session.specs.Represents.{Represents}
use Rattle.vf_session.specs.Trace.{with_sent}
use Rattle.vf_session.specs.declared.units.SessionSay.TheVariants.{Data}
use Rattle.vf_session.proofs.AllowedLemmas.{represents-sent}
use Rattle.vf_session.proofs.SentLemmas.{may-grows}
use Rattle.vf_session.proofs.session.Session.join_data.Goals as goal

pub returns-clause-trace : goal.returns-clause-trace
returns-clause-trace c = λ octets trace may r.
    let kept = c.args.self.now in
    let unit = Data false octets in
    let inside = c.self.inside in
    let view : Kept = record { side = inside.side; offer = inside.offer; state = inside.state; token = inside.before } in
    let grows = may-grows kept view unit c.self.view_is c.self.invariant may in
    let P : Kept → Type 0 = λ k. Represents (kept_after k.side k unit) (with_sent kept.side unit trace) in
    subst P (sym c.self.view_is) (represents-sent kept trace unit may grows r)
