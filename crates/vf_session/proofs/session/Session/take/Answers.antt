use Rattle.std.proofs.Common.{◌≡◌, [], ◌∷◌, ◌++◌, Ok, Err, arith, sym, ◌∙◌, ap}
use Rattle.std.proofs.lemmas.Grind.{common_steps}
use Rattle.vf_session.specs.Advances.{kept_after}
use Rattle.vf_session.specs.Kept.{Kept}
use Rattle.vf_session.specs.Trace.{other}
use Rattle.vf_session.specs.declared.units.TokenSide.{TokenSide}
use Rattle.vf_session.proofs.TakeLemmas.{by-nothing, by-tells, by-fault, takes-of}
use Rattle.vf_session.proofs.session.Session.take.Goals as goal

pub returns-in-Nothing-clause-trace : goal.returns-in-Nothing-clause-trace
returns-in-Nothing-clause-trace c =
    takes-of c.args.self.now c.args.spdu c.args.out.now.items c.args.self.now c.args.out.now.items (Ok tt) c.requires (by-nothing c.args.self.now c.args.spdu c.args.out.now.items (sym c.receive.ensures.told ∙ c.in-Nothing.is))

pub returns-in-Faulty-clause-trace : goal.returns-in-Faulty-clause-trace
returns-in-Faulty-clause-trace c =
    takes-of c.args.self.now c.args.spdu c.args.out.now.items c.args.self.now c.args.out.now.items (Err c.in-Faulty.fault) c.requires (by-fault c.args.self.now c.args.spdu c.args.out.now.items c.in-Faulty.fault (sym c.receive.ensures.told ∙ c.in-Faulty.is))

pub returns-in_ok-reserve-in-Tells-clause-trace : goal.returns-in_ok-reserve-in-Tells-clause-trace
returns-in_ok-reserve-in-Tells-clause-trace c =
    let from = c.other.ensures ∙ ap (λ (k : Kept). other k.side) c.advance.view_is in
    let next = c.advance-in-Tells.ensures ∙ ap (λ (side : TokenSide). kept_after side c.args.self.now c.in-Tells.unit) from in
    let told : c.push_reserved.new.self.items ≡ c.args.out.now.items ++ c.in-Tells.unit ∷ [] = grind (arith, common_steps) in
    takes-of c.args.self.now c.args.spdu c.args.out.now.items c.advance-in-Tells.new.self c.push_reserved.new.self.items (Ok tt) c.requires
    (by-tells c.args.self.now c.args.spdu c.args.out.now.items c.advance-in-Tells.new.self c.push_reserved.new.self.items c.in-Tells.unit (sym c.receive.ensures.told ∙ c.in-Tells.is) next told)
