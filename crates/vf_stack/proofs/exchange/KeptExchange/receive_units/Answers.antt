use Rattle.std.proofs.Common.{List, sym, subst}
use Rattle.vf_session.specs.declared.units.SessionSay.{SessionSay}
use Rattle.vf_stack.specs.Represents.{TellsUnit, TellsUnits}
use Rattle.vf_stack.proofs.OutcomeLemmas.{on-ok}
use Rattle.vf_stack.proofs.UnitLemmas.{tells-last}
use Rattle.vf_stack.proofs.exchange.KeptExchange.receive_units.Goals as goal

pub returns-in-Some : goal.returns-in-Some
returns-in-Some c =
    let kept = c.args.self.now in
    let kept2 = c.receive_unit.new.self in
    let out = c.args.out.now.items in
    let out2 = c.receive_unit.new.out.items in
    let U : List SessionSay → Type 0 = λ us. TellsUnits kept out us kept2 out2 in
    on-ok c.receive_unit.result (TellsUnit kept out c.in-Some.unit kept2 out2) (U c.args.units.items) c.receive_unit.ensures
    (λ told. subst U (sym c.in-Some.ensures.items) (tells-last kept kept2 out out2 c.pop.new.self.items c.in-Some.unit told))
