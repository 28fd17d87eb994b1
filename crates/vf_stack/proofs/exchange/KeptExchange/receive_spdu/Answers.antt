use Rattle.std.proofs.Common.{◌≡◌, false, List, sym, ◌∙◌, subst, Ok}
use Rattle.vf_session.specs.Represents.{Takes}
use Rattle.vf_session.specs.declared.units.SessionSay.{SessionSay}
use Rattle.vf_stack.specs.Association.{is_ended}
use Rattle.vf_stack.specs.Receiving.{spdu_received}
use Rattle.vf_stack.specs.Represents.{Receives, Refuses, TellsUnits}
use Rattle.vf_stack.specs.declared.fault.Fault.{Fault}
use Rattle.vf_stack.proofs.OutcomeLemmas.{on-ok}
use Rattle.vf_stack.proofs.SpduLemmas.{faulty-by, receives-fault, receives-told}
use Rattle.vf_stack.proofs.exchange.KeptExchange.receive_spdu.Goals as goal

pub returns-in-Ok : goal.returns-in-Ok
returns-in-Ok c =
    let kept = c.args.self.now in
    let out = c.args.out.now.items in
    let kept2 = c.receive_units.new.self in
    let out2 = c.receive_units.new.out.items in
    let s = c.take.new.self in
    let units = c.take.new.out.items in
    let goes : is_ended kept.ending ≡ false = sym c.is_ended.ensures ∙ c.if-is_ended.false in
    on-ok c.receive_units.result (TellsUnits (record kept { session = s }) out units kept2 out2) (Receives kept out (λ own x. spdu_received own c.args.place x c.args.spdu) kept2 out2) c.receive_units.ensures
    (λ told. receives-told kept kept2 s units out out2 c.args.place c.args.spdu goes c.in-Ok.ensures.end
    (λ trace keeps. let T : List SessionSay → Type 0 = λ before. Takes kept.session c.args.spdu before s units trace (Ok tt) in subst T c.new-units.ensures.items (c.in-Ok.ensures.trace trace keeps))
    told)

pub returns-in_ok-told-in-Err : goal.returns-in_ok-told-in-Err
returns-in_ok-told-in-Err c =
    let kept = c.args.self.now in
    let out = c.args.out.now.items in
    let kept2 = c.refuse.new.self in
    let out2 = c.refuse.new.out.items in
    let s = c.take.new.self in
    let fault = c.in-Err.fault in
    let named = c.in_ok-told-in-Err.ensures.ok in
    let goes : is_ended kept.ending ≡ false = sym c.is_ended.ensures ∙ c.if-is_ended.false in
    let R : Fault → Type 0 = λ f. Refuses (record kept { session = s }) out f kept2 out2 in
    on-ok c.refuse.result (R c.in_ok-told-in-Err.told) (Receives kept out (λ own x. spdu_received own c.args.place x c.args.spdu) kept2 out2) c.refuse.ensures
    (λ r. receives-fault kept kept2 s out out2 c.args.place c.args.spdu fault goes c.in-Err.ensures.end
    (λ trace keeps. faulty-by kept.session s c.args.spdu c.new-units.result.items c.take.new.out.items trace fault named.0 (c.in-Err.ensures.trace trace keeps))
    (subst R named.1 r))
