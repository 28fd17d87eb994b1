use Rattle.std.proofs.Common.{◌≡◌, [], ◌∷◌, List, subst, arith}
use Rattle.std.proofs.lemmas.Grind.{common_steps}
use Rattle.vf_stack.specs.Receiving.{received_next}
use Rattle.vf_stack.specs.Represents.{Onward}
use Rattle.vf_stack.proofs.FoldLemmas.{onward-one, onward-all}
use Rattle.vf_tpkt.specs.declared.unit.Unit.{Unit as Told}
use Rattle.vf_stack.proofs.exchange.KeptExchange.receive_all.Goals as goal

pub loop-unit-preserved : goal.loop-unit-preserved
loop-unit-preserved c =
    let kept = c.args.self.now in
    let P : List Told → Type 0 = λ rest. Onward kept c.args.out.now.items received_next c.args.units.items c.loop-unit.self c.loop-unit.out.items rest in
    let before : P (c.in-Some.unit ∷ c.next.new.self.rest.items) = subst P c.in-Some.ensures.steps.0 c.loop-unit.invariant in
    onward-one kept c.loop-unit.self c.receive.new.self c.args.out.now.items c.loop-unit.out.items c.receive.new.out.items received_next c.args.units.items c.next.new.self.rest.items c.in-Some.unit before c.in_ok-receive.ensures

pub returns : goal.returns
returns c =
    let kept = c.args.self.now in
    let P : List Told → Type 0 = λ rest. Onward kept c.args.out.now.items received_next c.args.units.items c.loop-unit.self c.loop-unit.out.items rest in
    let none : c.loop-unit.unit-iterator.rest.items ≡ [] = grind (arith, common_steps) in
    onward-all kept c.loop-unit.self c.args.out.now.items c.loop-unit.out.items received_next c.args.units.items (subst P none c.loop-unit.invariant)
