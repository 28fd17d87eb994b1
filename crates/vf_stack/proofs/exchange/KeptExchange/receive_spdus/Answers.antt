use Rattle.std.proofs.Common.{◌≡◌, [], ◌∷◌, List, subst, sym, arith}
use Rattle.std.proofs.lemmas.Grind.{common_steps}
use Rattle.std.specs.List.{AllByRecursion}
use Rattle.vf_session_spdu.specs.Fields.{IsReadable}
use Rattle.vf_session_spdu.specs.declared.spdu.Spdu.{Spdu}
use Rattle.vf_stack.proofs.FoldLemmas.{Places, places-all, places-none, places-one}
use Rattle.vf_stack.proofs.exchange.KeptExchange.receive_spdus.Goals as goal

pub loop-spdu-preserved : goal.loop-spdu-preserved
loop-spdu-preserved c =
    let kept = c.args.self.now in
    let P : List Spdu → Type 0 = λ rest. Places kept c.args.out.now.items c.args.after c.args.spdus.items c.loop-spdu.self c.loop-spdu.out.items c.loop-spdu.place rest in
    let before : P (c.in-Some.spdu ∷ c.next.new.self.rest.items) = subst P c.in-Some.ensures.steps.0 c.loop-spdu.invariant.received in
    let R : List Spdu → Type 0 = λ rest. AllByRecursion IsReadable rest in
    let readable : R (c.in-Some.spdu ∷ c.next.new.self.rest.items) = subst R c.in-Some.ensures.steps.0 c.loop-spdu.invariant.readable in
    record {
      received = places-one kept c.loop-spdu.self c.receive_spdu.new.self c.args.out.now.items c.loop-spdu.out.items c.receive_spdu.new.out.items c.args.after c.loop-spdu.place c.args.spdus.items c.next.new.self.rest.items c.in-Some.spdu before c.in_ok-receive_spdu.ensures;
      readable = readable.1;
    }

pub returns : goal.returns
returns c =
    let kept = c.args.self.now in
    let P : List Spdu → Type 0 = λ rest. Places kept c.args.out.now.items c.args.after c.args.spdus.items c.loop-spdu.self c.loop-spdu.out.items c.loop-spdu.place rest in
    let none : c.loop-spdu.spdu-iterator.rest.items ≡ [] = grind (arith, common_steps) in
    places-all kept c.loop-spdu.self c.args.out.now.items c.loop-spdu.out.items c.args.after c.loop-spdu.place c.args.spdus.items (subst P none c.loop-spdu.invariant.received)

pub loop-spdu-init : goal.loop-spdu-init
loop-spdu-init c =
    let kept = c.args.self.now in
    let out = c.args.out.now.items in
    let same = c.into_iter-spdu-iterator.ensures.into_iter_gives.0 in
    let P : List Spdu → Type 0 = λ rest. Places kept out c.args.after c.args.spdus.items kept out 0 rest in
    let R : List Spdu → Type 0 = λ rest. AllByRecursion IsReadable rest in
    record { received = subst P (sym same) (places-none kept out c.args.after c.args.spdus.items); readable = subst R (sym same) c.requires }
