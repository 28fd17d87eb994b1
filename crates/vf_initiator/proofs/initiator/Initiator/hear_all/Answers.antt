use Rattle.std.proofs.Common.{◌≡◌, [], ◌∷◌, List, arith, rules, subst}
use Rattle.std.proofs.lemmas.Grind.{common_steps}
use Rattle.vf_initiator.proofs.Answering.{answers_all, answers_none, answers_one, answers_said}
use Rattle.vf_initiator.specs.Owed.{LagsOnward, LeadsOnward}
use Rattle.vf_stack.specs.declared.indication.Indication.{Indication}
use Rattle.vf_initiator.proofs.initiator.Initiator.hear_all.Goals as goal

pub loop-indication-init : goal.loop-indication-init
loop-indication-init c = λ talk holds waits.
    let same : c.args.told.items ≡ c.into_iter-indication-iterator.result.rest.items = grind (arith, common_steps) in
    subst (λ (rest : List Indication). LagsOnward c.args.self.now talk c.args.told.items c.args.out.now.items c.args.self.now c.args.out.now.items rest) same
    (answers_none c.args.self.now talk c.args.told.items c.args.out.now.items holds waits)

pub loop-indication-preserved : goal.loop-indication-preserved
loop-indication-preserved c = λ talk holds waits.
    let first : c.loop-indication.indication-iterator.rest.items ≡ c.in-Some.indication ∷ c.next.new.self.rest.items = first_of (search rules, grind (arith, common_steps)) in
    let said = answers_said c.args.self.now c.loop-indication.self c.say_all.new.self talk c.args.told.items c.args.out.now.items c.loop-indication.out.items c.say_all.new.out.items c.loop-indication.indication-iterator.rest.items
    (c.loop-indication.invariant talk holds waits) (λ t r lags. c.in_ok-say_all.ensures.said t r lags) in
    answers_one c.args.self.now c.say_all.new.self c.hear.new.self talk c.args.told.items c.args.out.now.items c.say_all.new.out.items c.hear.new.out.items c.in-Some.indication c.next.new.self.rest.items
    (subst (λ (rest : List Indication). LeadsOnward c.args.self.now talk c.args.told.items c.args.out.now.items c.say_all.new.self c.say_all.new.out.items rest) first said)
    (λ t now. c.in_ok-hear.ensures t now c.in_ok-say_all.ensures.none)

pub returns : goal.returns
returns c = λ talk holds waits.
    let none : c.loop-indication.indication-iterator.rest.items ≡ [] = grind (arith, common_steps) in
    answers_all c.args.self.now c.loop-indication.self talk c.args.told.items c.args.out.now.items c.loop-indication.out.items c.loop-indication.indication-iterator.rest.items none (c.loop-indication.invariant talk holds waits)
