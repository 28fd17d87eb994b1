use Rattle.std.proofs.Common.{◌≡◌, [], ◌∷◌, List, subst, arith}
use Rattle.std.proofs.lemmas.Grind.{common_steps}
use Rattle.vf_elements.specs.declared.message.Said.{Said}
use Rattle.vf_responder.specs.Replies.{sending_all}
use Rattle.vf_responder.proofs.SendingLemmas.{IsAlong, along-all, along-none, along-one}
use Rattle.vf_responder.proofs.replies.send_all.Goals as goal

pub loop-one-init : goal.loop-one-init
loop-one-init c = λ association indication called asked. along-none indication association c.args.out.now c.args.stack.now _ _ called (grind (arith, common_steps))

pub loop-one-preserved : goal.loop-one-preserved
loop-one-preserved c = λ association indication called asked.
    let all = sending_all indication association c.args.said.items in
    let P : List Said → Type 0 = λ rest. IsAlong indication all c.args.out.now c.loop-one.stack c.loop-one.out rest in
    let before : P (c.in-Some.one ∷ c.next.new.self.rest.items) = subst P c.in-Some.ensures.steps.0 (c.loop-one.invariant association indication called asked) in
    along-one indication all c.args.out.now c.loop-one.stack c.send-sent.new.stack c.loop-one.out c.send-sent.new.out c.in_ok-request.request c.in-Some.one c.next.new.self.rest.items before
    (c.in_ok-request.ensures before.association indication before.called asked) (c.in_ok-sent.ensures before.association before.called)

pub returns : goal.returns
returns c = λ association indication called asked.
    let all = sending_all indication association c.args.said.items in
    let P : List Said → Type 0 = λ rest. IsAlong indication all c.args.out.now c.loop-one.stack c.loop-one.out rest in
    let none : c.loop-one.one-iterator.rest.items ≡ [] = grind (arith, common_steps) in
    along-all indication all c.args.out.now c.loop-one.stack c.loop-one.out (subst P none (c.loop-one.invariant association indication called asked))
