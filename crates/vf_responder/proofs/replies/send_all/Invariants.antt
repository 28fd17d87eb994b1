use Rattle.vf_stack.specs.Association.{Association}
use Rattle.vf_stack.specs.declared.indication.Indication.{Indication}
use Rattle.vf_responder.specs.Replies.{sending_all}
use Rattle.vf_responder.specs.Steps.{IsAsked, IsCalled}
use Rattle.vf_responder.proofs.SendingLemmas.{IsAlong}
use Rattle.vf_responder.proofs.replies.send_all.Given as goal

abbrev pub invariant-loop-one : goal.invariant-loop-one
invariant-loop-one l = (association : Association) (indication : Indication) → IsCalled l.fn.stack association → IsAsked l.fn.asked indication
    → IsAlong indication (sending_all indication association l.fn.said.items) l.fn.out l.stack l.out l.one-iterator.rest.items
