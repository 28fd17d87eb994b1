-- What hearing octets on a link owes before what they tell is answered, in the words of the run.
use Rattle.std.specs.Prelude.{◌≡◌, ℕ, false, List, ◌++◌}
use Rattle.vf_stack.specs.Receiving.{Fed}
use Rattle.vf_stack.specs.Represents as stack
use Rattle.vf_stack.specs.declared.indication.Indication.{Indication}
use Rattle.vf_responder.specs.Answers.{speaking}
use Rattle.vf_responder.specs.Steps.{IsCalled}
use Rattle.vf_responder.specs.declared.event.Reply.{Reply}

-- so much was told, and what transport answers was spoken
pub record IsHeard (number : ℕ) (fed : Fed) (old : List Reply) (kept : stack.Kept) (told : List Indication) (new : List Reply) : Type 0 where
  pub told_is : told ≡ fed.indications
  pub spoken : new ≡ old ++ speaking number fed.answers false
  pub called : IsCalled kept fed.association
