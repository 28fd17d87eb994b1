use Rattle.std.proofs.Common.{◌≡◌, ◌≤◌, ◌++◌, List, ℕ, length}
use Rattle.vf_filestore.specs.State.{State}
use Rattle.vf_cli_dialogue.specs.Conversation.{Continues, Holds}
use Rattle.vf_cli_dialogue.proofs.conversation.take_messages.Given as goal

abbrev pub invariant-loop-rest : goal.invariant-loop-rest
invariant-loop-rest l = record {
  within : length l.rest ≤ length l.fn.octets;
  goes : (first : State) → Holds l.initial.filestore first
      → (state : State) × (said : List ℕ) × Holds l.filestore state × (l.replies.lines.items ≡ l.initial.replies.lines.items ++ said)
      × Continues first l.fn.octets said state l.rest;
}

abbrev pub decreases-loop-rest : goal.decreases-loop-rest
decreases-loop-rest l = length l.rest
