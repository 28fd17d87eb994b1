use Rattle.vf_base.specs.Faults.{NeverFalls}
use Rattle.vf_cli_dialogue.specs.Conversation.{left_of, octets_in}
use Rattle.vf_cli_dialogue.specs.Reader.{will_say}
use Rattle.vf_cli_dialogue.proofs.TopLemmas.{SoFar}
use Rattle.vf_cli_dialogue.proofs.answering.converse_with.Given as goal

abbrev pub invariant-steps : goal.invariant-steps
invariant-steps g l = record {
  input_falls : NeverFalls (g.I.Source.fault_count l.initial.input) (g.I.Source.fault_count l.input);
  out_falls : NeverFalls (g.O.Sink.fault_count l.initial.out) (g.O.Sink.fault_count l.out);
  goes : SoFar (octets_in l.initial.conversation.stream) (will_say l.initial.reader (g.I.Source.left l.initial.input)) (will_say l.reader (g.I.Source.left l.input))
      (g.O.Sink.taken l.initial.out) (g.O.Sink.taken l.out) l.conversation;
}

abbrev pub decreases-steps : goal.decreases-steps
decreases-steps g l = left_of l.reader l.conversation
