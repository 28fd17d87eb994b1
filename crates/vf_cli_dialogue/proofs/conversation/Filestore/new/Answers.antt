use Rattle.vf_cli_dialogue.proofs.TurnLemmas.{begins}
use Rattle.vf_cli_dialogue.proofs.conversation.Filestore.new.Goals as goal

pub returns : goal.returns
returns c =
    begins (record { party = c.arrived.result; tables = c.new.result; locks = c.new-2.result }) c.arrived.ensures c.new.ensures c.new-2.ensures
