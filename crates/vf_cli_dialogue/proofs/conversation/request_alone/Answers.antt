use Rattle.vf_ber.specs.Tree.{built, none}
use Rattle.vf_cli_dialogue.proofs.HeaderLemmas.{reads_request}
use Rattle.vf_cli_dialogue.proofs.conversation.request_alone.Goals as goal

pub returns : goal.returns
returns c =
    reads_request c.args.octets.now (built (record { class = 2; number = c.in_ok-number.number }) none) c.request_numbered.result c.in_ok-number.ensures c.request_numbered.ensures
