use Rattle.std.proofs.Common.{◌≡◌, length}
use Rattle.vf_cli_script.specs.Statements.{messages_in}
use Rattle.vf_cli_script.proofs.Messages.{behind_all}
use Rattle.vf_cli_script.proofs.statement.messages_in.Given as goal

abbrev pub invariant-loop-rest : goal.invariant-loop-rest
invariant-loop-rest l = messages_in l.fn.octets ≡ behind_all l.messages (messages_in l.rest)

abbrev pub decreases-loop-rest : goal.decreases-loop-rest
decreases-loop-rest l = length l.rest
