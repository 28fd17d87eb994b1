use Rattle.std.specs.Prelude.{nat_lt}
use Rattle.std.proofs.Common.{◌≡◌, ◌++◌, length}
use Rattle.vf_cli_script.specs.Scripts.{statements_in}
use Rattle.vf_cli_script.specs.declared.input.TheConstants.{INPUT_LIMIT}
use Rattle.vf_cli_script.proofs.Feeds.{said_in}
use Rattle.vf_cli_script.proofs.lines.statements_in.Given as goal

abbrev pub invariant-loop-place : goal.invariant-loop-place
invariant-loop-place l = statements_in l.fn.octets ≡ l.statements.items ++ said_in (nat_lt INPUT_LIMIT (length l.fn.octets)) l.rest

abbrev pub decreases-loop-place : goal.decreases-loop-place
decreases-loop-place l = length l.rest
