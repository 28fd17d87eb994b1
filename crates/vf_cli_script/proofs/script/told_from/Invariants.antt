use Rattle.std.proofs.Common.{◌≡◌, drop}
use Rattle.vf_cli_script.specs.Readings.{progress_of}
use Rattle.vf_cli_script.specs.Scripts.{begun, script_from}
use Rattle.vf_cli_script.proofs.script.told_from.Given as goal

abbrev pub invariant-loop-place : goal.invariant-loop-place
invariant-loop-place l = script_from begun 0 l.fn.statements ≡ script_from (progress_of l.reading) l.place (drop l.place l.statements)
