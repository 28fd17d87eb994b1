use Rattle.std.proofs.Common.{◌≤◌, ◌+◌}
use Rattle.vf_transfer.specs.Checks.{offered}
use Rattle.vf_rows_files.proofs.transfer.values_are_sent_again_after_a_restart.Given as goal

abbrev pub invariant-loop-step : goal.invariant-loop-step
invariant-loop-step g l = offered l.sending.checks ≤ l.step-index
