use Rattle.std.proofs.Common.{◌≤◌, ◌+◌}
use Rattle.vf_transfer.specs.Checks.{offered}
use Rattle.vf_rows_files.proofs.transfer.assert_takes.Given as goal

abbrev pub invariant-loop-step : goal.invariant-loop-step
invariant-loop-step g l = offered l.receiving.checks ≤ 10 + l.step-index
