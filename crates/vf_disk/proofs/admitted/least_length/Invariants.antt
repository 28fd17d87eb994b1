use Rattle.std.proofs.Common.{◌≡◌, ◌≤◌, take}
use Rattle.std.specs.Prelude.{fold}
use Rattle.vf_disk.specs.Replay.{shorter}
use Rattle.vf_disk.proofs.admitted.least_length.Given as goal

abbrev pub invariant-loop-step : goal.invariant-loop-step
invariant-loop-step l = record { value : l.least ≡ fold shorter l.first (take l.step-index l.changes); within : l.least ≤ l.first }
