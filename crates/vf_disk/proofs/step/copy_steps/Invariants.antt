use Rattle.std.proofs.Common.{◌≡◌, ◌<◌, length, take, vec_capacity}
use Rattle.vf_disk.proofs.step.copy_steps.Given as goal

abbrev pub invariant-loop-step : goal.invariant-loop-step
invariant-loop-step l = record { made : l.made.items ≡ take l.step-index l.steps; room : length l.steps < vec_capacity l.made }
