use Rattle.std.proofs.Common.{◌≡◌, take}
use Rattle.vf_disk.specs.State.{state_of}
use Rattle.vf_disk.proofs.replay.shown_by.Given as goal

abbrev pub invariant-loop-step : goal.invariant-loop-step
invariant-loop-step l = l.image.items ≡ (state_of l.first (take l.step-index l.steps)).shown
