use Rattle.std.proofs.Common.{◌≡◌, take}
use Rattle.std.specs.Prelude.{fold}
use Rattle.vf_disk.specs.Replay.{make}
use Rattle.vf_disk.proofs.replay.make_all.Given as goal

abbrev pub invariant-loop-step : goal.invariant-loop-step
invariant-loop-step l = l.image.items ≡ fold make l.initial.image.items (take l.step-index l.steps)
