use Rattle.std.proofs.Common.{◌≡◌, take}
use Rattle.std.specs.Prelude.{fold}
use Rattle.vf_disk.specs.Replay.{mark}
use Rattle.vf_disk.proofs.replay.mark_all.Given as goal

abbrev pub invariant-loop-step : goal.invariant-loop-step
invariant-loop-step l = l.image.items ≡ fold (mark l.octet) l.initial.image.items (take l.step-index l.steps)
