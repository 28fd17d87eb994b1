use Rattle.std.proofs.Common.{◌≡◌, ◌≤◌, true, length, drop}
use Rattle.std.specs.List.{list_all}
use Rattle.vf_disk.specs.Memory.{is_change}
use Rattle.vf_disk.proofs.replay.last_sync.Given as goal

abbrev pub invariant-loop-count : goal.invariant-loop-count
invariant-loop-count l = record { within : l.count ≤ length l.steps; changes : list_all is_change (drop l.count l.steps) ≡ true }

abbrev pub decreases-loop-count : goal.decreases-loop-count
decreases-loop-count l = l.count
