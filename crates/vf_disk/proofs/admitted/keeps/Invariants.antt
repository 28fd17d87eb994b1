use Rattle.std.proofs.Common.{◌≡◌, ◌<◌, ℕ, false, get_or}
use Rattle.std.specs.List.{list_any}
use Rattle.vf_disk.specs.Replay.{covers}
use Rattle.vf_disk.proofs.admitted.keeps.Given as goal

abbrev pub invariant-loop-place : goal.invariant-loop-place
invariant-loop-place l = (k : ℕ) → k < l.place → list_any (covers k) l.changes ≡ false → get_or l.image k 0 ≡ get_or l.synced k 0
