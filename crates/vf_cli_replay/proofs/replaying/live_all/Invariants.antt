use Rattle.std.proofs.Common.{ℕ, List, take}
use Rattle.vf_filestore.specs.State.{State}
use Rattle.vf_cli_replay.specs.Disks.{Keeps}
use Rattle.vf_cli_replay.specs.Standing.{HaveLived}
use Rattle.vf_cli_replay.proofs.replaying.live_all.Given as goal

abbrev pub invariant-loop-life : goal.invariant-loop-life
invariant-loop-life l = (image : List ℕ) (state : State) → Keeps l.initial.disk image state → HaveLived image state (take l.life-index l.lives) l.initial.text.items l.disk l.text.items
