use Rattle.std.proofs.Common.{subst, sym}
use Rattle.vf_disk.specs.Memory.{Memory}
use Rattle.vf_cli_replay.proofs.CallerEnds.{no_ends}
use Rattle.vf_cli_replay.specs.Standing.{LivesOn}
use Rattle.vf_cli_replay.proofs.incarnation.live_in.Goals as goal

pub returns : goal.returns
returns c = λ image state represents stands begun.
    subst (λ (disk : Memory). LivesOn c.args.life.now image state c.args.text.now.items disk c.live_through-lived.new.text.items) (sym c.close-disk.ensures)
    (c.in_ok-lived.ensures image state (record { responder = represents; stored = stands; callers = no_ends c.new-callers.result.entries c.new-callers.ensures.empty }) begun)
