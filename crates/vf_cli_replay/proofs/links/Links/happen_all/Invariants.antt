use Rattle.std.proofs.Common.{take}
use Rattle.vf_cli_replay.specs.Running.{Running, events_of}
use Rattle.vf_cli_replay.specs.Standing.{HasGone, Stands}
use Rattle.vf_cli_replay.proofs.links.Links.happen_all.Given as goal

-- all lines so far have gone
abbrev pub invariant-loop-line : goal.invariant-loop-line
invariant-loop-line l = (running : Running) → Stands l.initial.self running
    → HasGone running (events_of (take l.line-index l.lines)) l.initial.text.items l.initial.self.responder.store l.self l.text.items
