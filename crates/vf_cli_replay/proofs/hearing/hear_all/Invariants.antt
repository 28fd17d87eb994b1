use Rattle.vf_cli_replay.specs.Hearing.{AreEnds, HearsOn}
use Rattle.vf_cli_replay.specs.Running.{Ends}
use Rattle.vf_cli_replay.proofs.hearing.hear_all.Given as goal

abbrev pub invariant-loop-place : goal.invariant-loop-place
invariant-loop-place l = (ends : Ends) → AreEnds l.initial.callers.entries ends → HearsOn l.replies ends l.initial.text.items l.place l.octets.items l.callers.entries l.text.items
