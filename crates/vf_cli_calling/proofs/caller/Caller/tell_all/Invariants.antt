use Rattle.std.proofs.Common.{drop}
use Rattle.vf_stack.specs.Ranges.{AreRead}
use Rattle.vf_cli_calling.specs.Calling.{Calling}
use Rattle.vf_cli_calling.specs.Represents.{Represents}
use Rattle.vf_cli_calling.proofs.Hearing.{ToldOnward}
use Rattle.vf_cli_calling.proofs.caller.Caller.tell_all.Given as goal

-- what is left to be told has the other lines
abbrev pub invariant-loop-indication : goal.invariant-loop-indication
invariant-loop-indication l =
    (calling : Calling) → Represents l.fn.self calling → AreRead l.told → ToldOnward l.link calling l.told l.fn.text.items l.self l.text.items (drop l.indication-index l.told)
