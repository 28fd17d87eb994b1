use Rattle.std.proofs.Common.{drop}
use Rattle.vf_cli_calling.specs.Calling.{Calling}
use Rattle.vf_cli_calling.specs.Represents.{Represents}
use Rattle.vf_cli_calling.proofs.Speaking.{SaysOnward}
use Rattle.vf_cli_calling.proofs.caller.Caller.say_all.Given as goal

-- the messages that are left are said after them
abbrev pub invariant-loop-message : goal.invariant-loop-message
invariant-loop-message l =
    (calling : Calling) → Represents l.fn.self calling → SaysOnward calling l.messages l.fn.out.items l.self l.out.items (drop l.message-index l.messages)
