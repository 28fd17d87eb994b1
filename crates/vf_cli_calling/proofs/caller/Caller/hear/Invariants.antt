use Rattle.std.proofs.Common.{length}
use Rattle.vf_cli_calling.specs.Calling.{Calling}
use Rattle.vf_cli_calling.specs.Represents.{Represents}
use Rattle.vf_cli_calling.proofs.Hearing.{HearsOnward}
use Rattle.vf_cli_calling.proofs.caller.Caller.hear.Given as goal

-- the octets that are left tell the rest
abbrev pub invariant-loop-rest : goal.invariant-loop-rest
invariant-loop-rest l = (calling : Calling) → Represents l.fn.self calling → HearsOnward l.link calling l.octets l.fn.text.items l.self l.text.items l.rest

abbrev pub decreases-loop-rest : goal.decreases-loop-rest
decreases-loop-rest l = length l.rest
