use Rattle.std.proofs.Common.{length}
use Rattle.vf_session_spdu.specs.Parts.{inner}
use Rattle.vf_session_spdu.specs.Steps.{Stands}
use Rattle.vf_session_spdu.proofs.PartLemmas.{Left}
use Rattle.vf_session_spdu.proofs.parts.take_item.Given as goal

abbrev pub invariant-loop-rest : goal.invariant-loop-rest
invariant-loop-rest l = Left inner l.fn.place l.fn.octets l.fn.spdu l.at l.rest l.spdu × Stands l.kept l.at l.rest

abbrev pub decreases-loop-rest : goal.decreases-loop-rest
decreases-loop-rest l = length l.rest
