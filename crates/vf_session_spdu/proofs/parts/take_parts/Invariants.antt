use Rattle.std.proofs.Common.{length}
use Rattle.vf_session_spdu.specs.Parts.{outer}
use Rattle.vf_session_spdu.specs.Steps.{Stands}
use Rattle.vf_session_spdu.proofs.PartLemmas.{Left}
use Rattle.vf_session_spdu.proofs.parts.take_parts.Given as goal

abbrev pub invariant-loop-rest : goal.invariant-loop-rest
invariant-loop-rest l = Left (outer l.fn.spdu.kind) l.fn.place l.fn.octets l.fn.spdu l.at l.rest l.spdu × Stands l.kept l.at l.rest

abbrev pub decreases-loop-rest : goal.decreases-loop-rest
decreases-loop-rest l = length l.rest
