use Rattle.std.proofs.Common.{arith}
use Rattle.vf_session_spdu.proofs.StandLemmas.{stands-after}
use Rattle.vf_session_spdu.proofs.parts.data_after_reason.Goals as goal

pub shared-requires : goal.shared-requires
shared-requires c = stands-after c.args.kept.now c.args.place c.args.value.now c.split_at.result.1.now c.requires.kept (omega (arith, c.requires.some)) c.split_at.ensures.back
