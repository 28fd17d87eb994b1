use Rattle.std.proofs.Common.{arith}
use Rattle.std.proofs.lemmas.Bool.Decides.{nat_tests}
use Rattle.vf_session_spdu.proofs.StandLemmas.{stands-after, stands-all}
use Rattle.vf_session_spdu.proofs.reading.spdus_of.Goals as goal

pub one-requires-clause-kept : goal.one-requires-clause-kept
one-requires-clause-kept c =
    stands-after c.args.kept.now 0 c.args.tsdu.now c.split_at.result.1.now (stands-all c.args.kept.now c.args.tsdu.now c.requires) (grind (arith, nat_tests)) c.split_at.ensures.back
