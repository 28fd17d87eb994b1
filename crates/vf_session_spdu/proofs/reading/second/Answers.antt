use Rattle.std.proofs.Common.{arith}
use Rattle.std.proofs.lemmas.Bool.Decides.{nat_tests}
use Rattle.vf_session_spdu.proofs.StandLemmas.{stands-after}
use Rattle.vf_session_spdu.proofs.reading.second.Goals as goal

pub one-requires-clause-kept : goal.one-requires-clause-kept
one-requires-clause-kept c =
    stands-after c.args.kept.now c.args.place c.args.octets.now c.split_at.result.1.now c.requires.kept (grind (arith, nat_tests)) c.split_at.ensures.back
