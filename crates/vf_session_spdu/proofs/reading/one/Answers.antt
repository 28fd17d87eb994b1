use Rattle.std.proofs.Common.{◌+◌}
use Rattle.vf_session_spdu.proofs.StandLemmas.{stands-more, stands-value}
use Rattle.vf_session_spdu.proofs.reading.one.Goals as goal

pub parameters_of-requires-clause-kept : goal.parameters_of-requires-clause-kept
parameters_of-requires-clause-kept c =
    stands-value c.args.kept.now (c.args.place + 1) c.args.octets.now c.in_ok-spelled.spelled c.in_ok-spelled.value.now c.in_ok-spelled.more.now
    c.requires.kept c.in_ok-spelled.ensures.0 c.in_ok-spelled.ensures.3

pub shared-requires : goal.shared-requires
shared-requires c =
    stands-more c.args.kept.now (c.args.place + 1) c.args.octets.now c.in_ok-spelled.spelled c.in_ok-spelled.value.now c.in_ok-spelled.more.now
    c.requires.kept c.in_ok-spelled.ensures.0 c.in_ok-spelled.ensures.3

pub returns-clause-kept : goal.returns-clause-kept
returns-clause-kept c =
    stands-more c.args.kept.now (c.args.place + 1) c.args.octets.now c.in_ok-spelled.spelled c.in_ok-spelled.value.now c.in_ok-spelled.more.now
    c.requires.kept c.in_ok-spelled.ensures.0 c.in_ok-spelled.ensures.3
