use Rattle.std.proofs.Common.{◌≡◌}
use Rattle.vf_ber.specs.Steps.{grown}
use Rattle.vf_ber.proofs.fitting.grown.Given as goal

abbrev pub invariant-loop-others : goal.invariant-loop-others
invariant-loop-others l = grown l.others l.all ≡ grown l.fn.more l.fn.n

abbrev pub decreases-loop-others : goal.decreases-loop-others
decreases-loop-others l = l.others
