use Rattle.std.proofs.Common.{◌≡◌, ◌≤◌, ◌-◌}
use Rattle.vf_ber.specs.Steps.{shifted}
use Rattle.vf_ber.proofs.fitting.shifted.Given as goal

abbrev pub invariant-loop-done : goal.invariant-loop-done
invariant-loop-done l = (l.done ≤ l.fn.more) × (l.prefix ≡ shifted l.done l.fn.n)

abbrev pub decreases-loop-done : goal.decreases-loop-done
decreases-loop-done l = l.fn.more - l.done
