use Rattle.std.proofs.Common.{◌≡◌, ◌++◌}
use Rattle.vf_party_steps.proofs.step.followed_by.Given as goal

-- so far the changes that came first, and those of the later ones that were taken
abbrev pub invariant-loop-change : goal.invariant-loop-change
invariant-loop-change l = record {
  so_far : l.all ≡ l.fn.changes ++ l.yielded;
  left : l.yielded ++ l.change-iterator.rest.items ≡ l.fn.later;
}
