use Rattle.std.proofs.Common.{◌≡◌, ◌++◌}
use Rattle.vf_party.proofs.trying.said_before.Given as goal

-- so far what was said first, and what was taken of the later
abbrev pub invariant-loop-one : goal.invariant-loop-one
invariant-loop-one l = record {
  so_far : l.all.items ≡ l.fn.said.items ++ l.yielded;
  left : l.yielded ++ l.one-iterator.rest.items ≡ l.fn.later.items;
}
