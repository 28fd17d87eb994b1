use Rattle.std.proofs.Common.{◌≡◌, ◌++◌, drop}
use Rattle.vf_transfer.specs.Transfer.{joined}
use Rattle.vf_initiator.proofs.given.join.Given as goal

-- those so far, and those of the lists that are left
abbrev pub invariant-loop-list : goal.invariant-loop-list
invariant-loop-list l = l.all ++ joined (drop l.list-index l.lists) ≡ joined l.lists
