use Rattle.std.proofs.Common.{◌≡◌, take}
use Rattle.vf_named.proofs.named.Named.copy.Given as goal

-- what is made so far is the prefix of the list
abbrev pub invariant-loop-entry : goal.invariant-loop-entry
invariant-loop-entry g l = l.made ≡ take l.entry-index l.entry-items
