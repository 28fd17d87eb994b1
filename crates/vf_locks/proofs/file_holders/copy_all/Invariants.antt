use Rattle.std.proofs.Common.{◌≡◌, take}
use Rattle.vf_locks.proofs.file_holders.copy_all.Given as goal

abbrev pub invariant-loop-held : goal.invariant-loop-held
invariant-loop-held l = l.made.items ≡ take l.held-index l.standing
