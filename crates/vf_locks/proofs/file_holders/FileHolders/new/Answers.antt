use Rattle.std.proofs.Common.{sym, subst}
use Rattle.vf_locks.proofs.Counted.{IsWhole, none_whole}
use Rattle.vf_locks.proofs.file_holders.FileHolders.new.Goals as goal

pub invariant_of-result : goal.invariant_of-result
invariant_of-result c = subst (IsWhole _) (sym c.new.ensures.items) none_whole
