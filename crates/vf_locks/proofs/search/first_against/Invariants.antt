use Rattle.std.proofs.Common.{◌≡◌, drop}
use Rattle.vf_locks.specs.Clash.{conflict}
use Rattle.vf_locks.proofs.search.first_against.Given as goal

abbrev pub invariant-loop-held : goal.invariant-loop-held
invariant-loop-held l = conflict l.fn.holder l.fn.wanted (drop l.held-index l.fn.standing) ≡ conflict l.fn.holder l.fn.wanted l.fn.standing
