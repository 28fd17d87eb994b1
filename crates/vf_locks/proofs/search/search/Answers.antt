use Rattle.std.proofs.Common.{rules}
use Rattle.std.proofs.lemmas.Fn.{always_returns_same}
use Rattle.vf_locks.specs.Holders.{holder_cmp}
use Rattle.vf_locks.specs.declared.held.Held.{Held}
use Rattle.vf_locks.proofs.Searched.{placed}
use Rattle.vf_locks.proofs.search.search.Goals as goal

pub returns-clause-place : goal.returns-clause-place
returns-clause-place c =
    placed c.args.holder.now c.args.standing.now c.binary_search_by.result c.requires c.binary_search_by.ensures.bound
    (c.binary_search_by.ensures.position (λ (held : Held). holder_cmp held.holder c.args.holder.now) (always_returns_same _ _ _ (λ a r f' called. search rules)))
