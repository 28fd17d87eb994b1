use Rattle.std.proofs.Common.{sym, subst}
use Rattle.vf_tables.specs.declared.tables.Tables.{Tables}
use Rattle.vf_store.specs.StoreState.{TablesStand}
use Rattle.vf_store.proofs.store.Store.commit_over.Goals as goal

pub returns-clause-represented : goal.returns-clause-represented
returns-clause-represented g c = rw (← c.self.view_is) (λ fitting stands.
    subst (λ (t : Tables). TablesStand g.D.Disk.shown g.D.Disk.may_leave c.commit_on.new.journal c.commit_on.new.disk t) (sym c.in_ok-commit_on.ensures.tables) (c.in_ok-commit_on.ensures.ok fitting stands))

pub commit_on-requires-clause-over : goal.commit_on-requires-clause-over
commit_on-requires-clause-over g c = rw (← c.self.view_is) at c.requires
