use Rattle.vf_store.proofs.store.Store.lend.Goals as goal

pub returns-clause-lent : goal.returns-clause-lent
returns-clause-lent g c = rw (← c.self.view_is) c.lend.ensures.lent

pub returns-clause-same : goal.returns-clause-same
returns-clause-same g c = rw (← c.self.view_is) (λ i. record { disk = c.self.inside.disk; journal = c.self.inside.journal; tables = c.lend.ensures.same i })
