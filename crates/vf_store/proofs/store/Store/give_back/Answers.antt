use Rattle.vf_store.proofs.store.Store.give_back.Goals as goal

pub give_back-requires : goal.give_back-requires
give_back-requires g c = rw (← c.self.view_is) at c.requires

pub returns : goal.returns
returns g c = rw (← c.self.view_is) (λ i. record { disk = c.self.inside.disk; journal = c.self.inside.journal; tables = c.give_back.ensures i })
