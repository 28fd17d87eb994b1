use Rattle.std.proofs.Common.{sym, subst}
use Rattle.vf_disk.proofs.Runs.{weaker}
use Rattle.vf_tables.specs.declared.tables.Tables.{Tables}
use Rattle.vf_store.specs.Represented.{Represents}
use Rattle.vf_store.specs.StoreState.{TablesStand}
use Rattle.vf_store.proofs.store.Store.open.Goals as goal

pub returns-in-Ok-clause-represented : goal.returns-in-Ok-clause-represented
returns-in-Ok-clause-represented g c = λ image tables shows represents.
    let found = c.in-Ok.ensures.stands image tables shows represents in
    (found.0, subst (λ (t : Tables). TablesStand g.D.Disk.shown g.D.Disk.may_leave c.in-Ok.journal c.read.new.disk t) (sym found.0) found.1)

pub returns-in-Ok-clause-any_moment : goal.returns-in-Ok-clause-any_moment
returns-in-Ok-clause-any_moment g c = λ tables each.
    weaker g.D.Disk.moment g.D.Disk.left_since c.args.disk c.read.new.disk (g.D.Disk.may_leave c.args.disk) (λ image. Represents image tables) c.in-Ok.ensures.looks.since each

pub returns-in-Err-clause-any_moment : goal.returns-in-Err-clause-any_moment
returns-in-Err-clause-any_moment g c = λ tables each.
    weaker g.D.Disk.moment g.D.Disk.left_since c.args.disk c.read.new.disk (g.D.Disk.may_leave c.args.disk) (λ image. Represents image tables) c.in-Err.ensures.looks.since each
