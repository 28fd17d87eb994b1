use Rattle.std.proofs.Common.{◌≡◌, ℕ, subst}
use Rattle.std.specs.Prelude.{IfErr}
use Rattle.vf_base.specs.Faults.{HasRisen}
use Rattle.vf_journal.specs.declared.error.JournalError.TheVariants.{DiskFault}
use Rattle.vf_store_commands.specs.Making.{disk_in}
use Rattle.vf_store_commands.proofs.NewStores.{store_leaves}
use Rattle.vf_store_commands.proofs.making.store_with.Goals as goal

pub returns-clause-made : goal.returns-clause-made
returns-clause-made g c = λ users are is shows. c.commit_users.ensures.made users are is (c.in_ok-store.ensures.new shows)

pub returns-clause-errors : goal.returns-clause-errors
returns-clause-errors g c = λ users are is shows. c.commit_users.ensures.errors users are is (c.in_ok-store.ensures.new shows)

pub returns-clause-any_moment : goal.returns-clause-any_moment
returns-clause-any_moment g c = λ users are is shows synced.
    store_leaves g.D.Disk.moment g.D.Disk.left_since c.args.disk c.in_ok-store.store.disk (disk_in c.commit_users.result) users
    (c.in_ok-store.ensures.any_moment shows synced) (c.commit_users.ensures.any_moment users are is (c.in_ok-store.ensures.new shows))

pub returns-clause-cause : goal.returns-clause-cause
returns-clause-cause g c =
    subst (λ (count : ℕ). IfErr c.commit_users.result (λ back. back.1 ≡ DiskFault → HasRisen count (g.D.Disk.fault_count back.0))) c.in_ok-store.ensures.count c.commit_users.ensures.cause
