use Rattle.std.proofs.Common.{◌≡◌, ◌∙◌, List, length, ap, sym, subst, arith}
use Rattle.vf_disk.specs.Disk.{LeavesOnly}
use Rattle.vf_tables.specs.declared.user.User.{User}
use Rattle.vf_store_commands.specs.Making.{IsMaking, IsStoreOf, users_alone}
use Rattle.vf_store_commands.proofs.NewStores.{commit_leaves, fits_here, no_users, store_of, store_stays}
use Rattle.vf_store_commands.proofs.making.commit_users.Goals as goal

pub returns-in-Ok-clause-made : goal.returns-in-Ok-clause-made
returns-in-Ok-clause-made g c = λ users are is new.
    let fits = fits_here c.args.store.tables c.args.changes users c.snapshot_makes.ensures are new.tables is in
    let stands = c.in-Ok.ensures.represented fits.0 new.stands in
    subst (λ disk. IsStoreOf g.D.Disk.shown g.D.Disk.may_leave disk users) (sym c.close-in-Ok.ensures)
    (store_of g.D.Disk.shown g.D.Disk.may_leave c.commit.new.self users stands (c.in-Ok.ensures.tables ∙ fits.1))

pub returns-in-Ok-clause-any_moment : goal.returns-in-Ok-clause-any_moment
returns-in-Ok-clause-any_moment g c = λ users are is new.
    let fits = fits_here c.args.store.tables c.args.changes users c.snapshot_makes.ensures are new.tables is in
    subst (λ disk. LeavesOnly g.D.Disk.moment g.D.Disk.left_since c.args.store.disk disk (IsMaking users)) (sym c.close-in-Ok.ensures)
    (commit_leaves g.D.Disk.moment g.D.Disk.left_since c.args.store.disk c.commit.new.self.disk c.args.store.tables c.args.changes users c.snapshot_makes.ensures are new.tables is
    (c.in-Ok.ensures.any_moment fits.0 new.stands))

pub returns-in-Err-clause-any_moment : goal.returns-in-Err-clause-any_moment
returns-in-Err-clause-any_moment g c = λ users are is new.
    let fits = fits_here c.args.store.tables c.args.changes users c.snapshot_makes.ensures are new.tables is in
    subst (λ disk. LeavesOnly g.D.Disk.moment g.D.Disk.left_since c.args.store.disk disk (IsMaking users)) (sym c.close-in-Err.ensures)
    (commit_leaves g.D.Disk.moment g.D.Disk.left_since c.args.store.disk c.commit.new.self.disk c.args.store.tables c.args.changes users c.snapshot_makes.ensures are new.tables is
    (c.in-Err.ensures.any_moment fits.0 new.stands))

pub returns-then-len-eq0-clause-made : goal.returns-then-len-eq0-clause-made
returns-then-len-eq0-clause-made g c = λ users are is new.
    let none : length c.args.changes ≡ 0 = omega (arith, c.len.ensures, c.if-len-eq0.true) in
    let same = new.tables ∙ sym (ap (λ (l : List User). users_alone l) (no_users users c.args.changes is none)) in
    subst (λ disk. IsStoreOf g.D.Disk.shown g.D.Disk.may_leave disk users) (sym c.close.ensures) (store_of g.D.Disk.shown g.D.Disk.may_leave c.args.store users new.stands same)

pub returns-then-len-eq0-clause-any_moment : goal.returns-then-len-eq0-clause-any_moment
returns-then-len-eq0-clause-any_moment g c = λ users are is new.
    let none : length c.args.changes ≡ 0 = omega (arith, c.len.ensures, c.if-len-eq0.true) in
    let same = new.tables ∙ sym (ap (λ (l : List User). users_alone l) (no_users users c.args.changes is none)) in
    subst (λ disk. LeavesOnly g.D.Disk.moment g.D.Disk.left_since c.args.store.disk disk (IsMaking users)) (sym c.close.ensures)
    (store_stays g.D.Disk.shown g.D.Disk.may_leave g.D.Disk.moment g.D.Disk.left_since g.met.D.Disk.only_now c.args.store users new.stands same)
