use Rattle.vf_store.proofs.Runs.{idle_either}
use Rattle.vf_tables.specs.Changes.{after_all}
use Rattle.vf_responder.proofs.StoreLemmas.{after-none, commit-causes, still-second}
use Rattle.vf_responder.proofs.FullLemmas.{commit-full}
use Rattle.std.proofs.Common.{◌≡◌, ◌<◌, length, refl, arith}
use Rattle.std.proofs.lemmas.Grind.{common_steps}
use Rattle.vf_responder.specs.Commits.{telling}
use Rattle.vf_responder.proofs.CommitLemmas.{keep-commits, none-kept}
use Rattle.vf_responder.proofs.keeping.Keeping.keep.Goals as goal

pub returns-then-is_empty-clause-any_moment : goal.returns-then-is_empty-clause-any_moment
returns-then-is_empty-clause-any_moment g c = rw c.give_back.ensures (λ fitting stands.
    idle_either g.D.Disk.shown g.D.Disk.may_leave g.D.Disk.moment g.D.Disk.left_since g.met.D.Disk.only_now c.args.self.now.store.disk c.args.self.now.store.journal c.args.self.now.store.tables
    (after_all c.args.self.now.store.tables c.args.changes) stands)

pub returns-then-is_empty-clause-represented : goal.returns-then-is_empty-clause-represented
returns-then-is_empty-clause-represented g c = rw c.give_back.ensures (λ fitting stands. stands)

pub returns-then-is_empty-clause-causes : goal.returns-then-is_empty-clause-causes
returns-then-is_empty-clause-causes g c = rw c.give_back.ensures refl

pub returns-then-is_empty-clause-limit : goal.returns-then-is_empty-clause-limit
returns-then-is_empty-clause-limit g c = rw c.give_back.ensures refl

pub give_back-requires : goal.give_back-requires
give_back-requires g c =
    let none : length c.args.changes ≡ 0 = grind (arith, common_steps) in
    still-second c.args.self.now.store.tables c.args.changes c.args.ahead none c.requires

pub returns-then-is_empty-clause-tables : goal.returns-then-is_empty-clause-tables
returns-then-is_empty-clause-tables g c =
    let none : length c.args.changes ≡ 0 = grind (arith, common_steps) in
    rw c.give_back.ensures (after-none c.args.self.now.store.tables c.args.changes none)

pub returns-clause-causes : goal.returns-clause-causes
returns-clause-causes g c = commit-causes g.D.Disk.fault_count c.args.self.now.store c.commit_over.new.self _ c.args.self.now.store.journal.limit c.commit_over.result c.commit_over.ensures.answers

pub returns-clause-full : goal.returns-clause-full
returns-clause-full g c = commit-full c.args.self.now.store c.commit_over.new.self _ c.args.self.now.store.journal.limit _ _ c.commit_over.result c.commit_over.ensures.answers

pub returns-then-is_empty-clause-commits : goal.returns-then-is_empty-clause-commits
returns-then-is_empty-clause-commits g c =
    let none : length c.args.changes ≡ 0 = grind (arith, common_steps) in
    rw c.give_back.ensures (none-kept (telling g.D.Disk.plan g.D.Disk.state g.D.Disk.lack_count) c.args.changes c.args.self.now.store none)

pub returns-clause-commits : goal.returns-clause-commits
returns-clause-commits g c =
    let some : 0 < length c.args.changes = grind (arith, common_steps) in
    keep-commits (telling g.D.Disk.plan g.D.Disk.state g.D.Disk.lack_count) c.args.changes c.args.self.now.store c.commit_over.new.self (g.D.Disk.fault_count c.args.self.now.store.disk) (g.D.Disk.fault_count c.commit_over.new.self.disk) c.commit_over.result some
    c.commit_over.ensures.answers c.commit_over.ensures.steps c.commit_over.ensures.journal
