use Rattle.std.proofs.Common.{◌≡◌, ◌≤◌, ◌∙◌, ℕ, List, Err, ap, subst, sym}
use Rattle.vf_disk.specs.Disk.{LeavesOnly}
use Rattle.vf_store.specs.Answers.{CommitAnswers}
use Rattle.vf_store.specs.Commit.{AreFitting, placed}
use Rattle.vf_store.specs.Represented.{RepresentsEither}
use Rattle.vf_store.proofs.Runs.{idle_either}
use Rattle.vf_tables.specs.Changes.{after_all}
use Rattle.vf_tables.specs.declared.change.Change.{Change}
use Rattle.vf_store_commands.specs.Dropping.{HoldsTables, end_of_drop, without}
use Rattle.vf_store_commands.specs.declared.limits.TheConstants.{STORE_LIMIT}
use Rattle.vf_store_commands.proofs.Drops.{commit_error, fitting_drop, holds_of, made_valid}
use Rattle.vf_store_commands.proofs.dropping.commit_drop.Goals as goal

pub returns-in_default-clause-any_moment : goal.returns-in_default-clause-any_moment
returns-in_default-clause-any_moment g c = λ stands good.
    let tables = c.args.store.tables in
    subst (λ disk. LeavesOnly g.D.Disk.moment g.D.Disk.left_since c.args.store.disk disk (RepresentsEither tables (without c.args.kept tables))) (sym c.close.ensures)
    (idle_either g.D.Disk.shown g.D.Disk.may_leave g.D.Disk.moment g.D.Disk.left_since g.met.D.Disk.only_now c.args.store.disk c.args.store.journal tables (without c.args.kept tables) stands)

pub returns-in-Ok-commit-clause-drops : goal.returns-in-Ok-commit-clause-drops
returns-in-Ok-commit-clause-drops g c = λ stands good.
    let tables = c.args.store.tables in
    let kept = c.args.kept in
    let valid = made_valid c.kept_stay.ensures stands.records tables stands.making in
    let fits : AreFitting tables c.in-Ok.changes = subst (λ (changes : List Change). AreFitting tables changes) (sym c.in-Ok.ensures) (fitting_drop kept tables valid good c.requires.stands) in
    let later = c.in-Ok-commit.ensures.represented fits stands in
    let without_it : c.commit.new.self.tables ≡ without kept tables = c.in-Ok-commit.ensures.tables ∙ ap (after_all tables) c.in-Ok.ensures in
    record {
      stood = c.requires.stands;
      left =
          subst (λ disk. HoldsTables g.D.Disk.shown g.D.Disk.may_leave disk (without kept tables)) (sym c.close-in-Ok-commit.ensures)
          (holds_of g.D.Disk.shown g.D.Disk.may_leave c.commit.new.self (without kept tables) later without_it);
    }

pub returns-in-Ok-commit-clause-any_moment : goal.returns-in-Ok-commit-clause-any_moment
returns-in-Ok-commit-clause-any_moment g c = λ stands good.
    let tables = c.args.store.tables in
    let kept = c.args.kept in
    let valid = made_valid c.kept_stay.ensures stands.records tables stands.making in
    let fits : AreFitting tables c.in-Ok.changes = subst (λ (changes : List Change). AreFitting tables changes) (sym c.in-Ok.ensures) (fitting_drop kept tables valid good c.requires.stands) in
    subst (λ disk. LeavesOnly g.D.Disk.moment g.D.Disk.left_since c.args.store.disk disk (RepresentsEither tables (without kept tables))) (sym c.close-in-Ok-commit.ensures)
    (subst (λ (changes : List Change). LeavesOnly g.D.Disk.moment g.D.Disk.left_since c.args.store.disk c.commit.new.self.disk (RepresentsEither tables (after_all tables changes))) c.in-Ok.ensures
    (c.in-Ok-commit.ensures.any_moment fits stands))

pub returns-in-Err-clause-any_moment : goal.returns-in-Err-clause-any_moment
returns-in-Err-clause-any_moment g c = λ stands good.
    let tables = c.args.store.tables in
    let kept = c.args.kept in
    let valid = made_valid c.kept_stay.ensures stands.records tables stands.making in
    let fits : AreFitting tables c.in-Ok.changes = subst (λ (changes : List Change). AreFitting tables changes) (sym c.in-Ok.ensures) (fitting_drop kept tables valid good c.requires.stands) in
    subst (λ disk. LeavesOnly g.D.Disk.moment g.D.Disk.left_since c.args.store.disk disk (RepresentsEither tables (without kept tables))) (sym c.close-in-Err.ensures)
    (subst (λ (changes : List Change). LeavesOnly g.D.Disk.moment g.D.Disk.left_since c.args.store.disk c.commit.new.self.disk (RepresentsEither tables (after_all tables changes))) c.in-Ok.ensures
    (c.in-Err.ensures.any_moment fits stands))

pub returns-in-Ok-commit-clause-within : goal.returns-in-Ok-commit-clause-within
returns-in-Ok-commit-clause-within g c =
    let store = c.args.store in
    let placed_there : (placed store.journal store.tables c.in-Ok.changes).end ≤ store.journal.limit = c.in-Ok-commit.ensures.answers.0 in
    let at_limit : (placed store.journal store.tables c.in-Ok.changes).end ≤ STORE_LIMIT = subst (λ (n : ℕ). (placed store.journal store.tables c.in-Ok.changes).end ≤ n) c.requires.limit placed_there in
    subst (λ (changes : List Change). (placed store.journal store.tables changes).end ≤ STORE_LIMIT) c.in-Ok.ensures at_limit

pub returns-in-Err-clause-errors : goal.returns-in-Err-clause-errors
returns-in-Err-clause-errors g c =
    let store = c.args.store in
    commit_error (end_of_drop c.args.kept store.journal store.tables) store.journal.limit store c.commit.new.self (g.D.Disk.fault_count store.disk) (g.D.Disk.fault_count c.commit.new.self.disk) c.in-Err.error c.requires.limit
    (subst (λ (changes : List Change). CommitAnswers {T = Unit {0}} store c.commit.new.self (placed store.journal store.tables changes).end store.journal.limit (g.D.Disk.fault_count store.disk) (g.D.Disk.fault_count c.commit.new.self.disk) (Err c.in-Err.error))
    c.in-Ok.ensures c.in-Err.ensures.answers)
