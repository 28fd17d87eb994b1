use Rattle.std.proofs.Common.{◌≡◌, ◌<◌, ◌≤◌, ◌-◌, ◌∙◌, ℕ, List, length, ap, arith, refl, subst, sym}
use Rattle.std.specs.Prelude.{IfSome}
use Rattle.std.proofs.lemmas.Result.{err_from_is_err_and}
use Rattle.vf_tables.specs.Changes.{after_all}
use Rattle.vf_tables.specs.declared.change.Change.{Change}
use Rattle.vf_store.specs.Built.{area_in}
use Rattle.vf_journal.proofs.Lengths.{length-entry_of}
use Rattle.vf_journal.specs.JournalState.{after_append}
use Rattle.vf_journal.specs.Records.{entry_of}
use Rattle.vf_store_record.specs.Records.{record_of}
use Rattle.vf_store.specs.Commit.{after_move, area_planned, placed}
use Rattle.vf_store.proofs.Causes.{only_fault}
use Rattle.vf_store.proofs.Committing.{writable}
use Rattle.vf_store.proofs.Runs.{idle_either, idle_seen}
use Rattle.vf_store.proofs.commit.commit_on.Goals as goal

pub apply_over-requires : goal.apply_over-requires
apply_over-requires g c = subst (λ (l : List Change). IfSome c.args.ahead (λ next. next ≡ after_all c.args.tables.now l)) (sym c.as_slice.ensures) c.requires.over

pub write-requires-clause-writable : goal.write-requires-clause-writable
write-requires-clause-writable g c =
    let within : (placed c.args.journal.now c.args.tables.now c.args.changes.now).end ≤ c.args.journal.now.limit = omega (arith, c.in_ok-built.ensures.built.end, c.if-built-limit.false, c.limit-limit.ensures) in
    writable c.args.journal.now c.args.tables.now c.args.changes.now (area_in c.in_ok-built.built) c.in_ok-built.built.entry.items
    c.in_ok-built.ensures.short c.in_ok-built.ensures.built.area c.in_ok-built.ensures.built.entry within

pub returns-in_err-built-clause-any_moment : goal.returns-in_err-built-clause-any_moment
returns-in_err-built-clause-any_moment g c = λ fitting stands.
    idle_either g.D.Disk.shown g.D.Disk.may_leave g.D.Disk.moment g.D.Disk.left_since g.met.D.Disk.only_now c.args.disk.now c.args.journal.now c.args.tables.now (after_all c.args.tables.now c.args.changes.now) stands

pub returns-then-built-limit-clause-any_moment : goal.returns-then-built-limit-clause-any_moment
returns-then-built-limit-clause-any_moment g c = λ fitting stands.
    idle_either g.D.Disk.shown g.D.Disk.may_leave g.D.Disk.moment g.D.Disk.left_since g.met.D.Disk.only_now c.args.disk.now c.args.journal.now c.args.tables.now (after_all c.args.tables.now c.args.changes.now) stands

pub returns-in_err-apply_over-clause-any_moment : goal.returns-in_err-apply_over-clause-any_moment
returns-in_err-apply_over-clause-any_moment g c = λ fitting stands.
    idle_either g.D.Disk.shown g.D.Disk.may_leave g.D.Disk.moment g.D.Disk.left_since g.met.D.Disk.only_now c.args.disk.now c.args.journal.now c.args.tables.now (after_all c.args.tables.now c.args.changes.now) stands

pub returns-in_err-write-clause-any_moment : goal.returns-in_err-write-clause-any_moment
returns-in_err-write-clause-any_moment g c = λ fitting stands.
    c.write.ensures.any_moment c.args.tables.now (after_all c.args.tables.now c.args.changes.now) (c.in_ok-built.ensures.leads stands.records stands.making fitting) stands

pub returns-clause-any_moment : goal.returns-clause-any_moment
returns-clause-any_moment g c = λ fitting stands.
    c.write.ensures.any_moment c.args.tables.now (after_all c.args.tables.now c.args.changes.now) (c.in_ok-built.ensures.leads stands.records stands.making fitting) stands

pub returns-in_err-built-clause-seen : goal.returns-in_err-built-clause-seen
returns-in_err-built-clause-seen g c = λ fitting stands.
    idle_seen g.D.Disk.shown g.D.Disk.may_leave g.D.Disk.moment g.D.Disk.left_since g.met.D.Disk.only_now c.args.disk.now c.args.journal.now c.args.tables.now (after_all c.args.tables.now c.args.changes.now) stands

pub returns-then-built-limit-clause-seen : goal.returns-then-built-limit-clause-seen
returns-then-built-limit-clause-seen g c = λ fitting stands.
    idle_seen g.D.Disk.shown g.D.Disk.may_leave g.D.Disk.moment g.D.Disk.left_since g.met.D.Disk.only_now c.args.disk.now c.args.journal.now c.args.tables.now (after_all c.args.tables.now c.args.changes.now) stands

pub returns-in_err-apply_over-clause-seen : goal.returns-in_err-apply_over-clause-seen
returns-in_err-apply_over-clause-seen g c = λ fitting stands.
    idle_seen g.D.Disk.shown g.D.Disk.may_leave g.D.Disk.moment g.D.Disk.left_since g.met.D.Disk.only_now c.args.disk.now c.args.journal.now c.args.tables.now (after_all c.args.tables.now c.args.changes.now) stands

pub returns-in_err-write-clause-seen : goal.returns-in_err-write-clause-seen
returns-in_err-write-clause-seen g c = λ fitting stands.
    c.write.ensures.seen c.args.tables.now (after_all c.args.tables.now c.args.changes.now) (c.in_ok-built.ensures.leads stands.records stands.making fitting) stands

pub returns-clause-seen : goal.returns-clause-seen
returns-clause-seen g c = λ fitting stands.
    c.write.ensures.seen c.args.tables.now (after_all c.args.tables.now c.args.changes.now) (c.in_ok-built.ensures.leads stands.records stands.making fitting) stands

pub returns-clause-ok : goal.returns-clause-ok
returns-clause-ok g c = λ fitting stands.
    c.in_ok-write.ensures.ok c.args.tables.now (after_all c.args.tables.now c.args.changes.now) (c.in_ok-built.ensures.leads stands.records stands.making fitting) stands

pub returns-clause-tables : goal.returns-clause-tables
returns-clause-tables g c = c.in_ok-apply_over.ensures.ok ∙ ap (λ (l : List Change). after_all c.args.tables.now l) c.as_slice.ensures

pub returns-then-built-limit-clause-answers : goal.returns-then-built-limit-clause-answers
returns-then-built-limit-clause-answers g c =
    let past : c.args.journal.now.limit < (placed c.args.journal.now c.args.tables.now c.args.changes.now).end = omega (arith, c.in_ok-built.ensures.built.end, c.if-built-limit.true, c.limit-limit.ensures) in
    (past, c.in_ok-built.ensures.built.end, c.limit-limit.ensures, refl)

pub returns-in_err-write-clause-answers : goal.returns-in_err-write-clause-answers
returns-in_err-write-clause-answers g c =
    let p = err_from_is_err_and c.from_residual-in_err-write.result c.from_residual-in_err-write.ensures.1 in
    let within : (placed c.args.journal.now c.args.tables.now c.args.changes.now).end ≤ c.args.journal.now.limit = omega (arith, c.in_ok-built.ensures.built.end, c.if-built-limit.false, c.limit-limit.ensures) in
    let fault = only_fault (Unit {0}) (g.D.Disk.fault_count c.args.disk.now) (g.D.Disk.fault_count c.write.new.disk) c.in_err-write.field-0.0 c.in_err-write.ensures.causes in
    rw (p.1, p.2, fault.0) (within, fault.1)

pub returns-clause-answers : goal.returns-clause-answers
returns-clause-answers g c =
    let within : (placed c.args.journal.now c.args.tables.now c.args.changes.now).end ≤ c.args.journal.now.limit = omega (arith, c.in_ok-built.ensures.built.end, c.if-built-limit.false, c.limit-limit.ensures) in
    (within, c.in_ok-write.ensures.causes)

pub returns-in_err-write-clause-steps : goal.returns-in_err-write-clause-steps
returns-in_err-write-clause-steps g c =
    let p = err_from_is_err_and c.from_residual-in_err-write.result c.from_residual-in_err-write.ensures.1 in
    let fault = only_fault (Unit {0}) (g.D.Disk.fault_count c.args.disk.now) (g.D.Disk.fault_count c.write.new.disk) c.in_err-write.field-0.0 c.in_err-write.ensures.causes in
    let made = rw (c.in_ok-built.ensures.built.entry, c.in_ok-built.ensures.built.area) at c.in_err-write.ensures.steps in
    rw (p.1, p.2, fault.0) made

pub returns-clause-steps : goal.returns-clause-steps
returns-clause-steps g c = rw (c.in_ok-built.ensures.built.entry, c.in_ok-built.ensures.built.area) at c.in_ok-write.ensures.steps

pub returns-clause-moved : goal.returns-clause-moved
returns-clause-moved g c =
    let moved = rw (c.in_ok-built.ensures.built.entry, c.in_ok-built.ensures.built.area) at c.in_ok-write.ensures.moved in
    let count : length (entry_of (record_of c.args.changes.now)) - 5 ≡ length (record_of c.args.changes.now) = omega (arith, length-entry_of (record_of c.args.changes.now)) in
    moved ∙ ap (λ (n : ℕ). after_append (after_move c.args.journal.now (area_planned c.args.tables.now (placed c.args.journal.now c.args.tables.now c.args.changes.now).switch)) n) count
