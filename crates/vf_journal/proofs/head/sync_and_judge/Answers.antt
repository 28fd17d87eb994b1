use Rattle.std.proofs.Common.{false, Err}
use Rattle.std.proofs.lemmas.Result.{err_from_is_err_and}
use Rattle.vf_journal.specs.Answers.{is_fault}
use Rattle.vf_journal.proofs.Looks.{leaves_still, sync_failed, synced_then}
use Rattle.vf_journal.proofs.head.sync_and_judge.Goals as goal

pub returns-in_err-sync-clause-looks : goal.returns-in_err-sync-clause-looks
returns-in_err-sync-clause-looks g c =
    let p = err_from_is_err_and c.from_residual.result c.from_residual.ensures.1 in
    rw (p.1, p.2) (sync_failed g.D.Disk.shown g.D.Disk.size g.D.Disk.may_leave g.D.Disk.moment g.D.Disk.left_since g.D.Disk.plan g.D.Disk.state g.D.Disk.lack_count g.met.D.Disk.only_now c.args.disk.now c.sync.new.self c.sync.ensures.shown c.sync.ensures.size c.sync.ensures.crash c.sync.ensures.time c.sync.ensures.state c.sync.ensures.memory c.in_err-sync.ensures.plan)

pub returns-in_err-head-clause-looks : goal.returns-in_err-head-clause-looks
returns-in_err-head-clause-looks g c =
    let p = err_from_is_err_and c.from_residual-in_err-head.result c.from_residual-in_err-head.ensures.1 in
    rw (p.1, p.2) (synced_then g.D.Disk.shown g.D.Disk.size g.D.Disk.may_leave g.D.Disk.moment g.D.Disk.left_since g.D.Disk.plan g.D.Disk.state g.D.Disk.lack_count g.met.D.Disk.only_now c.args.disk.now c.sync.new.self c.sync.ensures.shown c.sync.ensures.size c.sync.ensures.crash c.sync.ensures.time c.sync.ensures.state c.sync.ensures.memory c.find_head.new.disk (is_fault {T = Unit {0}} (Err c.in_err-head.field-0.0)) c.in_ok-sync.ensures.plan c.in_err-head.ensures.looks)

pub returns-clause-looks : goal.returns-clause-looks
returns-clause-looks g c = synced_then g.D.Disk.shown g.D.Disk.size g.D.Disk.may_leave g.D.Disk.moment g.D.Disk.left_since g.D.Disk.plan g.D.Disk.state g.D.Disk.lack_count g.met.D.Disk.only_now c.args.disk.now c.sync.new.self c.sync.ensures.shown c.sync.ensures.size c.sync.ensures.crash c.sync.ensures.time c.sync.ensures.state c.sync.ensures.memory c.find_head.new.disk false c.in_ok-sync.ensures.plan c.in_ok-head.ensures.looks

pub returns-clause-synced : goal.returns-clause-synced
returns-clause-synced g c = leaves_still g.D.Disk.shown g.D.Disk.size g.D.Disk.may_leave g.D.Disk.moment g.D.Disk.left_since g.D.Disk.plan g.D.Disk.state g.D.Disk.lack_count g.met.D.Disk.only_now c.sync.new.self c.find_head.new.disk false c.in_ok-sync.ensures.durable c.in_ok-head.ensures.looks
