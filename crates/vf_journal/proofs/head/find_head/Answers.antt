use Rattle.std.proofs.Common.{false, Err}
use Rattle.std.proofs.lemmas.Result.{err_from_is_err_and}
use Rattle.vf_journal.specs.Answers.{is_fault}
use Rattle.vf_journal.proofs.Looks.{looked_then}
use Rattle.vf_journal.proofs.head.find_head.Goals as goal

pub returns-in_err-head-clause-looks : goal.returns-in_err-head-clause-looks
returns-in_err-head-clause-looks g c =
    let p = err_from_is_err_and c.from_residual-in_err-head.result c.from_residual-in_err-head.ensures.1 in
    rw (p.1, p.2) (looked_then g.D.Disk.shown g.D.Disk.size g.D.Disk.may_leave g.D.Disk.moment g.D.Disk.left_since g.D.Disk.plan g.D.Disk.state g.D.Disk.lack_count c.args.disk.now c.measure.new.disk c.read_head.new.disk (is_fault {T = Unit {0}} (Err c.in_err-head.field-0.0)) c.in_ok-length.ensures.looks c.in_err-head.ensures.looks)

pub returns-clause-looks : goal.returns-clause-looks
returns-clause-looks g c = looked_then g.D.Disk.shown g.D.Disk.size g.D.Disk.may_leave g.D.Disk.moment g.D.Disk.left_since g.D.Disk.plan g.D.Disk.state g.D.Disk.lack_count c.args.disk.now c.measure.new.disk c.read_head.new.disk false c.in_ok-length.ensures.looks c.in_ok-head.ensures.looks
