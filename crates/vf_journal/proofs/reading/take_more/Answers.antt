use Rattle.std.proofs.Common.{◌-◌, ℕ, List, Option, Err, false, subst}
use Rattle.std.proofs.lemmas.Result.{err_from_is_err_and}
use Rattle.vf_journal.specs.Answers.{is_fault}
use Rattle.vf_journal.specs.Reading.{StandsFrom, Takes}
use Rattle.vf_journal.proofs.Looks.{looked_then}
use Rattle.vf_journal.proofs.reading.take_more.Goals as goal

pub returns-in_err-found-clause-looks : goal.returns-in_err-found-clause-looks
returns-in_err-found-clause-looks g c =
    let p = err_from_is_err_and c.from_residual-in_err-found.result c.from_residual-in_err-found.ensures.1 in
    rw (p.1, p.2) (looked_then g.D.Disk.shown g.D.Disk.size g.D.Disk.may_leave g.D.Disk.moment g.D.Disk.left_since g.D.Disk.plan g.D.Disk.state g.D.Disk.lack_count c.args.disk.now c.read_at.new.disk c.take_block.new.disk (is_fault {T = Unit {0}} (Err c.in_err-found.field-0.0)) c.in_ok-read_at.ensures.looks c.in_err-found.ensures.looks)

pub returns-clause-looks : goal.returns-clause-looks
returns-clause-looks g c = looked_then g.D.Disk.shown g.D.Disk.size g.D.Disk.may_leave g.D.Disk.moment g.D.Disk.left_since g.D.Disk.plan g.D.Disk.state g.D.Disk.lack_count c.args.disk.now c.read_at.new.disk c.take_block.new.disk false c.in_ok-read_at.ensures.looks c.in_ok-found.ensures.looks

pub returns-clause-taken : goal.returns-clause-taken
returns-clause-taken g c =
    let place = c.args.area.end - 1 in
    subst (λ (shown : Option (List ℕ)). Takes (StandsFrom shown place) c.args.records.now.items c.take_block.new.records.items (c.args.length - place) c.args.area c.in_ok-found.found c.in_ok-found.more) c.in_ok-read_at.ensures.looks.same c.in_ok-found.ensures.taken
