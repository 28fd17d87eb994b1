use Rattle.std.proofs.Common.{◌-◌, false, Err, ap, ◌∙◌}
use Rattle.std.proofs.lemmas.Result.{err_from_is_err_and}
use Rattle.vf_journal.specs.declared.head.Head.{Head}
use Rattle.vf_journal.specs.Answers.{is_fault}
use Rattle.vf_journal.proofs.Looks.{leaves_still, synced_more}
use Rattle.vf_journal.proofs.Opening.{area_opened, opened_is, opened_stands}
use Rattle.vf_journal.proofs.journal.Journal.open.Goals as goal

pub returns-in_err-area-clause-looks : goal.returns-in_err-area-clause-looks
returns-in_err-area-clause-looks g c =
    let p = err_from_is_err_and c.from_residual-in_err-area.result c.from_residual-in_err-area.ensures.1 in
    rw (p.1, p.2) (synced_more g.D.Disk.shown g.D.Disk.size g.D.Disk.may_leave g.D.Disk.moment g.D.Disk.left_since g.D.Disk.plan g.D.Disk.state g.D.Disk.lack_count g.met.D.Disk.only_now c.args.disk.now c.sync_and_judge.new.disk c.read_records.new.disk (is_fault {T = Unit {0}} (Err c.in_err-area.field-0.0)) c.in_ok-head.ensures.looks c.in_err-area.ensures.looks)

pub returns-clause-looks : goal.returns-clause-looks
returns-clause-looks g c = synced_more g.D.Disk.shown g.D.Disk.size g.D.Disk.may_leave g.D.Disk.moment g.D.Disk.left_since g.D.Disk.plan g.D.Disk.state g.D.Disk.lack_count g.met.D.Disk.only_now c.args.disk.now c.sync_and_judge.new.disk c.read_records.new.disk false c.in_ok-head.ensures.looks c.in_ok-area.ensures.looks

pub returns-clause-answers : goal.returns-clause-answers
returns-clause-answers g c = λ image shows.
    let head = c.in_ok-head.ensures.found image shows in
    let area = area_opened (g.D.Disk.shown c.sync_and_judge.new.disk) c.in_ok-head.head.start (c.in_ok-head.head.length - c.in_ok-head.head.start) c.args.records.now.items c.read_records.new.records.items c.in_ok-area.area c.in_ok-area.ensures.taken image
    (c.in_ok-head.ensures.looks.same ∙ shows) (ap (λ (h : Head). h.start) head.1) in
    (head.0, opened_is c.in_ok-head.head.second c.in_ok-area.area image c.args.limit (ap (λ (h : Head). h.second) head.1) area)

pub returns-clause-stands : goal.returns-clause-stands
returns-clause-stands g c = λ image held shows holds.
    let head = c.in_ok-head.ensures.found image shows in
    let area = area_opened (g.D.Disk.shown c.sync_and_judge.new.disk) c.in_ok-head.head.start (c.in_ok-head.head.length - c.in_ok-head.head.start) c.args.records.now.items c.read_records.new.records.items c.in_ok-area.area c.in_ok-area.ensures.taken image
    (c.in_ok-head.ensures.looks.same ∙ shows) (ap (λ (h : Head). h.start) head.1) in
    opened_stands g.D.Disk.shown g.D.Disk.may_leave _ c.read_records.new.disk image c.args.limit held
    (c.in_ok-area.ensures.looks.same ∙ c.in_ok-head.ensures.looks.same ∙ shows)
    (leaves_still g.D.Disk.shown g.D.Disk.size g.D.Disk.may_leave g.D.Disk.moment g.D.Disk.left_since g.D.Disk.plan g.D.Disk.state g.D.Disk.lack_count g.met.D.Disk.only_now c.sync_and_judge.new.disk c.read_records.new.disk false c.in_ok-head.ensures.synced c.in_ok-area.ensures.looks)
    holds (opened_is c.in_ok-head.head.second c.in_ok-area.area image c.args.limit (ap (λ (h : Head). h.second) head.1) area)
