-- The changes that keep a new task lead to the tables with it.
use Rattle.std.proofs.Common.{List, Result, Ok, refl, sym, ap, subst}
use Rattle.vf_base.specs.declared.element.Element.{Element}
use Rattle.vf_initiator.specs.declared.plan.Plan.{Plan}
use Rattle.vf_tables.specs.declared.tables.Tables.{Tables}
use Rattle.vf_transact.specs.Starting.{elements_for, keeping, keeping_under, plan_of, taken_up_new}
use Rattle.vf_transact.specs.Transaction.{AtFull, EndsOn, FullFirst, KeepsStore, is_disk, kept_new}
use Rattle.vf_transact.specs.declared.error.TransactError.{TransactError}
use Rattle.vf_transact.proofs.Full.{full_on, full_weaker, never_read}
use Rattle.vf_transact.proofs.Taken.{leads_planned, new_trail}
use Rattle.vf_transact.proofs.starting.take_up_new.Goals as goal

pub returns-in-Ok-keep-clause-kept : goal.returns-in-Ok-keep-clause-kept
returns-in-Ok-keep-clause-kept g c = λ are valid none represented.
    let tables = c.args.store.now.tables in
    let plan = c.in-Ok.begun.plan in
    let planned = c.in-Ok.ensures.planned are in
    let lead = leads_planned c.args.words.now planned.elements tables plan planned.plan are planned.within valid none in
    c.in-Ok-keep.ensures.kept planned.elements (kept_new plan tables) planned.plan lead represented

pub returns-in-Err-keep-clause-lost : goal.returns-in-Err-keep-clause-lost
returns-in-Err-keep-clause-lost g c = λ are valid none represented octets told.
    let words = c.args.words.now in
    let tables = c.args.store.now.tables in
    let plan = c.in-Ok.begun.plan in
    let planned = c.in-Ok.ensures.planned are in
    let begins = c.in-Ok.ensures.begun octets told in
    let lead = leads_planned words planned.elements tables plan planned.plan are planned.within valid none in
    subst (λ (trail : List Tables). KeepsStore g.D.Disk.shown g.D.Disk.may_leave g.D.Disk.moment g.D.Disk.left_since c.args.store.now c.keep.new.store trail tables (is_disk c.in-Err-keep.error))
    (new_trail words tables (elements_for words octets) begins.0 plan begins.1 begins.2.plan)
    (c.in-Err-keep.ensures.kept planned.elements (kept_new plan tables) planned.plan lead represented)

pub returns-in-Err-clause-full : goal.returns-in-Err-clause-full
returns-in-Err-clause-full g c = λ octets represented told. never_read c.in-Err.error (FullFirst (EndsOn g.D.Disk.shown g.D.Disk.may_leave c.args.store.now.disk) (taken_up_new c.args.words.now (elements_for c.args.words.now octets)) c.args.store.now.tables) c.in-Err.ensures.failed

pub returns-in-Err-keep-clause-full : goal.returns-in-Err-keep-clause-full
returns-in-Err-keep-clause-full g c = λ octets represented told.
    let words = c.args.words.now in
    let tables = c.args.store.now.tables in
    let plan = c.in-Ok.begun.plan in
    let ends = EndsOn g.D.Disk.shown g.D.Disk.may_leave c.keep.new.store.disk in
    let begins = c.in-Ok.ensures.begun octets told in
    let full = full_on g.D.Disk.shown g.D.Disk.may_leave c.args.store.now c.keep.new.store (keeping_under plan words.activity) (keeping (plan_of words begins.0)) c.in-Err-keep.error represented
    (ap (λ (p : Plan). keeping_under p words.activity) begins.2.plan) (c.in-Err-keep.ensures.full begins.0 begins.2.plan) in
    subst (λ (meant : Result (List Element) TransactError). AtFull c.in-Err-keep.error (FullFirst ends (taken_up_new words meant) tables)) (sym begins.1)
    (full_weaker c.in-Err-keep.error (ends tables (keeping (plan_of words begins.0))) (FullFirst ends (taken_up_new words (Ok begins.0)) tables) (λ place is. (refl, is)) full)
