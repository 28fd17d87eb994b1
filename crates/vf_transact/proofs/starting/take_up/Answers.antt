-- A task that was kept stands as it is kept; a new one is kept by its changes.
use Rattle.std.specs.Prelude.{IfErr, OnErr}
use Rattle.std.proofs.Common.{◌≡◌, List, [], ◌∷◌, Option, Some, None, Result, Ok, Err, false, sym, ap, subst, ◌∙◌}
use Rattle.vf_tables.specs.declared.tables.Tables.{Tables}
use Rattle.vf_tables.specs.declared.task.Task.{Task}
use Rattle.vf_transact.specs.Starting.{TakenUp, taken_up, taken_up_of, taken_up_with, taken_with}
use Rattle.vf_transact.specs.Transaction.{AtFull, EndsOn, FullFirst, KeepsStore, first_kept, has_disk_fault, tables_kept}
use Rattle.vf_transact.specs.declared.error.TransactError.{TransactError}
use Rattle.vf_transact.proofs.Full.{never_found, no_fault, same_fault}
use Rattle.vf_transact.proofs.Stores.{untouched}
use Rattle.vf_transact.proofs.Taken.{KeepsBegun, begins_kept, new_begins, new_kept, represented_kept, represented_valid, stands, taken_is, takes_up_new}
use Rattle.vf_transact.proofs.starting.take_up.Goals as goal

pub returns-in-Ok-clause-kept : goal.returns-in-Ok-clause-kept
returns-in-Ok-clause-kept g c = λ are represented.
    let words = c.args.words.now in
    let tables = c.args.store.now.tables in
    let plan = c.in-Ok.begun.plan in
    let task = c.in-Ok-Some.task.now in
    let at = rw c.in-Ok-Some.field-0-is at c.in-Ok-Some.ensures.found in
    let found : taken_up words tables ≡ Ok (Some task) = ap (taken_up words) (sym c.tables.ensures) ∙ at in
    let same = taken_is words tables [] (Some task) plan found c.in-Ok.ensures.plan in
    let valid = represented_valid g.D.Disk.shown g.D.Disk.may_leave c.kept_stay.ensures c.args.store.now represented in
    let stay : tables_kept (taken_with plan tables) tables ≡ tables = ap (λ (taken : TakenUp). tables_kept taken tables) (sym same) ∙ stands c.tasks_are_kept.ensures.same words tables task found valid in
    untouched g.D.Disk.shown g.D.Disk.may_leave g.D.Disk.moment g.D.Disk.left_since g.met.D.Disk.only_now c.args.store.now (tables_kept (taken_with plan tables) tables ∷ []) (tables_kept (taken_with plan tables) tables) false represented (sym stay)

pub returns-in-Ok-clause-begins : goal.returns-in-Ok-clause-begins
returns-in-Ok-clause-begins g c = λ are represented.
    let words = c.args.words.now in
    let tables = c.args.store.now.tables in
    let task = c.in-Ok-Some.task.now in
    let at = rw c.in-Ok-Some.field-0-is at c.in-Ok-Some.ensures.found in
    let found : taken_up words tables ≡ Ok (Some task) = ap (taken_up words) (sym c.tables.ensures) ∙ at in
    let same = taken_is words tables [] (Some task) c.in-Ok.begun.plan found c.in-Ok.ensures.plan in
    let kept = represented_kept g.D.Disk.shown g.D.Disk.may_leave c.kept_stay.ensures c.args.store.now represented in
    subst (λ (taken : TakenUp). KeepsBegun taken.plan taken.kept tables) same (begins_kept c.tasks_are_kept.ensures.same c.tasks_are_kept.ensures.begun words tables task found kept)

pub returns-in-Ok-None-clause-begun : goal.returns-in-Ok-None-clause-begun
returns-in-Ok-None-clause-begun g c = λ octets told.
    let at = rw c.in-Ok-None.field-0-is at c.in-Ok-None.ensures.found in
    let none : taken_up c.args.words.now c.args.store.now.tables ≡ Ok None = ap (taken_up c.args.words.now) (sym c.tables.ensures) ∙ at in
    takes_up_new c.args.words.now c.args.store.now.tables octets c.take_up_new.result none (c.take_up_new.ensures.begun octets told)

pub returns-in-Ok-None-clause-kept : goal.returns-in-Ok-None-clause-kept
returns-in-Ok-None-clause-kept g c = λ are represented.
    let at = rw c.in-Ok-None.field-0-is at c.in-Ok-None.ensures.found in
    let none : taken_up c.args.words.now c.args.store.now.tables ≡ Ok None = ap (taken_up c.args.words.now) (sym c.tables.ensures) ∙ at in
    let valid = represented_valid g.D.Disk.shown g.D.Disk.may_leave c.kept_stay.ensures c.args.store.now represented in
    new_kept g.D.Disk.shown g.D.Disk.may_leave g.D.Disk.moment g.D.Disk.left_since c.args.words.now c.args.store.now.tables none c.args.store.now c.take_up_new.new.store c.take_up_new.result
    (c.take_up_new.ensures.kept are valid none represented) c.take_up_new.ensures.plan

pub returns-in-Ok-None-clause-lost : goal.returns-in-Ok-None-clause-lost
returns-in-Ok-None-clause-lost g c = λ are represented octets told.
    let words = c.args.words.now in
    let tables = c.args.store.now.tables in
    let at = rw c.in-Ok-None.field-0-is at c.in-Ok-None.ensures.found in
    let none : taken_up words tables ≡ Ok None = ap (taken_up words) (sym c.tables.ensures) ∙ at in
    let valid = represented_valid g.D.Disk.shown g.D.Disk.may_leave c.kept_stay.ensures c.args.store.now represented in
    subst (λ (trail : List Tables). OnErr c.take_up_new.result (KeepsStore g.D.Disk.shown g.D.Disk.may_leave g.D.Disk.moment g.D.Disk.left_since c.args.store.now c.take_up_new.new.store trail tables (has_disk_fault c.take_up_new.result)))
    (sym (ap (λ (found : Result (Option Task) TransactError). first_kept (taken_up_with words octets found) tables) none)) (c.take_up_new.ensures.lost are valid none represented octets told)

pub returns-in-Ok-None-clause-begins : goal.returns-in-Ok-None-clause-begins
returns-in-Ok-None-clause-begins g c = λ are represented.
    let at = rw c.in-Ok-None.field-0-is at c.in-Ok-None.ensures.found in
    let none : taken_up c.args.words.now c.args.store.now.tables ≡ Ok None = ap (taken_up c.args.words.now) (sym c.tables.ensures) ∙ at in
    let valid = represented_valid g.D.Disk.shown g.D.Disk.may_leave c.kept_stay.ensures c.args.store.now represented in
    new_begins g.D.Disk.shown g.D.Disk.may_leave g.D.Disk.moment g.D.Disk.left_since c.args.words.now c.args.store.now.tables none c.args.store.now c.take_up_new.new.store c.tasks_are_kept.ensures.begun are valid c.take_up_new.result
    (c.take_up_new.ensures.kept are valid none represented) (c.take_up_new.ensures.planned are)

pub returns-in-Err-clause-full : goal.returns-in-Err-clause-full
returns-in-Err-clause-full g c = λ octets represented told.
    let words = c.args.words.now in
    let tables = c.args.store.now.tables in
    let found : taken_up words tables ≡ Err c.in-Err.error = ap (taken_up words) (sym c.tables.ensures) ∙ c.in-Err.ensures.refused in
    never_found words tables c.in-Err.error (FullFirst (EndsOn g.D.Disk.shown g.D.Disk.may_leave c.args.store.now.disk) (taken_up_of words tables octets) tables) found

pub returns-in-Ok-None-clause-full : goal.returns-in-Ok-None-clause-full
returns-in-Ok-None-clause-full g c = λ octets represented told.
    let words = c.args.words.now in
    let tables = c.args.store.now.tables in
    let at = rw c.in-Ok-None.field-0-is at c.in-Ok-None.ensures.found in
    let none : taken_up words tables ≡ Ok None = ap (taken_up words) (sym c.tables.ensures) ∙ at in
    subst (λ (found : Result (Option Task) TransactError). IfErr c.take_up_new.result (λ error. AtFull error (FullFirst (EndsOn g.D.Disk.shown g.D.Disk.may_leave c.take_up_new.new.store.disk) (taken_up_with words octets found) tables))) (sym none)
    (c.take_up_new.ensures.full octets represented told)

pub returns-in-Err-clause-exact : goal.returns-in-Err-clause-exact
returns-in-Err-clause-exact g c = λ error is.
    let found : taken_up c.args.words.now c.args.store.now.tables ≡ Err c.in-Err.error = ap (taken_up c.args.words.now) (sym c.tables.ensures) ∙ c.in-Err.ensures.refused in
    ap (λ (e : TransactError). Err e) (same_fault (taken_up c.args.words.now c.args.store.now.tables) c.in-Err.error error found is)

pub returns-in-Ok-None-clause-exact : goal.returns-in-Ok-None-clause-exact
returns-in-Ok-None-clause-exact g c = λ error is.
    let at = rw c.in-Ok-None.field-0-is at c.in-Ok-None.ensures.found in
    let none : taken_up c.args.words.now c.args.store.now.tables ≡ Ok None = ap (taken_up c.args.words.now) (sym c.tables.ensures) ∙ at in
    absurd (no_fault (taken_up c.args.words.now c.args.store.now.tables) None error none is)

pub returns-in-Ok-clause-exact : goal.returns-in-Ok-clause-exact
returns-in-Ok-clause-exact g c = λ error is.
    let at = rw c.in-Ok-Some.field-0-is at c.in-Ok-Some.ensures.found in
    let found : taken_up c.args.words.now c.args.store.now.tables ≡ Ok (Some c.in-Ok-Some.task.now) = ap (taken_up c.args.words.now) (sym c.tables.ensures) ∙ at in
    absurd (no_fault (taken_up c.args.words.now c.args.store.now.tables) (Some c.in-Ok-Some.task.now) error found is)
