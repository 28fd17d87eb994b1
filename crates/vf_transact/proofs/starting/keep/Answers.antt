-- The changes are those that keep the task.
use Rattle.std.proofs.Common.{◌≡◌, ℕ, List, Option, Result, Err, sym, ap, subst, ◌∙◌}
use Rattle.std.proofs.lemmas.Result.{err_from_is_err_and}
use Rattle.vf_tables.specs.declared.change.Change.{Change}
use Rattle.vf_transact.specs.Starting.{keeping_under}
use Rattle.vf_transact.specs.Transaction.{FullAt}
use Rattle.vf_transact.specs.declared.error.TransactError.{TransactError}
use Rattle.vf_transact.specs.declared.error.TransactError.TheVariants as errors
use Rattle.vf_transact.proofs.starting.keep.Goals as goal

pub returns-in_err-changes-clause-full : goal.returns-in_err-changes-clause-full
returns-in_err-changes-clause-full g c = λ elements is.
    let p = err_from_is_err_and c.from_residual.result c.from_residual.ensures.1 in
    let same : c.from_residual.result ≡ Err errors.NoMemory = p.1 ∙ ap (λ (e : TransactError). Err e) p.2 in
    subst (λ (r : Result (Unit {0}) TransactError). FullAt (keeping_under c.args.plan.now c.args.words.now.activity) c.args.store.now c.args.store.now r) (sym same) tt

pub returns-clause-full : goal.returns-clause-full
returns-clause-full g c = λ elements is.
    let same = c.in_ok-changes.ensures elements is ∙ ap (λ (a : Option ℕ). keeping_under c.args.plan.now a) (sym c.in-Some.is) in
    subst (λ (l : List Change). FullAt l c.args.store.now c.commit.new.store c.commit.result) same c.commit.ensures.full
