use Rattle.std.proofs.Common.{[], ◌∷◌, ◌++◌, Err}
use Rattle.std.proofs.lemmas.Result.{err_from_is_err_and}
use Rattle.vf_disk.proofs.Runs.{weaker}
use Rattle.vf_journal.specs.Image.{HoldsEither}
use Rattle.vf_store.specs.Represented.{RepresentsEither}
use Rattle.vf_store.proofs.Causes.{fault_alone}
use Rattle.vf_store.proofs.Making.{made_push}
use Rattle.vf_store.proofs.Runs.{either, shows_weaker}
use Rattle.vf_store.proofs.writing.append.Goals as goal

pub returns-clause-ok : goal.returns-clause-ok
returns-clause-ok g c = λ before after entry stands. record {
  records = stands.records ++ entry.0 ∷ [];
  on = c.in_ok-append.ensures.ok entry.0 stands.records entry.1 stands.on;
  making = made_push stands.records entry.0 before after stands.making entry.2;
}

pub returns-clause-any_moment : goal.returns-clause-any_moment
returns-clause-any_moment g c = λ before after entry stands.
    weaker g.D.Disk.moment g.D.Disk.left_since c.args.disk.now c.append.new.disk (HoldsEither stands.records (stands.records ++ entry.0 ∷ [])) (RepresentsEither before after)
    (c.append.ensures.any_moment entry.0 stands.records entry.1 stands.on) (λ image. either image stands.records entry.0 before after stands.making entry.2)

pub returns-in_err-append-clause-any_moment : goal.returns-in_err-append-clause-any_moment
returns-in_err-append-clause-any_moment g c = λ before after entry stands.
    weaker g.D.Disk.moment g.D.Disk.left_since c.args.disk.now c.append.new.disk (HoldsEither stands.records (stands.records ++ entry.0 ∷ [])) (RepresentsEither before after)
    (c.append.ensures.any_moment entry.0 stands.records entry.1 stands.on) (λ image. either image stands.records entry.0 before after stands.making entry.2)

pub returns-clause-seen : goal.returns-clause-seen
returns-clause-seen g c = λ before after entry stands.
    shows_weaker (g.D.Disk.shown c.append.new.disk) (HoldsEither stands.records (stands.records ++ entry.0 ∷ [])) (RepresentsEither before after)
    (c.append.ensures.seen entry.0 stands.records entry.1 stands.on) (λ image. either image stands.records entry.0 before after stands.making entry.2)

pub returns-in_err-append-clause-seen : goal.returns-in_err-append-clause-seen
returns-in_err-append-clause-seen g c = λ before after entry stands.
    shows_weaker (g.D.Disk.shown c.append.new.disk) (HoldsEither stands.records (stands.records ++ entry.0 ∷ [])) (RepresentsEither before after)
    (c.append.ensures.seen entry.0 stands.records entry.1 stands.on) (λ image. either image stands.records entry.0 before after stands.making entry.2)

pub returns-in_err-append-clause-causes : goal.returns-in_err-append-clause-causes
returns-in_err-append-clause-causes g c =
    let p = err_from_is_err_and c.from_residual.result c.from_residual.ensures.1 in
    rw (p.1, p.2) (fault_alone {T = Unit {0}} _ _ (g.D.Disk.fault_count c.args.disk.now) (g.D.Disk.fault_count c.append.new.disk) (Err c.in_err-append.field-0.0) c.in_err-append.ensures.causes c.requires.limit)
