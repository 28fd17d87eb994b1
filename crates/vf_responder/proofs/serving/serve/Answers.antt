use Rattle.std.proofs.Common.{◌∙◌, refl, sym, subst}
use Rattle.vf_disk.specs.Disk.{LeavesOnly}
use Rattle.vf_responder.proofs.Serves.{full_left, not_opened, not_opened_kept, opened_along, opens_full}
use Rattle.vf_responder.specs.Served.{IsFullOn, KeepsAnswered, RepresentsServed, Serves, WhereServedFull}
use Rattle.vf_responder.specs.Full.{IsStoreOf}
use Rattle.vf_responder.proofs.serving.serve.Goals as goal

pub returns-in-Ok-clause-serves : goal.returns-in-Ok-clause-serves
returns-in-Ok-clause-serves g c = λ left image tables serving told shows represents begun.
    subst (λ disk. Serves g.D.Disk.shown g.D.Disk.may_leave serving disk c.serve_all-served.result (g.L.Links.told c.serve_all-served.new.links)) (sym c.close.ensures)
    (c.serve_all-served.ensures.serves left serving told (c.in-Ok.ensures.begins image tables serving shows represents begun) begun.begins.alone
    (c.in-Ok.ensures.represented image tables shows represents).1)

pub returns-in-Ok-clause-any_moment : goal.returns-in-Ok-clause-any_moment
returns-in-Ok-clause-any_moment g c = λ left image tables serving told shows represents leaves begun.
    let begins = c.in-Ok.ensures.begins image tables serving shows represents begun in
    let stands = (c.in-Ok.ensures.represented image tables shows represents).1 in
    subst (λ disk. LeavesOnly g.D.Disk.moment g.D.Disk.left_since c.args.disk disk (RepresentsServed serving (g.L.Links.told c.serve_all-served.new.links))) (sym c.close.ensures)
    (opened_along g.D.Disk.shown g.D.Disk.may_leave g.D.Disk.moment g.D.Disk.left_since g.met.D.Disk.only_now serving tables c.args.disk c.in-Ok.responder.store.disk c.serve_all-served.new.responder.store.disk c.serve_all-served.result
    (g.L.Links.told c.serve_all-served.new.links) begun (c.in-Ok.ensures.any_moment tables leaves) (c.serve_all-served.ensures.serves left serving told begins begun.begins.alone stands)
    (c.serve_all-served.ensures.any_moment left serving told begins begun.begins.alone stands))

pub returns-in-Ok-clause-keeps : goal.returns-in-Ok-clause-keeps
returns-in-Ok-clause-keeps g c = λ left image tables serving told shows represents leaves begun.
    subst (λ disk. KeepsAnswered g.D.Disk.may_leave serving disk c.serve_all-served.result (g.L.Links.told c.serve_all-served.new.links)) (sym c.close.ensures)
    (c.serve_all-served.ensures.keeps left serving told (c.in-Ok.ensures.begins image tables serving shows represents begun) begun.begins.alone
    (c.in-Ok.ensures.represented image tables shows represents).1)

pub returns-in-Err-clause-keeps : goal.returns-in-Err-clause-keeps
returns-in-Err-clause-keeps g c = λ left image tables serving told shows represents leaves begun.
    not_opened_kept g.D.Disk.shown g.D.Disk.may_leave g.D.Disk.moment g.D.Disk.left_since g.met.D.Disk.only_now g.met.D.Disk.counts_now serving tables c.args.disk c.in-Err.disk
    (g.L.Links.told c.args.links.now) left c.in-Err.error told begun (c.in-Err.ensures.any_moment tables leaves)

pub returns-in-Err-clause-serves : goal.returns-in-Err-clause-serves
returns-in-Err-clause-serves g c = λ left image tables serving told shows represents begun.
    not_opened g.D.Disk.shown g.D.Disk.may_leave g.D.Disk.moment g.D.Disk.left_since g.met.D.Disk.only_now serving c.in-Err.disk (g.L.Links.told c.args.links.now) left c.in-Err.error told

pub returns-in-Ok-clause-full : goal.returns-in-Ok-clause-full
returns-in-Ok-clause-full g c = λ left image tables serving told shows represents begun.
    let new = c.serve_all-served.new.responder in
    let of : IsStoreOf g.D.Disk.size c.args.limit new.store.disk new.store = record { on = refl; limited = c.serve_all-served.ensures.limit ∙ c.in-Ok.ensures.limit; within = c.lies_within.ensures } in
    subst (λ disk. WhereServedFull c.serve_all-served.result (IsFullOn g.D.Disk.size c.args.limit serving disk (g.L.Links.told c.serve_all-served.new.links))) (sym c.close.ensures)
    (full_left g.D.Disk.size c.args.limit serving new.store.disk new.store (g.L.Links.told c.serve_all-served.new.links) c.serve_all-served.result of
    (c.serve_all-served.ensures.full left serving told (c.in-Ok.ensures.begins image tables serving shows represents begun) begun.begins.alone))

pub returns-in-Err-clause-full : goal.returns-in-Err-clause-full
returns-in-Err-clause-full g c = λ left image tables serving told shows represents begun.
    opens_full (IsFullOn g.D.Disk.size c.args.limit serving c.in-Err.disk (g.L.Links.told c.args.links.now)) (g.D.Disk.fault_count c.args.disk) (g.D.Disk.fault_count c.in-Err.disk) c.in-Err.error c.in-Err.ensures.causes
