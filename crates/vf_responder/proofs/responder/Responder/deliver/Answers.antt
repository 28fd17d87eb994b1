use Rattle.std.proofs.lemmas.Result.{err_from_is_err_and}
use Rattle.std.proofs.Common.{ap, sym, subst, ◌∙◌}
use Rattle.vf_responder.proofs.BegunLemmas.{still-along}
use Rattle.vf_responder.specs.Events.{event_meant}
use Rattle.vf_responder.specs.Represents.{Answers, Kept, Represents, kept_of}
use Rattle.vf_responder.specs.Run.{trail}
use Rattle.vf_responder.specs.declared.event.Event.{Event}
use Rattle.vf_responder.proofs.CommitLemmas.{none-begun}
use Rattle.vf_responder.proofs.CommitParts.{arrival-commits, end-commits, made-same}
use Rattle.vf_responder.specs.Commits.{commits_by, telling}
use Rattle.vf_responder.proofs.responder.Responder.deliver.Goals as goal

pub returns-in_err-arrive-in-Arrived-clause-any_moment : goal.returns-in_err-arrive-in-Arrived-clause-any_moment
returns-in_err-arrive-in-Arrived-clause-any_moment g c =
    still-along g.D.Disk.shown g.D.Disk.may_leave g.D.Disk.moment g.D.Disk.left_since g.met.D.Disk.only_now (trail (event_meant c.args.event)) c.args.self.now (kept_of c.arrive.new.self)
    (c.arrive.ensures.store ∙ ap (λ (kept : Kept _). kept.store) c.self.view_is)

pub returns-in_ok-arrive-in-Arrived-clause-any_moment : goal.returns-in_ok-arrive-in-Arrived-clause-any_moment
returns-in_ok-arrive-in-Arrived-clause-any_moment g c =
    still-along g.D.Disk.shown g.D.Disk.may_leave g.D.Disk.moment g.D.Disk.left_since g.met.D.Disk.only_now (trail (event_meant c.args.event)) c.args.self.now (kept_of c.arrive.new.self)
    (c.arrive.ensures.store ∙ ap (λ (kept : Kept _). kept.store) c.self.view_is)

pub returns-in-Ended-clause-answers : goal.returns-in-Ended-clause-answers
returns-in-Ended-clause-answers g c = λ serving represents.
    let replies = c.args.replies.now.items in
    subst (λ (event : Event). Answers (trail (event_meant event) serving) serving replies (kept_of c.end.new.self) replies) (sym c.in-Ended.is)
    (c.end.ensures.answers replies serving (subst (λ (kept : Kept _). Represents kept serving) (sym c.self.view_is) represents))

pub returns-in-Ended-clause-any_moment : goal.returns-in-Ended-clause-any_moment
returns-in-Ended-clause-any_moment g c =
    still-along g.D.Disk.shown g.D.Disk.may_leave g.D.Disk.moment g.D.Disk.left_since g.met.D.Disk.only_now (trail (event_meant c.args.event)) c.args.self.now (kept_of c.end.new.self)
    (c.end.ensures.store ∙ ap (λ (kept : Kept _). kept.store) c.self.view_is)

pub returns-in_err-arrive-in-Arrived-clause-commits : goal.returns-in_err-arrive-in-Arrived-clause-commits
returns-in_err-arrive-in-Arrived-clause-commits g c = λ serving represents.
    let p = err_from_is_err_and c.from_residual.result c.from_residual.ensures.1 in
    rw (p.1, p.2) (none-begun (telling g.D.Disk.plan g.D.Disk.state g.D.Disk.lack_count) (commits_by (event_meant c.args.event) serving) c.args.self.now.store c.arrive.new.self.store (c.arrive.ensures.store ∙ ap (λ (kept : Kept _). kept.store) c.self.view_is))

pub returns-in_ok-arrive-in-Arrived-clause-commits : goal.returns-in_ok-arrive-in-Arrived-clause-commits
returns-in_ok-arrive-in-Arrived-clause-commits g c = λ serving represents.
    made-same (telling g.D.Disk.plan g.D.Disk.state g.D.Disk.lack_count) (commits_by (event_meant c.args.event) serving) c.args.self.now.store c.arrive.new.self.store (c.arrive.ensures.store ∙ ap (λ (kept : Kept _). kept.store) c.self.view_is)
    (ap (λ (event : Event). commits_by (event_meant event) serving) c.in-Arrived.is ∙ arrival-commits c.in-Arrived.link serving)

pub returns-in-Ended-clause-commits : goal.returns-in-Ended-clause-commits
returns-in-Ended-clause-commits g c = λ serving represents.
    made-same (telling g.D.Disk.plan g.D.Disk.state g.D.Disk.lack_count) (commits_by (event_meant c.args.event) serving) c.args.self.now.store c.end.new.self.store (c.end.ensures.store ∙ ap (λ (kept : Kept _). kept.store) c.self.view_is)
    (ap (λ (event : Event). commits_by (event_meant event) serving) c.in-Ended.is ∙ end-commits c.in-Ended.link serving represents.reached.sound)
