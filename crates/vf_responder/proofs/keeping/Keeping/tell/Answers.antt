use Rattle.std.proofs.lemmas.Result.{err_from_is_err_and}
use Rattle.std.proofs.Common.{List, refl, sym, subst}
use Rattle.vf_responder.specs.Answers.{told}
use Rattle.vf_responder.specs.Represents.{kept_of}
use Rattle.vf_responder.proofs.TakeLemmas.{still-along}
use Rattle.vf_responder.proofs.TellLemmas.{asks-so, read-so, run-takes, tell-takes, told-faults, told-nothing}
use Rattle.vf_responder.specs.Answers.{Answer}
use Rattle.vf_responder.specs.Full.{IsFullAt, WhereFull}
use Rattle.vf_responder.proofs.TellLemmas.{told-takes}
use Rattle.vf_responder.proofs.CommitLemmas.{none-begun}
use Rattle.vf_responder.proofs.CommitParts.{made-none, none-taken, nothing-taken, tell-commits}
use Rattle.vf_responder.specs.Commits.{commits_told, telling}
use Rattle.vf_responder.proofs.keeping.Keeping.tell.Goals as goal

pub returns-in_err-said-in-Faults-clause-any_moment : goal.returns-in_err-said-in-Faults-clause-any_moment
returns-in_err-said-in-Faults-clause-any_moment g c = λ read.
    still-along g.D.Disk.shown g.D.Disk.may_leave g.D.Disk.moment g.D.Disk.left_since g.met.D.Disk.only_now c.args.link.now (kept_of c.args.self.now) c.args.self.now.store
    (λ serving. told c.args.moment c.args.link.now.number serving c.args.indication) refl

pub returns-in_err-leave-in-Faults-clause-any_moment : goal.returns-in_err-leave-in-Faults-clause-any_moment
returns-in_err-leave-in-Faults-clause-any_moment g c = λ read.
    still-along g.D.Disk.shown g.D.Disk.may_leave g.D.Disk.moment g.D.Disk.left_since g.met.D.Disk.only_now c.args.link.now (kept_of c.args.self.now) c.args.self.now.store
    (λ serving. told c.args.moment c.args.link.now.number serving c.args.indication) refl

pub returns-in-Takes-clause-answers : goal.returns-in-Takes-clause-answers
returns-in-Takes-clause-answers g c = λ read.
    tell-takes c.args.moment c.args.link.now c.take.new.link (kept_of c.args.self.now) (kept_of c.take.new.self) c.args.indication c.next_serial-next.result c.last_check.result c.in-Takes.message
    c.args.replies.now.items c.take.new.replies.items c.take.result c.in-Takes.ensures
    (λ serving. asks-so c.args.link.now (kept_of c.args.self.now) serving c.next_serial-next.result c.last_check.result c.next_serial-next.ensures.association c.last_check.ensures)
    (c.take.ensures.answers c.args.indication (read-so c.args.indication c.next_serial-next.result c.last_check.result c.in-Takes.message read c.in-Takes.ensures) c.asked_by-asked.ensures)

pub returns-in-Takes-clause-any_moment : goal.returns-in-Takes-clause-any_moment
returns-in-Takes-clause-any_moment g c = λ read serving represents stands.
    run-takes c.args.self.now.store.disk c.take.new.self.store.disk g.D.Disk.moment g.D.Disk.left_since c.args.moment c.args.link.now (kept_of c.args.self.now) serving c.args.indication
    c.next_serial-next.result c.last_check.result c.in-Takes.message represents
    (asks-so c.args.link.now (kept_of c.args.self.now) serving c.next_serial-next.result c.last_check.result c.next_serial-next.ensures.association c.last_check.ensures) c.in-Takes.ensures
    (c.take.ensures.any_moment c.args.indication (read-so c.args.indication c.next_serial-next.result c.last_check.result c.in-Takes.message read c.in-Takes.ensures) c.asked_by-asked.ensures serving represents stands)

pub returns-in_ok-leave-in-Faults-clause-answers : goal.returns-in_ok-leave-in-Faults-clause-answers
returns-in_ok-leave-in-Faults-clause-answers g c = λ read serving represents.
    told-faults c.args.moment c.args.link.now (kept_of c.args.self.now) (record (kept_of c.args.self.now) { locks = c.leave.new.locks }) serving c.args.indication
    c.next_serial-next.result c.last_check.result c.in-Faults.number c.in-Faults.place c.args.replies.now.items c.leave.new.replies.items c.in_ok-said-in-Faults.said.items represents
    (asks-so c.args.link.now (kept_of c.args.self.now) serving c.next_serial-next.result c.last_check.result c.next_serial-next.ensures.association c.last_check.ensures) c.in-Faults.ensures
    c.in_ok-said-in-Faults.ensures c.leave.ensures.leaves refl refl (λ a called. (c.in_ok-leave-in-Faults.ensures.said a called).spoken)

pub returns-in_ok-leave-in-Faults-clause-any_moment : goal.returns-in_ok-leave-in-Faults-clause-any_moment
returns-in_ok-leave-in-Faults-clause-any_moment g c = λ read.
    still-along g.D.Disk.shown g.D.Disk.may_leave g.D.Disk.moment g.D.Disk.left_since g.met.D.Disk.only_now c.args.link.now (kept_of c.args.self.now) c.args.self.now.store
    (λ serving. told c.args.moment c.args.link.now.number serving c.args.indication) refl

pub returns-in-Nothing-clause-answers : goal.returns-in-Nothing-clause-answers
returns-in-Nothing-clause-answers g c = λ read serving represents.
    told-nothing c.args.moment c.args.link.now (kept_of c.args.self.now) serving c.args.indication c.next_serial-next.result c.last_check.result c.args.replies.now.items represents
    (asks-so c.args.link.now (kept_of c.args.self.now) serving c.next_serial-next.result c.last_check.result c.next_serial-next.ensures.association c.last_check.ensures) c.in-Nothing.ensures

pub returns-in-Nothing-clause-any_moment : goal.returns-in-Nothing-clause-any_moment
returns-in-Nothing-clause-any_moment g c = λ read.
    still-along g.D.Disk.shown g.D.Disk.may_leave g.D.Disk.moment g.D.Disk.left_since g.met.D.Disk.only_now c.args.link.now (kept_of c.args.self.now) c.args.self.now.store
    (λ serving. told c.args.moment c.args.link.now.number serving c.args.indication) refl

pub returns-in-Takes-clause-full : goal.returns-in-Takes-clause-full
returns-in-Takes-clause-full g c = λ read serving represents.
    subst (λ (answers : List Answer). WhereFull c.take.result (λ place. IsFullAt answers serving c.take.new.self.store place))
    (sym (told-takes c.args.moment c.args.link.now (kept_of c.args.self.now) serving c.args.indication c.next_serial-next.result c.last_check.result c.in-Takes.message represents
    (asks-so c.args.link.now (kept_of c.args.self.now) serving c.next_serial-next.result c.last_check.result c.next_serial-next.ensures.association c.last_check.ensures) c.in-Takes.ensures))
    (c.take.ensures.full c.args.indication (read-so c.args.indication c.next_serial-next.result c.last_check.result c.in-Takes.message read c.in-Takes.ensures) c.asked_by-asked.ensures serving represents)

pub returns-in-Takes-clause-represented : goal.returns-in-Takes-clause-represented
returns-in-Takes-clause-represented g c = λ read serving represents stood.
    c.take.ensures.represented serving represents c.args.indication (read-so c.args.indication c.next_serial-next.result c.last_check.result c.in-Takes.message read c.in-Takes.ensures) c.asked_by-asked.ensures stood

pub returns-in-Takes-clause-commits : goal.returns-in-Takes-clause-commits
returns-in-Takes-clause-commits g c = λ read.
    tell-commits (telling g.D.Disk.plan g.D.Disk.state g.D.Disk.lack_count) c.args.moment c.args.link.now (kept_of c.args.self.now) c.args.indication c.next_serial-next.result c.last_check.result c.in-Takes.message c.take.new.self.store c.take.result
    c.in-Takes.ensures (λ serving. asks-so c.args.link.now (kept_of c.args.self.now) serving c.next_serial-next.result c.last_check.result c.next_serial-next.ensures.association c.last_check.ensures) (c.take.ensures.commits c.args.indication c.asked_by-asked.ensures)

pub returns-in_err-said-in-Faults-clause-commits : goal.returns-in_err-said-in-Faults-clause-commits
returns-in_err-said-in-Faults-clause-commits g c = λ read serving represents.
    let p = err_from_is_err_and c.from_residual.result c.from_residual.ensures.1 in
    rw (p.1, p.2) (none-begun (telling g.D.Disk.plan g.D.Disk.state g.D.Disk.lack_count) (commits_told c.args.moment c.args.link.now.number serving c.args.indication) c.args.self.now.store c.args.self.now.store refl)

pub returns-in_err-leave-in-Faults-clause-commits : goal.returns-in_err-leave-in-Faults-clause-commits
returns-in_err-leave-in-Faults-clause-commits g c = λ read serving represents.
    let p = err_from_is_err_and c.from_residual-in_err-leave-in-Faults.result c.from_residual-in_err-leave-in-Faults.ensures.1 in
    rw (p.1, p.2) (none-begun (telling g.D.Disk.plan g.D.Disk.state g.D.Disk.lack_count) (commits_told c.args.moment c.args.link.now.number serving c.args.indication) c.args.self.now.store c.args.self.now.store refl)

pub returns-in_ok-leave-in-Faults-clause-commits : goal.returns-in_ok-leave-in-Faults-clause-commits
returns-in_ok-leave-in-Faults-clause-commits g c = λ read serving represents.
    made-none (telling g.D.Disk.plan g.D.Disk.state g.D.Disk.lack_count) (commits_told c.args.moment c.args.link.now.number serving c.args.indication) c.args.self.now.store
    (none-taken c.args.moment c.args.link.now (kept_of c.args.self.now) serving c.args.indication c.next_serial-next.result c.last_check.result c.in-Faults.number c.in-Faults.place represents
    (asks-so c.args.link.now (kept_of c.args.self.now) serving c.next_serial-next.result c.last_check.result c.next_serial-next.ensures.association c.last_check.ensures) c.in-Faults.ensures)

pub returns-in-Nothing-clause-commits : goal.returns-in-Nothing-clause-commits
returns-in-Nothing-clause-commits g c = λ read serving represents.
    made-none (telling g.D.Disk.plan g.D.Disk.state g.D.Disk.lack_count) (commits_told c.args.moment c.args.link.now.number serving c.args.indication) c.args.self.now.store
    (nothing-taken c.args.moment c.args.link.now (kept_of c.args.self.now) serving c.args.indication c.next_serial-next.result c.last_check.result represents
    (asks-so c.args.link.now (kept_of c.args.self.now) serving c.next_serial-next.result c.last_check.result c.next_serial-next.ensures.association c.last_check.ensures) c.in-Nothing.ensures)
