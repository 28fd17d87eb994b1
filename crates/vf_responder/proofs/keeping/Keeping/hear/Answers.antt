use Rattle.std.proofs.Common.{◌≡◌, ℕ, ◌+◌, List, Option, None, Ok, Err, length, refl, ap, sym, subst, ◌∙◌}
use Rattle.std.specs.Prelude.{IfNone, is_some, if◌then◌else◌}
use Rattle.std.proofs.lemmas.Result.{err_from_is_err_and}
use Rattle.vf_responder.proofs.ApartLemmas.{appended}
use Rattle.vf_responder.proofs.MoveLemmas.{IsTakenOut, out-by, out-represents}
use Rattle.vf_responder.proofs.PutBackLemmas.{back-along, back-answers, back-represented, none-heard}
use Rattle.vf_responder.specs.Answers.{octets_heard}
use Rattle.vf_responder.specs.Represents.{Answers, Does, KeepsAlong, kept_of, link_of}
use Rattle.vf_responder.specs.declared.link.Link.{Link}
use Rattle.vf_responder.proofs.FullLemmas.{back-full}
use Rattle.vf_responder.proofs.keeping.Keeping.hear.Given.{Over}
use Rattle.vf_responder.proofs.CommitLemmas.{all-made}
use Rattle.vf_responder.proofs.CommitRounds.{back-commits, none-heard-commits}
use Rattle.vf_responder.specs.Commits.{commits_heard, telling}
use Rattle.vf_responder.proofs.keeping.Keeping.hear.Goals as goal
use Rattle.vf_responder.proofs.keeping.Keeping.hear.Goals.{After-put_back}

pub returns-in_default-clause-answers : goal.returns-in_default-clause-answers
returns-in_default-clause-answers g c = λ serving represents.
    let none : link_of c.args.number c.args.self.now.links.entries ≡ None = sym c.swap_remove.ensures.value ∙ c.in_default.is in
    let same = subst (λ (o : Option Link). IfNone o (c.swap_remove.new.self.entries ≡ c.args.self.now.links.entries)) c.in_default.is c.swap_remove.ensures.unchanged in
    subst (λ (links : List (ℕ × Link)). Answers (octets_heard c.args.moment c.args.number serving c.args.octets.now) serving c.args.replies.now.items (record (kept_of c.args.self.now) { links = links }) c.args.replies.now.items) (sym same)
    (none-heard c.args.moment c.args.number c.args.octets.now (kept_of c.args.self.now) c.args.replies.now.items none serving represents)

-- the link was taken out of the others
taken_out : (g : Over) (c : After-put_back g) → IsTakenOut c.args.number c.in-Some.link (kept_of c.args.self.now) (record (kept_of c.args.self.now) { links = c.swap_remove.new.self.entries })
taken_out g c =
    let kept = kept_of c.args.self.now in
    let rest = record kept { links = c.swap_remove.new.self.entries } in
    let count : length c.swap_remove.new.self.entries + 1 ≡ length c.args.self.now.links.entries =
    sym (ap (λ (o : Option Link). length c.swap_remove.new.self.entries + (if is_some o then 1 else 0)) c.in-Some.is) ∙ c.swap_remove.ensures.len in
    out-by c.args.number c.in-Some.link kept rest refl refl (sym c.swap_remove.ensures.value ∙ c.in-Some.is) c.swap_remove.ensures.updates.0 count c.swap_remove.ensures.unique

pub returns-clause-answers : goal.returns-clause-answers
returns-clause-answers g c =
    let kept = kept_of c.args.self.now in
    let rest = record kept { links = c.swap_remove.new.self.entries } in
    let does : Does (λ s. octets_heard c.args.moment c.args.number s c.args.octets.now) kept c.new-said.result.items (kept_of c.put_back.new.self) c.hear_all-heard.new.replies.items =
    back-answers c.args.moment c.args.number c.in-Some.link c.hear_all-heard.new.link c.args.octets.now kept rest (kept_of c.hear_all-heard.new.self) (kept_of c.put_back.new.self)
    c.new-said.result.items c.hear_all-heard.new.replies.items c.hear_all-heard.result (Ok tt) (taken_out g (goal.at.returns-clause-answers g c).After-put_back)
    c.hear_all-heard.ensures.answers c.in_ok-put_back.ensures.error c.in_ok-put_back.ensures.answers
    c.hear_all-heard.ensures.number c.hear_all-heard.ensures.apart c.put_back.ensures.rest.0 c.put_back.ensures.rest.1 in
    appended (λ s. octets_heard c.args.moment c.args.number s c.args.octets.now) kept (kept_of c.put_back.new.self) c.new-said.result.items c.hear_all-heard.new.replies.items c.args.replies.now.items c.append.new.self.items
    c.new-said.ensures.items does c.in_ok-append.ensures.items

pub returns-clause-represented : goal.returns-clause-represented
returns-clause-represented g c = λ serving represents stands.
    let kept = kept_of c.args.self.now in
    let rest = record kept { links = c.swap_remove.new.self.entries } in
    back-represented g.D.Disk.shown g.D.Disk.may_leave c.hear_all-heard.new.self.store c.put_back.new.self.store c.hear_all-heard.result (Ok tt)
    (c.hear_all-heard.ensures.represented serving
    (out-represents c.args.number c.in-Some.link kept rest serving represents (taken_out g (goal.at.returns-clause-represented g c).After-put_back)) stands) c.in_ok-put_back.ensures.error c.put_back.ensures.rest.0

-- what is represented while the octets are heard
along : (g : Over) (c : After-put_back g)
    → KeepsAlong (λ s. octets_heard c.args.moment c.args.number s c.args.octets.now) g.D.Disk.shown g.D.Disk.may_leave g.D.Disk.moment g.D.Disk.left_since (kept_of c.args.self.now) (kept_of c.put_back.new.self)
along g c =
    back-along g.D.Disk.shown g.D.Disk.may_leave g.D.Disk.moment g.D.Disk.left_since c.args.moment c.args.number c.in-Some.link c.args.octets.now (kept_of c.args.self.now)
    (record (kept_of c.args.self.now) { links = c.swap_remove.new.self.entries }) (kept_of c.hear_all-heard.new.self) (kept_of c.put_back.new.self) (taken_out g c) c.hear_all-heard.ensures.any_moment c.put_back.ensures.rest.0

pub returns-in_err-put_back-clause-any_moment : goal.returns-in_err-put_back-clause-any_moment
returns-in_err-put_back-clause-any_moment g c = along g (goal.at.returns-in_err-put_back-clause-any_moment g c).After-put_back

pub returns-in_err-append-clause-any_moment : goal.returns-in_err-append-clause-any_moment
returns-in_err-append-clause-any_moment g c = along g (goal.at.returns-in_err-append-clause-any_moment g c).After-put_back

pub returns-clause-any_moment : goal.returns-clause-any_moment
returns-clause-any_moment g c = along g (goal.at.returns-clause-any_moment g c).After-put_back

pub returns-in_err-put_back-clause-full : goal.returns-in_err-put_back-clause-full
returns-in_err-put_back-clause-full g c = λ serving represents.
    let p = err_from_is_err_and c.from_residual.result c.from_residual.ensures.1 in
    rw (p.1, p.2) (back-full c.args.moment c.args.number c.in-Some.link c.args.octets.now (kept_of c.args.self.now) (record (kept_of c.args.self.now) { links = c.swap_remove.new.self.entries })
    c.hear_all-heard.new.self.store c.put_back.new.self.store c.hear_all-heard.result (Err c.in_err-put_back.field-0.0) (taken_out g (goal.at.returns-in_err-put_back-clause-full g c).After-put_back)
    c.hear_all-heard.ensures.full c.put_back.ensures.rest.0 c.in_err-put_back.ensures.error serving represents)

pub returns-in_default-clause-commits : goal.returns-in_default-clause-commits
returns-in_default-clause-commits g c = λ serving represents.
    let none : link_of c.args.number c.args.self.now.links.entries ≡ None = sym c.swap_remove.ensures.value ∙ c.in_default.is in
    none-heard-commits (telling g.D.Disk.plan g.D.Disk.state g.D.Disk.lack_count) c.args.moment c.args.number c.args.octets.now (kept_of c.args.self.now) none serving represents

pub returns-in_err-put_back-clause-commits : goal.returns-in_err-put_back-clause-commits
returns-in_err-put_back-clause-commits g c = λ serving represents.
    let p = err_from_is_err_and c.from_residual.result c.from_residual.ensures.1 in
    rw (p.1, p.2) (back-commits (telling g.D.Disk.plan g.D.Disk.state g.D.Disk.lack_count) c.args.moment c.args.number c.in-Some.link c.args.octets.now (kept_of c.args.self.now) (record (kept_of c.args.self.now) { links = c.swap_remove.new.self.entries })
    c.hear_all-heard.new.self.store c.put_back.new.self.store c.hear_all-heard.result (Err c.in_err-put_back.field-0.0) (taken_out g (goal.at.returns-in_err-put_back-clause-commits g c).After-put_back)
    c.hear_all-heard.ensures.commits c.put_back.ensures.rest.0 c.in_err-put_back.ensures.error serving represents)

pub returns-in_err-append-clause-commits : goal.returns-in_err-append-clause-commits
returns-in_err-append-clause-commits g c = λ serving represents.
    let p = err_from_is_err_and c.from_residual-in_err-append.result c.from_residual-in_err-append.ensures.1 in
    rw (p.1, p.2) (all-made (telling g.D.Disk.plan g.D.Disk.state g.D.Disk.lack_count) (commits_heard c.args.moment c.args.number serving c.args.octets.now) c.args.self.now.store c.put_back.new.self.store
    (back-commits (telling g.D.Disk.plan g.D.Disk.state g.D.Disk.lack_count) c.args.moment c.args.number c.in-Some.link c.args.octets.now (kept_of c.args.self.now) (record (kept_of c.args.self.now) { links = c.swap_remove.new.self.entries })
    c.hear_all-heard.new.self.store c.put_back.new.self.store c.hear_all-heard.result (Ok tt) (taken_out g (goal.at.returns-in_err-append-clause-commits g c).After-put_back)
    c.hear_all-heard.ensures.commits c.put_back.ensures.rest.0 c.in_ok-put_back.ensures.error serving represents))

pub returns-clause-commits : goal.returns-clause-commits
returns-clause-commits g c =
    back-commits (telling g.D.Disk.plan g.D.Disk.state g.D.Disk.lack_count) c.args.moment c.args.number c.in-Some.link c.args.octets.now (kept_of c.args.self.now) (record (kept_of c.args.self.now) { links = c.swap_remove.new.self.entries })
    c.hear_all-heard.new.self.store c.put_back.new.self.store c.hear_all-heard.result (Ok tt) (taken_out g (goal.at.returns-clause-commits g c).After-put_back)
    c.hear_all-heard.ensures.commits c.put_back.ensures.rest.0 c.in_ok-put_back.ensures.error
