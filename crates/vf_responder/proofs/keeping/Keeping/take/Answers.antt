use Rattle.std.proofs.lemmas.Result.{err_from_is_err_and}
use Rattle.std.proofs.Common.{◌≡◌, Bool, Ok, Err, sym, subst, ◌∙◌}
use Rattle.std.specs.Prelude.{IfSome, not}
use Rattle.vf_filestore.specs.Ranges.{IsRead}
use Rattle.vf_journal.specs.declared.error.JournalError.TheVariants.{NoMemory}
use Rattle.vf_party.specs.Hearing.{outcome_in}
use Rattle.vf_party_steps.specs.Steps.{HoldersOfFiles}
use Rattle.vf_stack.specs.declared.indication.Indication.{Indication}
use Rattle.vf_store.specs.StoreState.{IsRepresented}
use Rattle.vf_tables.specs.Changes.{after_all}
use Rattle.vf_tables.specs.declared.tables.Tables.{Tables}
use Rattle.vf_responder.specs.Represents.{GivesWay, KeepsAlong, kept_of, with_link}
use Rattle.vf_responder.specs.Steps.{IsAsked, TakesOn, taking}
use Rattle.vf_responder.proofs.TakeLemmas.{heard-answers, said-of, still-along, take-along, take-kept, way-over}
use Rattle.vf_responder.proofs.FullLemmas.{take-full}
use Rattle.vf_responder.proofs.keeping.Keeping.take.Given.{Over}
use Rattle.vf_responder.proofs.CommitLemmas.{all-made, none-begun}
use Rattle.vf_responder.proofs.CommitParts.{take-commits}
use Rattle.vf_responder.specs.Commits.{commit_of, commits_taking, telling}
use Rattle.vf_responder.proofs.keeping.Keeping.take.Goals as goal
use Rattle.vf_responder.proofs.keeping.Keeping.take.Goals.{After-give_way, After-keep}

-- where the disk isn't called nothing else is represented
unchanged : (g : Over) (c : After-give_way g) (indication : Indication)
    → KeepsAlong (λ serving. taking c.args.moment c.args.link.now.number serving indication c.args.message) g.D.Disk.shown g.D.Disk.may_leave g.D.Disk.moment g.D.Disk.left_since
    (with_link c.args.link.now (kept_of c.args.self.now)) (kept_of c.give_way.new.self)
unchanged g c indication =
    still-along g.D.Disk.shown g.D.Disk.may_leave g.D.Disk.moment g.D.Disk.left_since g.met.D.Disk.only_now c.args.link.now (kept_of c.args.self.now) c.give_way.new.self.store
    (λ serving. taking c.args.moment c.args.link.now.number serving indication c.args.message) c.give_way.ensures.store

pub returns-in_default-clause-any_moment : goal.returns-in_default-clause-any_moment
returns-in_default-clause-any_moment g c = λ indication read ask. unchanged g (goal.at.returns-in_default-clause-any_moment g c).After-give_way indication

pub returns-in_err-goes-clause-any_moment : goal.returns-in_err-goes-clause-any_moment
returns-in_err-goes-clause-any_moment g c = λ indication read ask.
    still-along g.D.Disk.shown g.D.Disk.may_leave g.D.Disk.moment g.D.Disk.left_since g.met.D.Disk.only_now c.args.link.now (kept_of c.args.self.now) c.lend-spare.new.self.store
    (λ serving. taking c.args.moment c.args.link.now.number serving indication c.args.message) (c.lend-spare.ensures.store ∙ c.give_way.ensures.store)

-- what is lent is a second of the tables that are kept, and what comes back is one after the changes
pub turn-requires : goal.turn-requires
turn-requires g c =
    let same : c.give_way.new.self.store.tables ≡ c.tables-tables.result.now = cc in
    subst (λ (t : Tables). IfSome c.lend-spare.result (λ second. second ≡ t)) same c.lend-spare.ensures.lent

pub keep-requires : goal.keep-requires
keep-requires g c =
    subst (λ (t : Tables). IfSome c.turn.new.spare (λ next. next ≡ after_all t c.in_ok-goes.field-0.changes)) c.tables-tables.ensures c.in_ok-goes.ensures.ahead

-- lending changes nothing of what is kept
stood : (g : Over) (c : After-keep g) → c.lend-spare.new.self.store ≡ c.args.self.now.store
stood g c = c.lend-spare.ensures.store ∙ c.give_way.ensures.store

gave : (g : Over) (c : After-keep g) → GivesWay c.args.link.now c.args.message (kept_of c.args.self.now) c.args.replies.now.items (kept_of c.lend-spare.new.self) c.give_way.new.replies.items
gave g c =
    let links : (kept_of c.lend-spare.new.self).links ≡ (kept_of c.give_way.new.self).links = cc in
    way-over c.args.link.now c.args.message (kept_of c.args.self.now) c.give_way.new.self.store c.lend-spare.new.self.store c.give_way.new.self.locks c.lend-spare.new.self.locks
    (kept_of c.give_way.new.self).links (kept_of c.lend-spare.new.self).links c.args.replies.now.items c.give_way.new.replies.items c.lend-spare.ensures.store c.lend-spare.ensures.rest.1 links c.in-Ok.ensures.way

-- the party's turn, by the tables that are kept
turned : (g : Over) (c : After-keep g)
    → TakesOn c.lend-spare.new.self.store.tables c.lend-spare.new.self.locks c.turn.new.locks c.args.link.now c.args.moment c.args.asked c.args.message (outcome_in c.turn.new.self.party c.in_ok-goes.field-0)
turned g c =
    subst (λ (t : Tables). TakesOn t c.lend-spare.new.self.locks c.turn.new.locks c.args.link.now c.args.moment c.args.asked c.args.message (outcome_in c.turn.new.self.party c.in_ok-goes.field-0)) c.tables-tables.ensures c.in_ok-goes.ensures.taken

-- what is represented while its changes are kept is along the answers
along : (g : Over) (c : After-keep g) (indication : Indication) → IsRead c.args.message → IsAsked c.args.asked indication
    → KeepsAlong (λ serving. taking c.args.moment c.args.link.now.number serving indication c.args.message) g.D.Disk.shown g.D.Disk.may_leave g.D.Disk.moment g.D.Disk.left_since
    (with_link c.args.link.now (kept_of c.args.self.now)) (kept_of c.keep.new.self)
along g c =
    take-along g.D.Disk.shown g.D.Disk.may_leave c.args.link.now (kept_of c.args.self.now) (kept_of c.lend-spare.new.self) c.turn.new.locks c.args.moment c.args.asked c.args.message (outcome_in c.turn.new.self.party c.in_ok-goes.field-0)
    c.args.replies.now.items c.give_way.new.replies.items (stood g c) (gave g c) (turned g c)
    g.D.Disk.moment g.D.Disk.left_since c.keep.new.self.store.disk c.keep.ensures.any_moment

pub returns-in-Err-clause-any_moment : goal.returns-in-Err-clause-any_moment
returns-in-Err-clause-any_moment g c = along g (goal.at.returns-in-Err-clause-any_moment g c).After-keep

pub returns-in_err-speak-clause-any_moment : goal.returns-in_err-speak-clause-any_moment
returns-in_err-speak-clause-any_moment g c = along g (goal.at.returns-in_err-speak-clause-any_moment g c).After-keep

pub returns-clause-any_moment : goal.returns-clause-any_moment
returns-clause-any_moment g c = along g (goal.at.returns-clause-any_moment g c).After-keep

pub returns-clause-represented : goal.returns-clause-represented
returns-clause-represented g c =
    take-kept g.D.Disk.shown g.D.Disk.may_leave c.args.link.now (kept_of c.args.self.now) (kept_of c.lend-spare.new.self) c.turn.new.locks c.args.moment c.args.asked c.args.message (outcome_in c.turn.new.self.party c.in_ok-goes.field-0)
    c.args.replies.now.items c.give_way.new.replies.items (stood g (goal.at.returns-clause-represented g c).After-keep) (gave g (goal.at.returns-clause-represented g c).After-keep) (turned g (goal.at.returns-clause-represented g c).After-keep)
    (IsRepresented g.D.Disk.shown g.D.Disk.may_leave c.keep.new.self.store) c.in_default-keep.ensures.represented

pub returns-clause-answers : goal.returns-clause-answers
returns-clause-answers g c = λ indication read ask.
    let link = c.args.link.now in
    let heard = c.in_ok-goes.field-0 in
    let links : (kept_of c.keep.new.self).links ≡ (kept_of c.lend-spare.new.self).links = cc in
    heard-answers link c.speak.new.self (kept_of c.args.self.now) (kept_of c.lend-spare.new.self) (kept_of c.keep.new.self) c.args.moment indication c.args.asked c.args.message c.turn.new.self.party heard
    c.args.replies.now.items c.give_way.new.replies.items c.speak.new.replies.items read ask (gave g (goal.at.returns-clause-answers g c).After-keep)
    (subst (λ (l : HoldersOfFiles). TakesOn c.lend-spare.new.self.store.tables c.lend-spare.new.self.locks l link c.args.moment c.args.asked c.args.message (outcome_in c.turn.new.self.party heard)) (sym c.keep.ensures.rest.1)
    (turned g (goal.at.returns-clause-answers g c).After-keep))
    c.in_default-keep.ensures.tables links
    (said-of link c.turn.new.self c.speak.new.self c.args.asked heard.said.items (not heard.goes) c.give_way.new.replies.items c.speak.new.replies.items
    c.turn.ensures.stack c.turn.ensures.number c.in_ok-speak.ensures.said)
    c.speak.ensures.party (c.speak.ensures.number ∙ c.turn.ensures.number)

pub returns-in-Err-clause-full : goal.returns-in-Err-clause-full
returns-in-Err-clause-full g c = λ indication read ask serving represents.
    take-full c.args.link.now (kept_of c.args.self.now) (kept_of c.lend-spare.new.self) c.turn.new.locks c.args.moment c.args.asked c.args.message (outcome_in c.turn.new.self.party c.in_ok-goes.field-0)
    c.args.replies.now.items c.give_way.new.replies.items c.keep.new.self.store c.in-Err.error (gave g (goal.at.returns-in-Err-clause-full g c).After-keep) (turned g (goal.at.returns-in-Err-clause-full g c).After-keep)
    c.in-Err.ensures.full indication ask serving represents

pub returns-in_default-clause-commits : goal.returns-in_default-clause-commits
returns-in_default-clause-commits g c = λ indication ask serving represents.
    none-begun (telling g.D.Disk.plan g.D.Disk.state g.D.Disk.lack_count) (commits_taking c.args.moment c.args.link.now.number serving indication c.args.message) c.args.self.now.store c.give_way.new.self.store c.give_way.ensures.store

pub returns-in_err-goes-clause-commits : goal.returns-in_err-goes-clause-commits
returns-in_err-goes-clause-commits g c = λ indication ask serving represents.
    let p = err_from_is_err_and c.from_residual.result c.from_residual.ensures.1 in
    rw (p.1, p.2) (none-begun (telling g.D.Disk.plan g.D.Disk.state g.D.Disk.lack_count) (commits_taking c.args.moment c.args.link.now.number serving indication c.args.message) c.args.self.now.store c.lend-spare.new.self.store (c.lend-spare.ensures.store ∙ c.give_way.ensures.store))

pub returns-in-Err-clause-commits : goal.returns-in-Err-clause-commits
returns-in-Err-clause-commits g c =
    take-commits {T = Bool} (telling g.D.Disk.plan g.D.Disk.state g.D.Disk.lack_count) c.args.link.now (kept_of c.args.self.now) (kept_of c.lend-spare.new.self) c.turn.new.locks c.args.moment c.args.asked c.args.message (outcome_in c.turn.new.self.party c.in_ok-goes.field-0)
    c.args.replies.now.items c.give_way.new.replies.items c.keep.new.self.store (Err c.in-Err.error) (stood g (goal.at.returns-in-Err-clause-commits g c).After-keep) (gave g (goal.at.returns-in-Err-clause-commits g c).After-keep) (turned g (goal.at.returns-in-Err-clause-commits g c).After-keep)
    c.in-Err.ensures.commits

pub returns-in_err-speak-clause-commits : goal.returns-in_err-speak-clause-commits
returns-in_err-speak-clause-commits g c = λ indication ask serving represents.
    let p = err_from_is_err_and c.from_residual-in_err-speak.result c.from_residual-in_err-speak.ensures.1 in
    rw (p.1, p.2) (take-commits {T = Bool} (telling g.D.Disk.plan g.D.Disk.state g.D.Disk.lack_count) c.args.link.now (kept_of c.args.self.now) (kept_of c.lend-spare.new.self) c.turn.new.locks c.args.moment c.args.asked c.args.message (outcome_in c.turn.new.self.party c.in_ok-goes.field-0)
    c.args.replies.now.items c.give_way.new.replies.items c.keep.new.self.store (Err NoMemory) (stood g (goal.at.returns-in_err-speak-clause-commits g c).After-keep) (gave g (goal.at.returns-in_err-speak-clause-commits g c).After-keep) (turned g (goal.at.returns-in_err-speak-clause-commits g c).After-keep)
    (all-made (telling g.D.Disk.plan g.D.Disk.state g.D.Disk.lack_count) (commit_of c.lend-spare.new.self.store.tables c.in_ok-goes.field-0.changes) c.lend-spare.new.self.store c.keep.new.self.store c.in_default-keep.ensures.commits) indication ask serving represents)

pub returns-clause-commits : goal.returns-clause-commits
returns-clause-commits g c =
    take-commits {T = Bool} (telling g.D.Disk.plan g.D.Disk.state g.D.Disk.lack_count) c.args.link.now (kept_of c.args.self.now) (kept_of c.lend-spare.new.self) c.turn.new.locks c.args.moment c.args.asked c.args.message (outcome_in c.turn.new.self.party c.in_ok-goes.field-0)
    c.args.replies.now.items c.give_way.new.replies.items c.keep.new.self.store (Ok c.in_ok-goes.field-0.goes) (stood g (goal.at.returns-clause-commits g c).After-keep) (gave g (goal.at.returns-clause-commits g c).After-keep) (turned g (goal.at.returns-clause-commits g c).After-keep)
    c.in_default-keep.ensures.commits
