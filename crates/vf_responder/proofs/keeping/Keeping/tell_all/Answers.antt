use Rattle.std.proofs.Common.{◌≡◌, ◌∷◌, Bool, true, false, List, refl, subst, ◌∙◌, arith}
use Rattle.std.proofs.lemmas.Grind.{common_steps}
use Rattle.std.specs.List.{AllByRecursion}
use Rattle.std.proofs.lemmas.Result.{err_from_is_err_and}
use Rattle.vf_stack.specs.declared.indication.Indication.{Indication}
use Rattle.vf_responder.proofs.ChainLemmas.{IsOnward, onward-none}
use Rattle.vf_responder.proofs.LoopLemmas.{apart-next, tell-round, tell-run, told-end}
use Rattle.vf_responder.proofs.MapLemmas.{last-free}
use Rattle.vf_responder.proofs.TakeLemmas.{still-along}
use Rattle.vf_responder.specs.Answers.{at_end, told, told_all}
use Rattle.vf_responder.specs.Represents.{Does, kept_of, put_back, with_link}
use Rattle.vf_responder.specs.Steps.{IsReadTold}
use Rattle.vf_responder.proofs.FullLemmas.{tell-full}
use Rattle.vf_responder.proofs.CommitLemmas.{IsCommitted, committed-none}
use Rattle.vf_responder.proofs.CommitRounds.{tell-committed, tell-up, told-committed}
use Rattle.vf_responder.specs.Commits.{commits_told_all, telling}
use Rattle.vf_responder.proofs.keeping.Keeping.tell_all.Goals as goal

pub loop-indication-init : goal.loop-indication-init
loop-indication-init g c =
    let number = c.args.link.now.number in
    let kept = with_link c.args.link.now (kept_of c.args.self.now) in
    let same : c.args.indications.items ≡ c.into_iter-indication-iterator.result.rest.items = grind (arith, common_steps) in
    record {
      read = λ all. subst (λ (items : List Indication). AllByRecursion IsReadTold items) same all;
      answers = λ all serving represents.
          subst (λ (items : List Indication). IsOnward (told_all c.args.moment number serving c.args.indications.items) serving c.args.replies.now.items kept c.args.replies.now.items (λ s. told_all c.args.moment number s items)) same
          (onward-none serving c.args.replies.now.items kept (λ s. told_all c.args.moment number s c.args.indications.items) represents);
      represented = λ all serving represents stands. stands;
      run = λ all. still-along g.D.Disk.shown g.D.Disk.may_leave g.D.Disk.moment g.D.Disk.left_since g.met.D.Disk.only_now c.args.link.now (kept_of c.args.self.now) c.args.self.now.store
          (λ serving. told_all c.args.moment number serving c.args.indications.items) refl;
      commits = λ all serving represents.
          subst (λ (items : List Indication). IsCommitted (telling g.D.Disk.plan g.D.Disk.state g.D.Disk.lack_count) (commits_told_all c.args.moment number serving c.args.indications.items) kept c.args.self.now.store c.args.self.now.store (λ s. commits_told_all c.args.moment number s items)) same
          (committed-none (telling g.D.Disk.plan g.D.Disk.state g.D.Disk.lack_count) serving kept c.args.self.now.store (λ s. commits_told_all c.args.moment number s c.args.indications.items) represents);
      faults = refl;
      limit = refl;
      number = refl;
      fewer = omega arith;
      apart = λ none. none;
    }

pub returns-in_err-tell-clause-any_moment : goal.returns-in_err-tell-clause-any_moment
returns-in_err-tell-clause-any_moment g c = λ all serving represents stands.
    let now = c.loop-indication.invariant in
    let read = subst (λ (items : List Indication). AllByRecursion IsReadTold items) c.in-Some.ensures.steps.0 (now.read all) in
    tell-run g.D.Disk.moment g.D.Disk.left_since c.args.self.now.store.disk c.loop-indication.self.store.disk c.tell.new.self.store.disk c.args.moment c.args.link.now.number c.loop-indication.link.number
    (told_all c.args.moment c.args.link.now.number serving c.args.indications.items) serving c.args.replies.now.items c.loop-indication.replies.items (with_link c.loop-indication.link (kept_of c.loop-indication.self))
    c.in-Some.indication c.next.new.self.rest.items c.loop-indication.indication-iterator.rest.items now.number c.in-Some.ensures.steps.0 (now.answers all serving represents) (now.run all serving represents stands)
    (λ here stood. c.tell.ensures.any_moment read.0 here stood (now.represented all serving represents stands))

pub returns-then-not-branch-clause-answers : goal.returns-then-not-branch-clause-answers
returns-then-not-branch-clause-answers g c = λ all serving represents.
    let now = c.loop-indication.invariant in
    let number = c.args.link.now.number in
    let whole = told_all c.args.moment number serving c.args.indications.items in
    let before = with_link c.loop-indication.link (kept_of c.loop-indication.self) in
    let read = subst (λ (items : List Indication). AllByRecursion IsReadTold items) c.in-Some.ensures.steps.0 (now.read all) in
    let goes : c.in_ok-tell.field-0 ≡ false = grind (arith, common_steps) in
    let does = subst (λ (b : Bool). Does (λ s. told c.args.moment c.loop-indication.link.number s c.in-Some.indication) before c.loop-indication.replies.items (put_back b c.tell.new.link (kept_of c.tell.new.self)) c.tell.new.replies.items) goes
    (c.in_ok-tell.ensures.answers read.0) in
    told-end c.args.moment number whole serving c.args.replies.now.items c.tell.new.replies.items (kept_of c.tell.new.self) c.next.new.self.rest.items
    (tell-round c.args.moment number c.loop-indication.link.number whole serving c.args.replies.now.items c.loop-indication.replies.items c.tell.new.replies.items before (kept_of c.tell.new.self)
    c.in-Some.indication c.next.new.self.rest.items c.loop-indication.indication-iterator.rest.items now.number c.in-Some.ensures.steps.0 (now.answers all serving represents) does)
    (apart-next number c.loop-indication.link.number c.loop-indication.self.links.entries c.tell.new.self.links.entries now.number c.tell.ensures.apart
    (now.apart (last-free c.args.self.now.links.entries number c.args.link.now represents.distinct)))

pub returns-then-not-branch-clause-any_moment : goal.returns-then-not-branch-clause-any_moment
returns-then-not-branch-clause-any_moment g c = λ all serving represents stands.
    let now = c.loop-indication.invariant in
    let read = subst (λ (items : List Indication). AllByRecursion IsReadTold items) c.in-Some.ensures.steps.0 (now.read all) in
    tell-run g.D.Disk.moment g.D.Disk.left_since c.args.self.now.store.disk c.loop-indication.self.store.disk c.tell.new.self.store.disk c.args.moment c.args.link.now.number c.loop-indication.link.number
    (told_all c.args.moment c.args.link.now.number serving c.args.indications.items) serving c.args.replies.now.items c.loop-indication.replies.items (with_link c.loop-indication.link (kept_of c.loop-indication.self))
    c.in-Some.indication c.next.new.self.rest.items c.loop-indication.indication-iterator.rest.items now.number c.in-Some.ensures.steps.0 (now.answers all serving represents) (now.run all serving represents stands)
    (λ here stood. c.tell.ensures.any_moment read.0 here stood (now.represented all serving represents stands))

pub loop-indication-preserved : goal.loop-indication-preserved
loop-indication-preserved g c =
    let now = c.loop-indication.invariant in
    let number = c.args.link.now.number in
    let before = with_link c.loop-indication.link (kept_of c.loop-indication.self) in
    let read : AllByRecursion IsReadTold c.args.indications.items → AllByRecursion IsReadTold (c.in-Some.indication ∷ c.next.new.self.rest.items) =
    λ all. subst (λ (items : List Indication). AllByRecursion IsReadTold items) c.in-Some.ensures.steps.0 (now.read all) in
    let goes : c.in_ok-tell.field-0 ≡ true = grind (arith, common_steps) in
    record {
      read = λ all. (read all).1;
      answers = λ all serving represents.
          tell-round c.args.moment number c.loop-indication.link.number (told_all c.args.moment number serving c.args.indications.items) serving c.args.replies.now.items c.loop-indication.replies.items c.tell.new.replies.items
          before (with_link c.tell.new.link (kept_of c.tell.new.self)) c.in-Some.indication c.next.new.self.rest.items c.loop-indication.indication-iterator.rest.items now.number c.in-Some.ensures.steps.0
          (now.answers all serving represents)
          (subst (λ (b : Bool). Does (λ s. told c.args.moment c.loop-indication.link.number s c.in-Some.indication) before c.loop-indication.replies.items (put_back b c.tell.new.link (kept_of c.tell.new.self)) c.tell.new.replies.items) goes
          (c.in_ok-tell.ensures.answers (read all).0));
      represented = λ all serving represents stands.
          let so_far = now.answers all serving represents in
          c.in_ok-tell.ensures.represented (read all).0 (at_end serving so_far.done) so_far.answers.represents (now.represented all serving represents stands);
      run = λ all serving represents stands.
          tell-run g.D.Disk.moment g.D.Disk.left_since c.args.self.now.store.disk c.loop-indication.self.store.disk c.tell.new.self.store.disk c.args.moment number c.loop-indication.link.number
          (told_all c.args.moment number serving c.args.indications.items) serving c.args.replies.now.items c.loop-indication.replies.items before
          c.in-Some.indication c.next.new.self.rest.items c.loop-indication.indication-iterator.rest.items now.number c.in-Some.ensures.steps.0 (now.answers all serving represents) (now.run all serving represents stands)
          (λ here stood. c.tell.ensures.any_moment (read all).0 here stood (now.represented all serving represents stands));
      commits = λ all serving represents.
          tell-committed (telling g.D.Disk.plan g.D.Disk.state g.D.Disk.lack_count) c.args.moment number c.loop-indication.link.number (commits_told_all c.args.moment c.args.link.now.number serving c.args.indications.items) before (with_link c.tell.new.link (kept_of c.tell.new.self)) c.args.self.now.store c.loop-indication.self.store c.tell.new.self.store now.number
          c.in-Some.indication c.next.new.self.rest.items c.loop-indication.indication-iterator.rest.items c.in-Some.ensures.steps.0 (now.commits all serving represents)
          c.loop-indication.replies.items c.tell.new.replies.items
          (subst (λ (b : Bool). Does (λ s. told c.args.moment c.loop-indication.link.number s c.in-Some.indication) before c.loop-indication.replies.items (put_back b c.tell.new.link (kept_of c.tell.new.self)) c.tell.new.replies.items) goes
          (c.in_ok-tell.ensures.answers (read all).0)) (c.in_ok-tell.ensures.commits (read all).0);
      faults = c.in_ok-tell.ensures.causes ∙ now.faults;
      limit = c.tell.ensures.limit ∙ now.limit;
      number = c.tell.ensures.number ∙ now.number;
      fewer = omega (arith, c.tell.ensures.fewer, now.fewer);
      apart = λ none. apart-next number c.loop-indication.link.number c.loop-indication.self.links.entries c.tell.new.self.links.entries now.number c.tell.ensures.apart (now.apart none);
    }

pub returns-in_err-tell-clause-full : goal.returns-in_err-tell-clause-full
returns-in_err-tell-clause-full g c = λ all serving represents.
    let now = c.loop-indication.invariant in
    let read = subst (λ (items : List Indication). AllByRecursion IsReadTold items) c.in-Some.ensures.steps.0 (now.read all) in
    let p = err_from_is_err_and c.from_residual.result c.from_residual.ensures.1 in
    rw (p.1, p.2) (tell-full c.tell.new.self.store c.in_err-tell.field-0.0 c.args.moment c.args.link.now.number c.loop-indication.link.number
    (told_all c.args.moment c.args.link.now.number serving c.args.indications.items) serving c.args.replies.now.items c.loop-indication.replies.items (with_link c.loop-indication.link (kept_of c.loop-indication.self))
    c.in-Some.indication c.next.new.self.rest.items c.loop-indication.indication-iterator.rest.items now.number c.in-Some.ensures.steps.0 (now.answers all serving represents)
    (λ here stood. c.in_err-tell.ensures.full read.0 here stood))

pub returns-in_err-tell-clause-commits : goal.returns-in_err-tell-clause-commits
returns-in_err-tell-clause-commits g c = λ all serving represents.
    let p = err_from_is_err_and c.from_residual.result c.from_residual.ensures.1 in
    let now = c.loop-indication.invariant in
    let read = subst (λ (items : List Indication). AllByRecursion IsReadTold items) c.in-Some.ensures.steps.0 (now.read all) in
    rw (p.1, p.2) (tell-up (telling g.D.Disk.plan g.D.Disk.state g.D.Disk.lack_count) c.args.moment c.args.link.now.number c.loop-indication.link.number (commits_told_all c.args.moment c.args.link.now.number serving c.args.indications.items) (with_link c.loop-indication.link (kept_of c.loop-indication.self)) (with_link c.loop-indication.link (kept_of c.loop-indication.self)) c.args.self.now.store c.loop-indication.self.store c.tell.new.self.store now.number
    c.in-Some.indication c.next.new.self.rest.items c.loop-indication.indication-iterator.rest.items c.in-Some.ensures.steps.0 (now.commits all serving represents) c.in_err-tell.field-0.0 (c.in_err-tell.ensures.commits read.0))

pub returns-then-not-branch-clause-commits : goal.returns-then-not-branch-clause-commits
returns-then-not-branch-clause-commits g c = λ all serving represents.
    let now = c.loop-indication.invariant in
    let number = c.args.link.now.number in
    let before = with_link c.loop-indication.link (kept_of c.loop-indication.self) in
    let read = subst (λ (items : List Indication). AllByRecursion IsReadTold items) c.in-Some.ensures.steps.0 (now.read all) in
    let goes : c.in_ok-tell.field-0 ≡ false = grind (arith, common_steps) in
    let does = subst (λ (b : Bool). Does (λ s. told c.args.moment c.loop-indication.link.number s c.in-Some.indication) before c.loop-indication.replies.items (put_back b c.tell.new.link (kept_of c.tell.new.self)) c.tell.new.replies.items) goes
    (c.in_ok-tell.ensures.answers read.0) in
    told-committed (telling g.D.Disk.plan g.D.Disk.state g.D.Disk.lack_count) c.args.moment number (commits_told_all c.args.moment c.args.link.now.number serving c.args.indications.items) (kept_of c.tell.new.self) c.args.self.now.store c.tell.new.self.store c.next.new.self.rest.items
    (tell-committed (telling g.D.Disk.plan g.D.Disk.state g.D.Disk.lack_count) c.args.moment number c.loop-indication.link.number (commits_told_all c.args.moment c.args.link.now.number serving c.args.indications.items) before (kept_of c.tell.new.self) c.args.self.now.store c.loop-indication.self.store c.tell.new.self.store now.number
    c.in-Some.indication c.next.new.self.rest.items c.loop-indication.indication-iterator.rest.items c.in-Some.ensures.steps.0 (now.commits all serving represents)
    c.loop-indication.replies.items c.tell.new.replies.items does (c.in_ok-tell.ensures.commits read.0))
    (apart-next number c.loop-indication.link.number c.loop-indication.self.links.entries c.tell.new.self.links.entries now.number c.tell.ensures.apart
    (now.apart (last-free c.args.self.now.links.entries number c.args.link.now represents.distinct)))
