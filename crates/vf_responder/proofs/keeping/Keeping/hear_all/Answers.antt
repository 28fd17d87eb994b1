use Rattle.std.proofs.Common.{◌≡◌, ◌≤◌, Bool, length, refl, subst, ◌∙◌, arith}
use Rattle.std.proofs.lemmas.Grind.{common_steps}
use Rattle.std.proofs.lemmas.Result.{err_from_is_err_and}
use Rattle.vf_responder.proofs.BegunLemmas.{still-along}
use Rattle.vf_responder.proofs.ChainLemmas.{onward-none}
use Rattle.vf_responder.proofs.LoopLemmas.{heard-end}
use Rattle.vf_responder.proofs.MapLemmas.{last-free}
use Rattle.vf_responder.proofs.PieceLoopLemmas.{apart-on, none-left, now, now-represents, part-heard, part-run}
use Rattle.vf_responder.specs.Answers.{octets_heard}
use Rattle.vf_responder.specs.Represents.{Does, kept_of, put_back, with_link}
use Rattle.vf_responder.proofs.FullLemmas.{piece-full}
use Rattle.vf_responder.proofs.CommitLemmas.{committed-none}
use Rattle.vf_responder.proofs.CommitRounds.{heard-committed, none-left-committed, piece-committed, piece-up}
use Rattle.vf_responder.specs.Commits.{commits_heard, telling}
use Rattle.vf_responder.proofs.keeping.Keeping.hear_all.Goals as goal

pub loop-rest-init : goal.loop-rest-init
loop-rest-init g c =
    let kept = with_link c.args.link.now (kept_of c.args.self.now) in
    record {
      answers = λ serving represents.
          onward-none serving c.args.replies.now.items kept (λ s. octets_heard c.args.moment c.args.link.now.number s c.args.octets.now) represents;
      represented = λ serving represents stands. stands;
      run = λ serving represents stands.
          still-along g.D.Disk.shown g.D.Disk.may_leave g.D.Disk.moment g.D.Disk.left_since g.met.D.Disk.only_now
          (λ s. octets_heard c.args.moment c.args.link.now.number s c.args.octets.now) kept kept refl serving represents stands;
      commits = λ serving represents.
          committed-none (telling g.D.Disk.plan g.D.Disk.state g.D.Disk.lack_count) serving kept c.args.self.now.store (λ s. commits_heard c.args.moment c.args.link.now.number s c.args.octets.now) represents;
      faults = refl;
      limit = refl;
      number = refl;
      fewer = omega arith;
      apart = λ free. free;
    }

pub hear_few-requires-clause-some : goal.hear_few-requires-clause-some
hear_few-requires-clause-some g c =
    let some : 1 ≤ c.min.result = grind (arith, common_steps) in
    omega (arith, c.split_at.ensures.front_len)

pub loop-rest-preserved : goal.loop-rest-preserved
loop-rest-preserved g c =
    let link = c.args.link.now in
    let number = link.number in
    let octets = c.args.octets.now in
    let front = c.split_at.result.0.now in
    let more = c.split_at.result.1.now in
    let kept = with_link c.loop-rest.link (kept_of c.loop-rest.self) in
    record {
      answers = λ serving represents.
          part-heard c.args.moment number c.loop-rest.link.number octets c.loop-rest.rest.now front more serving c.args.replies.now.items c.loop-rest.replies.items kept c.loop-rest.invariant.number
          c.split_at.ensures.by_index.0 (c.loop-rest.invariant.answers serving represents)
          (with_link c.hear_few.new.link (kept_of c.hear_few.new.self)) c.hear_few.new.replies.items
          (subst (λ (goes : Bool). Does (λ s. octets_heard c.args.moment c.loop-rest.link.number s front) kept c.loop-rest.replies.items (put_back goes c.hear_few.new.link (kept_of c.hear_few.new.self)) c.hear_few.new.replies.items)
          c.if-not-branch.false c.in_ok-hear_few.ensures.answers);
      represented = λ serving represents stands.
          c.in_ok-hear_few.ensures.represented (now c.args.moment number c.loop-rest.link.number octets c.loop-rest.rest.now front more serving c.args.replies.now.items c.loop-rest.replies.items kept c.loop-rest.invariant.number
          c.split_at.ensures.by_index.0 (c.loop-rest.invariant.answers serving represents))
          (now-represents c.args.moment number c.loop-rest.link.number octets c.loop-rest.rest.now front more serving c.args.replies.now.items c.loop-rest.replies.items kept c.loop-rest.invariant.number
          c.split_at.ensures.by_index.0 (c.loop-rest.invariant.answers serving represents)) (c.loop-rest.invariant.represented serving represents stands);
      run = λ serving represents stands.
          part-run c.args.moment number c.loop-rest.link.number octets c.loop-rest.rest.now front more serving c.args.replies.now.items c.loop-rest.replies.items kept c.loop-rest.invariant.number
          c.split_at.ensures.by_index.0 (c.loop-rest.invariant.answers serving represents)
          c.args.self.now.store.disk c.loop-rest.self.store.disk c.hear_few.new.self.store.disk g.D.Disk.moment g.D.Disk.left_since (c.loop-rest.invariant.run serving represents stands)
          (c.hear_few.ensures.any_moment (now c.args.moment number c.loop-rest.link.number octets c.loop-rest.rest.now front more serving c.args.replies.now.items c.loop-rest.replies.items kept c.loop-rest.invariant.number
          c.split_at.ensures.by_index.0 (c.loop-rest.invariant.answers serving represents))
          (now-represents c.args.moment number c.loop-rest.link.number octets c.loop-rest.rest.now front more serving c.args.replies.now.items c.loop-rest.replies.items kept c.loop-rest.invariant.number
          c.split_at.ensures.by_index.0 (c.loop-rest.invariant.answers serving represents)) (c.loop-rest.invariant.represented serving represents stands));
      commits = λ serving represents.
          piece-committed (telling g.D.Disk.plan g.D.Disk.state g.D.Disk.lack_count) c.args.moment c.args.link.now.number c.loop-rest.link.number (commits_heard c.args.moment c.args.link.now.number serving c.args.octets.now) kept (with_link c.hear_few.new.link (kept_of c.hear_few.new.self)) c.args.self.now.store c.loop-rest.self.store c.hear_few.new.self.store c.loop-rest.invariant.number
          c.loop-rest.rest.now front more c.split_at.ensures.by_index.0 (c.loop-rest.invariant.commits serving represents) c.loop-rest.replies.items c.hear_few.new.replies.items
          (subst (λ (goes : Bool). Does (λ s. octets_heard c.args.moment c.loop-rest.link.number s front) kept c.loop-rest.replies.items (put_back goes c.hear_few.new.link (kept_of c.hear_few.new.self)) c.hear_few.new.replies.items)
          c.if-not-branch.false c.in_ok-hear_few.ensures.answers) c.in_ok-hear_few.ensures.commits;
      faults = c.in_ok-hear_few.ensures.causes ∙ c.loop-rest.invariant.faults;
      limit = c.hear_few.ensures.limit ∙ c.loop-rest.invariant.limit;
      number = c.hear_few.ensures.number ∙ c.loop-rest.invariant.number;
      fewer = omega (arith, c.hear_few.ensures.fewer, c.loop-rest.invariant.fewer);
      apart = λ free. apart-on c.loop-rest.link.number number (kept_of c.loop-rest.self).links (kept_of c.hear_few.new.self).links c.loop-rest.invariant.number c.hear_few.ensures.apart (c.loop-rest.invariant.apart free);
    }

pub returns-in_err-hear_few-clause-any_moment : goal.returns-in_err-hear_few-clause-any_moment
returns-in_err-hear_few-clause-any_moment g c = λ serving represents stands.
    let link = c.args.link.now in
    let number = link.number in
    let octets = c.args.octets.now in
    let front = c.split_at.result.0.now in
    let more = c.split_at.result.1.now in
    let kept = with_link c.loop-rest.link (kept_of c.loop-rest.self) in
    part-run c.args.moment number c.loop-rest.link.number octets c.loop-rest.rest.now front more serving c.args.replies.now.items c.loop-rest.replies.items kept c.loop-rest.invariant.number
    c.split_at.ensures.by_index.0 (c.loop-rest.invariant.answers serving represents)
    c.args.self.now.store.disk c.loop-rest.self.store.disk c.hear_few.new.self.store.disk g.D.Disk.moment g.D.Disk.left_since (c.loop-rest.invariant.run serving represents stands)
    (c.hear_few.ensures.any_moment (now c.args.moment number c.loop-rest.link.number octets c.loop-rest.rest.now front more serving c.args.replies.now.items c.loop-rest.replies.items kept c.loop-rest.invariant.number
    c.split_at.ensures.by_index.0 (c.loop-rest.invariant.answers serving represents))
    (now-represents c.args.moment number c.loop-rest.link.number octets c.loop-rest.rest.now front more serving c.args.replies.now.items c.loop-rest.replies.items kept c.loop-rest.invariant.number
    c.split_at.ensures.by_index.0 (c.loop-rest.invariant.answers serving represents)) (c.loop-rest.invariant.represented serving represents stands))

pub returns-then-not-branch-clause-answers : goal.returns-then-not-branch-clause-answers
returns-then-not-branch-clause-answers g c = λ serving represents.
    let link = c.args.link.now in
    let number = link.number in
    let octets = c.args.octets.now in
    let front = c.split_at.result.0.now in
    let more = c.split_at.result.1.now in
    let kept = with_link c.loop-rest.link (kept_of c.loop-rest.self) in
    heard-end c.args.moment number (octets_heard c.args.moment number serving octets) serving c.args.replies.now.items c.hear_few.new.replies.items (kept_of c.hear_few.new.self) more
    (part-heard c.args.moment number c.loop-rest.link.number octets c.loop-rest.rest.now front more serving c.args.replies.now.items c.loop-rest.replies.items kept c.loop-rest.invariant.number
    c.split_at.ensures.by_index.0 (c.loop-rest.invariant.answers serving represents)
    (kept_of c.hear_few.new.self) c.hear_few.new.replies.items
    (subst (λ (goes : Bool). Does (λ s. octets_heard c.args.moment c.loop-rest.link.number s front) kept c.loop-rest.replies.items (put_back goes c.hear_few.new.link (kept_of c.hear_few.new.self)) c.hear_few.new.replies.items)
    c.if-not-branch.true c.in_ok-hear_few.ensures.answers))
    (apart-on c.loop-rest.link.number number (kept_of c.loop-rest.self).links (kept_of c.hear_few.new.self).links c.loop-rest.invariant.number c.hear_few.ensures.apart
    (c.loop-rest.invariant.apart (last-free c.args.self.now.links.entries number link represents.distinct)))

pub returns-then-not-branch-clause-represented : goal.returns-then-not-branch-clause-represented
returns-then-not-branch-clause-represented g c = λ serving represents stands.
    let link = c.args.link.now in
    let number = link.number in
    let octets = c.args.octets.now in
    let front = c.split_at.result.0.now in
    let more = c.split_at.result.1.now in
    let kept = with_link c.loop-rest.link (kept_of c.loop-rest.self) in
    c.in_ok-hear_few.ensures.represented (now c.args.moment number c.loop-rest.link.number octets c.loop-rest.rest.now front more serving c.args.replies.now.items c.loop-rest.replies.items kept c.loop-rest.invariant.number
    c.split_at.ensures.by_index.0 (c.loop-rest.invariant.answers serving represents))
    (now-represents c.args.moment number c.loop-rest.link.number octets c.loop-rest.rest.now front more serving c.args.replies.now.items c.loop-rest.replies.items kept c.loop-rest.invariant.number
    c.split_at.ensures.by_index.0 (c.loop-rest.invariant.answers serving represents)) (c.loop-rest.invariant.represented serving represents stands)

pub returns-then-not-branch-clause-any_moment : goal.returns-then-not-branch-clause-any_moment
returns-then-not-branch-clause-any_moment g c = λ serving represents stands.
    let link = c.args.link.now in
    let number = link.number in
    let octets = c.args.octets.now in
    let front = c.split_at.result.0.now in
    let more = c.split_at.result.1.now in
    let kept = with_link c.loop-rest.link (kept_of c.loop-rest.self) in
    part-run c.args.moment number c.loop-rest.link.number octets c.loop-rest.rest.now front more serving c.args.replies.now.items c.loop-rest.replies.items kept c.loop-rest.invariant.number
    c.split_at.ensures.by_index.0 (c.loop-rest.invariant.answers serving represents)
    c.args.self.now.store.disk c.loop-rest.self.store.disk c.hear_few.new.self.store.disk g.D.Disk.moment g.D.Disk.left_since (c.loop-rest.invariant.run serving represents stands)
    (c.hear_few.ensures.any_moment (now c.args.moment number c.loop-rest.link.number octets c.loop-rest.rest.now front more serving c.args.replies.now.items c.loop-rest.replies.items kept c.loop-rest.invariant.number
    c.split_at.ensures.by_index.0 (c.loop-rest.invariant.answers serving represents))
    (now-represents c.args.moment number c.loop-rest.link.number octets c.loop-rest.rest.now front more serving c.args.replies.now.items c.loop-rest.replies.items kept c.loop-rest.invariant.number
    c.split_at.ensures.by_index.0 (c.loop-rest.invariant.answers serving represents)) (c.loop-rest.invariant.represented serving represents stands))

pub returns-clause-answers : goal.returns-clause-answers
returns-clause-answers g c = λ serving represents.
    let none : length c.loop-rest.rest.now ≡ 0 = grind (arith, common_steps) in
    none-left c.args.moment c.args.link.now.number (octets_heard c.args.moment c.args.link.now.number serving c.args.octets.now) serving c.args.replies.now.items c.loop-rest.replies.items
    (with_link c.loop-rest.link (kept_of c.loop-rest.self)) c.loop-rest.rest.now none (c.loop-rest.invariant.answers serving represents)

pub returns-in_err-hear_few-clause-full : goal.returns-in_err-hear_few-clause-full
returns-in_err-hear_few-clause-full g c = λ serving represents.
    let p = err_from_is_err_and c.from_residual.result c.from_residual.ensures.1 in
    rw (p.1, p.2) (piece-full c.hear_few.new.self.store c.in_err-hear_few.field-0.0 c.args.moment c.args.link.now.number c.loop-rest.link.number c.args.octets.now c.loop-rest.rest.now c.split_at.result.0.now c.split_at.result.1.now
    serving c.args.replies.now.items c.loop-rest.replies.items (with_link c.loop-rest.link (kept_of c.loop-rest.self)) c.loop-rest.invariant.number c.split_at.ensures.by_index.0 (c.loop-rest.invariant.answers serving represents)
    c.in_err-hear_few.ensures.full)

pub returns-in_err-hear_few-clause-commits : goal.returns-in_err-hear_few-clause-commits
returns-in_err-hear_few-clause-commits g c = λ serving represents.
    let p = err_from_is_err_and c.from_residual.result c.from_residual.ensures.1 in
    let kept = with_link c.loop-rest.link (kept_of c.loop-rest.self) in
    rw (p.1, p.2) (piece-up (telling g.D.Disk.plan g.D.Disk.state g.D.Disk.lack_count) c.args.moment c.args.link.now.number c.loop-rest.link.number (commits_heard c.args.moment c.args.link.now.number serving c.args.octets.now) kept kept c.args.self.now.store c.loop-rest.self.store c.hear_few.new.self.store c.loop-rest.invariant.number
    c.loop-rest.rest.now c.split_at.result.0.now c.split_at.result.1.now c.split_at.ensures.by_index.0 (c.loop-rest.invariant.commits serving represents) c.in_err-hear_few.field-0.0 c.in_err-hear_few.ensures.commits)

pub returns-then-not-branch-clause-commits : goal.returns-then-not-branch-clause-commits
returns-then-not-branch-clause-commits g c = λ serving represents.
    let link = c.args.link.now in
    let number = link.number in
    let front = c.split_at.result.0.now in
    let more = c.split_at.result.1.now in
    let kept = with_link c.loop-rest.link (kept_of c.loop-rest.self) in
    heard-committed (telling g.D.Disk.plan g.D.Disk.state g.D.Disk.lack_count) c.args.moment number (commits_heard c.args.moment c.args.link.now.number serving c.args.octets.now) (kept_of c.hear_few.new.self) c.args.self.now.store c.hear_few.new.self.store more
    (piece-committed (telling g.D.Disk.plan g.D.Disk.state g.D.Disk.lack_count) c.args.moment c.args.link.now.number c.loop-rest.link.number (commits_heard c.args.moment c.args.link.now.number serving c.args.octets.now) kept (kept_of c.hear_few.new.self) c.args.self.now.store c.loop-rest.self.store c.hear_few.new.self.store c.loop-rest.invariant.number
    c.loop-rest.rest.now front more c.split_at.ensures.by_index.0 (c.loop-rest.invariant.commits serving represents) c.loop-rest.replies.items c.hear_few.new.replies.items
    (subst (λ (goes : Bool). Does (λ s. octets_heard c.args.moment c.loop-rest.link.number s front) kept c.loop-rest.replies.items (put_back goes c.hear_few.new.link (kept_of c.hear_few.new.self)) c.hear_few.new.replies.items)
    c.if-not-branch.true c.in_ok-hear_few.ensures.answers) c.in_ok-hear_few.ensures.commits)
    (apart-on c.loop-rest.link.number number (kept_of c.loop-rest.self).links (kept_of c.hear_few.new.self).links c.loop-rest.invariant.number c.hear_few.ensures.apart
    (c.loop-rest.invariant.apart (last-free c.args.self.now.links.entries number link represents.distinct)))

pub returns-clause-commits : goal.returns-clause-commits
returns-clause-commits g c = λ serving represents.
    let none : length c.loop-rest.rest.now ≡ 0 = grind (arith, common_steps) in
    none-left-committed (telling g.D.Disk.plan g.D.Disk.state g.D.Disk.lack_count) c.args.moment c.args.link.now.number (commits_heard c.args.moment c.args.link.now.number serving c.args.octets.now) (with_link c.loop-rest.link (kept_of c.loop-rest.self)) c.args.self.now.store c.loop-rest.self.store c.loop-rest.rest.now none
    (c.loop-rest.invariant.commits serving represents)
