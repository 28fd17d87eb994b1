use Rattle.std.proofs.Common.{inl, ◌∙◌, ◌+◌, ◌-◌, ◌++◌, ap, length, not, true, false}
use Rattle.std.proofs.lemmas.Result.{err_from_is_err_and}
use Rattle.vf_disk.proofs.Rows.{steps_failed, steps_joined}
use Rattle.vf_disk.proofs.Runs.{joined, weaker}
use Rattle.vf_journal.specs.JournalState.{JournalState, after_append, new_start}
use Rattle.vf_journal.specs.Writes.{append_steps, prepare_steps, switch_steps}
use Rattle.vf_store.specs.Represented.{Represents, RepresentsEither}
use Rattle.vf_store.proofs.Runs.{shows_weaker}
use Rattle.vf_store.proofs.writing.write.Goals as goal

pub returns-in_err-move_over-clause-any_moment : goal.returns-in_err-move_over-clause-any_moment
returns-in_err-move_over-clause-any_moment g c = rw c.in-Some.is (λ before after leads stands.
    weaker g.D.Disk.moment g.D.Disk.left_since c.args.disk.now c.move_over.new.disk (λ image. Represents image before) (RepresentsEither before after)
    (c.move_over.ensures.any_moment before leads.area_makes stands) (λ image represents. inl represents))

pub returns-in_err-append-clause-any_moment : goal.returns-in_err-append-clause-any_moment
returns-in_err-append-clause-any_moment g c = rw c.in-Some.is (λ before after leads stands.
    joined g.D.Disk.moment g.D.Disk.left_since c.args.disk.now c.move_over.new.disk c.append.new.disk (λ image. Represents image before) (RepresentsEither before after) (RepresentsEither before after)
    (c.move_over.ensures.any_moment before leads.area_makes stands)
    (c.append.ensures.any_moment before after leads.entry_leads (c.in_ok-move_over.ensures.ok before leads.area_makes stands))
    (λ image represents. inl represents) (λ image represents. represents))

pub returns-in-Some-clause-any_moment : goal.returns-in-Some-clause-any_moment
returns-in-Some-clause-any_moment g c = rw c.in-Some.is (λ before after leads stands.
    joined g.D.Disk.moment g.D.Disk.left_since c.args.disk.now c.move_over.new.disk c.append.new.disk (λ image. Represents image before) (RepresentsEither before after) (RepresentsEither before after)
    (c.move_over.ensures.any_moment before leads.area_makes stands)
    (c.append.ensures.any_moment before after leads.entry_leads (c.in_ok-move_over.ensures.ok before leads.area_makes stands))
    (λ image represents. inl represents) (λ image represents. represents))

pub returns-in_err-append-2-clause-any_moment : goal.returns-in_err-append-2-clause-any_moment
returns-in_err-append-2-clause-any_moment g c = λ before after leads stands. c.append-2.ensures.any_moment before after leads.entry_leads stands

pub returns-clause-any_moment : goal.returns-clause-any_moment
returns-clause-any_moment g c = λ before after leads stands. c.append-2.ensures.any_moment before after leads.entry_leads stands

pub returns-in_err-move_over-clause-seen : goal.returns-in_err-move_over-clause-seen
returns-in_err-move_over-clause-seen g c = rw c.in-Some.is (λ before after leads stands.
    shows_weaker (g.D.Disk.shown c.move_over.new.disk) (λ image. Represents image before) (RepresentsEither before after)
    (c.move_over.ensures.seen before leads.area_makes stands) (λ image represents. inl represents))

pub returns-in_err-append-clause-seen : goal.returns-in_err-append-clause-seen
returns-in_err-append-clause-seen g c = rw c.in-Some.is (λ before after leads stands.
    c.append.ensures.seen before after leads.entry_leads (c.in_ok-move_over.ensures.ok before leads.area_makes stands))

pub returns-in-Some-clause-seen : goal.returns-in-Some-clause-seen
returns-in-Some-clause-seen g c = rw c.in-Some.is (λ before after leads stands.
    c.append.ensures.seen before after leads.entry_leads (c.in_ok-move_over.ensures.ok before leads.area_makes stands))

pub returns-in-Some-clause-ok : goal.returns-in-Some-clause-ok
returns-in-Some-clause-ok g c = rw c.in-Some.is (λ before after leads stands.
    c.in_ok-append.ensures.ok before after leads.entry_leads (c.in_ok-move_over.ensures.ok before leads.area_makes stands))

pub returns-in_err-move_over-clause-steps : goal.returns-in_err-move_over-clause-steps
returns-in_err-move_over-clause-steps g c =
    let p = err_from_is_err_and c.from_residual.result c.from_residual.ensures.1 in
    let start = new_start c.args.journal.now (length c.in-Some.area.items) in
    let first = c.in_err-move_over.ensures.steps in
    rw (p.1, c.in-Some.is) (steps_failed (prepare_steps start c.in-Some.area.items (not c.args.journal.now.second) ++ switch_steps (not c.args.journal.now.second)) (append_steps (start + length c.in-Some.area.items) c.args.entry.now.items)
    (g.D.Disk.plan c.args.disk.now) (g.D.Disk.plan c.move_over.new.disk) (g.D.Disk.state c.args.disk.now) (g.D.Disk.state c.move_over.new.disk) (g.D.Disk.lack_count c.args.disk.now) (g.D.Disk.lack_count c.move_over.new.disk) first)

pub returns-in_err-append-clause-steps : goal.returns-in_err-append-clause-steps
returns-in_err-append-clause-steps g c =
    let p = err_from_is_err_and c.from_residual-in_err-append.result c.from_residual-in_err-append.ensures.1 in
    let start = new_start c.args.journal.now (length c.in-Some.area.items) in
    let first = c.in_ok-move_over.ensures.steps in
    let second = rw (c.in_ok-move_over.ensures.moved) at c.in_err-append.ensures.steps in
    rw (p.1, c.in-Some.is) (steps_joined (prepare_steps start c.in-Some.area.items (not c.args.journal.now.second) ++ switch_steps (not c.args.journal.now.second)) (append_steps (start + length c.in-Some.area.items) c.args.entry.now.items)
    (g.D.Disk.plan c.args.disk.now) (g.D.Disk.plan c.move_over.new.disk) (g.D.Disk.plan c.append.new.disk) (g.D.Disk.state c.args.disk.now) (g.D.Disk.state c.move_over.new.disk) (g.D.Disk.state c.append.new.disk)
    true (g.D.Disk.lack_count c.args.disk.now) (g.D.Disk.lack_count c.move_over.new.disk) (g.D.Disk.lack_count c.append.new.disk) first second)

pub returns-in-Some-clause-steps : goal.returns-in-Some-clause-steps
returns-in-Some-clause-steps g c =
    let start = new_start c.args.journal.now (length c.in-Some.area.items) in
    let first = c.in_ok-move_over.ensures.steps in
    let second = rw (c.in_ok-move_over.ensures.moved) at c.in_ok-append.ensures.steps in
    rw c.in-Some.is (steps_joined (prepare_steps start c.in-Some.area.items (not c.args.journal.now.second) ++ switch_steps (not c.args.journal.now.second)) (append_steps (start + length c.in-Some.area.items) c.args.entry.now.items)
    (g.D.Disk.plan c.args.disk.now) (g.D.Disk.plan c.move_over.new.disk) (g.D.Disk.plan c.append.new.disk) (g.D.Disk.state c.args.disk.now) (g.D.Disk.state c.move_over.new.disk) (g.D.Disk.state c.append.new.disk)
    false (g.D.Disk.lack_count c.args.disk.now) (g.D.Disk.lack_count c.move_over.new.disk) (g.D.Disk.lack_count c.append.new.disk) first second)

pub returns-in-Some-clause-moved : goal.returns-in-Some-clause-moved
returns-in-Some-clause-moved g c =
    let first = c.in_ok-move_over.ensures.moved in
    rw c.in-Some.is (c.in_ok-append.ensures.moved ∙ ap (λ (journal : JournalState). after_append journal (length c.args.entry.now.items - 5)) first)
