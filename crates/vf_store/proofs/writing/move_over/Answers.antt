use Rattle.std.proofs.Common.{[], ◌∷◌, length, not, true, false}
use Rattle.std.proofs.lemmas.Result.{err_from_is_err_and}
use Rattle.vf_disk.proofs.Rows.{steps_failed, steps_joined}
use Rattle.vf_disk.proofs.Runs.{joined, weaker}
use Rattle.vf_journal.specs.Image.{Holds, HoldsEither}
use Rattle.vf_journal.specs.JournalState.{new_start}
use Rattle.vf_journal.specs.Writes.{prepare_steps, switch_steps}
use Rattle.vf_store.specs.Represented.{Represents}
use Rattle.vf_store.proofs.Runs.{represented, same_either, shows_weaker}
use Rattle.vf_store.proofs.writing.move_over.Goals as goal

pub returns-clause-ok : goal.returns-clause-ok
returns-clause-ok g c = λ tables area stands.
    let ready = c.in_ok-prepare.ensures.ok area.0 stands.records area.1 stands.on in
    record { records = area.0 ∷ []; on = c.in_ok-switch.ensures.ok area.0 stands.records ready.0 ready.1; making = area.2 }

pub returns-in_err-prepare-clause-any_moment : goal.returns-in_err-prepare-clause-any_moment
returns-in_err-prepare-clause-any_moment g c = λ tables area stands.
    weaker g.D.Disk.moment g.D.Disk.left_since c.args.disk.now c.prepare.new.disk (λ image. Holds image stands.records) (λ image. Represents image tables)
    (c.prepare.ensures.any_moment stands.records stands.on) (λ image. represented image stands.records tables stands.making)

pub returns-in_err-switch-clause-any_moment : goal.returns-in_err-switch-clause-any_moment
returns-in_err-switch-clause-any_moment g c = λ tables area stands.
    let ready = c.in_ok-prepare.ensures.ok area.0 stands.records area.1 stands.on in
    joined g.D.Disk.moment g.D.Disk.left_since c.args.disk.now c.prepare.new.disk c.switch.new.disk (λ image. Holds image stands.records) (HoldsEither stands.records (area.0 ∷ [])) (λ image. Represents image tables)
    (c.prepare.ensures.any_moment stands.records stands.on) (c.switch.ensures.any_moment area.0 stands.records ready.0 ready.1)
    (λ image. represented image stands.records tables stands.making) (λ image. same_either image stands.records (area.0 ∷ []) tables stands.making area.2)

pub returns-clause-any_moment : goal.returns-clause-any_moment
returns-clause-any_moment g c = λ tables area stands.
    let ready = c.in_ok-prepare.ensures.ok area.0 stands.records area.1 stands.on in
    joined g.D.Disk.moment g.D.Disk.left_since c.args.disk.now c.prepare.new.disk c.switch.new.disk (λ image. Holds image stands.records) (HoldsEither stands.records (area.0 ∷ [])) (λ image. Represents image tables)
    (c.prepare.ensures.any_moment stands.records stands.on) (c.switch.ensures.any_moment area.0 stands.records ready.0 ready.1)
    (λ image. represented image stands.records tables stands.making) (λ image. same_either image stands.records (area.0 ∷ []) tables stands.making area.2)

pub returns-in_err-prepare-clause-seen : goal.returns-in_err-prepare-clause-seen
returns-in_err-prepare-clause-seen g c = λ tables area stands.
    shows_weaker (g.D.Disk.shown c.prepare.new.disk) (λ image. Holds image stands.records) (λ image. Represents image tables)
    (c.prepare.ensures.seen stands.records stands.on) (λ image. represented image stands.records tables stands.making)

pub returns-in_err-switch-clause-seen : goal.returns-in_err-switch-clause-seen
returns-in_err-switch-clause-seen g c = λ tables area stands.
    let ready = c.in_ok-prepare.ensures.ok area.0 stands.records area.1 stands.on in
    shows_weaker (g.D.Disk.shown c.switch.new.disk) (HoldsEither stands.records (area.0 ∷ [])) (λ image. Represents image tables)
    (c.switch.ensures.seen area.0 stands.records ready.0 ready.1) (λ image. same_either image stands.records (area.0 ∷ []) tables stands.making area.2)

pub returns-clause-seen : goal.returns-clause-seen
returns-clause-seen g c = λ tables area stands.
    let ready = c.in_ok-prepare.ensures.ok area.0 stands.records area.1 stands.on in
    shows_weaker (g.D.Disk.shown c.switch.new.disk) (HoldsEither stands.records (area.0 ∷ [])) (λ image. Represents image tables)
    (c.switch.ensures.seen area.0 stands.records ready.0 ready.1) (λ image. same_either image stands.records (area.0 ∷ []) tables stands.making area.2)

pub returns-in_err-prepare-clause-steps : goal.returns-in_err-prepare-clause-steps
returns-in_err-prepare-clause-steps g c =
    let p = err_from_is_err_and c.from_residual.result c.from_residual.ensures.1 in
    let start = new_start c.args.journal.now (length c.args.area.now.items) in
    rw p.1 (steps_failed (prepare_steps start c.args.area.now.items (not c.args.journal.now.second)) (switch_steps (not c.args.journal.now.second)) (g.D.Disk.plan c.args.disk.now) (g.D.Disk.plan c.prepare.new.disk)
    (g.D.Disk.state c.args.disk.now) (g.D.Disk.state c.prepare.new.disk) (g.D.Disk.lack_count c.args.disk.now) (g.D.Disk.lack_count c.prepare.new.disk) c.in_err-prepare.ensures.steps)

pub returns-in_err-switch-clause-steps : goal.returns-in_err-switch-clause-steps
returns-in_err-switch-clause-steps g c =
    let p = err_from_is_err_and c.from_residual-in_err-switch.result c.from_residual-in_err-switch.ensures.1 in
    let start = new_start c.args.journal.now (length c.args.area.now.items) in
    let second = rw c.in_ok-prepare.ensures.moved at c.in_err-switch.ensures.steps in
    rw p.1 (steps_joined (prepare_steps start c.args.area.now.items (not c.args.journal.now.second)) (switch_steps (not c.args.journal.now.second)) (g.D.Disk.plan c.args.disk.now) (g.D.Disk.plan c.prepare.new.disk) (g.D.Disk.plan c.switch.new.disk)
    (g.D.Disk.state c.args.disk.now) (g.D.Disk.state c.prepare.new.disk) (g.D.Disk.state c.switch.new.disk) true (g.D.Disk.lack_count c.args.disk.now) (g.D.Disk.lack_count c.prepare.new.disk) (g.D.Disk.lack_count c.switch.new.disk)
    c.in_ok-prepare.ensures.steps second)

pub returns-clause-steps : goal.returns-clause-steps
returns-clause-steps g c =
    let start = new_start c.args.journal.now (length c.args.area.now.items) in
    let second = rw c.in_ok-prepare.ensures.moved at c.in_ok-switch.ensures.steps in
    steps_joined (prepare_steps start c.args.area.now.items (not c.args.journal.now.second)) (switch_steps (not c.args.journal.now.second)) (g.D.Disk.plan c.args.disk.now) (g.D.Disk.plan c.prepare.new.disk) (g.D.Disk.plan c.switch.new.disk)
    (g.D.Disk.state c.args.disk.now) (g.D.Disk.state c.prepare.new.disk) (g.D.Disk.state c.switch.new.disk) false (g.D.Disk.lack_count c.args.disk.now) (g.D.Disk.lack_count c.prepare.new.disk) (g.D.Disk.lack_count c.switch.new.disk)
    c.in_ok-prepare.ensures.steps second
