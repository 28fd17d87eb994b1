use Rattle.std.proofs.Common.{ℕ, length, true, false, arith, ap, sym, ◌∙◌}
use Rattle.std.proofs.lemmas.Result.{err_from_is_err_and}
use Rattle.vf_journal.specs.JournalState.{JournalState, new_start}
use Rattle.vf_journal.proofs.Lengths.{length-area_with}
use Rattle.vf_journal.proofs.Numbers.{place_octets_are}
use Rattle.vf_journal.proofs.Preparing.{prepare_done, prepare_goes, prepare_run, prepare_seen, prepared_shown}
use Rattle.vf_journal.proofs.journal.Journal.prepare.Goals as goal

pub new_start-start-requires : goal.new_start-start-requires
new_start-start-requires g c = let built = c.requires.area in omega (arith, ap length built.2, length-area_with built.0, built.1)

pub overflow_sub-self : goal.overflow_sub-self
overflow_sub-self g c = let built = c.requires.area in omega (arith, ap length built.2, length-area_with built.0)

pub returns-in_err-write_both_synced-clause-any_moment : goal.returns-in_err-write_both_synced-clause-any_moment
returns-in_err-write_both_synced-clause-any_moment g c = rw (← c.self.view_is) (λ records on.
    prepare_run g.D.Disk.shown g.D.Disk.may_leave g.D.Disk.moment g.D.Disk.left_since _ c.args.disk.now records c.args.area.now.items c.new_start-start.result (c.new_start-start.ensures ∙ ap (λ (n : ℕ). new_start c.args.self.now n) c.len-count.ensures.count ∙ ap (λ (journal : JournalState). new_start journal (length c.args.area.now.items)) (sym c.self.view_is)) on
    c.anchor_place.result _ c.anchor_place.ensures (ap length c.to_be_bytes-anchor.ensures) c.write_both_synced.new.disk c.write_both_synced.ensures.any_moment)

pub returns-clause-any_moment : goal.returns-clause-any_moment
returns-clause-any_moment g c = rw (← c.self.view_is) (λ records on.
    prepare_run g.D.Disk.shown g.D.Disk.may_leave g.D.Disk.moment g.D.Disk.left_since _ c.args.disk.now records c.args.area.now.items c.new_start-start.result (c.new_start-start.ensures ∙ ap (λ (n : ℕ). new_start c.args.self.now n) c.len-count.ensures.count ∙ ap (λ (journal : JournalState). new_start journal (length c.args.area.now.items)) (sym c.self.view_is)) on
    c.anchor_place.result _ c.anchor_place.ensures (ap length c.to_be_bytes-anchor.ensures) c.write_both_synced.new.disk c.write_both_synced.ensures.any_moment)

pub returns-clause-ok : goal.returns-clause-ok
returns-clause-ok g c = rw (c.len-count.ensures.count, ← c.self.view_is) (λ item records is on.
    prepare_done g.D.Disk.shown g.D.Disk.may_leave g.D.Disk.moment g.D.Disk.left_since _ c.args.disk.now records c.args.area.now.items c.new_start-start.result (c.new_start-start.ensures ∙ ap (λ (n : ℕ). new_start c.args.self.now n) c.len-count.ensures.count ∙ ap (λ (journal : JournalState). new_start journal (length c.args.area.now.items)) (sym c.self.view_is)) on
    c.in_ok-write_both_synced.ensures.bound item c.requires.area is c.anchor_place.result c.to_be_bytes-anchor.result c.anchor_place.ensures (c.to_be_bytes-anchor.ensures ∙ place_octets_are c.new_start-start.result)
    c.write_both_synced.new.disk (c.in_ok-write_both_synced.ensures.shown on.image on.shows) c.in_ok-write_both_synced.ensures.synced)

pub returns-in_err-write_both_synced-clause-seen : goal.returns-in_err-write_both_synced-clause-seen
returns-in_err-write_both_synced-clause-seen g c = rw (← c.self.view_is) (λ records on.
    prepare_seen g.D.Disk.shown g.D.Disk.may_leave g.D.Disk.moment g.D.Disk.left_since _ c.args.disk.now records c.args.area.now.items c.new_start-start.result (c.new_start-start.ensures ∙ ap (λ (n : ℕ). new_start c.args.self.now n) c.len-count.ensures.count ∙ ap (λ (journal : JournalState). new_start journal (length c.args.area.now.items)) (sym c.self.view_is)) on
    c.anchor_place.result _ c.anchor_place.ensures (ap length c.to_be_bytes-anchor.ensures) (g.D.Disk.shown c.write_both_synced.new.disk) (c.write_both_synced.ensures.seen on.image on.shows))

pub returns-clause-seen : goal.returns-clause-seen
returns-clause-seen g c = rw (← c.self.view_is) (λ records on.
    prepare_seen g.D.Disk.shown g.D.Disk.may_leave g.D.Disk.moment g.D.Disk.left_since _ c.args.disk.now records c.args.area.now.items c.new_start-start.result (c.new_start-start.ensures ∙ ap (λ (n : ℕ). new_start c.args.self.now n) c.len-count.ensures.count ∙ ap (λ (journal : JournalState). new_start journal (length c.args.area.now.items)) (sym c.self.view_is)) on
    c.anchor_place.result _ c.anchor_place.ensures (ap length c.to_be_bytes-anchor.ensures) (g.D.Disk.shown c.write_both_synced.new.disk) (c.write_both_synced.ensures.seen on.image on.shows))

pub returns-clause-shown : goal.returns-clause-shown
returns-clause-shown g c = rw (← c.self.view_is) (λ image shows.
    prepared_shown (g.D.Disk.shown c.write_both_synced.new.disk) image c.new_start-start.result _ c.anchor_place.result _ c.args.area.now.items c.to_be_bytes-anchor.result (c.in_ok-write_both_synced.ensures.shown image shows)
    (c.new_start-start.ensures ∙ ap (λ (n : ℕ). new_start c.args.self.now n) c.len-count.ensures.count ∙ ap (λ (journal : JournalState). new_start journal (length c.args.area.now.items)) (sym c.self.view_is)) c.anchor_place.ensures (c.to_be_bytes-anchor.ensures ∙ place_octets_are c.new_start-start.result))

pub returns-in_err-write_both_synced-clause-steps : goal.returns-in_err-write_both_synced-clause-steps
returns-in_err-write_both_synced-clause-steps g c =
    let p = err_from_is_err_and c.from_residual.result c.from_residual.ensures.1 in
    rw (p.1, ← c.self.view_is) (prepare_goes c.new_start-start.result _ c.args.area.now.items c.anchor_place.result c.to_be_bytes-anchor.result _ (g.D.Disk.plan c.args.disk.now) (g.D.Disk.plan c.write_both_synced.new.disk) (g.D.Disk.state c.args.disk.now) (g.D.Disk.state c.write_both_synced.new.disk) true
    (g.D.Disk.lack_count c.args.disk.now) (g.D.Disk.lack_count c.write_both_synced.new.disk)
    (c.new_start-start.ensures ∙ ap (λ (n : ℕ). new_start c.args.self.now n) c.len-count.ensures.count ∙ ap (λ (journal : JournalState). new_start journal (length c.args.area.now.items)) (sym c.self.view_is)) c.anchor_place.ensures (c.to_be_bytes-anchor.ensures ∙ place_octets_are c.new_start-start.result) c.in_err-write_both_synced.ensures.steps)

pub returns-clause-steps : goal.returns-clause-steps
returns-clause-steps g c = rw (← c.self.view_is) (prepare_goes c.new_start-start.result _ c.args.area.now.items c.anchor_place.result c.to_be_bytes-anchor.result _ (g.D.Disk.plan c.args.disk.now) (g.D.Disk.plan c.write_both_synced.new.disk) (g.D.Disk.state c.args.disk.now) (g.D.Disk.state c.write_both_synced.new.disk) false
    (g.D.Disk.lack_count c.args.disk.now) (g.D.Disk.lack_count c.write_both_synced.new.disk)
    (c.new_start-start.ensures ∙ ap (λ (n : ℕ). new_start c.args.self.now n) c.len-count.ensures.count ∙ ap (λ (journal : JournalState). new_start journal (length c.args.area.now.items)) (sym c.self.view_is)) c.anchor_place.ensures (c.to_be_bytes-anchor.ensures ∙ place_octets_are c.new_start-start.result) c.in_ok-write_both_synced.ensures.steps)
