use Rattle.std.proofs.Common.{◌+◌, ◌-◌, ◌≤◌, [], ◌∷◌, None, length, true, false, arith, ap, sym, subst}
use Rattle.std.proofs.lemmas.Result.{err_from_is_err_and}
use Rattle.vf_disk.specs.Disk.{greatest_length}
use Rattle.vf_disk.proofs.Rows.{steps_failed, steps_joined}
use Rattle.vf_journal.specs.Writes.{written_steps}
use Rattle.vf_journal.specs.JournalState.{IsSound}
use Rattle.vf_journal.specs.declared.area.Area.{Area}
use Rattle.vf_journal.proofs.Appending.{append_done, append_opened, append_seen, append_seen_first, append_staged}
use Rattle.vf_journal.proofs.Lengths.{length-entry_of}
use Rattle.vf_journal.proofs.Counts.{placed_more}
use Rattle.vf_disk.proofs.CallCounts.{changes_joined}
use Rattle.vf_journal.proofs.journal.Journal.append.Goals as goal

pub returns-in_err-write_parts_synced-clause-any_moment : goal.returns-in_err-write_parts_synced-clause-any_moment
returns-in_err-write_parts_synced-clause-any_moment g c = rw (← c.self.view_is) (λ item records is on.
    append_staged g.D.Disk.shown g.D.Disk.may_leave g.D.Disk.moment g.D.Disk.left_since g.met.D.Disk.only_now _ c.args.disk.now item records c.args.entry.now.items c.requires.entry is on c.write_parts_synced.new.disk c.write_parts_synced.ensures.any_moment)

pub returns-in_err-write_synced-clause-any_moment : goal.returns-in_err-write_synced-clause-any_moment
returns-in_err-write_synced-clause-any_moment g c = rw (← c.self.view_is) (λ item records is on.
    append_opened g.D.Disk.shown g.D.Disk.may_leave g.D.Disk.moment g.D.Disk.left_since g.met.D.Disk.only_now _ c.args.disk.now item records c.args.entry.now.items c.requires.entry is on c.write_parts_synced.new.disk c.write_synced.new.disk
    (c.in_ok-write_parts_synced.ensures.shown on.image on.shows) c.in_ok-write_parts_synced.ensures.synced c.write_parts_synced.ensures.any_moment c.write_synced.ensures.any_moment)

pub returns-in_err-write_synced-clause-calls : goal.returns-in_err-write_synced-clause-calls
returns-in_err-write_synced-clause-calls g c =
    let p = err_from_is_err_and c.from_residual-in_err-write_synced.result c.from_residual-in_err-write_synced.ensures.1 in
    rw (p.1, p.2) (changes_joined 2 2 (g.D.Disk.plan c.args.disk.now) (g.D.Disk.plan c.write_parts_synced.new.disk) (g.D.Disk.plan c.write_synced.new.disk) true c.in_ok-write_parts_synced.ensures.calls c.in_err-write_synced.ensures.calls)

pub overflow_add-end : goal.overflow_add-end
overflow_add-end g c = let built = c.requires.entry in omega (arith, ap length built.2, length-entry_of built.0, built.1, c.len.ensures.count)

pub overflow_sub-len : goal.overflow_sub-len
overflow_sub-len g c = let built = c.requires.entry in omega (arith, ap length built.2, length-entry_of built.0, c.len-2.ensures.count)

pub with-self-inside-requires-clause-end : goal.with-self-inside-requires-clause-end
with-self-inside-requires-clause-end g c = let built = c.requires.entry in omega (arith, ap length built.2, length-entry_of built.0, c.in_ok-write_parts_synced.ensures.bound)

pub invariant_of-self : goal.invariant_of-self
invariant_of-self g c =
    let built = c.requires.entry in
    let bound : c.self.inside.area.end + (c.len-2.result - 5) + 5 ≤ greatest_length = omega (arith, ap length built.2, length-entry_of built.0, c.len-2.ensures.count, c.in_ok-write_parts_synced.ensures.bound) in
    let placed = placed_more c.self.inside.area (c.len-2.result - 5) c.self.invariant.selected bound in
    subst (λ (area : Area). IsSound area None) (sym c.with-self-inside.ensures) (record { selected = placed; prepared = tt })

pub returns-clause-ok : goal.returns-clause-ok
returns-clause-ok g c = rw (c.with-self-inside.ensures, c.len-2.ensures.count, ← c.self.view_is) (λ item records is on.
    append_done g.D.Disk.shown g.D.Disk.may_leave g.D.Disk.moment g.D.Disk.left_since g.met.D.Disk.only_now _ c.args.disk.now item records c.args.entry.now.items c.requires.entry is on c.write_synced.new.disk
    (c.in_ok-write_synced.ensures.shown _ (c.in_ok-write_parts_synced.ensures.shown on.image on.shows)) c.in_ok-write_synced.ensures.synced)

pub returns-clause-any_moment : goal.returns-clause-any_moment
returns-clause-any_moment g c = rw (← c.self.view_is) (λ item records is on.
    append_opened g.D.Disk.shown g.D.Disk.may_leave g.D.Disk.moment g.D.Disk.left_since g.met.D.Disk.only_now _ c.args.disk.now item records c.args.entry.now.items c.requires.entry is on c.write_parts_synced.new.disk c.write_synced.new.disk
    (c.in_ok-write_parts_synced.ensures.shown on.image on.shows) c.in_ok-write_parts_synced.ensures.synced c.write_parts_synced.ensures.any_moment c.write_synced.ensures.any_moment)

pub returns-clause-within : goal.returns-clause-within
returns-clause-within g c =
    let built = c.requires.entry in
    let area = ap (λ (area : Area). area.end) c.with-self-inside.ensures in
    record { area = omega (arith, area, ap length built.2, length-entry_of built.0, c.in_ok-write_parts_synced.ensures.size, c.write_synced.ensures.grows); prepared = tt }

pub returns-in_err-write_parts_synced-clause-seen : goal.returns-in_err-write_parts_synced-clause-seen
returns-in_err-write_parts_synced-clause-seen g c = rw (← c.self.view_is) (λ item records is on.
    append_seen_first g.D.Disk.shown g.D.Disk.may_leave g.D.Disk.moment g.D.Disk.left_since g.met.D.Disk.only_now _ c.args.disk.now item records c.args.entry.now.items c.requires.entry is on
    (g.D.Disk.shown c.write_parts_synced.new.disk) (c.write_parts_synced.ensures.seen on.image on.shows))

pub returns-in_err-write_synced-clause-seen : goal.returns-in_err-write_synced-clause-seen
returns-in_err-write_synced-clause-seen g c = rw (← c.self.view_is) (λ item records is on.
    append_seen g.D.Disk.shown g.D.Disk.may_leave g.D.Disk.moment g.D.Disk.left_since g.met.D.Disk.only_now _ c.args.disk.now item records c.args.entry.now.items c.requires.entry is on
    (g.D.Disk.shown c.write_synced.new.disk) (c.write_synced.ensures.seen _ (c.in_ok-write_parts_synced.ensures.shown on.image on.shows)))

pub returns-clause-seen : goal.returns-clause-seen
returns-clause-seen g c = rw (← c.self.view_is) (λ item records is on.
    append_seen g.D.Disk.shown g.D.Disk.may_leave g.D.Disk.moment g.D.Disk.left_since g.met.D.Disk.only_now _ c.args.disk.now item records c.args.entry.now.items c.requires.entry is on
    (g.D.Disk.shown c.write_synced.new.disk) (c.write_synced.ensures.seen _ (c.in_ok-write_parts_synced.ensures.shown on.image on.shows)))

pub returns-clause-shown : goal.returns-clause-shown
returns-clause-shown g c = rw (← c.self.view_is) (λ image shows. c.in_ok-write_synced.ensures.shown _ (c.in_ok-write_parts_synced.ensures.shown image shows))

pub returns-in_err-write_parts_synced-clause-steps : goal.returns-in_err-write_parts_synced-clause-steps
returns-in_err-write_parts_synced-clause-steps g c =
    let p = err_from_is_err_and c.from_residual.result c.from_residual.ensures.1 in
    rw (p.1, ← c.self.view_is) (λ within. steps_failed (written_steps c.self.inside.area.end c.args.entry.now.items) (written_steps (c.self.inside.area.end - 1) (1 ∷ [])) (g.D.Disk.plan c.args.disk.now) (g.D.Disk.plan c.write_parts_synced.new.disk) (g.D.Disk.state c.args.disk.now) (g.D.Disk.state c.write_parts_synced.new.disk)
    (g.D.Disk.lack_count c.args.disk.now) (g.D.Disk.lack_count c.write_parts_synced.new.disk) (c.in_err-write_parts_synced.ensures.steps))

pub returns-in_err-write_synced-clause-steps : goal.returns-in_err-write_synced-clause-steps
returns-in_err-write_synced-clause-steps g c =
    let p = err_from_is_err_and c.from_residual-in_err-write_synced.result c.from_residual-in_err-write_synced.ensures.1 in
    rw (p.1, ← c.self.view_is) (λ within. steps_joined (written_steps c.self.inside.area.end c.args.entry.now.items) (written_steps (c.self.inside.area.end - 1) (1 ∷ [])) (g.D.Disk.plan c.args.disk.now) (g.D.Disk.plan c.write_parts_synced.new.disk) (g.D.Disk.plan c.write_synced.new.disk)
    (g.D.Disk.state c.args.disk.now) (g.D.Disk.state c.write_parts_synced.new.disk) (g.D.Disk.state c.write_synced.new.disk) true (g.D.Disk.lack_count c.args.disk.now) (g.D.Disk.lack_count c.write_parts_synced.new.disk) (g.D.Disk.lack_count c.write_synced.new.disk)
    (c.in_ok-write_parts_synced.ensures.steps) (c.in_err-write_synced.ensures.steps))

pub returns-clause-steps : goal.returns-clause-steps
returns-clause-steps g c =
    rw (← c.self.view_is) (λ within. steps_joined (written_steps c.self.inside.area.end c.args.entry.now.items) (written_steps (c.self.inside.area.end - 1) (1 ∷ [])) (g.D.Disk.plan c.args.disk.now) (g.D.Disk.plan c.write_parts_synced.new.disk) (g.D.Disk.plan c.write_synced.new.disk)
    (g.D.Disk.state c.args.disk.now) (g.D.Disk.state c.write_parts_synced.new.disk) (g.D.Disk.state c.write_synced.new.disk) false (g.D.Disk.lack_count c.args.disk.now) (g.D.Disk.lack_count c.write_parts_synced.new.disk) (g.D.Disk.lack_count c.write_synced.new.disk)
    (c.in_ok-write_parts_synced.ensures.steps) (c.in_ok-write_synced.ensures.steps))
