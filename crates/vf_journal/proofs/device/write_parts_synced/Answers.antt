use Rattle.std.proofs.Common.{◌≤◌, [], ◌∷◌, true, false, length, arith}
use Rattle.std.proofs.lemmas.Result.{err_from_is_err_and}
use Rattle.vf_disk.specs.Disk.{Torn}
use Rattle.vf_disk.specs.declared.step.Step.TheVariants.{Synced, Wrote}
use Rattle.vf_disk.proofs.Noted.{sync_goes}
use Rattle.vf_disk.proofs.Rows.{steps_failed, steps_joined}
use Rattle.vf_journal.proofs.Runs.{seen_still, synced_run, write_run, written_seen}
use Rattle.vf_journal.proofs.device.write_parts_synced.Goals as goal

pub returns-in_err-write_parts-clause-any_moment : goal.returns-in_err-write_parts-clause-any_moment
returns-in_err-write_parts-clause-any_moment g c =
    write_run g.D.Disk.moment g.D.Disk.left_since g.D.Disk.may_leave c.args.at (length c.args.octets.now.items) c.args.disk.now c.write_parts.new.self g.met.D.Disk.only_now c.write_parts.ensures.crash c.write_parts.ensures.time

pub returns-in_err-sync-clause-any_moment : goal.returns-in_err-sync-clause-any_moment
returns-in_err-sync-clause-any_moment g c =
    synced_run g.D.Disk.moment g.D.Disk.left_since g.D.Disk.may_leave c.args.at (length c.args.octets.now.items) c.args.disk.now c.write_parts.new.self g.met.D.Disk.only_now c.write_parts.ensures.crash c.write_parts.ensures.time c.sync.new.self c.sync.ensures.time c.sync.ensures.crash

pub returns-clause-any_moment : goal.returns-clause-any_moment
returns-clause-any_moment g c =
    synced_run g.D.Disk.moment g.D.Disk.left_since g.D.Disk.may_leave c.args.at (length c.args.octets.now.items) c.args.disk.now c.write_parts.new.self g.met.D.Disk.only_now c.write_parts.ensures.crash c.write_parts.ensures.time c.sync.new.self c.sync.ensures.time c.sync.ensures.crash

pub returns-in_err-write_parts-clause-seen : goal.returns-in_err-write_parts-clause-seen
returns-in_err-write_parts-clause-seen g c = λ old shows.
    let low : c.args.at ≤ length old = omega (arith, g.met.D.Disk.measured c.args.disk.now old shows, c.requires) in
    written_seen (g.D.Disk.shown c.args.disk.now) (g.D.Disk.shown c.write_parts.new.self) old c.args.at c.args.octets.now.items c.write_parts.result low shows c.write_parts.ensures.shown

pub returns-in_err-sync-clause-seen : goal.returns-in_err-sync-clause-seen
returns-in_err-sync-clause-seen g c = λ old shows.
    let low : c.args.at ≤ length old = omega (arith, g.met.D.Disk.measured c.args.disk.now old shows, c.requires) in
    seen_still (g.D.Disk.shown c.write_parts.new.self) (g.D.Disk.shown c.sync.new.self) (Torn c.args.at (length c.args.octets.now.items) old) c.sync.ensures.shown
    (written_seen (g.D.Disk.shown c.args.disk.now) (g.D.Disk.shown c.write_parts.new.self) old c.args.at c.args.octets.now.items c.write_parts.result low shows c.write_parts.ensures.shown)

pub returns-clause-seen : goal.returns-clause-seen
returns-clause-seen g c = λ old shows.
    let low : c.args.at ≤ length old = omega (arith, g.met.D.Disk.measured c.args.disk.now old shows, c.requires) in
    seen_still (g.D.Disk.shown c.write_parts.new.self) (g.D.Disk.shown c.sync.new.self) (Torn c.args.at (length c.args.octets.now.items) old) c.sync.ensures.shown
    (written_seen (g.D.Disk.shown c.args.disk.now) (g.D.Disk.shown c.write_parts.new.self) old c.args.at c.args.octets.now.items c.write_parts.result low shows c.write_parts.ensures.shown)

pub returns-in_err-write_parts-clause-steps : goal.returns-in_err-write_parts-clause-steps
returns-in_err-write_parts-clause-steps g c =
    let p = err_from_is_err_and c.from_residual.result c.from_residual.ensures.1 in
    rw p.1 (steps_failed (Wrote c.args.at c.args.octets.now.items true ∷ []) (Synced ∷ []) (g.D.Disk.plan c.args.disk.now) (g.D.Disk.plan c.write_parts.new.self) (g.D.Disk.state c.args.disk.now) (g.D.Disk.state c.write_parts.new.self)
    (g.D.Disk.lack_count c.args.disk.now) (g.D.Disk.lack_count c.write_parts.new.self) c.in_err-write_parts.ensures.state)

pub returns-in_err-sync-clause-steps : goal.returns-in_err-sync-clause-steps
returns-in_err-sync-clause-steps g c =
    let p = err_from_is_err_and c.from_residual-in_err-sync.result c.from_residual-in_err-sync.ensures.1 in
    rw p.1 (steps_joined (Wrote c.args.at c.args.octets.now.items true ∷ []) (Synced ∷ []) (g.D.Disk.plan c.args.disk.now) (g.D.Disk.plan c.write_parts.new.self) (g.D.Disk.plan c.sync.new.self)
    (g.D.Disk.state c.args.disk.now) (g.D.Disk.state c.write_parts.new.self) (g.D.Disk.state c.sync.new.self) true (g.D.Disk.lack_count c.args.disk.now) (g.D.Disk.lack_count c.write_parts.new.self) (g.D.Disk.lack_count c.sync.new.self)
    c.in_ok-write_parts.ensures.state
    (sync_goes (g.D.Disk.plan c.write_parts.new.self) (g.D.Disk.plan c.sync.new.self) (g.D.Disk.state c.write_parts.new.self) (g.D.Disk.state c.sync.new.self) true (g.D.Disk.lack_count c.write_parts.new.self) (g.D.Disk.lack_count c.sync.new.self)
    c.in_err-sync.ensures.plan c.sync.ensures.state c.sync.ensures.memory))

pub returns-clause-steps : goal.returns-clause-steps
returns-clause-steps g c =
    steps_joined (Wrote c.args.at c.args.octets.now.items true ∷ []) (Synced ∷ []) (g.D.Disk.plan c.args.disk.now) (g.D.Disk.plan c.write_parts.new.self) (g.D.Disk.plan c.sync.new.self)
    (g.D.Disk.state c.args.disk.now) (g.D.Disk.state c.write_parts.new.self) (g.D.Disk.state c.sync.new.self) false (g.D.Disk.lack_count c.args.disk.now) (g.D.Disk.lack_count c.write_parts.new.self) (g.D.Disk.lack_count c.sync.new.self)
    c.in_ok-write_parts.ensures.state
    (sync_goes (g.D.Disk.plan c.write_parts.new.self) (g.D.Disk.plan c.sync.new.self) (g.D.Disk.state c.write_parts.new.self) (g.D.Disk.state c.sync.new.self) false (g.D.Disk.lack_count c.write_parts.new.self) (g.D.Disk.lack_count c.sync.new.self)
    c.in_ok-sync.ensures.plan c.sync.ensures.state c.sync.ensures.memory)
