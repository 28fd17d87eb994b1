use Rattle.std.proofs.Common.{◌≤◌, [], ◌∷◌, length, true, false, arith}
use Rattle.std.proofs.lemmas.Result.{err_from_is_err_and}
use Rattle.vf_disk.specs.declared.step.Step.TheVariants.{Wrote}
use Rattle.vf_disk.proofs.Rows.{steps_failed, steps_joined}
use Rattle.vf_journal.specs.Writes.{written_steps}
use Rattle.vf_disk.proofs.CallCounts.{changes_joined, one_change}
use Rattle.vf_journal.proofs.Runs.{both_run, both_seen, first_run, first_seen, written_seen}
use Rattle.vf_journal.proofs.device.write_both_synced.Goals as goal

pub returns-in_err-write_parts-clause-any_moment : goal.returns-in_err-write_parts-clause-any_moment
returns-in_err-write_parts-clause-any_moment g c =
    first_run g.D.Disk.moment g.D.Disk.left_since g.D.Disk.may_leave c.args.at (length c.args.octets.now.items) c.args.disk.now c.write_parts.new.self g.met.D.Disk.only_now c.write_parts.ensures.crash c.write_parts.ensures.time c.args.then_at (length c.args.then.now)

pub returns-in_err-write_synced-clause-any_moment : goal.returns-in_err-write_synced-clause-any_moment
returns-in_err-write_synced-clause-any_moment g c =
    both_run g.D.Disk.moment g.D.Disk.left_since g.D.Disk.may_leave c.args.at (length c.args.octets.now.items) c.args.disk.now c.write_parts.new.self g.met.D.Disk.only_now c.write_parts.ensures.crash c.write_parts.ensures.time c.args.then_at (length c.args.then.now) c.write_synced.new.disk c.write_synced.ensures.any_moment

pub returns-in_err-write_synced-clause-calls : goal.returns-in_err-write_synced-clause-calls
returns-in_err-write_synced-clause-calls g c =
    let p = err_from_is_err_and c.from_residual-in_err-write_synced.result c.from_residual-in_err-write_synced.ensures.1 in
    rw p.1 (changes_joined 1 2 (g.D.Disk.plan c.args.disk.now) (g.D.Disk.plan c.write_parts.new.self) (g.D.Disk.plan c.write_synced.new.disk) true (one_change (g.D.Disk.plan c.args.disk.now) (g.D.Disk.plan c.write_parts.new.self) c.in_ok-write_parts.ensures.plan) c.in_err-write_synced.ensures.calls)

pub returns-clause-any_moment : goal.returns-clause-any_moment
returns-clause-any_moment g c =
    both_run g.D.Disk.moment g.D.Disk.left_since g.D.Disk.may_leave c.args.at (length c.args.octets.now.items) c.args.disk.now c.write_parts.new.self g.met.D.Disk.only_now c.write_parts.ensures.crash c.write_parts.ensures.time c.args.then_at (length c.args.then.now) c.write_synced.new.disk c.write_synced.ensures.any_moment

pub returns-in_err-write_parts-clause-seen : goal.returns-in_err-write_parts-clause-seen
returns-in_err-write_parts-clause-seen g c = λ old shows.
    let low : c.args.at ≤ length old = omega (arith, g.met.D.Disk.measured c.args.disk.now old shows, c.requires.at) in
    first_seen (g.D.Disk.shown c.write_parts.new.self) old c.args.at (length c.args.octets.now.items) c.args.then_at (length c.args.then.now)
    (written_seen (g.D.Disk.shown c.args.disk.now) (g.D.Disk.shown c.write_parts.new.self) old c.args.at c.args.octets.now.items c.write_parts.result low shows c.write_parts.ensures.shown)

pub returns-in_err-write_synced-clause-seen : goal.returns-in_err-write_synced-clause-seen
returns-in_err-write_synced-clause-seen g c = λ old shows.
    let low : c.args.at ≤ length old = omega (arith, g.met.D.Disk.measured c.args.disk.now old shows, c.requires.at) in
    let mid = rw shows at c.in_ok-write_parts.ensures.shown in
    both_seen (g.D.Disk.shown c.write_synced.new.disk) old c.args.at c.args.octets.now.items c.args.then_at (length c.args.then.now) low (c.write_synced.ensures.seen _ mid)

pub returns-clause-seen : goal.returns-clause-seen
returns-clause-seen g c = λ old shows.
    let low : c.args.at ≤ length old = omega (arith, g.met.D.Disk.measured c.args.disk.now old shows, c.requires.at) in
    let mid = rw shows at c.in_ok-write_parts.ensures.shown in
    both_seen (g.D.Disk.shown c.write_synced.new.disk) old c.args.at c.args.octets.now.items c.args.then_at (length c.args.then.now) low (c.write_synced.ensures.seen _ mid)

pub returns-in_err-write_parts-clause-steps : goal.returns-in_err-write_parts-clause-steps
returns-in_err-write_parts-clause-steps g c =
    let p = err_from_is_err_and c.from_residual.result c.from_residual.ensures.1 in
    rw p.1 (steps_failed (Wrote c.args.at c.args.octets.now.items true ∷ []) (written_steps c.args.then_at c.args.then.now) (g.D.Disk.plan c.args.disk.now) (g.D.Disk.plan c.write_parts.new.self) (g.D.Disk.state c.args.disk.now) (g.D.Disk.state c.write_parts.new.self)
    (g.D.Disk.lack_count c.args.disk.now) (g.D.Disk.lack_count c.write_parts.new.self) c.in_err-write_parts.ensures.state)

pub returns-in_err-write_synced-clause-steps : goal.returns-in_err-write_synced-clause-steps
returns-in_err-write_synced-clause-steps g c =
    let p = err_from_is_err_and c.from_residual-in_err-write_synced.result c.from_residual-in_err-write_synced.ensures.1 in
    rw p.1 (steps_joined (Wrote c.args.at c.args.octets.now.items true ∷ []) (written_steps c.args.then_at c.args.then.now) (g.D.Disk.plan c.args.disk.now) (g.D.Disk.plan c.write_parts.new.self) (g.D.Disk.plan c.write_synced.new.disk)
    (g.D.Disk.state c.args.disk.now) (g.D.Disk.state c.write_parts.new.self) (g.D.Disk.state c.write_synced.new.disk) true (g.D.Disk.lack_count c.args.disk.now) (g.D.Disk.lack_count c.write_parts.new.self) (g.D.Disk.lack_count c.write_synced.new.disk)
    c.in_ok-write_parts.ensures.state c.in_err-write_synced.ensures.steps)

pub returns-clause-steps : goal.returns-clause-steps
returns-clause-steps g c =
    steps_joined (Wrote c.args.at c.args.octets.now.items true ∷ []) (written_steps c.args.then_at c.args.then.now) (g.D.Disk.plan c.args.disk.now) (g.D.Disk.plan c.write_parts.new.self) (g.D.Disk.plan c.write_synced.new.disk)
    (g.D.Disk.state c.args.disk.now) (g.D.Disk.state c.write_parts.new.self) (g.D.Disk.state c.write_synced.new.disk) false (g.D.Disk.lack_count c.args.disk.now) (g.D.Disk.lack_count c.write_parts.new.self) (g.D.Disk.lack_count c.write_synced.new.disk)
    c.in_ok-write_parts.ensures.state c.in_ok-write_synced.ensures.steps
