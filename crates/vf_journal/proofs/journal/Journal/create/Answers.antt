use Rattle.std.proofs.Common.{◌≡◌, Some, true, false, arith, [], ◌∷◌, ◌++◌, sym, ap, ◌∙◌}
use Rattle.std.proofs.lemmas.List.{nil_from_length}
use Rattle.std.proofs.lemmas.Result.{err_from_is_err_and}
use Rattle.vf_disk.proofs.Rows.{steps_failed, steps_joined}
use Rattle.vf_journal.specs.Writes.{written_steps}
use Rattle.vf_journal.proofs.Creating.{create_first, create_is, create_second, create_seen, create_third, first_left, new_is, rest_of_new, second_left, third_left}
use Rattle.vf_disk.proofs.CallCounts.{changes_fewer, changes_joined}
use Rattle.vf_journal.proofs.journal.Journal.create.Goals as goal

pub returns-in_err-write_synced-clause-any_moment : goal.returns-in_err-write_synced-clause-any_moment
returns-in_err-write_synced-clause-any_moment g c = λ octets shows synced.
    let none : octets ≡ [] = nil_from_length octets (g.met.D.Disk.measured c.args.disk.now octets shows ∙ c.requires) in
    create_first g.D.Disk.shown g.D.Disk.may_leave g.D.Disk.moment g.D.Disk.left_since c.args.disk.now (shows ∙ ap Some none) synced c.write_synced.new.disk c.write_synced.ensures.any_moment

pub returns-in_err-write_synced-2-clause-any_moment : goal.returns-in_err-write_synced-2-clause-any_moment
returns-in_err-write_synced-2-clause-any_moment g c = λ octets shows synced.
    let none : octets ≡ [] = nil_from_length octets (g.met.D.Disk.measured c.args.disk.now octets shows ∙ c.requires) in
    let empty = shows ∙ ap Some none in
    create_second g.D.Disk.shown g.D.Disk.may_leave g.D.Disk.moment g.D.Disk.left_since c.args.disk.now empty synced c.write_synced.new.disk c.write_synced-2.new.disk c.write_synced.ensures.any_moment
    (c.in_ok-write_synced.ensures.shown [] empty) c.in_ok-write_synced.ensures.synced c.write_synced-2.ensures.any_moment

pub returns-in_err-write_synced-2-clause-calls : goal.returns-in_err-write_synced-2-clause-calls
returns-in_err-write_synced-2-clause-calls g c =
    let p = err_from_is_err_and c.from_residual-in_err-write_synced-2.result c.from_residual-in_err-write_synced-2.ensures.1 in
    let made = changes_joined 2 2 (g.D.Disk.plan c.args.disk.now) (g.D.Disk.plan c.write_synced.new.disk) (g.D.Disk.plan c.write_synced-2.new.disk) true c.in_ok-write_synced.ensures.calls c.in_err-write_synced-2.ensures.calls in
    rw p.1 (changes_fewer 4 6 (g.D.Disk.plan c.args.disk.now) (g.D.Disk.plan c.write_synced-2.new.disk) (omega arith) made)

pub returns-in_err-write_synced-3-clause-any_moment : goal.returns-in_err-write_synced-3-clause-any_moment
returns-in_err-write_synced-3-clause-any_moment g c = λ octets shows synced.
    let none : octets ≡ [] = nil_from_length octets (g.met.D.Disk.measured c.args.disk.now octets shows ∙ c.requires) in
    let empty = shows ∙ ap Some none in
    let one = c.in_ok-write_synced.ensures.shown [] empty in
    create_third g.D.Disk.shown g.D.Disk.may_leave g.D.Disk.moment g.D.Disk.left_since c.args.disk.now empty synced c.write_synced.new.disk c.write_synced-2.new.disk c.write_synced-3.new.disk c.write_synced.ensures.any_moment
    one c.in_ok-write_synced.ensures.synced c.write_synced-2.ensures.any_moment (c.in_ok-write_synced-2.ensures.shown _ one) c.in_ok-write_synced-2.ensures.synced c.write_synced-3.ensures.any_moment

pub returns-in_err-write_synced-3-clause-calls : goal.returns-in_err-write_synced-3-clause-calls
returns-in_err-write_synced-3-clause-calls g c =
    let p = err_from_is_err_and c.from_residual-in_err-write_synced-3.result c.from_residual-in_err-write_synced-3.ensures.1 in
    let two = changes_joined 2 2 (g.D.Disk.plan c.args.disk.now) (g.D.Disk.plan c.write_synced.new.disk) (g.D.Disk.plan c.write_synced-2.new.disk) false c.in_ok-write_synced.ensures.calls c.in_ok-write_synced-2.ensures.calls in
    rw p.1 (changes_joined 4 2 (g.D.Disk.plan c.args.disk.now) (g.D.Disk.plan c.write_synced-2.new.disk) (g.D.Disk.plan c.write_synced-3.new.disk) true two c.in_err-write_synced-3.ensures.calls)

pub returns-clause-made : goal.returns-clause-made
returns-clause-made g c = λ octets shows.
    let none : octets ≡ [] = nil_from_length octets (g.met.D.Disk.measured c.args.disk.now octets shows ∙ c.requires) in
    let empty = shows ∙ ap Some none in
    c.in_ok-write_synced-3.ensures.shown _ (c.in_ok-write_synced-2.ensures.shown _ (c.in_ok-write_synced.ensures.shown [] empty)) ∙ ap Some (sym new_is)

pub returns-clause-any_moment : goal.returns-clause-any_moment
returns-clause-any_moment g c = λ octets shows synced.
    let none : octets ≡ [] = nil_from_length octets (g.met.D.Disk.measured c.args.disk.now octets shows ∙ c.requires) in
    let empty = shows ∙ ap Some none in
    let one = c.in_ok-write_synced.ensures.shown [] empty in
    create_third g.D.Disk.shown g.D.Disk.may_leave g.D.Disk.moment g.D.Disk.left_since c.args.disk.now empty synced c.write_synced.new.disk c.write_synced-2.new.disk c.write_synced-3.new.disk c.write_synced.ensures.any_moment
    one c.in_ok-write_synced.ensures.synced c.write_synced-2.ensures.any_moment (c.in_ok-write_synced-2.ensures.shown _ one) c.in_ok-write_synced-2.ensures.synced c.write_synced-3.ensures.any_moment

pub returns-in_err-write_synced-clause-seen : goal.returns-in_err-write_synced-clause-seen
returns-in_err-write_synced-clause-seen g c = λ octets shows.
    let none : octets ≡ [] = nil_from_length octets (g.met.D.Disk.measured c.args.disk.now octets shows ∙ c.requires) in
    create_seen (g.D.Disk.shown c.write_synced.new.disk) [] (0 ∷ []) 0 first_left (c.write_synced.ensures.seen [] (shows ∙ ap Some none))

pub returns-in_err-write_synced-2-clause-seen : goal.returns-in_err-write_synced-2-clause-seen
returns-in_err-write_synced-2-clause-seen g c = λ octets shows.
    let none : octets ≡ [] = nil_from_length octets (g.met.D.Disk.measured c.args.disk.now octets shows ∙ c.requires) in
    create_seen (g.D.Disk.shown c.write_synced-2.new.disk) (0 ∷ []) rest_of_new 1 second_left (c.write_synced-2.ensures.seen _ (c.in_ok-write_synced.ensures.shown [] (shows ∙ ap Some none)))

pub returns-in_err-write_synced-3-clause-seen : goal.returns-in_err-write_synced-3-clause-seen
returns-in_err-write_synced-3-clause-seen g c = λ octets shows.
    let none : octets ≡ [] = nil_from_length octets (g.met.D.Disk.measured c.args.disk.now octets shows ∙ c.requires) in
    let two = c.in_ok-write_synced-2.ensures.shown _ (c.in_ok-write_synced.ensures.shown [] (shows ∙ ap Some none)) in
    create_seen (g.D.Disk.shown c.write_synced-3.new.disk) (0 ∷ rest_of_new) (70 ∷ []) 0 third_left (c.write_synced-3.ensures.seen _ two)

pub returns-clause-seen : goal.returns-clause-seen
returns-clause-seen g c = λ octets shows.
    let none : octets ≡ [] = nil_from_length octets (g.met.D.Disk.measured c.args.disk.now octets shows ∙ c.requires) in
    let two = c.in_ok-write_synced-2.ensures.shown _ (c.in_ok-write_synced.ensures.shown [] (shows ∙ ap Some none)) in
    create_seen (g.D.Disk.shown c.write_synced-3.new.disk) (0 ∷ rest_of_new) (70 ∷ []) 0 third_left (c.write_synced-3.ensures.seen _ two)

pub returns-in_err-write_synced-clause-steps : goal.returns-in_err-write_synced-clause-steps
returns-in_err-write_synced-clause-steps g c =
    let p = err_from_is_err_and c.from_residual.result c.from_residual.ensures.1 in
    rw (p.1, create_is) (steps_failed (written_steps 0 (0 ∷ [])) (written_steps 1 rest_of_new ++ written_steps 0 (70 ∷ [])) (g.D.Disk.plan c.args.disk.now) (g.D.Disk.plan c.write_synced.new.disk) (g.D.Disk.state c.args.disk.now) (g.D.Disk.state c.write_synced.new.disk)
    (g.D.Disk.lack_count c.args.disk.now) (g.D.Disk.lack_count c.write_synced.new.disk) (c.in_err-write_synced.ensures.steps))

pub returns-in_err-write_synced-2-clause-steps : goal.returns-in_err-write_synced-2-clause-steps
returns-in_err-write_synced-2-clause-steps g c =
    let p = err_from_is_err_and c.from_residual-in_err-write_synced-2.result c.from_residual-in_err-write_synced-2.ensures.1 in
    rw (p.1, create_is) (steps_failed (written_steps 0 (0 ∷ []) ++ written_steps 1 rest_of_new) (written_steps 0 (70 ∷ [])) (g.D.Disk.plan c.args.disk.now) (g.D.Disk.plan c.write_synced-2.new.disk) (g.D.Disk.state c.args.disk.now) (g.D.Disk.state c.write_synced-2.new.disk)
    (g.D.Disk.lack_count c.args.disk.now) (g.D.Disk.lack_count c.write_synced-2.new.disk) (steps_joined (written_steps 0 (0 ∷ [])) (written_steps 1 rest_of_new) (g.D.Disk.plan c.args.disk.now) (g.D.Disk.plan c.write_synced.new.disk) (g.D.Disk.plan c.write_synced-2.new.disk)
    (g.D.Disk.state c.args.disk.now) (g.D.Disk.state c.write_synced.new.disk) (g.D.Disk.state c.write_synced-2.new.disk) true (g.D.Disk.lack_count c.args.disk.now) (g.D.Disk.lack_count c.write_synced.new.disk) (g.D.Disk.lack_count c.write_synced-2.new.disk)
    (c.in_ok-write_synced.ensures.steps) (c.in_err-write_synced-2.ensures.steps)))

pub returns-in_err-write_synced-3-clause-steps : goal.returns-in_err-write_synced-3-clause-steps
returns-in_err-write_synced-3-clause-steps g c =
    let p = err_from_is_err_and c.from_residual-in_err-write_synced-3.result c.from_residual-in_err-write_synced-3.ensures.1 in
    rw (p.1, create_is) (steps_joined (written_steps 0 (0 ∷ []) ++ written_steps 1 rest_of_new) (written_steps 0 (70 ∷ [])) (g.D.Disk.plan c.args.disk.now) (g.D.Disk.plan c.write_synced-2.new.disk) (g.D.Disk.plan c.write_synced-3.new.disk)
    (g.D.Disk.state c.args.disk.now) (g.D.Disk.state c.write_synced-2.new.disk) (g.D.Disk.state c.write_synced-3.new.disk) true (g.D.Disk.lack_count c.args.disk.now) (g.D.Disk.lack_count c.write_synced-2.new.disk) (g.D.Disk.lack_count c.write_synced-3.new.disk)
    (steps_joined (written_steps 0 (0 ∷ [])) (written_steps 1 rest_of_new) (g.D.Disk.plan c.args.disk.now) (g.D.Disk.plan c.write_synced.new.disk) (g.D.Disk.plan c.write_synced-2.new.disk)
    (g.D.Disk.state c.args.disk.now) (g.D.Disk.state c.write_synced.new.disk) (g.D.Disk.state c.write_synced-2.new.disk) false (g.D.Disk.lack_count c.args.disk.now) (g.D.Disk.lack_count c.write_synced.new.disk) (g.D.Disk.lack_count c.write_synced-2.new.disk)
    (c.in_ok-write_synced.ensures.steps) (c.in_ok-write_synced-2.ensures.steps)) (c.in_err-write_synced-3.ensures.steps))

pub returns-clause-steps : goal.returns-clause-steps
returns-clause-steps g c =
    rw create_is (steps_joined (written_steps 0 (0 ∷ []) ++ written_steps 1 rest_of_new) (written_steps 0 (70 ∷ [])) (g.D.Disk.plan c.args.disk.now) (g.D.Disk.plan c.write_synced-2.new.disk) (g.D.Disk.plan c.write_synced-3.new.disk)
    (g.D.Disk.state c.args.disk.now) (g.D.Disk.state c.write_synced-2.new.disk) (g.D.Disk.state c.write_synced-3.new.disk) false (g.D.Disk.lack_count c.args.disk.now) (g.D.Disk.lack_count c.write_synced-2.new.disk) (g.D.Disk.lack_count c.write_synced-3.new.disk)
    (steps_joined (written_steps 0 (0 ∷ [])) (written_steps 1 rest_of_new) (g.D.Disk.plan c.args.disk.now) (g.D.Disk.plan c.write_synced.new.disk) (g.D.Disk.plan c.write_synced-2.new.disk)
    (g.D.Disk.state c.args.disk.now) (g.D.Disk.state c.write_synced.new.disk) (g.D.Disk.state c.write_synced-2.new.disk) false (g.D.Disk.lack_count c.args.disk.now) (g.D.Disk.lack_count c.write_synced.new.disk) (g.D.Disk.lack_count c.write_synced-2.new.disk)
    (c.in_ok-write_synced.ensures.steps) (c.in_ok-write_synced-2.ensures.steps)) (c.in_ok-write_synced-3.ensures.steps))
