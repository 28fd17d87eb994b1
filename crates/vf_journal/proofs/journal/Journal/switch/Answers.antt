use Rattle.vf_journal.proofs.Switching.{switch_done, switch_left, switch_seen}
use Rattle.vf_journal.proofs.journal.Journal.switch.Goals as goal

pub returns-in_err-write_synced-clause-any_moment : goal.returns-in_err-write_synced-clause-any_moment
returns-in_err-write_synced-clause-any_moment g c = λ item records on has.
    switch_left g.D.Disk.shown g.D.Disk.may_leave g.D.Disk.moment g.D.Disk.left_since c.args.self.now c.args.disk.now item records on has c.write_synced.new.disk c.write_synced.ensures.any_moment

pub returns-clause-any_moment : goal.returns-clause-any_moment
returns-clause-any_moment g c = λ item records on has.
    switch_left g.D.Disk.shown g.D.Disk.may_leave g.D.Disk.moment g.D.Disk.left_since c.args.self.now c.args.disk.now item records on has c.write_synced.new.disk c.write_synced.ensures.any_moment

pub returns-clause-ok : goal.returns-clause-ok
returns-clause-ok g c = rw (← c.self.view_is) (λ item records on has.
    switch_done g.D.Disk.shown g.D.Disk.may_leave g.D.Disk.moment g.D.Disk.left_since _ c.args.disk.now item records on has c.in-Some.area c.in-Some.is c.write_synced.new.disk (rw c.selector.ensures at (c.in_ok-write_synced.ensures.shown on.image on.shows)) c.in_ok-write_synced.ensures.synced)

pub returns-in_err-write_synced-clause-seen : goal.returns-in_err-write_synced-clause-seen
returns-in_err-write_synced-clause-seen g c = λ item records on has.
    switch_seen g.D.Disk.shown g.D.Disk.may_leave g.D.Disk.moment g.D.Disk.left_since c.args.self.now c.args.disk.now item records on has (g.D.Disk.shown c.write_synced.new.disk) (c.write_synced.ensures.seen on.image on.shows)

pub returns-clause-seen : goal.returns-clause-seen
returns-clause-seen g c = λ item records on has.
    switch_seen g.D.Disk.shown g.D.Disk.may_leave g.D.Disk.moment g.D.Disk.left_since c.args.self.now c.args.disk.now item records on has (g.D.Disk.shown c.write_synced.new.disk) (c.write_synced.ensures.seen on.image on.shows)
