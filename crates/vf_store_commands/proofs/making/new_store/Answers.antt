use Rattle.std.proofs.Common.{inr, [], ◌∙◌, subst, sym}
use Rattle.vf_disk.proofs.Runs.{joined, leaves_octets}
use Rattle.vf_journal.specs.Layout.{new_journal}
use Rattle.vf_store.specs.Represented.{IsNoneOrNew, Represents}
use Rattle.vf_store.specs.StoreState.{disk_of}
use Rattle.vf_tables.specs.Entries.{no_tables}
use Rattle.vf_store_commands.proofs.NewStores.{is_new, opened_cause, opened_count, opens_outside}
use Rattle.vf_store_commands.proofs.making.new_store.Goals as goal

pub returns-in-Ok-clause-new : goal.returns-in-Ok-clause-new
returns-in-Ok-clause-new g c = λ shows.
    let made = c.in-Ok.ensures.made [] shows in
    is_new g.D.Disk.shown g.D.Disk.may_leave c.held_is_read.ensures c.new_holds_none.ensures c.open.result (c.open.ensures.looks.same ∙ made)
    (c.open.ensures.represented new_journal no_tables made c.in-Ok.ensures.represents) c.open.ensures.limit

pub returns-in-Ok-clause-errors : goal.returns-in-Ok-clause-errors
returns-in-Ok-clause-errors g c = λ shows.
    opens_outside g.D.Disk.shown g.D.Disk.may_leave c.held_is_read.ensures c.new_holds_none.ensures c.open.result (c.open.ensures.answers new_journal (c.in-Ok.ensures.made [] shows))

pub returns-in-Ok-clause-any_moment : goal.returns-in-Ok-clause-any_moment
returns-in-Ok-clause-any_moment g c = λ shows synced.
    let made = c.in-Ok.ensures.made [] shows in
    let may_leave = g.D.Disk.may_leave c.create.new.disk in
    joined g.D.Disk.moment g.D.Disk.left_since c.args.disk c.create.new.disk (disk_of c.open.result) IsNoneOrNew may_leave IsNoneOrNew (c.in-Ok.ensures.any_moment [] shows synced) c.open.ensures.looks.since (λ image none. none)
    (λ image may. inr (subst (λ i. Represents i no_tables) (sym (leaves_octets (g.D.Disk.shown c.create.new.disk) may_leave new_journal image c.in-Ok.ensures.synced made may)) c.in-Ok.ensures.represents))

pub returns-in-Ok-clause-count : goal.returns-in-Ok-clause-count
returns-in-Ok-clause-count g c = opened_count g.D.Disk.fault_count (g.D.Disk.fault_count c.args.disk) (g.D.Disk.fault_count c.create.new.disk) c.open.result c.open.ensures.causes c.in-Ok.ensures.causes

pub returns-in-Ok-clause-cause : goal.returns-in-Ok-clause-cause
returns-in-Ok-clause-cause g c = opened_cause g.D.Disk.fault_count (g.D.Disk.fault_count c.args.disk) (g.D.Disk.fault_count c.create.new.disk) c.open.result c.open.ensures.causes c.in-Ok.ensures.causes
