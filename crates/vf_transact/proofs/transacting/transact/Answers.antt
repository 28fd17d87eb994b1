-- The store is opened, the task is done, and the disk is given back.
use Rattle.std.proofs.Common.{refl, sym, subst}
use Rattle.vf_transact.specs.Transaction.{Counts, DoesTransact, Seen}
use Rattle.vf_transact.proofs.Tasks.{does_not, does_opened, not_refused, refuses}
use Rattle.vf_transact.proofs.transacting.transact.Goals as goal

pub returns-in-Ok-clause-does : goal.returns-in-Ok-clause-does
returns-in-Ok-clause-does g c = λ image octets output tables before are shows represents left taken told.
    let disk = g.D.Disk in
    let opened = c.in-Ok.ensures.represented image tables shows represents in
    let counts : Counts = record { faults = g.C.Dial.fault_count c.args.dial.now; lost = g.C.Dial.lost_count c.args.dial.now } in
    let seen : Seen = record { told = g.C.Dial.told c.do_task-result.new.dial; taken = g.O.Sink.taken c.do_task-result.new.out; counts = record { faults = g.C.Dial.fault_count c.do_task-result.new.dial; lost = g.C.Dial.lost_count c.do_task-result.new.dial } } in
    let done = c.do_task-result.ensures.done octets output before are opened.1 left taken told in
    subst (λ (d : g.row.D.Denot). DoesTransact disk.shown disk.may_leave disk.moment disk.left_since c.args.words.now octets c.args.disk d before output counts seen tables c.do_task-result.result) (sym c.close.ensures)
    (does_opened disk.shown disk.may_leave disk.moment disk.left_since c.args.words.now octets before output counts c.args.disk c.in-Ok.store c.do_task-result.new.store seen tables c.do_task-result.result opened.0 (c.in-Ok.ensures.any_moment tables) done)

pub returns-in-Err-clause-does : goal.returns-in-Err-clause-does
returns-in-Err-clause-does g c = λ image octets output tables before are shows represents left taken told.
    let disk = g.D.Disk in
    let counts : Counts = record { faults = g.C.Dial.fault_count c.args.dial.now; lost = g.C.Dial.lost_count c.args.dial.now } in
    let seen : Seen = record { told = g.C.Dial.told c.args.dial.now; taken = g.O.Sink.taken c.args.out.now; counts = counts } in
    does_not disk.shown disk.may_leave disk.moment disk.left_since c.args.words.now octets before output counts c.args.disk c.in-Err.disk seen image tables c.in-Err.error (c.in-Err.ensures.answers image shows) shows represents c.in-Err.ensures.looks.same c.in-Err.ensures.looks.now
    (c.in-Err.ensures.any_moment tables) told taken (refl, refl)

pub returns-in-Ok-clause-refused : goal.returns-in-Ok-clause-refused
returns-in-Ok-clause-refused g c = λ image shows. not_refused image c.do_task-result.result (c.in-Ok.ensures.answers image shows)

pub returns-in-Err-clause-refused : goal.returns-in-Err-clause-refused
returns-in-Err-clause-refused g c = λ image shows. refuses image c.in-Err.error (c.in-Err.ensures.answers image shows)
