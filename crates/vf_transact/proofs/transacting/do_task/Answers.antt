-- A task that isn't taken up, and one that is done over connections.
use Rattle.std.proofs.Common.{refl, ap}
use Rattle.vf_store.specs.StoreState.{StoreState}
use Rattle.vf_transact.specs.Starting.{taken_with}
use Rattle.vf_transact.specs.Transaction.{Seen}
use Rattle.vf_transact.proofs.Tasks.{done_by, done_not, same_failure}
use Rattle.vf_transact.proofs.Begun.{kept_of, kind_of}
use Rattle.vf_transact.proofs.transacting.do_task.Goals as goal

pub returns-in-Err-clause-done : goal.returns-in-Err-clause-done
returns-in-Err-clause-done g c = λ octets output before are stands left taken told.
    let seen : Seen = record { told = g.C.Dial.told c.args.dial.now; taken = g.O.Sink.taken c.args.out.now; counts = record { faults = g.C.Dial.fault_count c.args.dial.now; lost = g.C.Dial.lost_count c.args.dial.now } } in
    done_not g.D.Disk.shown g.D.Disk.may_leave g.D.Disk.moment g.D.Disk.left_since c.args.words.now octets before output seen.counts
    c.args.store.now c.take_up.new.store seen c.in-Err.error told taken (refl, refl) (c.in-Err.ensures.begun octets left) (c.in-Err.ensures.full octets stands left)
    (λ other is. same_failure c.in-Err.error other (c.in-Err.ensures.exact other is)) (c.in-Err.ensures.lost are stands octets left)

pub returns-in-Ok-clause-done : goal.returns-in-Ok-clause-done
returns-in-Ok-clause-done g c = λ octets output before are stands left taken told.
    let begun = c.in-Ok.begun in
    let tables = c.args.store.now.tables in
    let up = taken_with begun.plan tables in
    let seen : Seen = record { told = g.C.Dial.told c.args.dial.now; taken = g.O.Sink.taken c.args.out.now; counts = record { faults = g.C.Dial.fault_count c.args.dial.now; lost = g.C.Dial.lost_count c.args.dial.now } } in
    let seen' : Seen = record { told = g.C.Dial.told c.do_begun.new.dial; taken = g.O.Sink.taken c.do_begun.new.out; counts = record { faults = g.C.Dial.fault_count c.do_begun.new.dial; lost = g.C.Dial.lost_count c.do_begun.new.dial } } in
    let takes = c.in-Ok.ensures.begun octets left in
    let kept = c.in-Ok.ensures.kept are stands in
    let begins = c.in-Ok.ensures.begins are stands in
    let planned = c.in-Ok.ensures.planned in
    let tried = c.do_begun.ensures.tried up before output takes.1 (record {
      plan_is = refl;
      kept_is = kept_of begun.plan.activity tables c.take_up.new.store.tables begun.is_kept takes.1.is_kept (λ was. ap (λ (s : StoreState g.row.D.Denot). s.tables) (c.in-Ok.ensures.unchanged was));
      kind_is = kind_of c.args.words.now planned.0 begun.plan planned.1;
      told_is = told;
      taken_is = taken;
      begins = record { stands = (kept.stands refl).0; keeps = begins };
    }) in
    done_by g.D.Disk.shown g.D.Disk.may_leave g.D.Disk.moment g.D.Disk.left_since c.args.words.now octets before output seen.counts
    c.args.store.now c.take_up.new.store c.do_begun.new.store seen' up c.do_begun.result takes.0 kept tried
