-- The report counts what was sent and what was received.
use Rattle.std.proofs.Common.{◌≡◌, ℕ, ◌+◌, Bool, min, Ok, sym, ap, subst, ◌∙◌, arith, is_some}
use Rattle.vf_transact.specs.Connecting.{AreTried, reported}
use Rattle.vf_transact.specs.Starting.{connections_of, octets_sent}
use Rattle.vf_transact.specs.Transaction.{Answer, Seen}
use Rattle.vf_transact.proofs.Tries.{answer_with}
use Rattle.vf_transact.proofs.transacting.do_begun.Goals as goal

pub returns-in-Ok-clause-tried : goal.returns-in-Ok-clause-tried
returns-in-Ok-clause-tried g c = λ taken before output is may.
    let seen : Seen = record { told = g.C.Dial.told c.connect_all.new.dial; taken = g.O.Sink.taken c.connect_all.new.out; counts = record { faults = g.C.Dial.fault_count c.connect_all.new.dial; lost = g.C.Dial.lost_count c.connect_all.new.dial } } in
    let octets : min (min (octets_sent taken) 18446744073709551615 + c.in-Ok.received) 18446744073709551615 ≡ c.saturating_add.result = omega (arith, is.octets) in
    let same : reported taken (Ok c.in-Ok.received) ≡ answer_with c.saturating_add.result c.args.begun.is_kept =
    ap (λ (n : ℕ). answer_with n (is_some taken.kept)) octets ∙ ap (λ (b : Bool). answer_with c.saturating_add.result b) (sym is.is_kept) in
    subst (λ (answer : Answer). AreTried g.D.Disk.shown g.D.Disk.may_leave g.D.Disk.moment g.D.Disk.left_since taken (connections_of c.args.words.now) before output (record { faults = g.C.Dial.fault_count c.args.dial.now; lost = g.C.Dial.lost_count c.args.dial.now }) c.args.store.now seen c.connect_all.new.store answer)
    same (c.in-Ok.ensures.tried taken before output may)

pub returns-in-Err-clause-tried : goal.returns-in-Err-clause-tried
returns-in-Err-clause-tried g c = λ taken before output is may. c.in-Err.ensures.tried taken before output may
