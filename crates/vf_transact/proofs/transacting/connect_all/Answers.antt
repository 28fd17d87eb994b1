-- What all connections come to, by what each of them comes to.
use Rattle.std.proofs.Common.{◌≡◌, ℕ, Result, Ok, Err, refl, sym, ap, subst, ◌∙◌, arith, rules}
use Rattle.std.proofs.lemmas.Grind.{common_steps}
use Rattle.std.proofs.lemmas.Result.{err_from_is_err_and}
use Rattle.vf_initiator.specs.Assignments.{kind_in}
use Rattle.vf_initiator.specs.declared.plan.Plan.{Plan}
use Rattle.vf_transact.specs.Connecting.{AreTried, IsTried, LostBy, MayBegin, kept_when, outcome_of, reported}
use Rattle.vf_transact.specs.Starting.{connections_of}
use Rattle.vf_transact.specs.Transaction.{Counts, Seen}
use Rattle.vf_transact.specs.declared.connecting.Outcome.{Outcome}
use Rattle.vf_transact.specs.declared.connecting.Outcome.TheVariants.{Broke, Ended, Failed}
use Rattle.vf_transact.specs.declared.error.TransactError.{TransactError}
use Rattle.vf_transact.specs.declared.error.TransactError.TheVariants as errors
use Rattle.vf_transact.proofs.Begun.{connections_some}
use Rattle.vf_transact.proofs.Losses.{lost_none, lost_once}
use Rattle.vf_transact.proofs.Tries.{connecting, connecting_more, connecting_none, ends_failed, ends_interrupted, ends_well, interrupted_first}
use Rattle.vf_transact.proofs.transacting.connect_all.Goals as goal

pub returns-in_err-room-clause-tried : goal.returns-in_err-room-clause-tried
returns-in_err-room-clause-tried g c = λ begun before output may.
    let counts : Counts = record { faults = g.C.Dial.fault_count c.args.dial.now; lost = g.C.Dial.lost_count c.args.dial.now } in
    let seen : Seen = record { told = g.C.Dial.told c.args.dial.now; taken = g.O.Sink.taken c.args.out.now; counts = record { faults = g.C.Dial.fault_count c.args.dial.now; lost = g.C.Dial.lost_count c.args.dial.now } } in
    let p = err_from_is_err_and c.from_residual.result c.from_residual.ensures.1 in
    subst (λ (r : Result ℕ TransactError). AreTried g.D.Disk.shown g.D.Disk.may_leave g.D.Disk.moment g.D.Disk.left_since begun (connections_of c.args.words.now) before output counts c.args.store.now seen c.args.store.now (reported begun r)) (sym p.1)
    (interrupted_first g.D.Disk.shown g.D.Disk.may_leave g.D.Disk.moment g.D.Disk.left_since begun before output counts (connections_of c.args.words.now) c.args.store.now seen c.args.is_kept c.args.plan c.args.words.now.kind p.0 g.met.D.Disk.only_now (connections_some c.args.words.now) (refl, refl) p.2 may)

pub returns-in_err-same-clause-tried : goal.returns-in_err-same-clause-tried
returns-in_err-same-clause-tried g c = λ begun before output may.
    let counts : Counts = record { faults = g.C.Dial.fault_count c.args.dial.now; lost = g.C.Dial.lost_count c.args.dial.now } in
    let was : Seen = record { told = g.C.Dial.told c.loop.dial; taken = g.O.Sink.taken c.loop.out; counts = record { faults = g.C.Dial.fault_count c.loop.dial; lost = g.C.Dial.lost_count c.loop.dial } } in
    let seen : Seen = record { told = g.C.Dial.told c.connect.new.dial; taken = g.O.Sink.taken c.connect.new.out; counts = record { faults = g.C.Dial.fault_count c.connect.new.dial; lost = g.C.Dial.lost_count c.connect.new.dial } } in
    let all = c.connections-connections.result in
    let so = c.loop.invariant.connecting begun before output may in
    let same : c.loop.plan ≡ begun.plan = c.loop.invariant.plan ∙ may.plan_is in
    let here = c.connect.ensures.tried so.after output (may.kind_is ∙ ap (λ (p : Plan). kind_in p.task) (sym same)) so.told_is so.taken_is
    (subst (λ (p : Plan). MayBegin g.D.Disk.shown g.D.Disk.may_leave p (kept_when c.loop.goes_on p.activity c.loop.store.tables) c.loop.store) (sym same) so.begins) in
    let one = subst (λ (p : Plan). IsTried g.D.Disk.shown g.D.Disk.may_leave g.D.Disk.moment g.D.Disk.left_since p (kept_when c.loop.goes_on p.activity c.loop.store.tables) so.after output was.counts c.loop.store seen c.connect.new.store (outcome_of c.connect.result)) same here in
    let error = c.in_err-same.field-0.0 in
    let p = err_from_is_err_and c.from_residual-in_err-same.result c.from_residual-in_err-same.ensures.1 in
    let is : c.from_residual-in_err-same.result ≡ Err error = p.1 ∙ ap (λ (e : TransactError). Err e) p.2 in
    let failed : IsTried g.D.Disk.shown g.D.Disk.may_leave g.D.Disk.moment g.D.Disk.left_since begun.plan (kept_when c.loop.goes_on begun.plan.activity c.loop.store.tables) so.after output was.counts c.loop.store seen c.connect.new.store (Err error) = subst (λ (r : Result (Plan × Outcome) TransactError). IsTried g.D.Disk.shown g.D.Disk.may_leave g.D.Disk.moment g.D.Disk.left_since begun.plan (kept_when c.loop.goes_on begun.plan.activity c.loop.store.tables) so.after output was.counts c.loop.store seen c.connect.new.store (outcome_of r)) c.in_err-same.was one in
    subst (λ (r : Result ℕ TransactError). AreTried g.D.Disk.shown g.D.Disk.may_leave g.D.Disk.moment g.D.Disk.left_since begun (connections_of c.args.words.now) before output counts c.args.store.now seen c.connect.new.store (reported begun r)) (sym is)
    (subst (λ (n : ℕ). AreTried g.D.Disk.shown g.D.Disk.may_leave g.D.Disk.moment g.D.Disk.left_since begun n before output counts c.args.store.now seen c.connect.new.store (Err error)) c.connections-connections.ensures
    (ends_interrupted g.D.Disk.shown g.D.Disk.may_leave g.D.Disk.moment g.D.Disk.left_since begun before output counts all c.args.store.now c.loop.counter c.loop.goes_on was seen c.loop.store c.connect.new.store so error c.loop-test.true failed))

pub returns-in-Ended-clause-tried : goal.returns-in-Ended-clause-tried
returns-in-Ended-clause-tried g c = λ begun before output may.
    let counts : Counts = record { faults = g.C.Dial.fault_count c.args.dial.now; lost = g.C.Dial.lost_count c.args.dial.now } in
    let was : Seen = record { told = g.C.Dial.told c.loop.dial; taken = g.O.Sink.taken c.loop.out; counts = record { faults = g.C.Dial.fault_count c.loop.dial; lost = g.C.Dial.lost_count c.loop.dial } } in
    let seen : Seen = record { told = g.C.Dial.told c.connect.new.dial; taken = g.O.Sink.taken c.connect.new.out; counts = record { faults = g.C.Dial.fault_count c.connect.new.dial; lost = g.C.Dial.lost_count c.connect.new.dial } } in
    let all = c.connections-connections.result in
    let so = c.loop.invariant.connecting begun before output may in
    let same : c.loop.plan ≡ begun.plan = c.loop.invariant.plan ∙ may.plan_is in
    let here = c.connect.ensures.tried so.after output (may.kind_is ∙ ap (λ (p : Plan). kind_in p.task) (sym same)) so.told_is so.taken_is
    (subst (λ (p : Plan). MayBegin g.D.Disk.shown g.D.Disk.may_leave p (kept_when c.loop.goes_on p.activity c.loop.store.tables) c.loop.store) (sym same) so.begins) in
    let one = subst (λ (p : Plan). IsTried g.D.Disk.shown g.D.Disk.may_leave g.D.Disk.moment g.D.Disk.left_since p (kept_when c.loop.goes_on p.activity c.loop.store.tables) so.after output was.counts c.loop.store seen c.connect.new.store (outcome_of c.connect.result)) same here in
    let is : outcome_of c.connect.result ≡ Ok (Ended c.in-Ended.octets) = ap (λ (r : Result (Plan × Outcome) TransactError). outcome_of r) c.in_ok-same.was ∙ ap (λ (o : Outcome). Ok o) c.in-Ended.is in
    let ended : IsTried g.D.Disk.shown g.D.Disk.may_leave g.D.Disk.moment g.D.Disk.left_since begun.plan (kept_when c.loop.goes_on begun.plan.activity c.loop.store.tables) so.after output was.counts c.loop.store seen c.connect.new.store (Ok (Ended c.in-Ended.octets)) = subst (λ (r : Result Outcome TransactError). IsTried g.D.Disk.shown g.D.Disk.may_leave g.D.Disk.moment g.D.Disk.left_since begun.plan (kept_when c.loop.goes_on begun.plan.activity c.loop.store.tables) so.after output was.counts c.loop.store seen c.connect.new.store r) is one in
    subst (λ (n : ℕ). AreTried g.D.Disk.shown g.D.Disk.may_leave g.D.Disk.moment g.D.Disk.left_since begun n before output counts c.args.store.now seen c.connect.new.store (reported begun (Ok c.in-Ended.octets))) c.connections-connections.ensures
    (ends_well g.D.Disk.shown g.D.Disk.may_leave g.D.Disk.moment g.D.Disk.left_since begun before output counts all c.args.store.now c.loop.counter c.loop.goes_on was seen c.loop.store c.connect.new.store so c.in-Ended.octets c.loop-test.true ended)

pub returns-in-Failed-clause-tried : goal.returns-in-Failed-clause-tried
returns-in-Failed-clause-tried g c = λ begun before output may.
    let counts : Counts = record { faults = g.C.Dial.fault_count c.args.dial.now; lost = g.C.Dial.lost_count c.args.dial.now } in
    let was : Seen = record { told = g.C.Dial.told c.loop.dial; taken = g.O.Sink.taken c.loop.out; counts = record { faults = g.C.Dial.fault_count c.loop.dial; lost = g.C.Dial.lost_count c.loop.dial } } in
    let seen : Seen = record { told = g.C.Dial.told c.connect.new.dial; taken = g.O.Sink.taken c.connect.new.out; counts = record { faults = g.C.Dial.fault_count c.connect.new.dial; lost = g.C.Dial.lost_count c.connect.new.dial } } in
    let all = c.connections-connections.result in
    let so = c.loop.invariant.connecting begun before output may in
    let same : c.loop.plan ≡ begun.plan = c.loop.invariant.plan ∙ may.plan_is in
    let here = c.connect.ensures.tried so.after output (may.kind_is ∙ ap (λ (p : Plan). kind_in p.task) (sym same)) so.told_is so.taken_is
    (subst (λ (p : Plan). MayBegin g.D.Disk.shown g.D.Disk.may_leave p (kept_when c.loop.goes_on p.activity c.loop.store.tables) c.loop.store) (sym same) so.begins) in
    let one = subst (λ (p : Plan). IsTried g.D.Disk.shown g.D.Disk.may_leave g.D.Disk.moment g.D.Disk.left_since p (kept_when c.loop.goes_on p.activity c.loop.store.tables) so.after output was.counts c.loop.store seen c.connect.new.store (outcome_of c.connect.result)) same here in
    let is : outcome_of c.connect.result ≡ Ok (Failed c.in-Failed.error) = ap (λ (r : Result (Plan × Outcome) TransactError). outcome_of r) c.in_ok-same.was ∙ ap (λ (o : Outcome). Ok o) c.in-Failed.is in
    let failed : IsTried g.D.Disk.shown g.D.Disk.may_leave g.D.Disk.moment g.D.Disk.left_since begun.plan (kept_when c.loop.goes_on begun.plan.activity c.loop.store.tables) so.after output was.counts c.loop.store seen c.connect.new.store (Ok (Failed c.in-Failed.error)) = subst (λ (r : Result Outcome TransactError). IsTried g.D.Disk.shown g.D.Disk.may_leave g.D.Disk.moment g.D.Disk.left_since begun.plan (kept_when c.loop.goes_on begun.plan.activity c.loop.store.tables) so.after output was.counts c.loop.store seen c.connect.new.store r) is one in
    subst (λ (n : ℕ). AreTried g.D.Disk.shown g.D.Disk.may_leave g.D.Disk.moment g.D.Disk.left_since begun n before output counts c.args.store.now seen c.connect.new.store (Err (errors.Task c.in-Failed.error))) c.connections-connections.ensures
    (ends_failed g.D.Disk.shown g.D.Disk.may_leave g.D.Disk.moment g.D.Disk.left_since begun before output counts all c.args.store.now c.loop.counter c.loop.goes_on was seen c.loop.store c.connect.new.store so c.in-Failed.error c.loop-test.true failed)

pub returns-clause-tried : goal.returns-clause-tried
returns-clause-tried g c = λ begun before output may.
    let counts : Counts = record { faults = g.C.Dial.fault_count c.args.dial.now; lost = g.C.Dial.lost_count c.args.dial.now } in
    let seen : Seen = record { told = g.C.Dial.told c.loop.dial; taken = g.O.Sink.taken c.loop.out; counts = record { faults = g.C.Dial.fault_count c.loop.dial; lost = g.C.Dial.lost_count c.loop.dial } } in
    let all = c.connections-connections.result in
    subst (λ (n : ℕ). AreTried g.D.Disk.shown g.D.Disk.may_leave g.D.Disk.moment g.D.Disk.left_since begun n before output counts c.args.store.now seen c.loop.store (Err (errors.Broken all))) c.connections-connections.ensures
    (connecting_none g.D.Disk.shown g.D.Disk.may_leave g.D.Disk.moment g.D.Disk.left_since begun before output counts all c.args.store.now c.loop.counter c.loop.goes_on seen c.loop.store c.loop-test.false (c.loop.invariant.connecting begun before output may))

pub loop-init : goal.loop-init
loop-init g c = record {
  lost = lost_none (g.C.Dial.lost_count c.args.dial.now);
  disk = refl;
  output = refl;
  limit = refl;
  room = c.in_ok-room.ensures;
  closed = λ was. was;
  plan = refl;
  connecting = λ begun before output may.
      let seen : Seen = record { told = g.C.Dial.told c.args.dial.now; taken = g.O.Sink.taken c.args.out.now; counts = record { faults = g.C.Dial.fault_count c.args.dial.now; lost = g.C.Dial.lost_count c.args.dial.now } } in
      connecting g.D.Disk.shown g.D.Disk.may_leave g.D.Disk.moment g.D.Disk.left_since begun before output seen.counts c.connections-connections.result c.args.store.now seen c.args.is_kept c.args.plan c.args.words.now.kind g.met.D.Disk.only_now refl may;
}

pub loop-preserved : goal.loop-preserved
loop-preserved g c = record {
  lost = lost_once c.loop.counter (g.C.Dial.lost_count c.args.dial.now) (g.C.Dial.lost_count c.loop.dial) (g.C.Dial.lost_count c.connect.new.dial) c.loop.invariant.lost
      (subst (λ (o : Outcome). LostBy (g.C.Dial.lost_count c.loop.dial) (g.C.Dial.lost_count c.connect.new.dial) o) c.in-Broke.is c.in_ok-same.ensures.lost);
  disk = c.in_ok-same.ensures.store_cause ∙ c.loop.invariant.disk;
  output = c.in_ok-same.ensures.output_cause ∙ c.loop.invariant.output;
  limit = c.in_ok-same.ensures.limit ∙ c.loop.invariant.limit;
  room = first_of (search rules, grind (arith, common_steps));
  closed = λ was. c.in_ok-same.ensures.closed;
  plan = c.in_ok-same.ensures.plan ∙ c.loop.invariant.plan;
  connecting = λ begun before output may.
      let counts : Counts = record { faults = g.C.Dial.fault_count c.args.dial.now; lost = g.C.Dial.lost_count c.args.dial.now } in
      let was : Seen = record { told = g.C.Dial.told c.loop.dial; taken = g.O.Sink.taken c.loop.out; counts = record { faults = g.C.Dial.fault_count c.loop.dial; lost = g.C.Dial.lost_count c.loop.dial } } in
      let seen : Seen = record { told = g.C.Dial.told c.connect.new.dial; taken = g.O.Sink.taken c.connect.new.out; counts = record { faults = g.C.Dial.fault_count c.connect.new.dial; lost = g.C.Dial.lost_count c.connect.new.dial } } in
      let all = c.connections-connections.result in
      let so = c.loop.invariant.connecting begun before output may in
      let same : c.loop.plan ≡ begun.plan = c.loop.invariant.plan ∙ may.plan_is in
      let here = c.connect.ensures.tried so.after output (may.kind_is ∙ ap (λ (p : Plan). kind_in p.task) (sym same)) so.told_is so.taken_is
      (subst (λ (p : Plan). MayBegin g.D.Disk.shown g.D.Disk.may_leave p (kept_when c.loop.goes_on p.activity c.loop.store.tables) c.loop.store) (sym same) so.begins) in
      let one = subst (λ (p : Plan). IsTried g.D.Disk.shown g.D.Disk.may_leave g.D.Disk.moment g.D.Disk.left_since p (kept_when c.loop.goes_on p.activity c.loop.store.tables) so.after output was.counts c.loop.store seen c.connect.new.store (outcome_of c.connect.result)) same here in
      let is : outcome_of c.connect.result ≡ Ok Broke = ap (λ (r : Result (Plan × Outcome) TransactError). outcome_of r) c.in_ok-same.was ∙ ap (λ (o : Outcome). Ok o) c.in-Broke.is in
      let broke : IsTried g.D.Disk.shown g.D.Disk.may_leave g.D.Disk.moment g.D.Disk.left_since begun.plan (kept_when c.loop.goes_on begun.plan.activity c.loop.store.tables) so.after output was.counts c.loop.store seen c.connect.new.store (Ok Broke) = subst (λ (r : Result Outcome TransactError). IsTried g.D.Disk.shown g.D.Disk.may_leave g.D.Disk.moment g.D.Disk.left_since begun.plan (kept_when c.loop.goes_on begun.plan.activity c.loop.store.tables) so.after output was.counts c.loop.store seen c.connect.new.store r) is one in
      connecting_more g.D.Disk.shown g.D.Disk.may_leave g.D.Disk.moment g.D.Disk.left_since begun before output counts all c.args.store.now c.loop.counter c.loop.goes_on was seen c.loop.store c.connect.new.store so c.loop-test.true broke;
}
