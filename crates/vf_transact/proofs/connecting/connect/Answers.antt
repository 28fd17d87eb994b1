-- A connection that wasn't had, and what one that was had comes to.
use Rattle.std.specs.Prelude.{is_err}
use Rattle.std.proofs.Common.{◌≡◌, ℕ, true, false, List, ◌++◌, Result, Err, refl, sym, ap, subst, ◌∙◌}
use Rattle.std.proofs.lemmas.Result.{err_from_is_err_and}
use Rattle.vf_initiator.specs.declared.given.Given.{Given}
use Rattle.vf_initiator.specs.declared.plan.Plan.{Plan}
use Rattle.vf_tpkt.specs.Tpdu.{packet, request}
use Rattle.vf_transact.specs.Connecting.{IsBegun, IsThrough, IsTried, kept_when, outcome_of}
use Rattle.vf_transact.specs.Conversation.{talk_begun}
use Rattle.vf_transact.specs.Transaction.{Counts, Seen}
use Rattle.vf_transact.specs.declared.connecting.Outcome.{Outcome}
use Rattle.vf_transact.specs.declared.error.TransactError.{TransactError}
use Rattle.vf_transact.proofs.Dials.{at_err, had, lost_at_err, not_had, same_at_ok, same_counts, stood_at_ok}
use Rattle.vf_transact.proofs.Tries.{tried, tried_none, tried_not}
use Rattle.vf_transact.proofs.connecting.connect.Goals as goal

pub returns-in_err-initiator-clause-tried : goal.returns-in_err-initiator-clause-tried
returns-in_err-initiator-clause-tried g c = λ before output kind told taken may.
    let counts : Counts = record { faults = g.C.Dial.fault_count c.args.dial.now; lost = g.C.Dial.lost_count c.args.dial.now } in
    let seen : Seen = record { told = g.C.Dial.told c.close.new.self; taken = g.O.Sink.taken c.args.out.now; counts = record { faults = g.C.Dial.fault_count c.close.new.self; lost = g.C.Dial.lost_count c.close.new.self } } in
    let p = err_from_is_err_and c.from_residual.result c.from_residual.ensures.1 in
    subst (λ (r : Result (Plan × Outcome) TransactError). IsTried g.D.Disk.shown g.D.Disk.may_leave g.D.Disk.moment g.D.Disk.left_since c.args.plan (kept_when c.args.goes_on c.args.plan.activity c.args.store.now.tables) before output counts c.args.store.now seen c.args.store.now (outcome_of r)) (sym p.1)
    (tried_not g.D.Disk.shown g.D.Disk.may_leave g.D.Disk.moment g.D.Disk.left_since c.args.plan (kept_when c.args.goes_on c.args.plan.activity c.args.store.now.tables) before output counts c.args.store.now seen p.0 g.met.D.Disk.only_now (c.close.ensures.connections ∙ told) taken (c.close.ensures.count, c.close.ensures.lost) may p.2)

pub returns-then-is_err-clause-tried : goal.returns-then-is_err-clause-tried
returns-then-is_err-clause-tried g c = λ before output kind told taken may.
    let counts : Counts = record { faults = g.C.Dial.fault_count c.args.dial.now; lost = g.C.Dial.lost_count c.args.dial.now } in
    let seen : Seen = record { told = g.C.Dial.told c.connect.new.self; taken = g.O.Sink.taken c.args.out.now; counts = record { faults = g.C.Dial.fault_count c.connect.new.self; lost = g.C.Dial.lost_count c.connect.new.self } } in
    let failed : is_err c.connect.result ≡ true = sym c.is_err.ensures.value ∙ c.if-is_err.true in
    tried_none g.D.Disk.shown g.D.Disk.may_leave g.D.Disk.moment g.D.Disk.left_since c.args.plan (kept_when c.args.goes_on c.args.plan.activity c.args.store.now.tables) c.tasks_are_kept.ensures.same c.tasks_are_kept.ensures.begun before output counts c.args.store.now seen g.met.D.Disk.only_now
    (not_had before (g.C.Dial.told c.close.new.self) (g.C.Dial.told c.connect.new.self) c.connect.result failed (c.close.ensures.connections ∙ told) c.connect.ensures.connections) taken
    (lost_at_err c.connect.result counts.lost (g.C.Dial.lost_count c.close.new.self) seen.counts.lost failed c.close.ensures.lost c.connect.ensures.lost)
    (at_err c.connect.result counts.faults (g.C.Dial.fault_count c.close.new.self) seen.counts.faults failed c.close.ensures.count c.connect.ensures.failed) may

pub returns-in_err-outcome-clause-tried : goal.returns-in_err-outcome-clause-tried
returns-in_err-outcome-clause-tried g c = λ before output kind told taken may.
    let counts : Counts = record { faults = g.C.Dial.fault_count c.args.dial.now; lost = g.C.Dial.lost_count c.args.dial.now } in
    let mid : Seen = record { told = g.C.Dial.told c.connect.new.self; taken = g.O.Sink.taken c.args.out.now; counts = record { faults = g.C.Dial.fault_count c.connect.new.self; lost = g.C.Dial.lost_count c.connect.new.self } } in
    let ends : Seen = record { told = g.C.Dial.told c.converse-outcome.new.dial; taken = g.O.Sink.taken c.converse-outcome.new.out; counts = record { faults = g.C.Dial.fault_count c.converse-outcome.new.dial; lost = g.C.Dial.lost_count c.converse-outcome.new.dial } } in
    let seen : Seen = record { told = g.C.Dial.told c.close-2.new.self; taken = g.O.Sink.taken c.converse-outcome.new.out; counts = record { faults = g.C.Dial.fault_count c.close-2.new.self; lost = g.C.Dial.lost_count c.close-2.new.self } } in
    let good : is_err c.connect.result ≡ false = sym c.is_err.ensures.value ∙ c.if-is_err.false in
    let begun : IsBegun g.D.Disk.shown g.D.Disk.may_leave c.args.plan (kept_when c.args.goes_on c.args.plan.activity c.args.store.now.tables) before.calls output c.args.kind c.as_slice.result.now c.in_ok-initiator.initiator mid c.args.store.now = record {
      given_is = c.in_ok-initiator.ensures.given;
      represents = c.in_ok-initiator.ensures.begun;
      first_is = c.as_slice.ensures.value ∙ c.in_ok-initiator.ensures.sent ∙ ap (λ (l : List ℕ). l ++ packet request) c.new-first.ensures.items;
      kind_is = kind;
      on = had before (g.C.Dial.told c.close.new.self) mid.told c.connect.result good (c.close.ensures.connections ∙ told) c.connect.ensures.connections;
      taken_is = taken;
      stands = may.stands;
      keeps = may.keeps;
    } in
    let through = c.converse-outcome.ensures.through c.args.plan (kept_when c.args.goes_on c.args.plan.activity c.args.store.now.tables) before.calls output begun in
    let same : mid.counts ≡ counts = same_counts mid.counts.faults counts.faults mid.counts.lost counts.lost (same_at_ok c.connect.result (g.C.Dial.fault_count c.close.new.self) mid.counts.faults good c.connect.ensures.ok ∙ c.close.ensures.count)
    (stood_at_ok c.connect.result (g.C.Dial.lost_count c.close.new.self) mid.counts.lost good c.connect.ensures.lost ∙ c.close.ensures.lost) in
    let whole : IsThrough g.D.Disk.shown g.D.Disk.may_leave g.D.Disk.moment g.D.Disk.left_since c.args.plan (kept_when c.args.goes_on c.args.plan.activity c.args.store.now.tables) before.calls output counts c.args.store.now ends c.converse-outcome.new.store c.converse-outcome.result =
    subst (λ (n : Counts). IsThrough g.D.Disk.shown g.D.Disk.may_leave g.D.Disk.moment g.D.Disk.left_since c.args.plan (kept_when c.args.goes_on c.args.plan.activity c.args.store.now.tables) before.calls output n c.args.store.now ends c.converse-outcome.new.store c.converse-outcome.result) same through in
    let one = tried g.D.Disk.shown g.D.Disk.may_leave g.D.Disk.moment g.D.Disk.left_since c.args.plan (kept_when c.args.goes_on c.args.plan.activity c.args.store.now.tables) c.tasks_are_kept.ensures.same c.tasks_are_kept.ensures.begun before output counts c.args.store.now c.converse-outcome.new.store ends seen c.converse-outcome.result whole
    c.close-2.ensures.connections refl (same_counts seen.counts.faults ends.counts.faults seen.counts.lost ends.counts.lost c.close-2.ensures.count c.close-2.ensures.lost) in
    let error = c.in_err-outcome.field-0.0 in
    let p = err_from_is_err_and c.from_residual-in_err-outcome.result c.from_residual-in_err-outcome.ensures.1 in
    let is : c.from_residual-in_err-outcome.result ≡ Err error = p.1 ∙ ap (λ (e : TransactError). Err e) p.2 in
    subst (λ (r : Result (Plan × Outcome) TransactError). IsTried g.D.Disk.shown g.D.Disk.may_leave g.D.Disk.moment g.D.Disk.left_since c.args.plan (kept_when c.args.goes_on c.args.plan.activity c.args.store.now.tables) before output counts c.args.store.now seen c.converse-outcome.new.store (outcome_of r)) (sym is)
    (subst (λ (r : Result Outcome TransactError). IsTried g.D.Disk.shown g.D.Disk.may_leave g.D.Disk.moment g.D.Disk.left_since c.args.plan (kept_when c.args.goes_on c.args.plan.activity c.args.store.now.tables) before output counts c.args.store.now seen c.converse-outcome.new.store r) c.in_err-outcome.was one)

pub returns-clause-tried : goal.returns-clause-tried
returns-clause-tried g c = λ before output kind told taken may.
    let counts : Counts = record { faults = g.C.Dial.fault_count c.args.dial.now; lost = g.C.Dial.lost_count c.args.dial.now } in
    let mid : Seen = record { told = g.C.Dial.told c.connect.new.self; taken = g.O.Sink.taken c.args.out.now; counts = record { faults = g.C.Dial.fault_count c.connect.new.self; lost = g.C.Dial.lost_count c.connect.new.self } } in
    let ends : Seen = record { told = g.C.Dial.told c.converse-outcome.new.dial; taken = g.O.Sink.taken c.converse-outcome.new.out; counts = record { faults = g.C.Dial.fault_count c.converse-outcome.new.dial; lost = g.C.Dial.lost_count c.converse-outcome.new.dial } } in
    let seen : Seen = record { told = g.C.Dial.told c.close-2.new.self; taken = g.O.Sink.taken c.converse-outcome.new.out; counts = record { faults = g.C.Dial.fault_count c.close-2.new.self; lost = g.C.Dial.lost_count c.close-2.new.self } } in
    let good : is_err c.connect.result ≡ false = sym c.is_err.ensures.value ∙ c.if-is_err.false in
    let begun : IsBegun g.D.Disk.shown g.D.Disk.may_leave c.args.plan (kept_when c.args.goes_on c.args.plan.activity c.args.store.now.tables) before.calls output c.args.kind c.as_slice.result.now c.in_ok-initiator.initiator mid c.args.store.now = record {
      given_is = c.in_ok-initiator.ensures.given;
      represents = c.in_ok-initiator.ensures.begun;
      first_is = c.as_slice.ensures.value ∙ c.in_ok-initiator.ensures.sent ∙ ap (λ (l : List ℕ). l ++ packet request) c.new-first.ensures.items;
      kind_is = kind;
      on = had before (g.C.Dial.told c.close.new.self) mid.told c.connect.result good (c.close.ensures.connections ∙ told) c.connect.ensures.connections;
      taken_is = taken;
      stands = may.stands;
      keeps = may.keeps;
    } in
    let through = c.converse-outcome.ensures.through c.args.plan (kept_when c.args.goes_on c.args.plan.activity c.args.store.now.tables) before.calls output begun in
    let same : mid.counts ≡ counts = same_counts mid.counts.faults counts.faults mid.counts.lost counts.lost (same_at_ok c.connect.result (g.C.Dial.fault_count c.close.new.self) mid.counts.faults good c.connect.ensures.ok ∙ c.close.ensures.count)
    (stood_at_ok c.connect.result (g.C.Dial.lost_count c.close.new.self) mid.counts.lost good c.connect.ensures.lost ∙ c.close.ensures.lost) in
    let whole : IsThrough g.D.Disk.shown g.D.Disk.may_leave g.D.Disk.moment g.D.Disk.left_since c.args.plan (kept_when c.args.goes_on c.args.plan.activity c.args.store.now.tables) before.calls output counts c.args.store.now ends c.converse-outcome.new.store c.converse-outcome.result =
    subst (λ (n : Counts). IsThrough g.D.Disk.shown g.D.Disk.may_leave g.D.Disk.moment g.D.Disk.left_since c.args.plan (kept_when c.args.goes_on c.args.plan.activity c.args.store.now.tables) before.calls output n c.args.store.now ends c.converse-outcome.new.store c.converse-outcome.result) same through in
    let one = tried g.D.Disk.shown g.D.Disk.may_leave g.D.Disk.moment g.D.Disk.left_since c.args.plan (kept_when c.args.goes_on c.args.plan.activity c.args.store.now.tables) c.tasks_are_kept.ensures.same c.tasks_are_kept.ensures.begun before output counts c.args.store.now c.converse-outcome.new.store ends seen c.converse-outcome.result whole
    c.close-2.ensures.connections refl (same_counts seen.counts.faults ends.counts.faults seen.counts.lost ends.counts.lost c.close-2.ensures.count c.close-2.ensures.lost) in
    subst (λ (r : Result Outcome TransactError). IsTried g.D.Disk.shown g.D.Disk.may_leave g.D.Disk.moment g.D.Disk.left_since c.args.plan (kept_when c.args.goes_on c.args.plan.activity c.args.store.now.tables) before output counts c.args.store.now seen c.converse-outcome.new.store r) c.in_ok-outcome.was one

pub returns-clause-plan : goal.returns-clause-plan
returns-clause-plan g c =
    c.broke-2.ensures ∙ ap (λ (x : Given). x.plan) (c.in_ok-outcome.ensures.given (talk_begun c.args.plan (kept_when c.args.goes_on c.args.plan.activity c.args.store.now.tables)) c.in_ok-initiator.ensures.begun ∙ c.in_ok-initiator.ensures.given)
