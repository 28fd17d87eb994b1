-- What a connection comes to, at each place where it ends.
use Rattle.std.proofs.Common.{◌≡◌, inl, ℕ, ◌+◌, Bool, [], ◌++◌, None, Result, Err, refl, sym, ap, subst, ◌∙◌, arith, rules}
use Rattle.std.specs.Prelude.{if◌then◌else◌}
use Rattle.std.proofs.lemmas.Grind.{common_steps}
use Rattle.std.proofs.lemmas.Result.{err_from_is_err_and}
use Rattle.vf_base.specs.Faults.{counted}
use Rattle.vf_transact.specs.Connecting.{HearsOn, IsThrough, StandsOr}
use Rattle.vf_transact.specs.Transaction.{Counts, Seen}
use Rattle.vf_transact.specs.declared.connecting.Outcome.{Outcome}
use Rattle.vf_transact.specs.declared.error.TransactError.{TransactError}
use Rattle.vf_transact.proofs.Talks.{begins_by, counts_by, ends_broken, ends_failed, ends_well, goes_on, keeps_as, no_failure, lost_first_by, spent, stops_by, stops_saying, takes_more, tells_once, unheard}
use Rattle.vf_transact.proofs.connecting.converse.Goals as goal

pub returns-then-not-send-clause-through : goal.returns-then-not-send-clause-through
returns-then-not-send-clause-through g c = λ plan kept before output begun.
    let counts : Counts = record { faults = g.C.Dial.fault_count c.args.dial.now; lost = g.C.Dial.lost_count c.args.dial.now } in
    let now : Counts = record { faults = g.C.Dial.fault_count c.send.new.dial; lost = g.C.Dial.lost_count c.send.new.dial } in
    lost_first_by g.D.Disk.shown g.D.Disk.may_leave g.D.Disk.moment g.D.Disk.left_since plan kept before output c.args.kind c.args.store.now c.args.first.now c.args.initiator.now (record { told = g.C.Dial.told c.args.dial.now; taken = g.O.Sink.taken c.args.out.now; counts = record { faults = g.C.Dial.fault_count c.args.dial.now; lost = g.C.Dial.lost_count c.args.dial.now } }) (g.C.Dial.told c.send.new.dial) now c.send.result
    g.met.D.Disk.only_now begun c.if-not-send.true (c.send.ensures.said before [] [] begun.on)
    (counts_by c.send.result counts counts.faults counts.lost now.faults now.lost refl refl c.send.ensures.faults c.send.ensures.lost).1

pub returns-in_default-clause-through : goal.returns-in_default-clause-through
returns-in_default-clause-through g c = λ plan kept before output begun.
    let counts : Counts = record { faults = g.C.Dial.fault_count c.args.dial.now; lost = g.C.Dial.lost_count c.args.dial.now } in
    let now : Counts = record { faults = g.C.Dial.fault_count c.hear.new.dial; lost = g.C.Dial.lost_count c.hear.new.dial } in
    let t = c.loop.invariant.talking plan kept before output begun in
    unheard g.D.Disk.shown g.D.Disk.may_leave g.D.Disk.moment g.D.Disk.left_since plan kept before output c.args.kind c.args.store.now c.loop.counter c.loop.initiator (g.C.Dial.told c.loop.dial) (g.C.Dial.told c.hear.new.dial) (g.O.Sink.taken c.loop.out) c.loop.store counts now t
    (subst (λ (n : ℕ). HearsOn before t.said t.heard (g.C.Dial.told c.hear.new.dial) n now.faults None) c.loop.invariant.faults (c.in_default.ensures.heard before t.said t.heard t.on))
    (c.in_default.ensures.lost ∙ ap (λ (n : ℕ). counted n) c.loop.invariant.lost)

pub returns-in_err-doing-clause-through : goal.returns-in_err-doing-clause-through
returns-in_err-doing-clause-through g c = λ plan kept before output begun.
    let counts : Counts = record { faults = g.C.Dial.fault_count c.args.dial.now; lost = g.C.Dial.lost_count c.args.dial.now } in
    let seen : Seen = record { told = g.C.Dial.told c.hear.new.dial; taken = g.O.Sink.taken c.take_piece.new.out; counts = record { faults = g.C.Dial.fault_count c.hear.new.dial; lost = g.C.Dial.lost_count c.hear.new.dial } } in
    let t = c.loop.invariant.talking plan kept before output begun in
    let piece = c.in-Some.piece.now in
    let once = tells_once t.talk c.wanted.result piece (λ first second few. c.wanted.ensures.once t.talk first second t.represents few) c.in-Some.ensures.most in
    let heard = c.in-Some.ensures.heard before t.said t.heard t.on in
    let stays = keeps_as g.D.Disk.shown g.D.Disk.may_leave g.D.Disk.moment g.D.Disk.left_since plan kept before output c.args.kind c.args.store.now c.loop.counter c.loop.initiator (g.C.Dial.told c.loop.dial) (g.O.Sink.taken c.loop.out) c.loop.store t in
    let error = c.in_err-doing.field-0.0 in
    let p = err_from_is_err_and c.from_residual.result c.from_residual.ensures.1 in
    let is : c.from_residual.result ≡ Err error = p.1 ∙ ap (λ (e : TransactError). Err e) p.2 in
    subst (λ (r : Result Outcome TransactError). IsThrough g.D.Disk.shown g.D.Disk.may_leave g.D.Disk.moment g.D.Disk.left_since plan kept before output counts c.args.store.now seen c.take_piece.new.store r) (sym is)
    (stops_by g.D.Disk.shown g.D.Disk.may_leave g.D.Disk.moment g.D.Disk.left_since plan kept before output c.args.kind c.args.store.now c.loop.counter c.loop.initiator (g.C.Dial.told c.loop.dial) (g.C.Dial.told c.hear.new.dial) (g.O.Sink.taken c.loop.out) (g.O.Sink.taken c.take_piece.new.out) c.loop.store c.take_piece.new.store
    counts seen.counts piece error t c.in-Some.ensures.some once heard (no_failure error c.loop.store.journal.limit (g.D.Disk.fault_count c.loop.store.disk) (g.D.Disk.fault_count c.take_piece.new.store.disk) c.in_err-doing.ensures.failed c.in_err-doing.ensures.store_cause) (c.in_err-doing.ensures.interrupted t.talk t.represents (t.keeps.stands refl).0 stays)
    (c.in-Some.ensures.faults ∙ c.loop.invariant.faults) (c.in-Some.ensures.lost ∙ c.loop.invariant.lost))

pub returns-in_err-stands-clause-through : goal.returns-in_err-stands-clause-through
returns-in_err-stands-clause-through g c = λ plan kept before output begun.
    let t = c.loop.invariant.talking plan kept before output begun in
    let piece = c.in-Some.piece.now in
    let once = tells_once t.talk c.wanted.result piece (λ first second few. c.wanted.ensures.once t.talk first second t.represents few) c.in-Some.ensures.most in
    let heard = c.in-Some.ensures.heard before t.said t.heard t.on in
    let stays = keeps_as g.D.Disk.shown g.D.Disk.may_leave g.D.Disk.moment g.D.Disk.left_since plan kept before output c.args.kind c.args.store.now c.loop.counter c.loop.initiator (g.C.Dial.told c.loop.dial) (g.O.Sink.taken c.loop.out) c.loop.store t in
    let took = c.in_ok-doing.ensures.takes t.talk t.represents in
    let says = c.in_err-stands.ensures.said took.0 took.1.rest took.1.owes before t.said (t.heard ++ piece) heard in
    let counts : Counts = record { faults = g.C.Dial.fault_count c.args.dial.now; lost = g.C.Dial.lost_count c.args.dial.now } in
    let seen : Seen = record { told = g.C.Dial.told c.say.new.dial; taken = g.O.Sink.taken c.take_piece.new.out; counts = record { faults = g.C.Dial.fault_count c.say.new.dial; lost = g.C.Dial.lost_count c.say.new.dial } } in
    let p = err_from_is_err_and c.from_residual-in_err-stands.result c.from_residual-in_err-stands.ensures.1 in
    subst (λ (r : Result Outcome TransactError). IsThrough g.D.Disk.shown g.D.Disk.may_leave g.D.Disk.moment g.D.Disk.left_since plan kept before output counts c.args.store.now seen c.take_piece.new.store r) (sym p.1)
    (stops_saying g.D.Disk.shown g.D.Disk.may_leave g.D.Disk.moment g.D.Disk.left_since plan kept before output c.args.kind c.args.store.now c.loop.counter c.loop.initiator c.take_piece.new.initiator (g.C.Dial.told c.loop.dial) (g.C.Dial.told c.say.new.dial) (g.O.Sink.taken c.loop.out) (g.O.Sink.taken c.take_piece.new.out) c.loop.store c.take_piece.new.store
    counts seen.counts piece c.clear.new.self.items c.take_piece.new.said.items c.in_ok-doing.doing p.0 t took.0 c.in-Some.ensures.some once c.clear.ensures.items took.1 took.2 (took.3 (t.keeps.stands refl).0 stays) says p.2
    (c.in_err-stands.ensures.faults ∙ c.in-Some.ensures.faults ∙ c.loop.invariant.faults) (c.in_err-stands.ensures.lost ∙ c.in-Some.ensures.lost ∙ c.loop.invariant.lost))

pub returns-in-Failed-clause-through : goal.returns-in-Failed-clause-through
returns-in-Failed-clause-through g c = λ plan kept before output begun.
    let t = c.loop.invariant.talking plan kept before output begun in
    let piece = c.in-Some.piece.now in
    let once = tells_once t.talk c.wanted.result piece (λ first second few. c.wanted.ensures.once t.talk first second t.represents few) c.in-Some.ensures.most in
    let heard = c.in-Some.ensures.heard before t.said t.heard t.on in
    let stays = keeps_as g.D.Disk.shown g.D.Disk.may_leave g.D.Disk.moment g.D.Disk.left_since plan kept before output c.args.kind c.args.store.now c.loop.counter c.loop.initiator (g.C.Dial.told c.loop.dial) (g.O.Sink.taken c.loop.out) c.loop.store t in
    let took = c.in_ok-doing.ensures.takes t.talk t.represents in
    let says = c.in_ok-stands.ensures.said took.0 took.1.rest took.1.owes before t.said (t.heard ++ piece) heard in
    let taken = takes_more g.D.Disk.shown g.D.Disk.may_leave g.D.Disk.moment g.D.Disk.left_since plan kept before output c.args.kind c.args.store.now c.loop.counter c.loop.initiator c.take_piece.new.initiator c.say.new.initiator (g.C.Dial.told c.loop.dial) (g.C.Dial.told c.say.new.dial)
    (g.O.Sink.taken c.loop.out) (g.O.Sink.taken c.take_piece.new.out) c.loop.store c.take_piece.new.store piece c.clear.new.self.items c.take_piece.new.said.items c.in_ok-doing.doing c.in_ok-stands.stands t took.0
    c.in-Some.ensures.some once c.clear.ensures.items took.1 (c.in_ok-stands.ensures.owes took.0 took.1.rest took.1.owes) took.2 (took.3 (t.keeps.stands refl).0 stays) says in
    let counts : Counts = record { faults = g.C.Dial.fault_count c.args.dial.now; lost = g.C.Dial.lost_count c.args.dial.now } in
    let seen : Seen = record { told = g.C.Dial.told c.say.new.dial; taken = g.O.Sink.taken c.take_piece.new.out; counts = record { faults = g.C.Dial.fault_count c.say.new.dial; lost = g.C.Dial.lost_count c.say.new.dial } } in
    let after = counts_by c.in_ok-stands.stands counts (g.C.Dial.fault_count c.hear.new.dial) (g.C.Dial.lost_count c.hear.new.dial) seen.counts.faults seen.counts.lost (c.in-Some.ensures.faults ∙ c.loop.invariant.faults) (c.in-Some.ensures.lost ∙ c.loop.invariant.lost)
    c.in_ok-stands.ensures.faults c.in_ok-stands.ensures.lost in
    ends_failed g.D.Disk.shown g.D.Disk.may_leave g.D.Disk.moment g.D.Disk.left_since plan kept before output c.args.kind c.args.store.now (c.loop.counter + 1) c.say.new.initiator seen c.take_piece.new.store counts c.in_ok-doing.doing c.in_ok-stands.stands c.in-Failed.error taken c.in-Failed.is after.1 after.0

pub returns-in-Ended-clause-through : goal.returns-in-Ended-clause-through
returns-in-Ended-clause-through g c = λ plan kept before output begun.
    let t = c.loop.invariant.talking plan kept before output begun in
    let piece = c.in-Some.piece.now in
    let once = tells_once t.talk c.wanted.result piece (λ first second few. c.wanted.ensures.once t.talk first second t.represents few) c.in-Some.ensures.most in
    let heard = c.in-Some.ensures.heard before t.said t.heard t.on in
    let stays = keeps_as g.D.Disk.shown g.D.Disk.may_leave g.D.Disk.moment g.D.Disk.left_since plan kept before output c.args.kind c.args.store.now c.loop.counter c.loop.initiator (g.C.Dial.told c.loop.dial) (g.O.Sink.taken c.loop.out) c.loop.store t in
    let took = c.in_ok-doing.ensures.takes t.talk t.represents in
    let says = c.in_ok-stands.ensures.said took.0 took.1.rest took.1.owes before t.said (t.heard ++ piece) heard in
    let taken = takes_more g.D.Disk.shown g.D.Disk.may_leave g.D.Disk.moment g.D.Disk.left_since plan kept before output c.args.kind c.args.store.now c.loop.counter c.loop.initiator c.take_piece.new.initiator c.say.new.initiator (g.C.Dial.told c.loop.dial) (g.C.Dial.told c.say.new.dial)
    (g.O.Sink.taken c.loop.out) (g.O.Sink.taken c.take_piece.new.out) c.loop.store c.take_piece.new.store piece c.clear.new.self.items c.take_piece.new.said.items c.in_ok-doing.doing c.in_ok-stands.stands t took.0
    c.in-Some.ensures.some once c.clear.ensures.items took.1 (c.in_ok-stands.ensures.owes took.0 took.1.rest took.1.owes) took.2 (took.3 (t.keeps.stands refl).0 stays) says in
    let counts : Counts = record { faults = g.C.Dial.fault_count c.args.dial.now; lost = g.C.Dial.lost_count c.args.dial.now } in
    let seen : Seen = record { told = g.C.Dial.told c.say.new.dial; taken = g.O.Sink.taken c.take_piece.new.out; counts = record { faults = g.C.Dial.fault_count c.say.new.dial; lost = g.C.Dial.lost_count c.say.new.dial } } in
    let after = counts_by c.in_ok-stands.stands counts (g.C.Dial.fault_count c.hear.new.dial) (g.C.Dial.lost_count c.hear.new.dial) seen.counts.faults seen.counts.lost (c.in-Some.ensures.faults ∙ c.loop.invariant.faults) (c.in-Some.ensures.lost ∙ c.loop.invariant.lost)
    c.in_ok-stands.ensures.faults c.in_ok-stands.ensures.lost in
    ends_well g.D.Disk.shown g.D.Disk.may_leave g.D.Disk.moment g.D.Disk.left_since plan kept before output c.args.kind c.args.store.now (c.loop.counter + 1) c.say.new.initiator seen c.take_piece.new.store counts c.in_ok-doing.doing c.in_ok-stands.stands c.as_slice.result.now c.octets_of_all-octets.result taken c.in-Ended.is
    (λ talk rest owes. c.as_slice.ensures ∙ c.elements.ensures.owed talk rest owes) c.octets_of_all-octets.ensures after.1 after.0

pub returns-then-not-stands-clause-through : goal.returns-then-not-stands-clause-through
returns-then-not-stands-clause-through g c = λ plan kept before output begun.
    let t = c.loop.invariant.talking plan kept before output begun in
    let piece = c.in-Some.piece.now in
    let once = tells_once t.talk c.wanted.result piece (λ first second few. c.wanted.ensures.once t.talk first second t.represents few) c.in-Some.ensures.most in
    let heard = c.in-Some.ensures.heard before t.said t.heard t.on in
    let stays = keeps_as g.D.Disk.shown g.D.Disk.may_leave g.D.Disk.moment g.D.Disk.left_since plan kept before output c.args.kind c.args.store.now c.loop.counter c.loop.initiator (g.C.Dial.told c.loop.dial) (g.O.Sink.taken c.loop.out) c.loop.store t in
    let took = c.in_ok-doing.ensures.takes t.talk t.represents in
    let says = c.in_ok-stands.ensures.said took.0 took.1.rest took.1.owes before t.said (t.heard ++ piece) heard in
    let taken = takes_more g.D.Disk.shown g.D.Disk.may_leave g.D.Disk.moment g.D.Disk.left_since plan kept before output c.args.kind c.args.store.now c.loop.counter c.loop.initiator c.take_piece.new.initiator c.say.new.initiator (g.C.Dial.told c.loop.dial) (g.C.Dial.told c.say.new.dial)
    (g.O.Sink.taken c.loop.out) (g.O.Sink.taken c.take_piece.new.out) c.loop.store c.take_piece.new.store piece c.clear.new.self.items c.take_piece.new.said.items c.in_ok-doing.doing c.in_ok-stands.stands t took.0
    c.in-Some.ensures.some once c.clear.ensures.items took.1 (c.in_ok-stands.ensures.owes took.0 took.1.rest took.1.owes) took.2 (took.3 (t.keeps.stands refl).0 stays) says in
    let counts : Counts = record { faults = g.C.Dial.fault_count c.args.dial.now; lost = g.C.Dial.lost_count c.args.dial.now } in
    let seen : Seen = record { told = g.C.Dial.told c.say.new.dial; taken = g.O.Sink.taken c.take_piece.new.out; counts = record { faults = g.C.Dial.fault_count c.say.new.dial; lost = g.C.Dial.lost_count c.say.new.dial } } in
    let after = counts_by c.in_ok-stands.stands counts (g.C.Dial.fault_count c.hear.new.dial) (g.C.Dial.lost_count c.hear.new.dial) seen.counts.faults seen.counts.lost (c.in-Some.ensures.faults ∙ c.loop.invariant.faults) (c.in-Some.ensures.lost ∙ c.loop.invariant.lost)
    c.in_ok-stands.ensures.faults c.in_ok-stands.ensures.lost in
    ends_broken g.D.Disk.shown g.D.Disk.may_leave g.D.Disk.moment g.D.Disk.left_since plan kept before output c.args.kind c.args.store.now (c.loop.counter + 1) c.say.new.initiator seen c.take_piece.new.store counts c.in_ok-doing.doing c.in_ok-stands.stands taken c.in-Going.is c.if-not-stands.true after.1

pub returns-clause-through : goal.returns-clause-through
returns-clause-through g c = λ plan kept before output begun.
    let counts : Counts = record { faults = g.C.Dial.fault_count c.args.dial.now; lost = g.C.Dial.lost_count c.args.dial.now } in
    let seen : Seen = record { told = g.C.Dial.told c.loop.dial; taken = g.O.Sink.taken c.loop.out; counts = record { faults = g.C.Dial.fault_count c.loop.dial; lost = g.C.Dial.lost_count c.loop.dial } } in
    spent g.D.Disk.shown g.D.Disk.may_leave g.D.Disk.moment g.D.Disk.left_since plan kept before output c.args.kind c.args.store.now c.loop.counter c.loop.initiator seen c.loop.store counts c.loop-test.false (c.loop.invariant.talking plan kept before output begun) (inl (c.loop.invariant.faults, c.loop.invariant.lost))

pub returns-in-Failed-clause-given : goal.returns-in-Failed-clause-given
returns-in-Failed-clause-given g c = λ talk represents.
    let was = c.loop.invariant.given talk represents in
    let took = c.in_ok-doing.ensures.takes was.0 was.1.0 in
    let owes = c.in_ok-stands.ensures.owes took.0 took.1.rest took.1.owes in
    owes.given_is ∙ took.1.given_is ∙ was.1.1

pub returns-in-Ended-clause-given : goal.returns-in-Ended-clause-given
returns-in-Ended-clause-given g c = λ talk represents.
    let was = c.loop.invariant.given talk represents in
    let took = c.in_ok-doing.ensures.takes was.0 was.1.0 in
    let owes = c.in_ok-stands.ensures.owes took.0 took.1.rest took.1.owes in
    owes.given_is ∙ took.1.given_is ∙ was.1.1

pub returns-then-not-stands-clause-given : goal.returns-then-not-stands-clause-given
returns-then-not-stands-clause-given g c = λ talk represents.
    let was = c.loop.invariant.given talk represents in
    let took = c.in_ok-doing.ensures.takes was.0 was.1.0 in
    let owes = c.in_ok-stands.ensures.owes took.0 took.1.rest took.1.owes in
    owes.given_is ∙ took.1.given_is ∙ was.1.1

pub loop-init : goal.loop-init
loop-init g c = record {
  stands = c.send.ensures.stands ∙ c.if-not-send.false;
  lost = c.send.ensures.lost ∙ ap (λ (b : Bool). if b then g.C.Dial.lost_count c.args.dial.now else counted (g.C.Dial.lost_count c.args.dial.now)) c.if-not-send.false;
  faults = subst (λ (b : Bool). StandsOr b (g.C.Dial.fault_count c.args.dial.now) (g.C.Dial.fault_count c.send.new.dial)) c.if-not-send.false c.send.ensures.faults;
  disk = refl;
  output = refl;
  limit = refl;
  room = refl;
  given = λ talk represents. (talk, (represents, refl));
  talking = λ plan kept before output begun.
      begins_by g.D.Disk.shown g.D.Disk.may_leave g.D.Disk.moment g.D.Disk.left_since plan kept before output c.args.kind c.args.store.now c.args.first.now c.args.initiator.now (record { told = g.C.Dial.told c.args.dial.now; taken = g.O.Sink.taken c.args.out.now; counts = record { faults = g.C.Dial.fault_count c.args.dial.now; lost = g.C.Dial.lost_count c.args.dial.now } }) (g.C.Dial.told c.send.new.dial) c.send.result
      g.met.D.Disk.only_now begun c.if-not-send.false (c.send.ensures.said before [] [] begun.on);
}

pub loop-preserved : goal.loop-preserved
loop-preserved g c = record {
  stands = c.in_ok-stands.ensures.stands ∙ c.if-not-stands.false;
  lost = c.in_ok-stands.ensures.lost ∙ ap (λ (b : Bool). if b then g.C.Dial.lost_count c.hear.new.dial else counted (g.C.Dial.lost_count c.hear.new.dial)) c.if-not-stands.false ∙ c.in-Some.ensures.lost ∙ c.loop.invariant.lost;
  faults = subst (λ (b : Bool). StandsOr b (g.C.Dial.fault_count c.hear.new.dial) (g.C.Dial.fault_count c.say.new.dial)) c.if-not-stands.false c.in_ok-stands.ensures.faults ∙ c.in-Some.ensures.faults ∙ c.loop.invariant.faults;
  disk = c.in_ok-doing.ensures.store_cause ∙ c.loop.invariant.disk;
  output = c.in_ok-doing.ensures.output_cause ∙ c.loop.invariant.output;
  limit = c.in_ok-doing.ensures.limit ∙ c.loop.invariant.limit;
  room = first_of (search rules, grind (arith, common_steps));
  given = λ talk represents.
      let was = c.loop.invariant.given talk represents in
      let took = c.in_ok-doing.ensures.takes was.0 was.1.0 in
      let owes = c.in_ok-stands.ensures.owes took.0 took.1.rest took.1.owes in
      (took.0, (owes.all c.if-not-stands.false, owes.given_is ∙ took.1.given_is ∙ was.1.1));
  talking = λ plan kept before output begun.
      let t = c.loop.invariant.talking plan kept before output begun in
      let piece = c.in-Some.piece.now in
      let once = tells_once t.talk c.wanted.result piece (λ first second few. c.wanted.ensures.once t.talk first second t.represents few) c.in-Some.ensures.most in
      let heard = c.in-Some.ensures.heard before t.said t.heard t.on in
      let stays = keeps_as g.D.Disk.shown g.D.Disk.may_leave g.D.Disk.moment g.D.Disk.left_since plan kept before output c.args.kind c.args.store.now c.loop.counter c.loop.initiator (g.C.Dial.told c.loop.dial) (g.O.Sink.taken c.loop.out) c.loop.store t in
      let took = c.in_ok-doing.ensures.takes t.talk t.represents in
      let says = c.in_ok-stands.ensures.said took.0 took.1.rest took.1.owes before t.said (t.heard ++ piece) heard in
      let taken = takes_more g.D.Disk.shown g.D.Disk.may_leave g.D.Disk.moment g.D.Disk.left_since plan kept before output c.args.kind c.args.store.now c.loop.counter c.loop.initiator c.take_piece.new.initiator c.say.new.initiator (g.C.Dial.told c.loop.dial) (g.C.Dial.told c.say.new.dial)
      (g.O.Sink.taken c.loop.out) (g.O.Sink.taken c.take_piece.new.out) c.loop.store c.take_piece.new.store piece c.clear.new.self.items c.take_piece.new.said.items c.in_ok-doing.doing c.in_ok-stands.stands t took.0
      c.in-Some.ensures.some once c.clear.ensures.items took.1 (c.in_ok-stands.ensures.owes took.0 took.1.rest took.1.owes) took.2 (took.3 (t.keeps.stands refl).0 stays) says in
      goes_on g.D.Disk.shown g.D.Disk.may_leave g.D.Disk.moment g.D.Disk.left_since plan kept before output c.args.kind c.args.store.now (c.loop.counter + 1) c.say.new.initiator (g.C.Dial.told c.say.new.dial) (g.O.Sink.taken c.take_piece.new.out) c.take_piece.new.store c.in_ok-doing.doing c.in_ok-stands.stands taken c.in-Going.is c.if-not-stands.false;
}
