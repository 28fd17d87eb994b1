-- A block more is spelled and sent, as long as more wait and the connection stands.
use Rattle.std.specs.Prelude.{if◌then◌else◌}
use Rattle.std.proofs.Common.{◌++◌, Bool, List, ℕ, refl, sym, ap, subst, ◌∙◌}
use Rattle.std.proofs.lemmas.Result.{err_from_is_err_and}
use Rattle.vf_base.specs.Faults.{counted}
use Rattle.vf_transact.specs.Connecting.{SaysOn, StandsOr, is_whole}
use Rattle.vf_transact.proofs.Blocks.{answer_said, begins_answer, block_lost, block_said, block_spelled, breaks_off, owes_nothing, owes_rest, spelled_on}
use Rattle.vf_transact.proofs.connecting.say.Goals as goal

pub returns-then-not-send-clause-said : goal.returns-then-not-send-clause-said
returns-then-not-send-clause-said g c = λ talk rest owes before said heard on.
    let answer = c.args.said.now.items ++ rest in
    let told = g.C.Dial.told c.args.dial.now in
    let s = c.in_ok-more.ensures.said talk rest owes in
    let p = block_spelled before said heard answer answer c.say.new.out.items s.later told s.together (begins_answer before said heard answer told on) in
    block_lost before said heard answer c.say.new.out.items s.later told (g.C.Dial.told c.send.new.dial) c.send.result c.if-not-send.true p
    (subst (λ (l : List ℕ). SaysOn before (said ++ p.spoken) heard l (g.C.Dial.told c.send.new.dial) c.send.result) c.as_slice.ensures.value (c.send.ensures.said before (said ++ p.spoken) heard p.on))

pub returns-then-not-send-clause-owes : goal.returns-then-not-send-clause-owes
returns-then-not-send-clause-owes g c = λ talk rest owes.
    let s = c.in_ok-more.ensures.said talk rest owes in
    owes_rest c.args.initiator.now talk c.say.new.self s.later c.in_ok-more.more (spelled_on c.args.initiator.now talk c.args.initiator.now c.say.new.self rest c.args.said.now.items c.say.new.out.items c.in_ok-more.more owes refl s)

pub loop-more-init : goal.loop-more-init
loop-more-init g c = record {
  stands = c.send.ensures.stands ∙ c.if-not-send.false;
  lost = c.send.ensures.lost ∙ ap (λ (b : Bool). if b then g.C.Dial.lost_count c.args.dial.now else counted (g.C.Dial.lost_count c.args.dial.now)) c.if-not-send.false;
  faults = subst (λ (b : Bool). StandsOr b (g.C.Dial.fault_count c.args.dial.now) (g.C.Dial.fault_count c.send.new.dial)) c.if-not-send.false c.send.ensures.faults;
  saying = λ talk rest owes.
      let answer = c.args.said.now.items ++ rest in
      let told = g.C.Dial.told c.args.dial.now in
      let s = c.in_ok-more.ensures.said talk rest owes in (
        s.later,
        (
          spelled_on c.args.initiator.now talk c.args.initiator.now c.say.new.self rest c.args.said.now.items c.say.new.out.items c.in_ok-more.more owes refl s,
          λ before said heard on.
              let p = block_spelled before said heard answer answer c.say.new.out.items s.later told s.together (begins_answer before said heard answer told on) in
              block_said before said heard answer c.say.new.out.items s.later told (g.C.Dial.told c.send.new.dial) c.send.result c.if-not-send.false p
              (subst (λ (l : List ℕ). SaysOn before (said ++ p.spoken) heard l (g.C.Dial.told c.send.new.dial) c.send.result) c.as_slice.ensures.value (c.send.ensures.said before (said ++ p.spoken) heard p.on)),
        ),
      );
}

pub returns-in_err-more-2-clause-said : goal.returns-in_err-more-2-clause-said
returns-in_err-more-2-clause-said g c = λ talk rest owes before said heard on.
    let answer = c.args.said.now.items ++ rest in
    let told = g.C.Dial.told c.loop-more.dial in
    let t = c.loop-more.invariant.saying talk rest owes in
    let e = err_from_is_err_and c.from_residual-in_err-more-2.result c.from_residual-in_err-more-2.ensures.1 in
    subst (λ (b : Bool). SaysOn before said heard answer told b) (sym (ap is_whole e.1)) (breaks_off before said heard answer t.0 told (t.1.1 before said heard on))

pub returns-then-not-send-2-clause-said : goal.returns-then-not-send-2-clause-said
returns-then-not-send-2-clause-said g c = λ talk rest owes before said heard on.
    let answer = c.args.said.now.items ++ rest in
    let told = g.C.Dial.told c.loop-more.dial in
    let t = c.loop-more.invariant.saying talk rest owes in
    let s = c.in_ok-more-2.ensures.said talk t.0 t.1.0.owes in
    let p = block_spelled before said heard answer t.0 c.say-in-loop-more.new.out.items s.later told (s.together ∙ ap (λ (l : List ℕ). l ++ t.0) c.clear.ensures.items) (t.1.1 before said heard on) in
    block_lost before said heard answer c.say-in-loop-more.new.out.items s.later told (g.C.Dial.told c.send-in-loop-more.new.dial) c.send-in-loop-more.result c.if-not-send-2.true p
    (subst (λ (l : List ℕ). SaysOn before (said ++ p.spoken) heard l (g.C.Dial.told c.send-in-loop-more.new.dial) c.send-in-loop-more.result) c.as_slice-in-loop-more.ensures.value (c.send-in-loop-more.ensures.said before (said ++ p.spoken) heard p.on))

pub returns-then-not-send-2-clause-owes : goal.returns-then-not-send-2-clause-owes
returns-then-not-send-2-clause-owes g c = λ talk rest owes.
    let t = c.loop-more.invariant.saying talk rest owes in
    let s = c.in_ok-more-2.ensures.said talk t.0 t.1.0.owes in
    owes_rest c.args.initiator.now talk c.say-in-loop-more.new.self s.later c.in_ok-more-2.more (spelled_on c.args.initiator.now talk c.loop-more.initiator c.say-in-loop-more.new.self t.0 c.clear.new.self.items c.say-in-loop-more.new.out.items c.in_ok-more-2.more t.1.0.owes t.1.0.given_is s)

pub loop-more-preserved : goal.loop-more-preserved
loop-more-preserved g c = record {
  stands = c.send-in-loop-more.ensures.stands ∙ c.if-not-send-2.false;
  lost = c.send-in-loop-more.ensures.lost ∙ ap (λ (b : Bool). if b then g.C.Dial.lost_count c.loop-more.dial else counted (g.C.Dial.lost_count c.loop-more.dial)) c.if-not-send-2.false ∙ c.loop-more.invariant.lost;
  faults = subst (λ (b : Bool). StandsOr b (g.C.Dial.fault_count c.loop-more.dial) (g.C.Dial.fault_count c.send-in-loop-more.new.dial)) c.if-not-send-2.false c.send-in-loop-more.ensures.faults ∙ c.loop-more.invariant.faults;
  saying = λ talk rest owes.
      let answer = c.args.said.now.items ++ rest in
      let told = g.C.Dial.told c.loop-more.dial in
      let t = c.loop-more.invariant.saying talk rest owes in
      let s = c.in_ok-more-2.ensures.said talk t.0 t.1.0.owes in (
        s.later,
        (
          spelled_on c.args.initiator.now talk c.loop-more.initiator c.say-in-loop-more.new.self t.0 c.clear.new.self.items c.say-in-loop-more.new.out.items c.in_ok-more-2.more t.1.0.owes t.1.0.given_is s,
          λ before said heard on.
              let p = block_spelled before said heard answer t.0 c.say-in-loop-more.new.out.items s.later told (s.together ∙ ap (λ (l : List ℕ). l ++ t.0) c.clear.ensures.items) (t.1.1 before said heard on) in
              block_said before said heard answer c.say-in-loop-more.new.out.items s.later told (g.C.Dial.told c.send-in-loop-more.new.dial) c.send-in-loop-more.result c.if-not-send-2.false p
              (subst (λ (l : List ℕ). SaysOn before (said ++ p.spoken) heard l (g.C.Dial.told c.send-in-loop-more.new.dial) c.send-in-loop-more.result) c.as_slice-in-loop-more.ensures.value (c.send-in-loop-more.ensures.said before (said ++ p.spoken) heard p.on)),
        ),
      );
}

pub returns-clause-said : goal.returns-clause-said
returns-clause-said g c = λ talk rest owes before said heard on.
    let t = c.loop-more.invariant.saying talk rest owes in
    answer_said c.args.initiator.now talk c.loop-more.initiator before said heard (c.args.said.now.items ++ rest) t.0 (g.C.Dial.told c.loop-more.dial) c.loop-more.more c.loop-more-test.false t.1.0 (t.1.1 before said heard on)

pub returns-clause-owes : goal.returns-clause-owes
returns-clause-owes g c = λ talk rest owes.
    let t = c.loop-more.invariant.saying talk rest owes in
    owes_nothing c.args.initiator.now talk c.loop-more.initiator t.0 c.loop-more.more c.loop-more-test.false t.1.0
