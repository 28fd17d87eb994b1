-- What may be sent of what is said, and what is left out.
use Rattle.std.proofs.Common.{◌≡◌, ℕ, Bool, true, false, ◌&&◌, List, [], ◌∷◌, ◌++◌, inl, refl, ap, sym, subst, ◌∙◌, append_assoc, append-nil}
use Rattle.std.specs.Prelude.{IsTrue, ◌↔◌, not, if◌then◌else◌}
use Rattle.std.proofs.lemmas.Bool.{and_parts}
use Rattle.vf_elements.specs.declared.message.Said.{Said}
use Rattle.vf_session.specs.Sending.{fits, is_allowed}
use Rattle.vf_session.specs.Trace.{state as state_of}
use Rattle.vf_session.specs.declared.state.SessionState.{SessionState}
use Rattle.vf_session.specs.declared.units.SessionSay.TheVariants as say
use Rattle.vf_session.specs.declared.units.TokenSide.{TokenSide}
use Rattle.vf_session.specs.declared.units.TokenSide.TheVariants.{Responder}
use Rattle.vf_stack.proofs.MayLemmas.{tsdu-fits}
use Rattle.vf_stack.specs.Association.{Association, end_of}
use Rattle.vf_stack.specs.Represents as stack
use Rattle.vf_stack.specs.Sending.{May, octets_sent, permits, with_request}
use Rattle.vf_stack.specs.Sends as stack_sends
use Rattle.vf_stack.specs.declared.ending.Ending.{Ending}
use Rattle.vf_stack.specs.declared.ending.Ending.TheVariants.{Open, Closed, Broken, Refused, Partly}
use Rattle.vf_stack.specs.declared.indication.Indication.{Indication}
use Rattle.vf_stack.specs.declared.request.Request.{Request}
use Rattle.vf_stack.specs.declared.request.Request.TheVariants.{Check}
use Rattle.vf_tpkt.specs.Sending.{stands}
use Rattle.vf_tpkt.specs.Stream.{reading}
use Rattle.vf_responder.specs.Replies.{Outgoing, is_left_out, request_of, sending, sending_all}
use Rattle.vf_responder.specs.Steps.{IsCalled, Sends}

-- Whether a check is permitted isn't of what an end proposes.
check-by : (offer : Bool) (s : SessionState) (serial : ℕ) (ending : Ending) → permits Responder offer s (say.Check serial) ending ≡ permits Responder false s (say.Check serial) ending
check-by offer s serial Open = refl
check-by offer s serial Closed = refl
check-by offer s serial Broken = refl
check-by offer s serial Refused = refl
check-by offer s serial Partly = refl

both : (a b : Bool) → a ≡ true → b ≡ true → not (a && b) ≡ false
both a b p q = ap (λ (x : Bool). not (x && b)) p ∙ ap (λ (x : Bool). not x) q

not-both : (a b : Bool) → (a ≡ true → b ≡ true → ⊥) → not (a && b) ≡ true
not-both true true never = absurd (never refl refl)
not-both true false never = refl
not-both false b never = refl

-- What may be sent isn't left out.
sent-in : (offer : Bool) (association : Association) (request : Request) → May Responder offer association request → is_left_out association request ≡ false
sent-in offer a (Check serial) may =
    both (stands (reading (end_of Responder) a.stream).kept) (permits Responder false (state_of Responder a.exchange.trace) (say.Check serial) a.exchange.ending)
    may.connected (sym (check-by offer (state_of Responder a.exchange.trace) serial a.exchange.ending) ∙ may.permitted)
sent-in offer a request may = refl

-- A check that is permitted may be sent: it has no user data.
check-fits : (offer : Bool) (s : SessionState) (serial : ℕ) (ending : Ending) → permits Responder offer s (say.Check serial) ending ≡ true → fits Responder (say.Check serial) ≡ true
check-fits offer s serial Open e = (and_parts (is_allowed Responder offer s (say.Check serial)) (fits Responder (say.Check serial)) e).1
check-fits offer s serial Closed e = cc
check-fits offer s serial Broken e = cc
check-fits offer s serial Refused e = cc
check-fits offer s serial Partly e = (and_parts (is_allowed Responder offer s (say.Check serial)) (fits Responder (say.Check serial)) e).1

check-may : (offer : Bool) (a : Association) (serial : ℕ) → stands (reading (end_of Responder) a.stream).kept ≡ true
    → permits Responder offer (state_of Responder a.exchange.trace) (say.Check serial) a.exchange.ending ≡ true → May Responder offer a (Check serial)
check-may offer a serial connected permitted = record {
  connected = connected;
  permitted = permitted;
  sendable = record {
    suited = refl;
    carried = tt;
    is_written = tt;
    fits = tsdu-fits Responder (say.Check serial) 0 (λ among. check-fits offer (state_of Responder a.exchange.trace) serial a.exchange.ending permitted) (inl refl) refl;
  };
}

left-in : (offer : Bool) (a : Association) (serial : ℕ) → (May Responder offer a (Check serial) → ⊥) → is_left_out a (Check serial) ≡ true
left-in offer a serial never =
    not-both (stands (reading (end_of Responder) a.stream).kept) (permits Responder false (state_of Responder a.exchange.trace) (say.Check serial) a.exchange.ending)
    (λ connected permitted. never (check-may offer a serial connected (check-by offer (state_of Responder a.exchange.trace) serial a.exchange.ending ∙ permitted)))

-- either of both, as a test says
at-sent : (left : Bool) (a : Association) (request : Request) (old : List ℕ) (kept : stack.Kept) (new : List ℕ) → left ≡ false → new ≡ old ++ octets_sent Responder a request
    → IsCalled kept (with_request Responder a request)
    → Sends (if left then record { octets = []; association = a } else record { octets = octets_sent Responder a request; association = with_request Responder a request }) old kept new
at-sent true a request old kept new e octets called = cc
at-sent false a request old kept new e octets called = record { octets = octets; called = called }

at-left : (left : Bool) (a : Association) (request : Request) (old : List ℕ) (kept : stack.Kept) → left ≡ true → IsCalled kept a
    → Sends (if left then record { octets = []; association = a } else record { octets = octets_sent Responder a request; association = with_request Responder a request }) old kept old
at-left true a request old kept e called = record { octets = sym (append-nil old); called = called }
at-left false a request old kept e called = cc

-- A request that may be sent was sent,
pub was-sent : (kept kept' : stack.Kept) (a : Association) (request : Request) (answer : Bool) (old new : List ℕ) → IsCalled kept a → answer ≡ true
    → IsTrue answer ↔ May (stack.side_of kept) (stack.offer_of kept) a request → stack_sends.IsSame kept.exchange kept'.exchange
    → stack_sends.Sends (stack.side_of kept) a request old kept' new → Sends (sending a request) old kept' new
was-sent kept kept' a request answer old new called is_true may same sent =
    let side : stack.side_of kept ≡ Responder = called.called in
    let due = subst (λ (own : TokenSide). May own (stack.offer_of kept) a request) side (may.0 is_true) in
    let s = subst (λ (own : TokenSide). stack_sends.Sends own a request old kept' new) side sent in
    at-sent (is_left_out a request) a request old kept' new (sent-in (stack.offer_of kept) a request due) s.appended (record { called = same.0 ∙ side; represents = s.represents })

-- and a check that may not be was left out.
pub was-left : (kept : stack.Kept) (a : Association) (serial : ℕ) (answer : Bool) (old : List ℕ) → IsCalled kept a → answer ≡ false
    → IsTrue answer ↔ May (stack.side_of kept) (stack.offer_of kept) a (Check serial) → Sends (sending a (Check serial)) old kept old
was-left kept a serial answer old called never may =
    let side : stack.side_of kept ≡ Responder = called.called in
    let refused : May Responder (stack.offer_of kept) a (Check serial) → ⊥ =
    λ due. (let is_true : answer ≡ true = may.1 (subst (λ (own : TokenSide). May own (stack.offer_of kept) a (Check serial)) (sym side) due) in cc) in
    at-left (is_left_out a (Check serial)) a (Check serial) old kept (left-in (stack.offer_of kept) a serial refused) called

-- ONE AFTER THE OTHER. So much was sent, and the rest is what is left to send.
pub record IsAlong (indication : Indication) (all : Outgoing) (old : List ℕ) (kept : stack.Kept) (new : List ℕ) (rest : List Said) : Type 0 where
  pub association : Association
  pub called : IsCalled kept association
  pub octets : new ++ (sending_all indication association rest).octets ≡ old ++ all.octets
  pub after : (sending_all indication association rest).association ≡ all.association

pub along-none : (indication : Indication) (a : Association) (old : List ℕ) (kept : stack.Kept) (all rest : List Said) → IsCalled kept a → rest ≡ all
    → IsAlong indication (sending_all indication a all) old kept old rest
along-none indication a old kept all rest called same = record {
  association = a;
  called = called;
  octets = ap (λ (said : List Said). old ++ (sending_all indication a said).octets) same;
  after = ap (λ (said : List Said). (sending_all indication a said).association) same;
}

pub along-one : (indication : Indication) (all : Outgoing) (old : List ℕ) (kept kept' : stack.Kept) (mid new : List ℕ) (request : Request) (one : Said) (rest : List Said)
    → (along : IsAlong indication all old kept mid (one ∷ rest)) → request ≡ request_of along.association indication one
    → Sends (sending along.association request) mid kept' new → IsAlong indication all old kept' new rest
along-one indication all old kept kept' mid new request one rest along is sent =
    let s = subst (λ (r : Request). Sends (sending along.association r) mid kept' new) is sent in
    let first = sending along.association (request_of along.association indication one) in
    let others = sending_all indication first.association rest in
    record {
      association = first.association;
      called = s.called;
      octets = ap (λ (o : List ℕ). o ++ others.octets) s.octets ∙ append_assoc mid first.octets others.octets ∙ along.octets;
      after = along.after;
    }

pub along-all : (indication : Indication) (all : Outgoing) (old : List ℕ) (kept : stack.Kept) (new : List ℕ) → IsAlong indication all old kept new [] → Sends all old kept new
along-all indication all old kept new along = record {
  octets = sym (append-nil new) ∙ along.octets;
  called = subst (λ (a : Association). IsCalled kept a) along.after along.called;
}
