-- Requests that are sent one after another.
use Rattle.std.proofs.Common.{◌≡◌, ◌<◌, ◌≤◌, ℕ, suc, ◌+◌, Bool, true, false, List, [], ◌∷◌, ◌++◌, length, drop, get_or, refl, sym, ap, subst, ◌∙◌, append_assoc, append-nil, arith, inl, inr, drop-cons}
use Rattle.std.proofs.Math.ListN.{drop_of_length-le}
use Rattle.vf_initiator.specs.Owed.{Sends, SendsOnward}
use Rattle.vf_initiator.specs.Talking.{AreSent, IsSent}
use Rattle.vf_session.specs.declared.units.TokenSide.{TokenSide}
use Rattle.vf_session.specs.declared.units.TokenSide.TheVariants.{Initiator}
use Rattle.vf_stack.specs.Association.{Association}
use Rattle.vf_stack.specs.Represents.{Kept, Represents as IsStackOf}
use Rattle.vf_stack.specs.Sending.{May, octets_sent, with_request}
use Rattle.vf_stack.specs.Sends.{Sends as IsSentBy}
use Rattle.vf_stack.specs.declared.request.Request.{Request}

pub one_sent : (own : TokenSide) (offer : Bool) (a : Association) (request : Request) (out out' : List ℕ) (kept' : Kept) → own ≡ Initiator → May own offer a request → IsSentBy own a request out kept' out'
    → Sends (IsSent offer a request) out kept' out'
one_sent own offer a request out out' kept' is may sends =
    let may' : May Initiator offer a request = subst (λ (o : TokenSide). May o offer a request) is may in
    let sends' : IsSentBy Initiator a request out kept' out' = subst (λ (o : TokenSide). IsSentBy o a request out kept' out') is sends in
    record { octets = octets_sent Initiator a request; after = with_request Initiator a request; step = inl (may', refl, refl); represents = sends'.represents; sent = sends'.appended }

pub one_left_out : (own : TokenSide) (offer : Bool) (a : Association) (request : Request) (out : List ℕ) (kept : Kept) (may : Bool) → own ≡ Initiator → may ≡ false → (May own offer a request → may ≡ true) → IsStackOf kept a
    → Sends (IsSent offer a request) out kept out
one_left_out own offer a request out kept may is unset if_may stands =
    let never : May own offer a request → ⊥ = λ (m : May own offer a request). (let e : true ≡ false = sym (if_may m) ∙ unset in absurd (cc)) in
    let never' : May Initiator offer a request → ⊥ = subst (λ (o : TokenSide). May o offer a request → ⊥) is never in
    record { octets = []; after = a; step = inr (never', refl, refl); represents = stands; sent = sym (append-nil out) }

-- ---- from request to request

pub sends_none : (offer : Bool) (a : Association) (requests : List Request) (out : List ℕ) (kept : Kept) → IsStackOf kept a → SendsOnward offer a requests out kept out requests
sends_none offer a requests out kept stands =
    record { octets = []; now = a; represents = stands; sent = sym (append-nil out); onward = λ later after are. are }

pub sends_one : (offer : Bool) (a : Association) (requests : List Request) (out : List ℕ) (kept : Kept) (out' : List ℕ) (kept' : Kept) (out'' : List ℕ) (request : Request) (rest : List Request)
    → SendsOnward offer a requests out kept out' (request ∷ rest) → ((b : Association) → IsStackOf kept b → Sends (IsSent offer b request) out' kept' out'')
    → SendsOnward offer a requests out kept' out'' rest
sends_one offer a requests out kept out' kept' out'' request rest before one =
    let next = one before.now before.represents in
    record {
      octets = before.octets ++ next.octets;
      now = next.after;
      represents = next.represents;
      sent = next.sent ∙ (ap (λ (o : List ℕ). o ++ next.octets) before.sent ∙ append_assoc out before.octets next.octets);
      onward = λ later after are.
          subst (λ (o : List ℕ). AreSent offer a requests o after) (sym (append_assoc before.octets next.octets later))
          (before.onward (next.octets ++ later) after (next.octets, later, next.after, (next.step, are, refl)));
    }

-- the same of a request at its place
pub sends_next : (offer : Bool) (a : Association) (requests : List Request) (out : List ℕ) (kept : Kept) (out' : List ℕ) (kept' : Kept) (out'' : List ℕ) (request : Request) (place : ℕ)
    → place < length requests → request ≡ get_or requests place request
    → SendsOnward offer a requests out kept out' (drop place requests) → ((b : Association) → IsStackOf kept b → Sends (IsSent offer b request) out' kept' out'')
    → SendsOnward offer a requests out kept' out'' (drop (place + 1) requests)
sends_next offer a requests out kept out' kept' out'' request place within there before one =
    let more : suc place ≡ place + 1 = omega arith in
    let first : drop place requests ≡ request ∷ drop (place + 1) requests =
    drop-cons requests place request within ∙ (ap (λ (r : Request). r ∷ drop (suc place) requests) (sym there) ∙ ap (λ (n : ℕ). request ∷ drop n requests) more) in
    sends_one offer a requests out kept out' kept' out'' request (drop (place + 1) requests)
    (subst (λ (rest : List Request). SendsOnward offer a requests out kept out' rest) first before) one

pub sends_all : (offer : Bool) (a : Association) (requests : List Request) (out : List ℕ) (kept : Kept) (out' : List ℕ) (place : ℕ) → length requests ≤ place
    → SendsOnward offer a requests out kept out' (drop place requests) → Sends (AreSent offer a requests) out kept out'
sends_all offer a requests out kept out' place all before =
    let last = subst (λ (rest : List Request). SendsOnward offer a requests out kept out' rest) (drop_of_length-le requests all) before in
    record {
      octets = last.octets;
      after = last.now;
      step = subst (λ (o : List ℕ). AreSent offer a requests o last.now) (append-nil last.octets) (last.onward [] last.now (refl, refl));
      represents = last.represents;
      sent = last.sent;
    }
