-- Requests that wait, and how they are spelled one by one.
use Rattle.std.proofs.Common.{◌≡◌, ◌<◌, ◌≤◌, ◌+◌, ◌⊎◌, inl, inr, ℕ, Bool, false, List, [], ◌∷◌, ◌++◌, length, refl, sym, ap, subst, ◌∙◌, append_assoc, append-nil, arith}
use Rattle.vf_initiator.proofs.Decided.{sent_once}
use Rattle.vf_initiator.specs.Owed.{IsSameEnd, SaysAll, SaysOn, Sends, offer_by}
use Rattle.vf_initiator.specs.Represents.{Holds, IsSaid, Lags, Owes, Represents}
use Rattle.vf_initiator.specs.Talking.{AreSent, IsSent, Talk}
use Rattle.vf_initiator.specs.declared.given.Given.{Given}
use Rattle.vf_initiator.specs.declared.initiator.Initiator.{Initiator}
use Rattle.vf_stack.specs.Association.{Association}
use Rattle.vf_stack.specs.Represents.{Represents as IsStackOf, offer_of}
use Rattle.vf_stack.specs.declared.request.Request.{Request}

-- ---- nothing waits

abbrev pub lags_of : (i : Initiator) (talk : Talk) → Holds i talk → i.waiting.items ≡ [] → Lags i talk []
lags_of i talk holds none = record {
  now = talk.association;
  holds = holds;
  sends = subst (λ (r : List Request). AreSent (offer_by i.given) talk.association r [] talk.association) (sym none) (refl, refl);
}

pub owes_of : (i : Initiator) (talk : Talk) → Represents i talk → Owes i talk []
owes_of i talk is = record { lags = lags_of i talk is.holds is.waits; octets = is.octets }

nothing_lags : (i : Initiator) (talk : Talk) (rest : List ℕ) → i.waiting.items ≡ [] → Lags i talk rest → (rest ≡ []) × Holds i talk
nothing_lags i talk rest none lags =
    let are : AreSent (offer_by i.given) lags.now [] rest talk.association = subst (λ (r : List Request). AreSent (offer_by i.given) lags.now r rest talk.association) none lags.sends in
    (are.0, subst (λ (a : Association). Holds i (record talk { association = a })) (sym are.1) lags.holds)

pub represents_of : (i : Initiator) (talk : Talk) (rest : List ℕ) → i.waiting.items ≡ [] → Owes i talk rest → (rest ≡ []) × Represents i talk
represents_of i talk rest none owes =
    let so = nothing_lags i talk rest none owes.lags in
    (so.0, record { holds = so.1; octets = owes.octets; waits = none })

-- ---- from request to request

pub says_none : (i : Initiator) (talk : Talk) (rest out : List ℕ) → Lags i talk rest → SaysOn i talk rest out i out
says_none i talk rest out lags = record { later = rest; lags = lags; given_is = refl; count_is = refl; together = refl }

pub say_one : (i i' : Initiator) (talk : Talk) (rest out out' : List ℕ) (request : Request) (left : List Request) → i.waiting.items ≡ request ∷ left → i'.waiting.items ≡ left
    → IsSameEnd i.stack i'.stack → i'.given ≡ i.given → i'.greeting ≡ i.greeting → i'.conduct ≡ i.conduct → i'.octets ≡ i.octets
    → (lags : Lags i talk rest) → Sends (IsSent (offer_of i.stack) lags.now request) out i'.stack out' → SaysOn i talk rest out i' out'
say_one i i' talk rest out out' request left is left_is same given greeting conduct count lags sends =
    let are : AreSent (offer_by i.given) lags.now (request ∷ left) rest talk.association = subst (λ (r : List Request). AreSent (offer_by i.given) lags.now r rest talk.association) is lags.sends in
    let step : IsSent (offer_by i.given) lags.now request sends.octets sends.after =
    subst (λ (offer : Bool). IsSent offer lags.now request sends.octets sends.after) lags.holds.offer sends.step in
    let once = sent_once (offer_by i.given) lags.now request sends.octets are.0 sends.after are.2 step are.3.0 in
    let others : AreSent (offer_by i'.given) are.2 i'.waiting.items are.1 talk.association =
    subst (λ (g : Given). AreSent (offer_by g) are.2 i'.waiting.items are.1 talk.association) (sym given)
    (subst (λ (r : List Request). AreSent (offer_by i.given) are.2 r are.1 talk.association) (sym left_is) are.3.1) in
    record {
      later = are.1;
      lags =
          record {
            now = are.2;
            holds =
                record {
                  association = subst (λ (b : Association). IsStackOf i'.stack b) once.1 sends.represents;
                  side = same.0 ∙ lags.holds.side;
                  offer = same.1 ∙ (lags.holds.offer ∙ ap offer_by (sym given));
                  greeting = greeting ∙ lags.holds.greeting;
                  conduct = conduct ∙ lags.holds.conduct;
                };
            sends = others;
          };
      given_is = given;
      count_is = count;
      together =
          ap (λ (o : List ℕ). o ++ are.1) (sends.sent ∙ ap (λ (o : List ℕ). out ++ o) once.0)
          ∙ (append_assoc out are.0 are.1 ∙ ap (λ (o : List ℕ). out ++ o) (sym are.3.2));
    }

pub says_more : (i now then : Initiator) (talk : Talk) (rest out out' out'' : List ℕ) → SaysOn i talk rest out now out' → ((r : List ℕ) → Lags now talk r → SaysOn now talk r out' then out'')
    → SaysOn i talk rest out then out''
says_more i now then talk rest out out' out'' before one =
    let next = one before.later before.lags in
    record { later = next.later; lags = next.lags; given_is = next.given_is ∙ before.given_is; count_is = next.count_is ∙ before.count_is; together = next.together ∙ before.together }

pub says_all : (i now : Initiator) (talk : Talk) (rest out out' : List ℕ) → now.waiting.items ≡ [] → SaysOn i talk rest out now out' → SaysAll i talk rest out now out'
says_all i now talk rest out out' none last =
    let so = nothing_lags now talk last.later none last.lags in
    record {
      holds = so.1;
      waits = none;
      given_is = last.given_is;
      count_is = last.count_is;
      sent = sym (append-nil out') ∙ (ap (λ (o : List ℕ). out' ++ o) (sym so.0) ∙ last.together);
    }

-- as it is told
pub said_so : (i now : Initiator) (talk : Talk) (rest out out' : List ℕ) (more : Bool) → (more ≡ false → now.waiting.items ≡ []) → Owes i talk rest → SaysOn i talk rest out now out' → IsSaid i talk rest out now out' more
said_so i now talk rest out out' more none owes last =
    let still : Owes now talk last.later = record { lags = last.lags; octets = λ goes. last.count_is ∙ owes.octets goes } in
    record { later = last.later; owes = still; given_is = last.given_is; together = last.together; all = λ done. represents_of now talk last.later (none done) still }

-- all of what is owed
pub all_said : (i now : Initiator) (talk : Talk) (rest out out' : List ℕ) → Owes i talk rest → SaysAll i talk rest out now out' → Represents now talk
all_said i now talk rest out out' owes all = record { holds = all.holds; octets = λ goes. all.count_is ∙ owes.octets goes; waits = all.waits }

-- ---- fewer requests wait

pub fewer_now : (i now then : Initiator) (out out' : List ℕ) → length then.waiting.items + 1 ≡ length now.waiting.items
    → ((out' ≡ out) × (now.waiting.items ≡ i.waiting.items)) ⊎ (length now.waiting.items < length i.waiting.items) → length then.waiting.items < length i.waiting.items
fewer_now i now then out out' is (inl same) = let e : length now.waiting.items ≡ length i.waiting.items = ap (λ (r : List Request). length r) same.1 in omega (arith, is, e)
fewer_now i now then out out' is (inr few) = omega (arith, is, few)

pub said_full : (i now : Initiator) (most : ℕ) (out out' : List ℕ) → most ≤ length out' → length out < most
    → ((out' ≡ out) × (now.waiting.items ≡ i.waiting.items)) ⊎ (length now.waiting.items < length i.waiting.items) → length now.waiting.items < length i.waiting.items
said_full i now most out out' full free (inl same) = let e : length out' ≡ length out = ap (λ (o : List ℕ). length o) same.0 in absurd (omega (arith, full, free, e))
said_full i now most out out' full free (inr few) = few
