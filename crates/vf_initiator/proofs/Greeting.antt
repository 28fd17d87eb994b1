-- F-INITIALIZE, which waits until it may be sent.
use Rattle.std.proofs.Common.{◌≡◌, ℕ, Bool, true, false, List, [], refl, sym, ap, subst, ◌∙◌, append-nil, Option, None, Some, inl, inr}
use Rattle.vf_initiator.specs.Owed.{IsSameEnd, LeadsGreeting, offer_by}
use Rattle.vf_initiator.specs.Represents.{Holds}
use Rattle.vf_initiator.specs.Talking.{Greets, Talk}
use Rattle.vf_initiator.specs.declared.initiator.Initiator.{Initiator}
use Rattle.vf_session.specs.declared.units.TokenSide.{TokenSide}
use Rattle.vf_session.specs.declared.units.TokenSide.TheVariants.{Initiator as Calls}
use Rattle.vf_stack.specs.Represents.{offer_of, side_of}
use Rattle.vf_stack.specs.Sending.{May, octets_sent, with_request}
use Rattle.vf_stack.specs.Sends.{Sends as IsSentBy}
use Rattle.vf_stack.specs.declared.request.Request.{Request}

pub no_greeting : (i : Initiator) (talk : Talk) (out : List ℕ) → i.greeting ≡ None → Holds i talk → LeadsGreeting i talk out i out
no_greeting i talk out none holds =
    let g : None ≡ talk.greeting = sym none ∙ holds.greeting in
    record { octets = []; after = talk; step = subst (λ (x : Option Request). Greets (offer_by i.given) talk x [] talk) g (refl, refl); holds = holds; given_is = refl; count_is = refl; sent = sym (append-nil out) }

-- whether it may be sent, by the end and the offer of the stack
may_by : (i : Initiator) (talk : Talk) (request : Request) → Holds i talk → May (side_of i.stack) (offer_of i.stack) talk.association request → May Calls (offer_by i.given) talk.association request
may_by i talk request holds may =
    subst (λ (x : Bool). May Calls x talk.association request) holds.offer (subst (λ (o : TokenSide). May o (offer_of i.stack) talk.association request) holds.side may)

may_so : (i : Initiator) (talk : Talk) (request : Request) → Holds i talk → May Calls (offer_by i.given) talk.association request → May (side_of i.stack) (offer_of i.stack) talk.association request
may_so i talk request holds may =
    subst (λ (x : Bool). May (side_of i.stack) x talk.association request) (sym holds.offer) (subst (λ (o : TokenSide). May o (offer_by i.given) talk.association request) (sym holds.side) may)

pub greeting_waits : (i : Initiator) (talk : Talk) (request : Request) (out : List ℕ) (may : Bool) → i.greeting ≡ Some request → may ≡ false
    → (May (side_of i.stack) (offer_of i.stack) talk.association request → may ≡ true) → Holds i talk → LeadsGreeting i talk out i out
greeting_waits i talk request out may is unset if_may holds =
    let never : May Calls (offer_by i.given) talk.association request → ⊥ =
    λ (m : May Calls (offer_by i.given) talk.association request). (let e : true ≡ false = sym (if_may (may_so i talk request holds m)) ∙ unset in absurd (cc)) in
    let g : Some request ≡ talk.greeting = sym is ∙ holds.greeting in
    record { octets = []; after = talk; step = subst (λ (x : Option Request). Greets (offer_by i.given) talk x [] talk) g (inr (never, refl, refl)); holds = holds; given_is = refl; count_is = refl; sent = sym (append-nil out) }

pub greeting_sent : (i i' : Initiator) (talk : Talk) (request : Request) (out out' : List ℕ) → i.greeting ≡ Some request → May (side_of i.stack) (offer_of i.stack) talk.association request
    → IsSentBy (side_of i.stack) talk.association request out i'.stack out' → IsSameEnd i.stack i'.stack → i'.given ≡ i.given → i'.greeting ≡ None → i'.conduct ≡ i.conduct → i'.octets ≡ i.octets → Holds i talk
    → LeadsGreeting i talk out i' out'
greeting_sent i i' talk request out out' is may sends same given none conduct count holds =
    let sent : IsSentBy Calls talk.association request out i'.stack out' = subst (λ (o : TokenSide). IsSentBy o talk.association request out i'.stack out') holds.side sends in
    let after : Talk = record talk { association = with_request Calls talk.association request; greeting = None } in
    let g : Some request ≡ talk.greeting = sym is ∙ holds.greeting in
    record {
      octets = octets_sent Calls talk.association request;
      after = after;
      step =
          subst (λ (x : Option Request). Greets (offer_by i.given) talk x (octets_sent Calls talk.association request) after) g
          (inl (may_by i talk request holds may, refl, refl));
      holds =
          record {
            association = sent.represents;
            side = same.0 ∙ holds.side;
            offer = same.1 ∙ (holds.offer ∙ ap offer_by (sym given));
            greeting = none;
            conduct = conduct ∙ holds.conduct;
          };
      given_is = given;
      count_is = count;
      sent = sent.appended;
    }
