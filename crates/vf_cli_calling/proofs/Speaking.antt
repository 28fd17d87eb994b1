-- What a calling end says: requests, messages, and messages one after another.
use Rattle.std.proofs.Common.{◌≡◌, ◌<◌, ◌≤◌, ℕ, suc, ◌+◌, Bool, true, false, List, [], ◌∷◌, ◌++◌, Option, Some, None, length, drop, get_or, refl, sym, ap, subst, ◌∙◌, append_assoc, append-nil, add-one, inl, inr, drop-cons}
use Rattle.std.specs.Option.{option_map}
use Rattle.std.specs.Prelude.{if◌then◌else◌}
use Rattle.std.proofs.Math.ListN.{drop_of_length-le}
use Rattle.vf_elements.specs.declared.message.Message.{Message}
use Rattle.vf_session.specs.declared.units.TokenSide.{TokenSide}
use Rattle.vf_session.specs.declared.units.TokenSide.TheVariants.{Initiator}
use Rattle.vf_stack.specs.Represents.{IsSame, offer_of, side_of}
use Rattle.vf_stack.specs.Sending.{May, octets_sent}
use Rattle.vf_stack.specs.Sends.{Sends as IsSentBy}
use Rattle.vf_stack.specs.declared.request.Request.{Request}
use Rattle.vf_stack.specs.declared.request.Request.TheVariants.{Acknowledge}
use Rattle.vf_cli_calling.specs.Bases.{serial_of}
use Rattle.vf_cli_calling.specs.Calling.{Calling, MaySend, Says, SaysAcknowledgement, SaysAll, SaysRequest, Sends, SendsOne, begins_transfer, begun_by, noted_at, request_of, with_base, with_sent}
use Rattle.vf_cli_calling.specs.Represents.{Asks, Represents, Speaks}
use Rattle.vf_cli_calling.specs.declared.base.Base.{Base}
use Rattle.vf_cli_calling.specs.declared.caller.Caller.{Caller}

-- ---- a request

-- what the stack may send is what the calling end may
pub may_as : (caller : Caller) (calling : Calling) (request : Request) → Represents caller calling
    → May (side_of caller.stack) (offer_of caller.stack) calling.association request → MaySend calling request
may_as caller calling request is may =
    let mine : May Initiator (offer_of caller.stack) calling.association request =
    subst (λ (s : TokenSide). May s (offer_of caller.stack) calling.association request) is.side may in
    subst (λ (b : Bool). May Initiator b calling.association request) is.offer mine

pub may_from : (caller : Caller) (calling : Calling) (request : Request) → Represents caller calling
    → MaySend calling request → May (side_of caller.stack) (offer_of caller.stack) calling.association request
may_from caller calling request is may =
    let mine : May Initiator (offer_of caller.stack) calling.association request =
    subst (λ (b : Bool). May Initiator b calling.association request) (sym is.offer) may in
    subst (λ (s : TokenSide). May s (offer_of caller.stack) calling.association request) (sym is.side) mine

pub asks_sent : (caller caller' : Caller) (calling : Calling) (request : Request) (out out' : List ℕ) → Represents caller calling
    → May (side_of caller.stack) (offer_of caller.stack) calling.association request
    → IsSentBy (side_of caller.stack) calling.association request out caller'.stack out'
    → IsSame caller.stack.exchange caller'.stack.exchange → caller'.sync ≡ caller.sync → caller'.base ≡ caller.base
    → Asks calling request out caller' out' true
asks_sent caller caller' calling request out out' is may sends same sync base =
    let sent : IsSentBy Initiator calling.association request out caller'.stack out' =
    subst (λ (s : TokenSide). IsSentBy s calling.association request out caller'.stack out') is.side sends in (
      may_as caller calling request is may,
      sent.appended,
      record { association = sent.represents; side = same.0 ∙ is.side; offer = same.1 ∙ is.offer; sync = sync ∙ is.sync; base = base ∙ is.base },
    )

pub asks_left : (caller : Caller) (calling : Calling) (request : Request) (out : List ℕ) (may : Bool) → Represents caller calling → may ≡ false
    → (May (side_of caller.stack) (offer_of caller.stack) calling.association request → may ≡ true) → Asks calling request out caller out false
asks_left caller calling request out may is unset if_may =
    (λ (m : MaySend calling request). (let e : true ≡ false = sym (if_may (may_from caller calling request is m)) ∙ unset in cc), refl, is)

pub offers : (sent : Bool) (calling : Calling) (request : Request) (out : List ℕ) (caller' : Caller) (out' : List ℕ)
    → Asks calling request out caller' out' sent → Speaks (SendsOne calling request) out caller' out'
offers true calling request out caller' out' asks =
    record { octets = octets_sent Initiator calling.association request; later = with_sent calling request; says = inl (asks.0, refl, refl); represents = asks.2; sent = asks.1 }
offers false calling request out caller' out' asks =
    record { octets = []; later = calling; says = inr (asks.0, refl, refl); represents = asks.2; sent = asks.1 ∙ sym (append-nil out) }

-- the request of a number that is the same
pub offers_as : (calling : Calling) (request request' : Request) (out : List ℕ) (caller' : Caller) (out' : List ℕ) → request ≡ request'
    → Speaks (SendsOne calling request) out caller' out' → Speaks (SendsOne calling request') out caller' out'
offers_as calling request request' out caller' out' e speaks = subst (λ (r : Request). Speaks (SendsOne calling r) out caller' out') e speaks

-- nothing is said
pub says_nothing : (P : List ℕ → Calling → Type 0) (caller : Caller) (calling : Calling) (out : List ℕ) → Represents caller calling → P [] calling → Speaks P out caller out
says_nothing P caller calling out is says = record { octets = []; later = calling; says = says; represents = is; sent = sym (append-nil out) }

-- ---- a message

abbrev Asked : Calling → Message → Option Request → List ℕ → Caller → List ℕ → Type 0
Asked calling message request out caller' out' = Speaks (SaysRequest calling message request) out caller' out'

-- It is the one by what is kept.
said_by : (caller : Caller) (calling : Calling) (message : Message) (request : Option Request) (out : List ℕ) (caller' : Caller) (out' : List ℕ) → Represents caller calling
    → request ≡ request_of caller.sync caller.base message → Asked calling message request out caller' out' → Speaks (Says calling message) out caller' out'
said_by caller calling message request out caller' out' is e asked =
    let by_sync : request_of caller.sync caller.base message ≡ request_of calling.sync caller.base message = ap (λ (s : Bool). request_of s caller.base message) is.sync in
    let by_base : request_of calling.sync caller.base message ≡ request_of calling.sync calling.base message = ap (λ (b : Base). request_of calling.sync b message) is.base in
    subst (λ (r : Option Request). Asked calling message r out caller' out') (e ∙ (by_sync ∙ by_base)) asked

pub says_none : (caller : Caller) (calling : Calling) (message : Message) (found : Option Request) (out : List ℕ) → Represents caller calling
    → found ≡ request_of caller.sync caller.base message → found ≡ None → Speaks (Says calling message) out caller out
says_none caller calling message found out is e none =
    said_by caller calling message None out caller out is (sym none ∙ e) (says_nothing (SaysRequest calling message None) caller calling out is (refl, refl))

pub says_left : (caller caller' : Caller) (calling : Calling) (message : Message) (found : Option Request) (request : Request) (sent : Bool) (out out' : List ℕ) → Represents caller calling
    → found ≡ request_of caller.sync caller.base message → found ≡ Some request → sent ≡ false → Asks calling request out caller' out' sent
    → Speaks (Says calling message) out caller' out'
says_left caller caller' calling message found request sent out out' is e some unset asks =
    let left : Asks calling request out caller' out' false = subst (λ (b : Bool). Asks calling request out caller' out' b) unset asks in
    said_by caller calling message (Some request) out caller' out' is (sym some ∙ e)
    (record { octets = []; later = calling; says = inr (left.0, refl, refl); represents = left.2; sent = left.1 ∙ sym (append-nil out) })

pub says_sent : (caller caller' caller'' : Caller) (calling : Calling) (message : Message) (found : Option Request) (request : Request) (sent : Bool) (out out' : List ℕ) → Represents caller calling
    → found ≡ request_of caller.sync caller.base message → found ≡ Some request → sent ≡ true → Asks calling request out caller' out' sent
    → ((now : Calling) → Represents caller' now → Represents caller'' (begun_by now message)) → Speaks (Says calling message) out caller'' out'
says_sent caller caller' caller'' calling message found request sent out out' is e some set asks begins =
    let done : Asks calling request out caller' out' true = subst (λ (b : Bool). Asks calling request out caller' out' b) set asks in
    said_by caller calling message (Some request) out caller'' out' is (sym some ∙ e)
    (record {
      octets = octets_sent Initiator calling.association request;
      later = begun_by (with_sent calling request) message;
      says = inl (done.0, refl, refl);
      represents = begins (with_sent calling request) done.2;
      sent = done.1;
    })

-- ---- an acknowledgement

pub acknowledges : (caller : Caller) (calling : Calling) (point : ℕ) (serial : Option ℕ) (out : List ℕ) (caller' : Caller) (out' : List ℕ) → Represents caller calling
    → serial ≡ serial_of caller.base point → Speaks (Sends calling (option_map (λ (serial : ℕ). Acknowledge serial) serial)) out caller' out'
    → Speaks (SaysAcknowledgement calling point) out caller' out'
acknowledges caller calling point serial out caller' out' is e speaks =
    let same : serial ≡ serial_of calling.base point = e ∙ ap (λ (b : Base). serial_of b point) is.base in
    subst (λ (s : Option ℕ). Speaks (Sends calling (option_map (λ (serial : ℕ). Acknowledge serial) s)) out caller' out') same speaks

-- ---- a transfer that begins

pub begun_so : (caller : Caller) (b : Bool) (calling : Calling) (message : Message) → b ≡ begins_transfer message
    → Represents caller (if b then with_base calling 0 else calling) → Represents caller (begun_by calling message)
begun_so caller b calling message e is = subst (λ (b : Bool). Represents caller (if b then with_base calling 0 else calling)) e is

pub noted_so : (caller : Caller) (point point' : Option ℕ) (calling : Calling) → point ≡ point' → Represents caller (noted_at calling point) → Represents caller (noted_at calling point')
noted_so caller point point' calling e is = subst (λ (p : Option ℕ). Represents caller (noted_at calling p)) e is

pub based : (caller : Caller) (serial point : ℕ) (calling : Calling) → serial ≡ (with_base calling point).base.next → Represents caller calling
    → Represents (record caller { base = record { next = serial; point = point } }) (with_base calling point)
based caller serial point calling e is =
    record { association = is.association; side = is.side; offer = is.offer; sync = is.sync; base = ap (λ (n : ℕ). (let b : Base = record { next = n; point = point } in b)) e }

-- ---- from message to message

-- Some of them were said, and those that are left are said after them.
pub record SaysOnward (calling : Calling) (messages : List Message) (out : List ℕ) (caller' : Caller) (out' : List ℕ) (rest : List Message) : Type 0 where
  pub octets : List ℕ
  pub now : Calling
  pub represents : Represents caller' now
  pub sent : out' ≡ out ++ octets
  pub onward : (more : List ℕ) (after : Calling) → SaysAll now rest more after → SaysAll calling messages (octets ++ more) after

pub says_first : (caller : Caller) (calling : Calling) (messages : List Message) (out : List ℕ) → Represents caller calling → SaysOnward calling messages out caller out messages
says_first caller calling messages out is =
    record { octets = []; now = calling; represents = is; sent = sym (append-nil out); onward = λ more after says. says }

says_one : (calling : Calling) (messages : List Message) (out : List ℕ) (caller : Caller) (out' : List ℕ) (caller' : Caller) (out'' : List ℕ) (message : Message) (rest : List Message)
    → SaysOnward calling messages out caller out' (message ∷ rest) → ((now : Calling) → Represents caller now → Speaks (Says now message) out' caller' out'')
    → SaysOnward calling messages out caller' out'' rest
says_one calling messages out caller out' caller' out'' message rest before one =
    let next = one before.now before.represents in
    record {
      octets = before.octets ++ next.octets;
      now = next.later;
      represents = next.represents;
      sent = next.sent ∙ (ap (λ (o : List ℕ). o ++ next.octets) before.sent ∙ append_assoc out before.octets next.octets);
      onward = λ more after says.
          subst (λ (o : List ℕ). SaysAll calling messages o after) (sym (append_assoc before.octets next.octets more))
          (before.onward (next.octets ++ more) after (next.octets, more, next.later, next.says, says, refl));
    }

-- the same of a message at its place
pub says_next : (calling : Calling) (messages : List Message) (out : List ℕ) (caller : Caller) (out' : List ℕ) (caller' : Caller) (out'' : List ℕ) (message : Message) (place : ℕ)
    → place < length messages → message ≡ get_or messages place message
    → SaysOnward calling messages out caller out' (drop place messages) → ((now : Calling) → Represents caller now → Speaks (Says now message) out' caller' out'')
    → SaysOnward calling messages out caller' out'' (drop (place + 1) messages)
says_next calling messages out caller out' caller' out'' message place within there before one =
    let more : suc place ≡ place + 1 = sym (add-one place) in
    let first : drop place messages ≡ message ∷ drop (place + 1) messages =
    drop-cons messages place message within ∙ (ap (λ (m : Message). m ∷ drop (suc place) messages) (sym there) ∙ ap (λ (n : ℕ). message ∷ drop n messages) more) in
    says_one calling messages out caller out' caller' out'' message (drop (place + 1) messages)
    (subst (λ (rest : List Message). SaysOnward calling messages out caller out' rest) first before) one

pub says_last : (calling : Calling) (messages : List Message) (out : List ℕ) (caller : Caller) (out' : List ℕ) (place : ℕ) → length messages ≤ place
    → SaysOnward calling messages out caller out' (drop place messages) → Speaks (SaysAll calling messages) out caller out'
says_last calling messages out caller out' place all before =
    let last = subst (λ (rest : List Message). SaysOnward calling messages out caller out' rest) (drop_of_length-le messages all) before in
    record {
      octets = last.octets;
      later = last.now;
      says = subst (λ (o : List ℕ). SaysAll calling messages o last.now) (append-nil last.octets) (last.onward [] last.now (refl, refl));
      represents = last.represents;
      sent = last.sent;
    }
