-- An initiator on its connection: what it sends after the octets that it received, one by one. Between them stand the four
-- lower layers, by the definitions of the stack.
use Rattle.std.specs.Prelude.{◌≡◌, ◌⊎◌, ℕ, Bool, true, false, ◌&&◌, not, nat_le, List, [], ◌∷◌, ◌++◌, length, Option, None, Some, if◌then◌else◌}
use Rattle.vf_initiator.specs.Hearing.{heard_in}
use Rattle.vf_initiator.specs.Rows.{Step, ended, hears, is_over, out_of_place}
use Rattle.vf_initiator.specs.declared.conduct.Conduct.{Conduct}
use Rattle.vf_initiator.specs.declared.conduct.Setting.{Setting}
use Rattle.vf_initiator.specs.declared.doing.Doing.TheVariants.{Failed}
use Rattle.vf_initiator.specs.declared.doing.TaskError.TheVariants.{Budget}
use Rattle.vf_initiator.specs.declared.given.Given.{Given}
use Rattle.vf_initiator.specs.declared.initiator.TheConstants.{BUDGET}
use Rattle.vf_session.specs.Sending.{holds_token}
use Rattle.vf_session.specs.Trace.{next, state}
use Rattle.vf_session.specs.declared.units.TokenSide.TheVariants.{Initiator}
use Rattle.vf_stack.specs.Association.{Association, beginning as no_association, is_ended}
use Rattle.vf_stack.specs.Receiving.{octets_received}
use Rattle.vf_stack.specs.Sending.{May, octets_sent, with_request}
use Rattle.vf_stack.specs.declared.indication.Indication.{Indication}
use Rattle.vf_stack.specs.declared.request.Request.{Request}

-- the association with the other end, F-INITIALIZE until it is sent, and how the initiator stands
pub record Talk : Type 0 where
  pub association : Association
  pub greeting : Option Request
  pub conduct : Conduct

-- what session says of the connection (ISO 8327)
abbrev pub setting_of : Association → Setting
setting_of a = record { serial = next a.exchange.trace; token = holds_token Initiator (state Initiator a.exchange.trace) }

-- ---- sending: in order, each request where it may be sent; one that may not is left out

abbrev pub IsSent : (offer : Bool) → Association → Request → (octets : List ℕ) → Association → Type 0
IsSent offer a request octets a' =
    (May Initiator offer a request × (octets ≡ octets_sent Initiator a request) × (a' ≡ with_request Initiator a request))
    ⊎ ((May Initiator offer a request → ⊥) × (octets ≡ []) × (a' ≡ a))

abbrev pub AreSent : (offer : Bool) → Association → List Request → (octets : List ℕ) → Association → Type 0
AreSent offer a [] octets a' = (octets ≡ []) × (a' ≡ a)
AreSent offer a (request ∷ requests) octets a' =
    (first : List ℕ) × (others : List ℕ) × (middle : Association)
    × (IsSent offer a request first middle × AreSent offer middle requests others a' × (octets ≡ first ++ others))

-- F-INITIALIZE is sent as soon as it may be: once the transport connection stands.
abbrev pub Greets : (offer : Bool) → Talk → Option Request → (octets : List ℕ) → Talk → Type 0
Greets offer talk None octets talk' = (octets ≡ []) × (talk' ≡ talk)
Greets offer talk (Some request) octets talk' =
    (May Initiator offer talk.association request × (octets ≡ octets_sent Initiator talk.association request)
    × (talk' ≡ record talk { association = with_request Initiator talk.association request; greeting = None }))
    ⊎ ((May Initiator offer talk.association request → ⊥) × (octets ≡ []) × (talk' ≡ talk))

-- ---- what is sent to what was told

abbrev pub answer_to : Given → Talk → Indication → Step
answer_to given talk indication = hears given (setting_of talk.association) talk.conduct (heard_in indication)

abbrev pub Answers : Given → (offer : Bool) → Talk → Indication → (octets : List ℕ) → Talk → Type 0
Answers given offer talk indication octets talk' =
    (a : Association)
    × (AreSent offer talk.association (answer_to given talk indication).said octets a
    × (talk' ≡ record talk { association = a; conduct = (answer_to given talk indication).conduct }))

abbrev pub AnswersAll : Given → (offer : Bool) → Talk → List Indication → (octets : List ℕ) → Talk → Type 0
AnswersAll given offer talk [] octets talk' = (octets ≡ []) × (talk' ≡ talk)
AnswersAll given offer talk (indication ∷ later) octets talk' =
    (first : List ℕ) × (others : List ℕ) × (middle : Talk)
    × (Answers given offer talk indication first middle × AnswersAll given offer middle later others talk' × (octets ≡ first ++ others))

-- A connection that the other end released without a word is out of place; and one gives so many octets at most.
abbrev pub fails : Talk → Conduct → Talk
fails talk c = record talk { conduct = c }

abbrev pub released : Talk → Talk
released talk =
    if not (is_over talk.conduct.stage) && is_ended talk.association.exchange.ending then fails talk (out_of_place talk.conduct) else talk

abbrev pub within_budget : Talk → Talk
within_budget talk =
    if not (is_over talk.conduct.stage) && nat_le BUDGET (length talk.association.stream) then fails talk (ended (Failed Budget) talk.conduct) else talk

-- ---- octets, one by one

-- what the lower layers tell of the next octet
abbrev pub received_next : Talk → ℕ → Talk
received_next talk octet = record talk { association = (octets_received Initiator talk.association (octet ∷ [])).association }

pub record TakesNext (given : Given) (offer : Bool) (talk : Talk) (octet : ℕ) (octets : List ℕ) (talk' : Talk) : Type 0 where
  pub greeted : Talk
  pub answered : Talk
  pub greeting_octets : List ℕ
  pub answer_octets : List ℕ
  pub greets : Greets offer (received_next talk octet) talk.greeting greeting_octets greeted
  pub answers : AnswersAll given offer greeted (octets_received Initiator talk.association (octet ∷ [])).indications answer_octets answered
  pub octets_are : octets ≡ (octets_received Initiator talk.association (octet ∷ [])).answers ++ greeting_octets ++ answer_octets
  pub talk_is : talk' ≡ within_budget (released answered)

-- Where the task isn't going on nothing is taken.
abbrev pub TakesOctet : Given → (offer : Bool) → Talk → ℕ → (octets : List ℕ) → Talk → (is_over : Bool) → Type 0
TakesOctet given offer talk octet octets talk' true = (octets ≡ []) × (talk' ≡ talk)
TakesOctet given offer talk octet octets talk' false = TakesNext given offer talk octet octets talk'

abbrev pub Takes : Given → (offer : Bool) → Talk → (piece octets : List ℕ) → Talk → Type 0
Takes given offer talk [] octets talk' = (octets ≡ []) × (talk' ≡ talk)
Takes given offer talk (octet ∷ piece) octets talk' =
    (first : List ℕ) × (others : List ℕ) × (middle : Talk)
    × (TakesOctet given offer talk octet first middle (is_over talk.conduct.stage)
    × Takes given offer middle piece others talk' × (octets ≡ first ++ others))

-- ---- the beginning: the CR is sent, and F-INITIALIZE waits for its answer

abbrev pub begun : Request → Conduct → Talk
begun greeting c = record { association = no_association; greeting = Some greeting; conduct = c }
