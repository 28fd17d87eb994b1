-- So few octets of a connection that they are taken at once, and any number of them, that are taken so few at a time.
use Rattle.std.specs.Prelude.{◌≡◌, ◌+◌, ◌≤◌, ◌⊎◌, ℕ, Bool, List, ◌++◌, length, None}
use Rattle.vf_initiator.specs.Owed.{offer_by}
use Rattle.vf_initiator.specs.Represents.{Owes, Represents}
use Rattle.vf_initiator.specs.Talking.{AnswersAll, Greets, Takes, Talk, released, within_budget}
use Rattle.vf_initiator.specs.declared.given.Given.{Given}
use Rattle.vf_initiator.specs.declared.initiator.Initiator.{Initiator}
use Rattle.vf_initiator.specs.declared.initiator.TheConstants.{BUDGET}
use Rattle.vf_session.specs.declared.units.TokenSide.TheVariants as sides
use Rattle.vf_stack.specs.Receiving.{Fed, octets_received}
use Rattle.vf_tpkt.specs.Wanting.{lacking}

-- what octets tell
abbrev pub fed_of : Talk → List ℕ → Fed
fed_of talk piece = octets_received sides.Initiator talk.association piece

-- the talk as they were received, before anything is sent for them
abbrev pub received : Talk → Fed → Talk
received talk fed = record talk { association = fed.association }

-- What was received is answered.
pub record TakesFed (given : Given) (offer : Bool) (now : Talk) (fed : Fed) (octets : List ℕ) (talk' : Talk) : Type 0 where
  pub greeted : Talk
  pub answered : Talk
  pub greeting_octets : List ℕ
  pub answer_octets : List ℕ
  pub greets : Greets offer now now.greeting greeting_octets greeted
  pub answers : AnswersAll given offer greeted fed.indications answer_octets answered
  pub octets_are : octets ≡ fed.answers ++ greeting_octets ++ answer_octets
  pub talk_is : talk' ≡ within_budget (released answered)

abbrev pub TakesAtOnce : Given → (offer : Bool) → Talk → (piece octets : List ℕ) → Talk → Type 0
TakesAtOnce given offer talk piece octets talk' = TakesFed given offer (received talk (fed_of talk piece)) (fed_of talk piece) octets talk'

-- One octet; or, once F-INITIALIZE is sent, as many as a packet lacks, within the budget.
abbrev pub AreFew : Initiator → List ℕ → Type 0
AreFew i piece = (length piece ≡ 1) ⊎ ((i.greeting ≡ None) × (length piece ≤ lacking i.stack.transport.packet) × (i.octets + length piece ≤ BUDGET))

-- Octets were taken; of what is sent for them the last octets wait.
pub record TakesOn (i : Initiator) (talk : Talk) (piece out : List ℕ) (i' : Initiator) (out' : List ℕ) : Type 0 where
  pub octets : List ℕ
  pub later : List ℕ
  pub after : Talk
  pub takes : Takes i.given (offer_by i.given) talk piece octets after
  pub owes : Owes i' after later
  pub given_is : i'.given ≡ i.given
  pub sent : out' ++ later ≡ out ++ octets

-- Some of them were taken, and those that are left do the rest.
pub record TakesOnward (i : Initiator) (talk : Talk) (piece out : List ℕ) (i' : Initiator) (out' rest : List ℕ) : Type 0 where
  pub octets : List ℕ
  pub now : Talk
  pub represents : Represents i' now
  pub given_is : i'.given ≡ i.given
  pub sent : out' ≡ out ++ octets
  pub onward :
      (later : List ℕ) (after : Talk) → Takes i.given (offer_by i.given) now rest later after
      → Takes i.given (offer_by i.given) talk piece (octets ++ later) after

-- The same, but of what was sent so far the last octets wait.
pub record OwesOnward (i : Initiator) (talk : Talk) (piece out : List ℕ) (i' : Initiator) (out' rest : List ℕ) : Type 0 where
  pub octets : List ℕ
  pub later : List ℕ
  pub now : Talk
  pub owes : Owes i' now later
  pub given_is : i'.given ≡ i.given
  pub sent : out' ++ later ≡ out ++ octets
  pub onward :
      (more : List ℕ) (after : Talk) → Takes i.given (offer_by i.given) now rest more after
      → Takes i.given (offer_by i.given) talk piece (octets ++ more) after
