-- What the code owes that sends: octets were appended, and what is kept represents what stands after them.
use Rattle.std.specs.Prelude.{◌≡◌, ℕ, Bool, true, false, ◌&&◌, not, nat_le, List, [], ◌++◌, is_some, if◌then◌else◌}
use Rattle.vf_initiator.specs.Represents.{Holds, Lags}
use Rattle.vf_initiator.specs.Rows.{ended, is_over, out_of_place}
use Rattle.vf_initiator.specs.Talking.{Answers, AnswersAll, AreSent, Greets, Talk}
use Rattle.vf_initiator.specs.declared.conduct.Conduct.{Conduct}
use Rattle.vf_initiator.specs.declared.doing.Doing.TheVariants.{Failed}
use Rattle.vf_initiator.specs.declared.doing.TaskError.TheVariants.{Budget}
use Rattle.vf_initiator.specs.declared.given.Given.{Given}
use Rattle.vf_initiator.specs.declared.initiator.Initiator.{Initiator}
use Rattle.vf_initiator.specs.declared.initiator.TheConstants.{BUDGET}
use Rattle.vf_stack.specs.Association.{Association, is_ended}
use Rattle.vf_stack.specs.Represents.{Kept, Represents as IsStackOf, offer_of, side_of}
use Rattle.vf_stack.specs.declared.indication.Indication.{Indication}
use Rattle.vf_stack.specs.declared.request.Request.{Request}
use Rattle.vf_stack.specs.declared.request.Request.TheVariants.{Item, Check}

-- which end a stack is, and whether it proposes sync, stays
abbrev pub IsSameEnd : Kept → Kept → Type 0
IsSameEnd kept kept' = (side_of kept' ≡ side_of kept) × (offer_of kept' ≡ offer_of kept)

-- An association made such a step, by which these octets are sent.
pub record Sends (Step : List ℕ → Association → Type 0) (out : List ℕ) (kept' : Kept) (out' : List ℕ) : Type 0 where
  pub octets : List ℕ
  pub after : Association
  pub step : Step octets after
  pub represents : IsStackOf kept' after
  pub sent : out' ≡ out ++ octets

-- The requests so far were sent, and those that are left send the rest.
pub record SendsOnward (offer : Bool) (a : Association) (requests : List Request) (out : List ℕ) (kept' : Kept) (out' : List ℕ) (rest : List Request) : Type 0 where
  pub octets : List ℕ
  pub now : Association
  pub represents : IsStackOf kept' now
  pub sent : out' ≡ out ++ octets
  pub onward : (later : List ℕ) (after : Association) → AreSent offer now rest later after → AreSent offer a requests (octets ++ later) after

-- sync is proposed where the task has an activity
abbrev pub offer_by : Given → Bool
offer_by given = is_some given.assignment.activity

-- A talk made such a step, by which these octets are sent.
pub record Leads (i : Initiator) (Step : List ℕ → Talk → Type 0) (out : List ℕ) (i' : Initiator) (out' : List ℕ) : Type 0 where
  pub octets : List ℕ
  pub after : Talk
  pub step : Step octets after
  pub holds : Holds i' after
  pub given_is : i'.given ≡ i.given
  pub count_is : i'.octets ≡ i.octets
  pub sent : out' ≡ out ++ octets

-- The greeting is sent, if it may be.
abbrev pub LeadsGreeting : Initiator → Talk → List ℕ → Initiator → List ℕ → Type 0
LeadsGreeting i talk out i' out' = Leads i (Greets (offer_by i.given) talk talk.greeting) out i' out'

-- a request after which the association goes on as it did
abbrev pub is_open : Request → Bool
is_open (Item item) = true
is_open (Check serial) = true
is_open request = false

-- The same, but of its octets the last ones wait. Those that wait don't end the association.
pub record LeadsLater (i : Initiator) (Step : List ℕ → Talk → Type 0) (out : List ℕ) (i' : Initiator) (out' : List ℕ) : Type 0 where
  pub octets : List ℕ
  pub later : List ℕ
  pub after : Talk
  pub step : Step octets after
  pub lags : Lags i' after later
  pub lasts : is_ended lags.now.exchange.ending ≡ is_ended after.association.exchange.ending
  pub given_is : i'.given ≡ i.given
  pub count_is : i'.octets ≡ i.octets
  pub sent : out' ++ later ≡ out ++ octets

-- What was told is answered.
abbrev pub LeadsAnswer : Initiator → Talk → Indication → List ℕ → Initiator → List ℕ → Type 0
LeadsAnswer i talk indication out i' out' = LeadsLater i (Answers i.given (offer_by i.given) talk indication) out i' out'

abbrev pub LeadsAnswers : Initiator → Talk → List Indication → List ℕ → Initiator → List ℕ → Type 0
LeadsAnswers i talk told out i' out' = LeadsLater i (AnswersAll i.given (offer_by i.given) talk told) out i' out'

-- What was told so far is answered, and what is left has the other answers.
pub record LeadsOnward (i : Initiator) (talk : Talk) (told : List Indication) (out : List ℕ) (i' : Initiator) (out' : List ℕ) (rest : List Indication) : Type 0 where
  pub octets : List ℕ
  pub now : Talk
  pub holds : Holds i' now
  pub given_is : i'.given ≡ i.given
  pub count_is : i'.octets ≡ i.octets
  pub sent : out' ≡ out ++ octets
  pub onward :
      (later : List ℕ) (after : Talk) → AnswersAll i.given (offer_by i.given) now rest later after
      → AnswersAll i.given (offer_by i.given) talk told (octets ++ later) after

-- The same, but of what was sent so far the last octets wait.
pub record LagsOnward (i : Initiator) (talk : Talk) (told : List Indication) (out : List ℕ) (i' : Initiator) (out' : List ℕ) (rest : List Indication) : Type 0 where
  pub octets : List ℕ
  pub later : List ℕ
  pub now : Talk
  pub lags : Lags i' now later
  pub lasts : is_ended lags.now.exchange.ending ≡ is_ended now.association.exchange.ending
  pub given_is : i'.given ≡ i.given
  pub count_is : i'.octets ≡ i.octets
  pub sent : out' ++ later ≡ out ++ octets
  pub onward :
      (more : List ℕ) (after : Talk) → AnswersAll i.given (offer_by i.given) now rest more after
      → AnswersAll i.given (offer_by i.given) talk told (octets ++ more) after

-- ---- what waits is spelled

-- A front of it.
pub record SaysOn (i : Initiator) (talk : Talk) (rest out : List ℕ) (i' : Initiator) (out' : List ℕ) : Type 0 where
  pub later : List ℕ
  pub lags : Lags i' talk later
  pub given_is : i'.given ≡ i.given
  pub count_is : i'.octets ≡ i.octets
  pub together : out' ++ later ≡ out ++ rest

-- All of it.
pub record SaysAll (i : Initiator) (talk : Talk) (rest out : List ℕ) (i' : Initiator) (out' : List ℕ) : Type 0 where
  pub holds : Holds i' talk
  pub waits : i'.waiting.items ≡ []
  pub given_is : i'.given ≡ i.given
  pub count_is : i'.octets ≡ i.octets
  pub sent : out' ≡ out ++ rest

-- A connection that is ended fails a task that goes on, and so does one that gave so many octets.
abbrev pub unless_ended : (is_ended : Bool) → Conduct → Conduct
unless_ended is_ended c = if not (is_over c.stage) && is_ended then out_of_place c else c

abbrev pub unless_spent : (octets : ℕ) → Conduct → Conduct
unless_spent octets c = if not (is_over c.stage) && nat_le BUDGET octets then ended (Failed Budget) c else c
