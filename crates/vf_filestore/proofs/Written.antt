-- What holds of what happens in a write, where it holds of nothing, and stays with each value that comes, with checks,
-- acknowledgements and restarts.
use Rattle.std.proofs.Common.{ℕ, true, false, List, [], ◌∷◌, Option, None, Some}
use Rattle.std.specs.Prelude.{IfSome}
use Rattle.std.specs.List.{AllByRecursion}
use Rattle.vf_base.specs.declared.element.Element.{Element}
use Rattle.vf_elements.specs.declared.message.Message.{Message}
use Rattle.vf_elements.specs.declared.message.Message.TheVariants as messages
use Rattle.vf_elements.specs.declared.message.Said.{Said}
use Rattle.vf_elements.specs.declared.message.Said.TheVariants as answers
use Rattle.vf_pdu.specs.declared.pdu.Pdu.{Pdu}
use Rattle.vf_pdu.specs.declared.pdu.Pdu.TheVariants.{RecoverRequest, ReadRequest, WriteRequest, TransferEndRequest, CancelRequest, RestartRequest}
use Rattle.vf_transfer.specs.Transfer as transfer
use Rattle.vf_filestore.specs.History.{Entry, Given, Nothing, Made, Refused, Showed, Placed, Resumed, History}
use Rattle.vf_filestore.specs.Keeping.{EachAfter, IsNoElement, IsSilentIn}
use Rattle.vf_filestore.specs.Transfers.{Movement, Reads, Writes, Transfer, happened, resumed, transferring, under_way, with_heard, with_said}

-- what holds of an element that comes after a history
abbrev pub IsHeard : (History → Element → Type 0) → History → Message → Type 0
IsHeard Heard earlier (messages.Element element) = Heard earlier element
IsHeard Heard earlier message = Unit {0}

-- of each entry, with what was said in a write
pub record IsWrittenEntry (Heard : History → Element → Type 0) (earlier : History) (entry : Entry) : Type 0 where
  pub heard : IsHeard Heard earlier entry.message
  pub silent : IfSome (transferring entry.message entry.given (under_way earlier)) (λ (transfer : Transfer). IsSilentIn transfer.movement entry.said)

pub record Goes (Heard : History → Element → Type 0) (Q : List transfer.Entry → Type 0) : Type 0 where
  pub none : Q []
  pub takes : (earlier : History) (element : Element) → Heard earlier element → Q (happened earlier) → Q (transfer.Value element ∷ happened earlier)
  pub checks : (entries : List transfer.Entry) → Q entries → Q (transfer.Check ∷ entries)
  pub acknowledges : (entries : List transfer.Entry) (check : ℕ) → Q entries → Q (transfer.Acknowledgement check ∷ entries)
  pub restarts : (entries : List transfer.Entry) (check : ℕ) → Q entries → Q (transfer.Restart check ∷ entries)

abbrev pub IsWrittenBy : (List transfer.Entry → Type 0) → List transfer.Entry → Movement → Type 0
IsWrittenBy Q entries (Reads fadu context) = Unit {0}
IsWrittenBy Q entries (Writes operation fadu) = Q entries

abbrev pub IsOfWrite : (List transfer.Entry → Type 0) → List transfer.Entry → Transfer → Type 0
IsOfWrite Q entries one = IsWrittenBy Q entries one.movement

module _ (Heard : History → Element → Type 0) (Q : List transfer.Entry → Type 0) (goes : Goes Heard Q) where
  written_as : (entries others : List transfer.Entry) (movement : Movement) → (Q entries → Q others) → IsWrittenBy Q entries movement → IsWrittenBy Q others movement
  written_as entries others (Reads fadu context) onward holds = tt
  written_as entries others (Writes operation fadu) onward holds = onward holds

  write_as : (entries others : List transfer.Entry) (one : Option Transfer) → (Q entries → Q others) → IfSome one (IsOfWrite Q entries) → IfSome one (IsOfWrite Q others)
  write_as entries others None onward holds = tt
  write_as entries others (Some one) onward holds = written_as entries others one.movement onward holds

  resumed_holds : (given : Given) (entries : List transfer.Entry) (before : Option Transfer) → IfSome before (IsOfWrite Q entries) → IfSome before (IsOfWrite Q (resumed given entries))
  resumed_holds (Resumed true check) entries before holds = write_as entries (transfer.Restart check ∷ entries) before (goes.restarts entries check) holds
  resumed_holds (Resumed false check) entries before holds = holds
  resumed_holds Nothing entries before holds = holds
  resumed_holds Made entries before holds = holds
  resumed_holds (Refused version number) entries before holds = holds
  resumed_holds (Showed version elements at) entries before holds = holds
  resumed_holds (Placed at) entries before holds = holds

  request_holds : (request : Pdu) (given : Given) (entries : List transfer.Entry) (before : Option Transfer) → IfSome before (IsOfWrite Q entries)
      → IfSome (transferring (messages.Pdu request) given before) (IsOfWrite Q (with_heard (messages.Pdu request) given entries))
  request_holds (ReadRequest fadu context) given entries before holds = tt
  request_holds (WriteRequest operation fadu) given entries before holds = goes.none
  request_holds TransferEndRequest given entries before holds = tt
  request_holds (CancelRequest diagnostic) given entries before holds = tt
  request_holds (RestartRequest check) given entries before holds = write_as entries (transfer.Restart check ∷ entries) before (goes.restarts entries check) holds
  request_holds (RecoverRequest activity number check) given entries before holds = resumed_holds given entries before holds
  request_holds request given entries before holds = holds

  message_holds : (earlier : History) (message : Message) (given : Given) → IsHeard Heard earlier message → IfSome (under_way earlier) (IsOfWrite Q (happened earlier))
      → IfSome (transferring message given (under_way earlier)) (IsOfWrite Q (with_heard message given (happened earlier)))
  message_holds earlier (messages.Pdu request) given heard holds = request_holds request given (happened earlier) (under_way earlier) holds
  message_holds earlier (messages.Element element) given heard holds =
      write_as (happened earlier) (transfer.Value element ∷ happened earlier) (under_way earlier) (goes.takes earlier element heard) holds
  message_holds earlier messages.Check given heard holds = write_as (happened earlier) (transfer.Check ∷ happened earlier) (under_way earlier) (goes.checks (happened earlier)) holds
  message_holds earlier (messages.Acknowledge check) given heard holds =
      write_as (happened earlier) (transfer.Acknowledgement check ∷ happened earlier) (under_way earlier) (goes.acknowledges (happened earlier) check) holds
  message_holds earlier (messages.Restart check) given heard holds = write_as (happened earlier) (transfer.Restart check ∷ happened earlier) (under_way earlier) (goes.restarts (happened earlier) check) holds
  message_holds earlier messages.Break given heard holds = holds

  silent_holds : (said : List Said) (entries : List transfer.Entry) → AllByRecursion IsNoElement said → Q entries → Q (with_said said entries)
  silent_holds [] entries silent holds = holds
  silent_holds (answers.Element element ∷ later) entries silent holds = absurd silent.0
  silent_holds (answers.Check check ∷ later) entries silent holds = silent_holds later (transfer.Check ∷ entries) silent.1 (goes.checks entries holds)
  silent_holds (answers.Acknowledge check ∷ later) entries silent holds = silent_holds later (transfer.Acknowledgement check ∷ entries) silent.1 (goes.acknowledges entries check holds)
  silent_holds (answers.Pdu pdu ∷ later) entries silent holds = silent_holds later entries silent.1 holds
  silent_holds (answers.Abort number place ∷ later) entries silent holds = silent_holds later entries silent.1 holds

  -- what is said after it adds no value
  said_holds : (said : List Said) (entries : List transfer.Entry) (one : Option Transfer) → IfSome one (λ (transfer : Transfer). IsSilentIn transfer.movement said) → IfSome one (IsOfWrite Q entries)
      → IfSome one (IsOfWrite Q (with_said said entries))
  said_holds said entries None silent holds = tt
  said_holds said entries (Some one) silent holds = by one.movement silent holds
    where
      by : (movement : Movement) → IsSilentIn movement said → IsWrittenBy Q entries movement → IsWrittenBy Q (with_said said entries) movement
      by (Reads fadu context) silent holds = tt
      by (Writes operation fadu) silent holds = silent_holds said entries silent holds

  pub all_written : (history : History) → EachAfter (IsWrittenEntry Heard) history → IfSome (under_way history) (IsOfWrite Q (happened history))
  all_written [] each = tt
  all_written (entry ∷ earlier) each =
      said_holds entry.said (with_heard entry.message entry.given (happened earlier)) (transferring entry.message entry.given (under_way earlier)) each.0.silent
      (message_holds earlier entry.message entry.given each.0.heard (all_written earlier each.1))
