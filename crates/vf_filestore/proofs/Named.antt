-- Acknowledgements and restarts stay of checks that stood, with each message that is granted and with what is said.
use Rattle.std.proofs.Common.{◌≡◌, ℕ, ◌+◌, Bool, true, false, cond, List, [], ◌∷◌, ◌++◌, Option, None, Some, sym, subst, arith, length-append}
use Rattle.std.specs.Prelude.{nat_le, drop}
use Rattle.std.specs.List.{AllByRecursion}
use Rattle.std.proofs.lemmas.Bool.{and_parts, leb-true}
use Rattle.vf_base.specs.declared.access.Context.{Context}
use Rattle.vf_base.specs.declared.access.FaduId.{FaduId}
use Rattle.vf_base.specs.declared.diagnostic.Diagnostic.{Diagnostic}
use Rattle.vf_base.specs.declared.element.Element.{Element}
use Rattle.vf_elements.specs.declared.message.Message.{Message}
use Rattle.vf_elements.specs.declared.message.Message.TheVariants as messages
use Rattle.vf_elements.specs.declared.message.Said.{Said}
use Rattle.vf_elements.specs.declared.message.Said.TheVariants as answers
use Rattle.vf_filestore.specs.Diagnostics.{numbers_spent, plain}
use Rattle.vf_pdu.specs.declared.pdu.Pdu.{Pdu}
use Rattle.vf_pdu.specs.declared.pdu.Pdu.TheVariants.{RecoverRequest, ReadRequest, WriteRequest, RestartRequest}
use Rattle.vf_pdu_fields.specs.declared.operation.WriteOperation.{WriteOperation}
use Rattle.vf_transfer.specs.Transfer as transfer
use Rattle.vf_transfer.specs.Transfer.{IsKnown, NamesKnownChecks, standing}
use Rattle.vf_filestore.specs.Aborts.{Setting, is_known, passes_serials}
use Rattle.vf_filestore.specs.Due.{Progress, due, due_after, due_in, due_of, due_unless_full, goes_on, is_check_due, is_full, offer, offered, with_check, with_element, check_window, progress_of}
use Rattle.vf_filestore.specs.History.{Given, Nothing, Made, Refused, Showed, Placed, Resumed, History, association}
use Rattle.vf_filestore.specs.Replies.{replies}
use Rattle.vf_filestore.specs.State.{State, StandingParty}
use Rattle.vf_filestore.specs.Transfers.{Movement, Reads, Writes, Transfer, happened, last_check, start, was_shown, with_heard, with_said, resumed}

-- ---- what is said of its own

abbrev pub IsPlain : Said → Type 0
IsPlain (answers.Acknowledge point) = ⊥
IsPlain _ = Unit {0}

abbrev pub ArePlain : List Said → Type 0
ArePlain said = AllByRecursion IsPlain said

plain_append : (first later : List Said) → ArePlain first → ArePlain later → ArePlain (first ++ later)
plain_append [] later a b = b
plain_append (one ∷ first) later a b = (a.0, plain_append first later a.1 b)

offer_plain : (progress : Progress) → ArePlain (offer progress)
offer_plain progress = by (passes_serials progress.serial)
  where
    by : (b : Bool) → ArePlain (cond b (answers.Abort numbers_spent 0 ∷ []) (answers.Check (progress.check + 1) ∷ []))
    by true = (tt, tt)
    by false = (tt, tt)

offered_plain : (is_due : Bool) (progress : Progress) → ArePlain (offered is_due progress)
offered_plain true progress = offer_plain progress
offered_plain false progress = tt

goes_on_plain : (is_due : Bool) (window : Option ℕ) (progress : Progress) (later : List Said) → ArePlain later → ArePlain (goes_on is_due window progress later)
goes_on_plain false window progress later plain = plain
goes_on_plain true window progress later plain = by (passes_serials progress.serial) (is_full window (with_check progress))
  where
    by : (spent full : Bool) → ArePlain (cond spent [] (cond full [] later))
    by true full = tt
    by false true = tt
    by false false = plain

due_plain : (window : Option ℕ) (diagnostic : Option Diagnostic) (elements : List Element) (progress : Progress) → ArePlain (due window diagnostic progress elements)
due_plain window diagnostic [] progress = (tt, tt)
due_plain window diagnostic (element ∷ later) progress =
    let now = with_element progress in
    let is_due = is_check_due window now.elements later in
    let next : Progress = cond is_due (with_check now) now in (
      tt,
      plain_append (offered is_due now) (goes_on is_due window now (due window diagnostic next later)) (offered_plain is_due now)
          (goes_on_plain is_due window now (due window diagnostic next later) (due_plain window diagnostic later next)),
    )

unless_full_plain : (window : Option ℕ) (diagnostic : Option Diagnostic) (progress : Progress) (elements : List Element) → ArePlain (due_unless_full window diagnostic progress elements)
unless_full_plain window diagnostic progress elements = by (is_full window progress)
  where
    by : (b : Bool) → ArePlain (cond b [] (due window diagnostic progress (drop progress.elements elements)))
    by true = tt
    by false = due_plain window diagnostic (drop progress.elements elements) progress

due_of_plain : (given : Given) (window : Option ℕ) (progress : Progress) → ArePlain (due_of given window progress)
due_of_plain (Showed version elements position) window progress = unless_full_plain window None progress elements
due_of_plain (Refused version number) window progress = unless_full_plain window (Some (plain number)) progress []
due_of_plain Nothing window progress = tt
due_of_plain Made window progress = tt
due_of_plain (Placed position) window progress = tt
due_of_plain (Resumed goes_on point) window progress = tt

due_in_plain : (history : History) (serial : ℕ) (movement : Movement) (given : Given) → ArePlain (due_in history serial movement given)
due_in_plain history serial (Writes operation fadu) given = tt
due_in_plain history serial (Reads fadu context) given = by (was_shown history)
  where
    by : (b : Bool) → ArePlain (cond b [] (due_of given (check_window (association history)) (progress_of history serial)))
    by true = tt
    by false = due_of_plain given (check_window (association history)) (progress_of history serial)

pub due_after_plain : (history : History) (serial : ℕ) (one : Option Transfer) → ArePlain (due_after history serial one)
due_after_plain history serial None = tt
due_after_plain history serial (Some transfer) = due_in_plain history serial transfer.movement transfer.given

-- ---- names with what is said

named_plain : (said : List Said) (entries : List transfer.Entry) → ArePlain said → NamesKnownChecks 0 entries → NamesKnownChecks 0 (with_said said entries)
named_plain [] entries plain named = named
named_plain (answers.Element element ∷ later) entries plain named = named_plain later (transfer.Value element ∷ entries) plain.1 named
named_plain (answers.Check point ∷ later) entries plain named = named_plain later (transfer.Check ∷ entries) plain.1 named
named_plain (answers.Acknowledge point ∷ later) entries plain named = absurd plain.0
named_plain (answers.Pdu pdu ∷ later) entries plain named = named_plain later entries plain.1 named
named_plain (answers.Abort number place ∷ later) entries plain named = named_plain later entries plain.1 named

-- ---- names with a message

abbrev pub RecoversKnown : Given → History → Type 0
RecoversKnown (Resumed true point) history = IsKnown 0 (happened history) point
RecoversKnown _ history = Unit {0}

abbrev pub RequestAsksKnown : Pdu → Given → History → Type 0
RequestAsksKnown (RestartRequest point) given history = is_known history point ≡ true
RequestAsksKnown (RecoverRequest activity number point) given history = RecoversKnown given history
RequestAsksKnown _ given history = Unit {0}

-- a check that a message names is known
abbrev pub AsksKnown : Message → Given → History → Type 0
AsksKnown (messages.Pdu request) given history = RequestAsksKnown request given history
AsksKnown (messages.Acknowledge point) given history = is_known history point ≡ true
AsksKnown (messages.Restart point) given history = is_known history point ≡ true
AsksKnown _ given history = Unit {0}

known : (history : History) (check : ℕ) → is_known history check ≡ true → IsKnown 0 (happened history) check
known history check is =
    let parts = and_parts (nat_le (start history) check) (nat_le check (last_check history)) is in
    (omega arith, leb-true check (last_check history) parts.1)

check_known : (entries : List transfer.Entry) → IsKnown 0 (transfer.Check ∷ entries) (transfer.last_check 0 entries + 1)
check_known entries = (omega arith, omega (arith, length-append (standing 0 entries).closed ((standing 0 entries).after ∷ [])))

recovered_named : (given : Given) (history : History) → RecoversKnown given history → NamesKnownChecks 0 (happened history)
    → NamesKnownChecks 0 (resumed given (happened history))
recovered_named (Resumed true point) history is named = (is, named)
recovered_named (Resumed false point) history is named = named
recovered_named Nothing history is named = named
recovered_named Made history is named = named
recovered_named (Refused version number) history is named = named
recovered_named (Showed version elements position) history is named = named
recovered_named (Placed position) history is named = named

pub named_request : (state : State) (party : StandingParty) (setting : Setting) (history : History) (request : Pdu) (given : Given) (later : List Said) → ArePlain later
    → RequestAsksKnown request given history → NamesKnownChecks 0 (happened history)
    → NamesKnownChecks 0 (with_said (replies state party setting given (messages.Pdu request) ++ later) (with_heard (messages.Pdu request) given (happened history)))
named_request state party setting history (RestartRequest point) given later plain asks named = named_plain later _ plain (known history point asks, named)
named_request state party setting history (RecoverRequest activity number point) given later plain asks named = named_plain later _ plain (recovered_named given history asks named)
named_request state party setting history (ReadRequest fadu context) given later plain asks named = named_plain later [] plain tt
named_request state party setting history (WriteRequest operation fadu) given later plain asks named = named_plain later [] plain tt
named_request state party setting history request given later plain asks named = named_plain later (happened history) plain named

pub named_message : (state : State) (party : StandingParty) (setting : Setting) (history : History) (message : Message) (given : Given) (later : List Said) → ArePlain later
    → last_check party.history ≡ last_check history → AsksKnown message given history → NamesKnownChecks 0 (happened history)
    → NamesKnownChecks 0 (with_said (replies state party setting given message ++ later) (with_heard message given (happened history)))
named_message state party setting history (messages.Pdu request) given later plain same asks named = named_request state party setting history request given later plain asks named
named_message state party setting history (messages.Element element) given later plain same asks named = named_plain later (transfer.Value element ∷ happened history) plain named
named_message state party setting history messages.Check given later plain same asks named =
    let at : IsKnown 0 (transfer.Check ∷ happened history) (last_check party.history + 1)
    = subst (λ last. IsKnown 0 (transfer.Check ∷ happened history) (last + 1)) (sym same) (check_known (happened history)) in
    named_plain later (transfer.Acknowledgement (last_check party.history + 1) ∷ transfer.Check ∷ happened history) plain (at, named)
named_message state party setting history (messages.Acknowledge point) given later plain same asks named =
    named_plain later (transfer.Acknowledgement point ∷ happened history) plain (known history point asks, named)
named_message state party setting history (messages.Restart point) given later plain same asks named =
    named_plain later (transfer.Restart point ∷ happened history) plain (known history point asks, named)
named_message state party setting history messages.Break given later plain same asks named = named_plain later (happened history) plain named

-- a transfer begins with nothing named
pub named_read : (state : State) (party : StandingParty) (setting : Setting) (fadu : FaduId) (context : Context) (given : Given) (earlier : List transfer.Entry) (later : List Said) → ArePlain later
    → NamesKnownChecks 0 (with_said (replies state party setting given (messages.Pdu (ReadRequest fadu context)) ++ later) (with_heard (messages.Pdu (ReadRequest fadu context)) given earlier))
named_read state party setting fadu context given earlier later plain = named_plain later [] plain tt

pub named_write : (state : State) (party : StandingParty) (setting : Setting) (operation : WriteOperation) (fadu : FaduId) (given : Given) (earlier : List transfer.Entry) (later : List Said) → ArePlain later
    → NamesKnownChecks 0 (with_said (replies state party setting given (messages.Pdu (WriteRequest operation fadu)) ++ later) (with_heard (messages.Pdu (WriteRequest operation fadu)) given earlier))
named_write state party setting operation fadu given earlier later plain = named_plain later [] plain tt
