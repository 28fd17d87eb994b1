-- What a party that reads is due to be sent (ISO 8571-3, F-DATA, F-CHECK and F-DATA-END; the rule is profile): the
-- elements that its request was shown and that don't stand as said, each eighth one that isn't the last with a check
-- after it, and the end of the data. While as many checks as the window aren't acknowledged, nothing more is said.
use Rattle.std.specs.Prelude.{ℕ, ◌+◌, ◌*◌, ◌-◌, ◌%◌, ◌==◌, Bool, true, false, List, [], ◌∷◌, ◌++◌, drop, Option, None, Some, if◌then◌else◌, nat_le}
use Rattle.vf_base.specs.declared.diagnostic.Diagnostic.{Diagnostic}
use Rattle.vf_base.specs.declared.element.Element.{Element}
use Rattle.vf_elements.specs.declared.message.Message.{Message}
use Rattle.vf_elements.specs.declared.message.Message.TheVariants as messages
use Rattle.vf_elements.specs.declared.message.Said.{Said}
use Rattle.vf_elements.specs.declared.message.Said.TheVariants as answers
use Rattle.vf_pdu.specs.declared.pdu.Pdu.TheVariants.{DataEnd, RestartRequest}
use Rattle.vf_filestore.specs.Aborts.{passes_serials, serial_after_restart}
use Rattle.vf_filestore.specs.Diagnostics.{numbers_spent, plain}
use Rattle.vf_filestore.specs.History.{Association, Entry, Given, Refused, Showed, History, association}
use Rattle.vf_filestore.specs.Limits.{between_checks}
use Rattle.vf_filestore.specs.State.{units_in, window_in}
use Rattle.vf_filestore.specs.Transfers.{Movement, Reads, Writes, Transfer, last_check, point, under_way, was_shown}
use Rattle.vf_filestore.specs.Units.{has_checks}

-- How far a read has come: the elements that stand as said, which are those before the last check, that check, how many checks aren't acknowledged, and
-- the number of the next one in the session.
pub record Progress : Type 0 where
  pub elements : ℕ
  pub check : ℕ
  pub unacknowledged : ℕ
  pub serial : ℕ

-- how many checks may be open, where there are checks
abbrev pub is_full : Option ℕ → Progress → Bool
is_full None progress = false
is_full (Some window) progress = nat_le window progress.unacknowledged

abbrev pub with_element : Progress → Progress
with_element progress = record progress { elements = progress.elements + 1 }

abbrev pub with_check : Progress → Progress
with_check progress = record progress {
  check = progress.check + 1;
  unacknowledged = progress.unacknowledged + 1;
  serial = progress.serial + 1;
}

-- after these elements a check is due, where others follow
abbrev pub is_check_due : Option ℕ → (elements : ℕ) → List Element → Bool
is_check_due None elements later = false
is_check_due (Some window) elements [] = false
is_check_due (Some window) elements (element ∷ later) = elements % between_checks == 0

-- the check that is due, or the abort in its place
abbrev pub offer : Progress → List Said
offer progress =
    if passes_serials progress.serial then answers.Abort numbers_spent 0 ∷ [] else answers.Check (progress.check + 1) ∷ []

abbrev pub offered : Bool → Progress → List Said
offered is_due progress = if is_due then offer progress else []

-- nothing follows an abort, nor a check by which the window is full
abbrev pub goes_on : (is_due : Bool) → Option ℕ → Progress → List Said → List Said
goes_on false window progress later = later
goes_on true window progress later = if passes_serials progress.serial then [] else if is_full window (with_check progress) then [] else later

abbrev pub due : Option ℕ → Option Diagnostic → Progress → List Element → List Said
due window diagnostic progress [] = answers.Pdu (DataEnd diagnostic) ∷ []
due window diagnostic progress (element ∷ later) =
    let now = with_element progress in
    let is_due = is_check_due window now.elements later in
    answers.Element element
    ∷ (offered is_due now ++ goes_on is_due window now (due window diagnostic (if is_due then with_check now else now) later))

abbrev pub due_unless_full : Option ℕ → Option Diagnostic → Progress → List Element → List Said
due_unless_full window diagnostic progress elements =
    if is_full window progress then [] else due window diagnostic progress (drop progress.elements elements)

-- a read that is refused shows nothing, and its end has the diagnostic
abbrev pub due_of : Given → Option ℕ → Progress → List Said
due_of (Showed version elements position) window progress = due_unless_full window None progress elements
due_of (Refused version number) window progress = due_unless_full window (Some (plain number)) progress []
due_of _ window progress = []

abbrev pub progress_of : History → (serial : ℕ) → Progress
progress_of history serial = record {
  elements = between_checks * last_check history;
  check = last_check history;
  unacknowledged = last_check history - point history;
  serial = serial;
}

-- the window, where checks are agreed
abbrev pub check_window : Option Association → Option ℕ
check_window association = if has_checks (units_in association) then Some (window_in association) else None

abbrev pub due_in : History → (serial : ℕ) → Movement → Given → List Said
due_in history serial (Writes operation fadu) given = []
due_in history serial (Reads fadu context) given =
    if was_shown history then [] else due_of given (check_window (association history)) (progress_of history serial)

abbrev pub due_after : History → (serial : ℕ) → Option Transfer → List Said
due_after history serial None = []
due_after history serial (Some transfer) = due_in history serial transfer.movement transfer.given

-- a restart sets the numbers back
abbrev pub next_serial : History → (serial : ℕ) → Message → ℕ
next_serial earlier serial (messages.Pdu (RestartRequest check)) = serial_after_restart earlier serial check
next_serial earlier serial (messages.Restart check) = serial_after_restart earlier serial check
next_serial earlier serial _ = serial

-- The entry with what is due after its reply, which happens in the transfer after it.
abbrev pub with_due : History → (serial : ℕ) → Entry → Entry
with_due earlier serial entry =
    let history = entry ∷ earlier in
    record entry { said = entry.said ++ due_after history (next_serial earlier serial entry.message) (under_way history) }
