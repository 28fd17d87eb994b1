-- What aborts a message that its stage takes, before anything else is asked (profile): an abort has no diagnostic, and
-- ends the association.
use Rattle.std.specs.Prelude.{ℕ, ◌+◌, ◌-◌, Bool, not, ◌&&◌, ◌||◌, List, [], ◌∷◌, length, Option, None, Some, if◌then◌else◌, nat_lt, nat_le}
use Rattle.std.specs.Option.{option_or}
use Rattle.vf_base.specs.declared.element.Element.{Element}
use Rattle.vf_elements.specs.declared.message.Message.{Message}
use Rattle.vf_elements.specs.declared.message.Message.TheVariants as messages
use Rattle.vf_pdu.specs.declared.pdu.Pdu.{Pdu}
use Rattle.vf_pdu.specs.declared.pdu.Pdu.TheVariants.{BeginGroupRequest, ReadRequest, WriteRequest, CancelRequest, RestartRequest}
use Rattle.vf_tables.specs.Validity.{includes}
use Rattle.vf_tree.specs.FileTree.{octets_of, octets_of_unit}
use Rattle.vf_filestore.specs.Diagnostics.{wrong_state, too_long, numbers_spent}
use Rattle.vf_filestore.specs.History.{History, done}
use Rattle.vf_filestore.specs.Limits.{most_serial, most_survivor_octets, most_survivors, most_transfers}
use Rattle.vf_filestore.specs.State.{StandingParty, units_of}
use Rattle.vf_filestore.specs.Transfers.{last_check, start, survivors}
use Rattle.vf_filestore.specs.Units.{grouping_unit, has_checks}

-- What is known of a message's moment beside the state: the time, the number that the next check has in the session,
-- and whether the session agreed to synchronize and this end has the token (ISO 8327).
pub record Setting : Type 0 where
  pub moment : ℕ
  pub serial : ℕ
  pub token : Bool
  pub sync : Bool

abbrev pub abort_where : Bool → ℕ → Option ℕ
abort_where applies number = if applies then Some number else None

abbrev pub first_abort : List (Option ℕ) → Option ℕ
first_abort [] = None
first_abort (abort ∷ aborts) = option_or abort (first_abort aborts)

-- a check that stands and isn't before the last recovery, or the point of that
abbrev pub is_known : History → (check : ℕ) → Bool
is_known history check = nat_le (start history) check && nat_le check (last_check history)

-- an open regime has had all its transfers
abbrev pub is_spent : History → Bool
is_spent history = nat_le most_transfers (done history)

-- this is no number of a session
abbrev pub passes_serials : (serial : ℕ) → Bool
passes_serials serial = nat_lt most_serial serial

-- The next check has this number in the session. A restart sets it back with the checks that it takes away.
abbrev pub serial_after_restart : History → (serial check : ℕ) → ℕ
serial_after_restart history serial check = (serial + check) - last_check history

-- with one more the values of a write that stand would pass their limits
abbrev pub passes_survivors : List Element → Element → Bool
passes_survivors values element =
    nat_lt most_survivor_octets (octets_of_unit values + octets_of element) || nat_le most_survivors (length values)

abbrev pub restart_aborts : StandingParty → Setting → (check : ℕ) → List (Option ℕ)
restart_aborts party setting check =
    abort_where (not (has_checks (units_of party))) wrong_state
    ∷ abort_where (not (is_known party.history check)) wrong_state
    ∷ abort_where (passes_serials (serial_after_restart party.history setting.serial check)) numbers_spent ∷ []

-- where checks are agreed, a read needs the token
abbrev pub read_aborts : StandingParty → Setting → List (Option ℕ)
read_aborts party setting =
    abort_where (has_checks (units_of party) && not setting.token) wrong_state
    ∷ abort_where (is_spent party.history) numbers_spent ∷ []

abbrev pub request_aborts : StandingParty → Setting → Pdu → List (Option ℕ)
request_aborts party setting (BeginGroupRequest threshold) = abort_where (not (includes (units_of party) grouping_unit)) wrong_state ∷ []
request_aborts party setting (ReadRequest fadu context) = read_aborts party setting
request_aborts party setting (WriteRequest operation fadu) = abort_where (is_spent party.history) numbers_spent ∷ []
request_aborts party setting (CancelRequest diagnostic) = abort_where (passes_serials setting.serial) numbers_spent ∷ []
request_aborts party setting (RestartRequest point) = restart_aborts party setting point
request_aborts party setting _ = []

abbrev pub aborts : StandingParty → Setting → Message → List (Option ℕ)
aborts party setting (messages.Pdu request) = request_aborts party setting request
aborts party setting (messages.Element element) = abort_where (passes_survivors (survivors party.history) element) too_long ∷ []
aborts party setting messages.Check = abort_where (not (has_checks (units_of party))) wrong_state ∷ []
aborts party setting (messages.Acknowledge point) = abort_where (not (is_known party.history point)) wrong_state ∷ []
aborts party setting (messages.Restart point) = restart_aborts party setting point
aborts party setting messages.Break = []
