-- The values of a put as they are sent (ISO 8571-3, F-DATA and F-CHECK; the places of checks are profile): behind every so
-- many values a check, where more follow and checks may be sent; nothing more once as many checks are open as the window
-- has, until one of them is acknowledged; after the last value the end of the data and of the transfer.
use Rattle.std.specs.Prelude.{◌≡◌, ℕ, ◌+◌, ◌%◌, Bool, true, false, ◌&&◌, nat_eq, nat_le, nat_lt, List, [], ◌∷◌, ◌++◌, None, if◌then◌else◌}
use Rattle.vf_base.specs.declared.element.Element.{Element}
use Rattle.vf_initiator.specs.Asking.{item, value}
use Rattle.vf_initiator.specs.declared.sending.Outbox.{Outbox}
use Rattle.vf_initiator.specs.declared.sending.Pace.{Pace}
use Rattle.vf_initiator.specs.declared.stage.Sent.{Sent}
use Rattle.vf_pdu.specs.declared.pdu.Pdu.TheVariants.{DataEnd, TransferEndRequest}
use Rattle.vf_stack.specs.declared.request.Request.{Request}
use Rattle.vf_stack.specs.declared.request.Request.TheVariants.{Check}
use Rattle.vf_tables.specs.declared.limits.TheConstants.{MOST_POINT}

-- requests, and what is then sent
pub record Saying : Type 0 where
  pub said : List Request
  pub sent : Sent

abbrev pub before : List Request → Saying → Saying
before said later = record { said = said ++ later.said; sent = later.sent }

-- one value more, one check more
abbrev pub with_value : Sent → Sent
with_value sent = record sent { values = sent.values + 1 }

abbrev pub with_check : Sent → Sent
with_check sent = record sent { offered = sent.offered + 1 }

-- Serial numbers have six digits (ISO 8327), and checkpoints are numbered up to 1,000,000 (profile).
abbrev pub is_check_due : Pace → Sent → (serial : ℕ) → Bool
is_check_due pace sent serial =
    pace.checks && nat_le serial 999999 && nat_lt sent.offered MOST_POINT && nat_lt 0 pace.every && nat_eq (sent.values % pace.every) 0

abbrev pub is_full : Pace → Sent → Bool
is_full pace sent = nat_le (pace.point + pace.window) sent.offered

abbrev pub end_said : List Request
end_said = item (DataEnd None) ∷ item TransferEndRequest ∷ []

abbrev pub all_sent : Sent → Saying
all_sent sent = record { said = end_said; sent = record sent { is_ended = true } }

-- after a check: nothing where the window is full
abbrev pub unless_full : Pace → Sent → Saying → Saying
unless_full pace sent later = if is_full pace sent then record { said = []; sent = sent } else later

-- more follow
abbrev pub is_more : List Element → Bool
is_more [] = false
is_more (element ∷ rest) = true

-- the values that are left, where the next check has this serial number
abbrev pub values : Pace → (serial : ℕ) → Sent → List Element → Saying
values pace serial sent [] = all_sent sent
values pace serial sent (element ∷ rest) =
    let now = with_value sent in
    if is_more rest && is_check_due pace now serial
    then before (value element ∷ Check serial ∷ []) (unless_full pace (with_check now) (values pace (serial + 1) (with_check now) rest))
    else before (value element ∷ []) (values pace serial now rest)

-- what is left after a value, and a check behind it if one was due: nothing where the window is full then
abbrev pub left_of : Pace → Outbox → List Element → (goes_on : Bool) → Saying
left_of pace outbox later true = values pace outbox.serial outbox.sent later
left_of pace outbox later false = record { said = []; sent = outbox.sent }

-- Some of what is said was appended, and this is left.
abbrev pub Onward : List Request → Saying → List Request → Saying → Type 0
Onward out whole out' left = (out ++ whole.said ≡ out' ++ left.said) × (left.sent ≡ whole.sent)

-- These requests were appended, and so much is sent.
abbrev pub IsSaid : Saying → List Request → List Request → Sent → Type 0
IsSaid saying out out' sent = (out' ≡ out ++ saying.said) × (sent ≡ saying.sent)
