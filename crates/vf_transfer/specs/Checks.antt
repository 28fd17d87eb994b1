-- What the two ends of a transfer keep, and which transfers that represents.
use Rattle.std.specs.Prelude.{◌≡◌, ℕ, zero, suc, ◌+◌, ◌-◌, Bool, ◌||◌, nat_lt, nat_le, min, List, take, length, if◌then◌else◌}
use Rattle.std.specs.List.{slice_index}
use Rattle.vf_base.specs.declared.element.Element.{Element}
use Rattle.vf_transfer.specs.Transfer.{Entry, NamesKnownChecks, survivors, marks, point}

-- The checks from a point on: how many may be open at once, for each one how many values stand before it, and the
-- last that is acknowledged.
pub record Checkpoints : Type 0 where
  pub start : ℕ
  pub window : ℕ
  pub marks : List ℕ
  pub acknowledged : ℕ

-- the number of the last check
abbrev pub offered : Checkpoints → ℕ
offered checks = checks.start + length checks.marks

-- as many checks as the window aren't acknowledged
abbrev pub is_full : Checkpoints → Bool
is_full checks = nat_le checks.window (offered checks - checks.acknowledged)

-- no check of this number stands, and they don't count on from it
abbrev pub is_unknown : ℕ → Checkpoints → Bool
is_unknown check checks = nat_lt check checks.start || nat_lt (offered checks) check

-- how many values stand before the check that so many others precede, the last one counted; none before the point
abbrev pub mark : ℕ → List ℕ → ℕ
mark zero marks = 0
mark (suc number) marks = slice_index marks number

abbrev pub before_check : ℕ → Checkpoints → ℕ
before_check check checks = mark (check - checks.start) checks.marks

-- the checks after a restart
abbrev pub cut_to : ℕ → Checkpoints → Checkpoints
cut_to check checks =
    record checks { marks = take (check - checks.start) checks.marks; acknowledged = min check checks.acknowledged }

-- what they count on from, and how many may be open, stay
abbrev pub KeepLimits : Checkpoints → Checkpoints → Type 0
KeepLimits old new = (new.start ≡ old.start) × (new.window ≡ old.window)

pub record RepresentChecks (checks : Checkpoints) (entries : List Entry) : Type 0 where
  pub marked : checks.marks ≡ marks checks.start entries
  pub acknowledged : checks.acknowledged ≡ point checks.start entries
  pub known : NamesKnownChecks checks.start entries

-- an end that receives: its checks, and the values that stand
pub record Receiver : Type 0 where
  pub checks : Checkpoints
  pub values : List Element

pub record RepresentsReceived (receiver : Receiver) (entries : List Entry) : Type 0 where
  pub checks : RepresentChecks receiver.checks entries
  pub values : receiver.values ≡ survivors receiver.checks.start entries

-- an end that sends: its checks, all values after the point, and how many of them stand as sent
pub record Sender : Type 0 where
  pub checks : Checkpoints
  pub elements : List Element
  pub sent : ℕ

-- one value more is sent, where there is one
abbrev pub advanced : Sender → Sender
advanced sender = if nat_lt sender.sent (length sender.elements) then record sender { sent = sender.sent + 1 } else sender

pub record RepresentsSent (sender : Sender) (entries : List Entry) : Type 0 where
  pub checks : RepresentChecks sender.checks entries
  pub values : take sender.sent sender.elements ≡ survivors sender.checks.start entries
