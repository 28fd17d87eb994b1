-- Which traces one end may have: each unit was sent or received where the trace before it allows that. It speaks of lists
-- alone, and of no session.
use Rattle.std.specs.Prelude.{◌≡◌, ℕ, zero, suc, ◌+◌, ◌-◌, ◌≤◌, Bool, false, IsTrue, List, [], ◌∷◌, ◌++◌, Option, None, Ok, unwrap_or}
use Rattle.vf_session.specs.declared.meaning.SpduMeaning.TheVariants.{Tells}
use Rattle.vf_session.specs.declared.resync.PendingResync.{PendingResync}
use Rattle.vf_session_spdu.specs.declared.limits.TheConstants.{LAST_SERIAL}
use Rattle.vf_session_spdu.specs.declared.spdu.Spdu.{Spdu}
use Rattle.vf_session.specs.declared.units.SessionSay.{SessionSay}
use Rattle.vf_session.specs.declared.units.TokenSide.{TokenSide}
use Rattle.vf_session_spdu.specs.Fields.{IsReadable}
use Rattle.vf_session_spdu.specs.Reading.{reading}
use Rattle.vf_session.specs.Receiving.{receives}
use Rattle.vf_session.specs.Sending.{may}
use Rattle.vf_session.specs.Trace.{Trace, state, first, next, oldest, resync, resync_by, since, acknowledgements, unacknowledged, acknowledged_by, with_received, with_sent}

-- Of the end on this side; whether it proposes sync is `offer`. What is received has the numbers of an SPDU that is read.
pub data IsAllowed (own : TokenSide) (offer : Bool) : Trace → Type 0 where
  nothing : IsAllowed own offer []
  sent : (trace : Trace) (unit : SessionSay) → IsAllowed own offer trace
      → IsTrue (may own offer (state own trace) unit) → IsAllowed own offer (with_sent own unit trace)
  received : (trace : Trace) (spdu : Spdu) (unit : SessionSay) → IsAllowed own offer trace → IsReadable spdu
      → receives own (state own trace) spdu ≡ Tells unit → IsAllowed own offer (with_received own unit trace)

-- an SPDU that a TSDU is read as, alone or among others
abbrev pub IsRead : Spdu → Type 0
IsRead spdu = (tsdu : List ℕ) × (prefix rest : List Spdu) × (reading tsdu ≡ Ok (prefix ++ spdu ∷ rest))

-- so many numbers from one on, the highest first
abbrev pub numbers_up : ℕ → ℕ → List ℕ
numbers_up from zero = []
numbers_up from (suc count) = (from + count) ∷ numbers_up from count

-- the RS that is the newest entry
abbrev pub newest_resync : Trace → Option PendingResync
newest_resync [] = None
newest_resync (entry ∷ earlier) = unwrap_or (resync_by entry.from entry.told) None

-- What holds of each trace that is allowed: its numbers are in their ranges, so that a session can stand for it; an RS
-- without its RA is the newest entry; the checks without an acknowledgement are those from the oldest up to the next, of
-- which none is acknowledged ahead.
pub record IsOrdered (own : TokenSide) (trace : Trace) : Type 0 where
  pub first_is : first trace ≤ LAST_SERIAL
  pub next_is : next trace ≤ LAST_SERIAL + 1
  pub in_order : oldest trace ≤ next trace
  pub newest_is : newest_resync trace ≡ resync trace
  pub open_checks : unacknowledged trace ≡ numbers_up (oldest trace) (next trace - oldest trace)
  pub none_ahead : acknowledged_by (acknowledgements (since trace)) (next trace) ≡ false
