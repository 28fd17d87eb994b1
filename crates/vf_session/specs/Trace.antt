-- The trace of a session connection: what was received and sent on it, and what follows from that (ISO 8327, 5.4 and 7).
-- The newest entry stands first, so that each word below is a filter on a list. Discarded SPDUs and those that tell
-- nothing aren't in it.
use Rattle.std.specs.Prelude.{ℕ, ◌+◌, Bool, true, false, ◌&&◌, nat_le, min, List, [], ◌∷◌, length, filter, fold, Option, None, Some, is_some, unwrap_or, if◌then◌else◌}
use Rattle.std.specs.List.{list_any, filter_map}
use Rattle.vf_session.specs.declared.phase.Phase.{Phase}
use Rattle.vf_session.specs.declared.phase.Phase.TheVariants.{Idle, Asked, Open, Leaving, Left, Aborted, Over}
use Rattle.vf_session.specs.declared.resync.PendingResync.{PendingResync}
use Rattle.vf_session.specs.declared.state.SessionState.{SessionState}
use Rattle.vf_session.specs.declared.units.ResyncKind.{ResyncKind}
use Rattle.vf_session.specs.declared.units.ResyncKind.TheVariants.{Restart, Abandon}
use Rattle.vf_session.specs.declared.units.SessionSay.{SessionSay}
use Rattle.vf_session.specs.declared.units.SessionSay.TheVariants.{Connect, Accept, Refuse, Finish, Finished, Data, Check, Acknowledge, Resync as Resyncs, Resynced, Abort, Token}
use Rattle.vf_session.specs.declared.units.TokenSide.{TokenSide}
use Rattle.vf_session.specs.declared.units.TokenSide.TheVariants.{Initiator, Responder}

-- what was sent, and by which end
pub record Entry : Type 0 where
  pub from : TokenSide
  pub told : SessionSay

abbrev pub Trace : Type 0
Trace = List Entry

abbrev pub other : TokenSide → TokenSide
other Initiator = Responder
other Responder = Initiator

abbrev pub is_side : TokenSide → TokenSide → Bool
is_side Initiator Initiator = true
is_side Responder Responder = true
is_side a b = false

-- what the latest entry that decides it says
abbrev pub latest : {A : Type 0} → (Entry → Option A) → A → Trace → A
latest decides start [] = start
latest decides start (entry ∷ earlier) = unwrap_or (decides entry) (latest decides start earlier)

-- Where the connection stands, as one end sees it. An RS makes an FN void, since the end that sent the RS discards it.
abbrev pub phase_told : TokenSide → TokenSide → SessionSay → Option Phase
phase_told own from (Connect sync serial octets) = Some Asked
phase_told own from (Accept sync serial octets) = Some Open
phase_told own from (Refuse octets) = Some Over
phase_told own from (Finish octets) = Some (if is_side own from then Leaving else Left)
phase_told own from (Finished octets) = Some Over
phase_told own from (Resyncs kind serial token octets) = Some Open
phase_told own from (Abort octets) = Some (if is_side own from then Aborted else Over)
phase_told own from told = None

abbrev pub phase_by : TokenSide → Entry → Option Phase
phase_by own entry = phase_told own entry.from entry.told

abbrev pub phase : TokenSide → Trace → Phase
phase own trace = latest (phase_by own) Idle trace

-- Sync, minor synchronize and resynchronize, was proposed, and it was agreed.
abbrev pub proposes : SessionSay → Option Bool
proposes (Connect sync serial octets) = Some sync
proposes told = None

abbrev pub proposed : Trace → Bool
proposed trace = latest (λ entry. proposes entry.told) false trace

abbrev pub agrees : SessionSay → Option Bool
agrees (Accept sync serial octets) = Some sync
agrees told = None

abbrev pub agreed : Trace → Bool
agreed trace = latest (λ entry. agrees entry.told) false trace

-- The first serial number; 1 before any CN.
abbrev pub begins : SessionSay → Option ℕ
begins (Connect sync serial octets) = Some serial
begins (Accept sync serial octets) = Some serial
begins told = None

abbrev pub first : Trace → ℕ
first trace = latest (λ entry. begins entry.told) 1 trace

-- A serial number that checks are counted from: the first one, or that of an RA.
abbrev pub counts_from : SessionSay → Option ℕ
counts_from (Connect sync serial octets) = Some serial
counts_from (Accept sync serial octets) = Some serial
counts_from (Resynced serial token octets) = Some serial
counts_from told = None

abbrev pub origin : Trace → ℕ
origin trace = latest (λ entry. counts_from entry.told) 1 trace

-- what was received and sent since then
abbrev pub since : Trace → Trace
since [] = []
since (entry ∷ earlier) = if is_some (counts_from entry.told) then [] else entry ∷ since earlier

-- the numbers of checks, and of acknowledgements
abbrev pub check_of : SessionSay → Option ℕ
check_of (Check serial) = Some serial
check_of told = None

abbrev pub checks : Trace → List ℕ
checks trace = filter_map (λ entry. check_of entry.told) trace

abbrev pub acknowledgement_of : SessionSay → Option ℕ
acknowledgement_of (Acknowledge serial) = Some serial
acknowledgement_of told = None

abbrev pub acknowledgements : Trace → List ℕ
acknowledgements trace = filter_map (λ entry. acknowledgement_of entry.told) trace

-- The next serial number: that which checks are counted from, and one for each check since.
abbrev pub next : Trace → ℕ
next trace = origin trace + length (checks (since trace))

-- An acknowledgement of a check acknowledges those before it.
abbrev pub acknowledged_by : List ℕ → ℕ → Bool
acknowledged_by acknowledgements check = list_any (λ number. nat_le check number) acknowledgements

abbrev pub unacknowledged : Trace → List ℕ
unacknowledged trace =
    filter (λ check. if acknowledged_by (acknowledgements (since trace)) check then false else true) (checks (since trace))

-- The oldest unacknowledged check, or the next number where there is none.
abbrev pub oldest : Trace → ℕ
oldest trace = fold min (next trace) (unacknowledged trace)

-- The end that has the token: the one that the last GT with a token, RS or RA names.
abbrev pub names_token : TokenSide → SessionSay → Option TokenSide
names_token from (Data true octets) = Some (other from)
names_token from (Token to) = Some to
names_token from (Resyncs kind serial token octets) = token
names_token from (Resynced serial token octets) = token
names_token from told = None

abbrev pub token : Trace → TokenSide
token trace = latest (λ entry. names_token entry.from entry.told) Initiator trace

-- The RS that has no RA yet. A connection begins and ends without one.
abbrev pub resync_by : TokenSide → SessionSay → Option (Option PendingResync)
resync_by from (Resyncs kind serial token octets) = Some (Some (record { from = from; kind = kind; serial = serial; token = token }))
resync_by from (Resynced serial token octets) = Some None
resync_by from (Connect sync serial octets) = Some None
resync_by from (Accept sync serial octets) = Some None
resync_by from (Refuse octets) = Some None
resync_by from (Finished octets) = Some None
resync_by from (Abort octets) = Some None
resync_by from told = None

abbrev pub resync : Trace → Option PendingResync
resync trace = latest (λ entry. resync_by entry.from entry.told) None trace

-- Of two RS that cross, abandon wins over restart, and of equals that of the calling end (profile).
abbrev pub wins_by : ResyncKind → ResyncKind → TokenSide → Bool
wins_by Abandon Restart from = true
wins_by Restart Abandon from = false
wins_by a b from = is_side from Initiator

abbrev pub wins : PendingResync → PendingResync → Bool
wins a b = wins_by a.kind b.kind a.from

-- where the connection stands after a trace
abbrev pub state : TokenSide → Trace → SessionState
state own trace =
    record { phase = phase own trace; proposed = proposed trace; agreed = agreed trace; first = first trace; next = next trace; oldest = oldest trace; token = token trace; resync = resync trace }

-- A losing RS isn't in the trace: an RS of this end's own, which is the newest entry while it waits, goes out of it
-- when the RS of the other end that wins comes in.
abbrev pub is_resync : SessionSay → Bool
is_resync (Resyncs kind serial token octets) = true
is_resync told = false

abbrev pub settled : Trace → Trace
settled [] = []
settled (entry ∷ earlier) = if is_resync entry.told then earlier else entry ∷ earlier

-- this end sent an RS that waits for its RA; the other end is owed one
abbrev pub is_from : TokenSide → Option PendingResync → Bool
is_from side None = false
is_from side (Some resync) = is_side side resync.from

-- the trace with what the other end sent, or with what this end sent
abbrev pub with_received : TokenSide → SessionSay → Trace → Trace
with_received own told trace =
    record { from = other own; told = told } ∷ (if is_resync told && is_from own (resync trace) then settled trace else trace)

abbrev pub with_sent : TokenSide → SessionSay → Trace → Trace
with_sent own told trace = record { from = own; told = told } ∷ trace
