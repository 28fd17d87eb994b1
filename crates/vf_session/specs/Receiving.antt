-- What an SPDU tells one end after a trace: nothing, a unit, or a fault. Of the faults a wrong state goes first, then
-- the token, then the serial number.
use Rattle.std.specs.Prelude.{ℕ, ◌%◌, ◌/◌, Bool, true, false, ◌&&◌, ◌||◌, nat_eq, nat_lt, nat_le, List, Option, None, Some, not, unwrap_or, if◌then◌else◌}
use Rattle.vf_base.specs.declared.spdu_kind.SpduKind.{SpduKind}
use Rattle.vf_base.specs.declared.spdu_kind.SpduKind.TheVariants.{CN, AC, RF, FN, DN, AB, AA, DT, GT, MIP, MIA, RS, RA}
use Rattle.vf_session.specs.declared.errors.SessionError.TheVariants.{State, Serial, Token as TokenFault}
use Rattle.vf_session.specs.declared.meaning.SpduMeaning.{SpduMeaning}
use Rattle.vf_session.specs.declared.meaning.SpduMeaning.TheVariants.{Nothing, Tells, Faulty}
use Rattle.vf_session.specs.declared.phase.Phase.{Phase}
use Rattle.vf_session.specs.declared.phase.Phase.TheVariants.{Idle, Asked, Open, Leaving, Left, Aborted, Over}
use Rattle.vf_session.specs.declared.resync.PendingResync.{PendingResync}
use Rattle.vf_session_spdu.specs.declared.spdu.Spdu.{Spdu}
use Rattle.vf_session_spdu.specs.declared.spdu.SpduFields.{SpduFields}
use Rattle.vf_session.specs.declared.state.SessionState.{SessionState}
use Rattle.vf_session.specs.declared.units.ResyncKind.{ResyncKind}
use Rattle.vf_session.specs.declared.units.ResyncKind.TheVariants.{Restart, Abandon}
use Rattle.vf_session.specs.declared.units.SessionSay.TheVariants as say
use Rattle.vf_session.specs.declared.units.TokenSide.{TokenSide}
use Rattle.vf_session.specs.declared.units.TokenSide.TheVariants.{Initiator, Responder}
use Rattle.vf_session_spdu.specs.Kinds.{code_of}
use Rattle.vf_session.specs.Trace.{other, is_side, is_from, wins}

-- the phases
abbrev pub is_idle : Phase → Bool
is_idle Idle = true
is_idle phase = false

abbrev pub is_asked : Phase → Bool
is_asked Asked = true
is_asked phase = false

abbrev pub is_open : Phase → Bool
is_open Open = true
is_open phase = false

abbrev pub is_leaving : Phase → Bool
is_leaving Leaving = true
is_leaving phase = false

abbrev pub is_left : Phase → Bool
is_left Left = true
is_left phase = false

abbrev pub is_aborted : Phase → Bool
is_aborted Aborted = true
is_aborted phase = false

abbrev pub is_over : Phase → Bool
is_over Aborted = true
is_over Over = true
is_over phase = false

-- an RA is owed to the other end
abbrev pub owes : TokenSide → SessionState → Bool
owes own s = is_from (other own) s.resync

-- data may be received: the connection is open, or this end asked for its release, and no RA is owed
abbrev pub receives_data : TokenSide → SessionState → Bool
receives_data own s = (is_open s.phase || is_leaving s.phase) && not (owes own s)

-- The SPDUs that may come, while no RS of this end's own waits.
abbrev pub may_come : TokenSide → SessionState → SpduKind → Bool
may_come own s CN = is_side own Responder && is_idle s.phase
may_come own s AC = is_side own Initiator && is_asked s.phase
may_come own s RF = is_side own Initiator && is_asked s.phase
may_come own s FN = is_open s.phase && not (owes own s)
may_come own s DN = is_leaving s.phase
may_come own s AB = not (is_over s.phase)
may_come own s AA = is_aborted s.phase
may_come own s DT = receives_data own s
may_come own s GT = receives_data own s
may_come own s MIP = receives_data own s && s.agreed
may_come own s MIA = receives_data own s && s.agreed
may_come own s RS = receives_data own s && s.agreed
may_come own s RA = false

-- both functional units of sync, minor synchronize (0008) and resynchronize (0020), are in the set
abbrev pub has_sync : Option ℕ → Bool
has_sync None = false
has_sync (Some units) = nat_eq (units / 8 % 2) 1 && nat_eq (units / 32 % 2) 1

-- 0 is restart and 1 abandon
abbrev pub kind_of : Option ℕ → ResyncKind
kind_of None = Restart
kind_of (Some n) = if nat_eq n 0 then Restart else Abandon

-- the side that a token setting item of the other end names
abbrev pub named : TokenSide → Option ℕ → Option TokenSide
named own None = None
named own (Some item) = Some (if nat_eq item 0 then other own else own)

abbrev pub number_of : SpduFields → ℕ
number_of fields = unwrap_or fields.serial 0

abbrev pub resync_of : TokenSide → SpduFields → PendingResync
resync_of own fields =
    record { from = other own; kind = kind_of fields.resync; serial = number_of fields; token = named own fields.tokens }

abbrev pub resync_told : PendingResync → List ℕ → SpduMeaning
resync_told r octets = Tells (say.Resync r.kind r.serial r.token octets)

-- The RA of a restart has its number; that of an abandon this or a greater one.
abbrev pub answers : ResyncKind → ℕ → ℕ → Bool
answers Restart asked number = nat_eq number asked
answers Abandon asked number = nat_le asked number

-- While an RS of this end's own waits all but RS, RA and AB is discarded. An RS of the other end counts only where it
-- wins, and then whatever its number is.
abbrev pub crossing_received : PendingResync → PendingResync → List ℕ → SpduMeaning
crossing_received own theirs octets = if wins theirs own then resync_told theirs octets else Nothing

abbrev pub answer_received : PendingResync → ℕ → Option TokenSide → List ℕ → SpduMeaning
answer_received r number token octets =
    if answers r.kind r.serial number then Tells (say.Resynced number token octets) else Faulty (Serial r.serial number)

abbrev pub waiting_receives : TokenSide → PendingResync → SpduFields → List ℕ → SpduKind → SpduMeaning
waiting_receives own r fields octets RS = crossing_received r (resync_of own fields) octets
waiting_receives own r fields octets RA = answer_received r (number_of fields) (named own fields.tokens) octets
waiting_receives own r fields octets AB = Tells (say.Abort octets)
waiting_receives own r fields octets kind = Nothing

-- A GT that passes a token, from the end that has it.
abbrev pub token_received : TokenSide → SessionState → Option ℕ → SpduMeaning
token_received own s None = Nothing
token_received own s (Some item) = if is_side s.token own then Faulty TokenFault else Tells (say.Token own)

abbrev pub check_received : TokenSide → SessionState → ℕ → SpduMeaning
check_received own s number =
    if is_side s.token own then Faulty TokenFault
    else (if nat_eq number s.next then Tells (say.Check number) else Faulty (Serial s.next number))

abbrev pub acknowledgement_received : SessionState → ℕ → SpduMeaning
acknowledgement_received s number =
    if nat_le s.oldest number && nat_lt number s.next then Tells (say.Acknowledge number) else Faulty (Serial s.oldest number)

-- A restart has a number up to that of the next check; an abandon may have any.
abbrev pub resync_received_by : SessionState → PendingResync → List ℕ → ResyncKind → SpduMeaning
resync_received_by s r octets Restart = if nat_le r.serial s.next then resync_told r octets else Faulty (Serial s.next r.serial)
resync_received_by s r octets Abandon = resync_told r octets

abbrev pub resync_received : SessionState → PendingResync → List ℕ → SpduMeaning
resync_received s r octets = resync_received_by s r octets r.kind

-- What an SPDU that may come tells. The units are agreed where CN and AC both have them; the number of an AC that has
-- none is that of the CN.
abbrev pub allowed_receives : TokenSide → SessionState → SpduFields → List ℕ → SpduKind → SpduMeaning
allowed_receives own s fields octets CN = Tells (say.Connect (has_sync fields.units) (unwrap_or fields.first 1) octets)
allowed_receives own s fields octets AC = Tells (say.Accept (has_sync fields.units && s.proposed) (unwrap_or fields.first s.first) octets)
allowed_receives own s fields octets RF = Tells (say.Refuse octets)
allowed_receives own s fields octets FN = Tells (say.Finish octets)
allowed_receives own s fields octets DN = Tells (say.Finished octets)
allowed_receives own s fields octets AB = Tells (say.Abort octets)
allowed_receives own s fields octets AA = Nothing
allowed_receives own s fields octets DT = Tells (say.Data false octets)
allowed_receives own s fields octets GT = token_received own s fields.given
allowed_receives own s fields octets MIP = check_received own s (number_of fields)
allowed_receives own s fields octets MIA = acknowledgement_received s (number_of fields)
allowed_receives own s fields octets RS = resync_received s (resync_of own fields) octets
allowed_receives own s fields octets RA = Faulty (State (code_of RA))

abbrev pub unwaiting_receives : TokenSide → SessionState → SpduFields → List ℕ → SpduKind → SpduMeaning
unwaiting_receives own s fields octets kind =
    if may_come own s kind then allowed_receives own s fields octets kind else Faulty (State (code_of kind))

-- by the RS that has no RA, this end's own or the other's
abbrev pub receives_by : TokenSide → SessionState → SpduFields → List ℕ → SpduKind → Option PendingResync → SpduMeaning
receives_by own s fields octets kind None = unwaiting_receives own s fields octets kind
receives_by own s fields octets kind (Some r) =
    if is_side own r.from then waiting_receives own r fields octets kind else unwaiting_receives own s fields octets kind

-- what an SPDU tells the end on this side
abbrev pub receives : TokenSide → SessionState → Spdu → SpduMeaning
receives own s spdu = receives_by own s spdu.fields spdu.octets spdu.kind s.resync
