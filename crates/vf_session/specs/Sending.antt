-- What one end may say after a trace, and the SPDUs that it says it in.
use Rattle.std.specs.Prelude.{ℕ, Bool, true, false, ◌&&◌, nat_eq, nat_lt, nat_le, max, List, [], ◌∷◌, length, Option, None, Some, is_none, not, if◌then◌else◌}
use Rattle.std.specs.List.{list_all}
use Rattle.std.specs.Option.{option_map}
use Rattle.vf_base.specs.declared.spdu_kind.SpduKind.TheVariants.{CN, AC, RF, FN, DN, AB, DT, GT, MIP, MIA, RS, RA}
use Rattle.vf_session.specs.declared.parameters.SayParameters.{SayParameters}
use Rattle.vf_session.specs.declared.parameters.SayParameters.TheVariants as head
use Rattle.vf_session.specs.declared.resync.PendingResync.{PendingResync}
use Rattle.vf_session_spdu.specs.declared.spdu.Spdu.{Spdu}
use Rattle.vf_session_spdu.specs.declared.spdu.SpduFields.{SpduFields}
use Rattle.vf_session.specs.declared.state.SessionState.{SessionState}
use Rattle.vf_session.specs.declared.units.ResyncKind.{ResyncKind}
use Rattle.vf_session.specs.declared.units.ResyncKind.TheVariants.{Restart, Abandon}
use Rattle.vf_session.specs.declared.units.SessionSay.{SessionSay}
use Rattle.vf_session.specs.declared.units.SessionSay.TheVariants as say
use Rattle.vf_session.specs.declared.units.TokenSide.{TokenSide}
use Rattle.vf_session.specs.declared.units.TokenSide.TheVariants.{Initiator, Responder}
use Rattle.vf_session_spdu.specs.Fields.{no_fields}
use Rattle.vf_session.specs.Receiving.{is_idle, is_asked, is_open, is_left, is_over}
use Rattle.vf_session_spdu.specs.Numbers.{last_serial}
use Rattle.vf_session_spdu.specs.Spelling.{spelled_parameters}
use Rattle.vf_session_spdu.specs.declared.limits.TheConstants.{MOST_CONNECT_OCTETS, MOST_PARAMETER_OCTETS}
use Rattle.vf_session.specs.Trace.{other, is_side}
use Rattle.vf_session.specs.Units.{parameters, user_data}

-- ---- the SPDUs

abbrev pub gt : Bool → Spdu
gt true = record { kind = GT; fields = record no_fields { given = Some 4 }; octets = [] }
gt false = record { kind = GT; fields = no_fields; octets = [] }

-- the units that are proposed or agreed
abbrev pub units_fields : Bool → ℕ → SpduFields
units_fields true serial = record no_fields { units = Some 42; first = Some serial; tokens = Some 0 }
units_fields false serial = record no_fields { units = Some 2 }

abbrev pub serial_fields : ℕ → SpduFields
serial_fields serial = record no_fields { serial = Some serial }

abbrev pub reason_fields : ℕ → SpduFields
reason_fields reason = record no_fields { reason = Some reason }

abbrev pub abort_fields : ℕ → SpduFields
abort_fields abort = record no_fields { abort = Some abort }

abbrev pub resync_code : ResyncKind → ℕ
resync_code Restart = 0
resync_code Abandon = 1

-- the token setting item that names a side: 0 the sender's, 4 the other
abbrev pub token_item : TokenSide → TokenSide → ℕ
token_item own side = if is_side own side then 0 else 4

abbrev pub spdus : TokenSide → SessionSay → List Spdu
spdus own (say.Connect sync serial octets) = record { kind = CN; fields = units_fields sync serial; octets = octets } ∷ []
spdus own (say.Accept sync serial octets) = record { kind = AC; fields = units_fields sync serial; octets = octets } ∷ []
spdus own (say.Refuse octets) = record { kind = RF; fields = reason_fields (if nat_eq (length octets) 0 then 0 else 2); octets = octets } ∷ []
spdus own (say.Finish octets) = record { kind = FN; fields = no_fields; octets = octets } ∷ []
spdus own (say.Finished octets) = record { kind = DN; fields = no_fields; octets = octets } ∷ []
spdus own (say.Data pass octets) = gt pass ∷ record { kind = DT; fields = no_fields; octets = octets } ∷ []
spdus own (say.Check serial) = gt false ∷ record { kind = MIP; fields = serial_fields serial; octets = [] } ∷ []
spdus own (say.Acknowledge serial) = gt false ∷ record { kind = MIA; fields = serial_fields serial; octets = [] } ∷ []
spdus own (say.Resync kind serial token octets) =
    gt false ∷ record { kind = RS; fields = record no_fields { tokens = option_map (token_item own) token; resync = Some (resync_code kind); serial = Some serial }; octets = octets } ∷ []
spdus own (say.Resynced serial token octets) =
    gt false ∷ record { kind = RA; fields = record no_fields { tokens = option_map (token_item own) token; serial = Some serial }; octets = octets } ∷ []
spdus own (say.Abort octets) = record { kind = AB; fields = abort_fields (if nat_eq (length octets) 0 then 5 else 3); octets = octets } ∷ []
spdus own (say.Token to) = gt true ∷ []

-- ---- what may be sent

-- the parameters of each fit a length
abbrev pub has_room : Spdu → Bool
has_room spdu = nat_le (length (spelled_parameters spdu)) MOST_PARAMETER_OCTETS

abbrev pub fits : TokenSide → SessionSay → Bool
fits own sent = list_all has_room (spdus own sent)

-- no RS of either end is without its RA
abbrev pub is_free : SessionState → Bool
is_free s = is_open s.phase && is_none s.resync

abbrev pub is_named : TokenSide → Option TokenSide → Bool
is_named side None = false
is_named side (Some token) = is_side side token

-- A restart names the end that has the token, by this end's trace; an abandon names the initiator.
abbrev pub names_rightly : ResyncKind → SessionState → Option TokenSide → Bool
names_rightly Restart s token = is_named s.token token
names_rightly Abandon s token = is_named Initiator token

-- A restart goes back to a number up to that of the next check, an abandon tells this number.
abbrev pub numbers_rightly : ResyncKind → SessionState → ℕ → Bool
numbers_rightly Restart s serial = nat_le serial s.next
numbers_rightly Abandon s serial = nat_eq serial s.next

-- The RA has the number of a restart, or the greater of an abandon's number and of the next check's.
abbrev pub answer_number : ResyncKind → ℕ → ℕ → ℕ
answer_number Restart asked next = asked
answer_number Abandon asked next = max asked next

abbrev pub answers_rightly : TokenSide → SessionState → Option PendingResync → ℕ → Option TokenSide → Bool
answers_rightly own s None serial token = false
answers_rightly own s (Some r) serial token =
    is_side (other own) r.from && nat_eq serial (answer_number r.kind r.serial s.next) && names_rightly r.kind s token

abbrev pub is_written : ℕ → Bool
is_written serial = nat_le serial last_serial

-- Whether an end may send a unit, by its parameters and by how many octets of user data it has. Of the calling end,
-- whether it proposes sync is `offer`; its first serial number is 1 (profile).
abbrev pub allows : TokenSide → Bool → SessionState → SayParameters → ℕ → Bool
allows own offer s (head.Connect sync serial) count =
    is_side own Initiator && is_idle s.phase && (if sync then offer else not offer) && nat_eq serial 1 && nat_le count MOST_CONNECT_OCTETS
allows own offer s (head.Accept sync serial) count =
    is_side own Responder && is_asked s.phase && (if sync then s.proposed else true) && nat_eq serial s.first
allows own offer s head.Refuse count = is_side own Responder && is_asked s.phase
allows own offer s head.Finish count = is_free s
allows own offer s head.Finished count = is_left s.phase
allows own offer s (head.Data pass) count = is_free s && (if pass then s.agreed && is_side s.token own else true)
allows own offer s (head.Check serial) count = is_free s && s.agreed && is_side s.token own && nat_eq serial s.next && is_written serial
allows own offer s (head.Acknowledge serial) count = is_free s && s.agreed && nat_le s.oldest serial && nat_lt serial s.next
allows own offer s (head.Resync kind serial token) count =
    is_free s && s.agreed && numbers_rightly kind s serial && is_written serial && names_rightly kind s token
allows own offer s (head.Resynced serial token) count =
    is_open s.phase && is_written serial && answers_rightly own s s.resync serial token
allows own offer s head.Abort count = not (is_over s.phase)
allows own offer s (head.Token to) count = is_free s && s.agreed && is_side s.token own && is_side to (other own)

abbrev pub is_allowed : TokenSide → Bool → SessionState → SessionSay → Bool
is_allowed own offer s unit = allows own offer s (parameters unit) (length (user_data unit))

abbrev pub may : TokenSide → Bool → SessionState → SessionSay → Bool
may own offer s sent = is_allowed own offer s sent && fits own sent

-- Sync is agreed, and this end has the token.
abbrev pub holds_token : TokenSide → SessionState → Bool
holds_token own s = s.agreed && is_side s.token own
