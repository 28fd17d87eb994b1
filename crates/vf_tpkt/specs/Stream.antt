-- What a stream of RFC 1006 packets tells one end of a connection of transport class 0, by the list of the TPDUs that
-- it holds. What they tell, what answers them and what they leave are filters on that list.
use Rattle.std.specs.Prelude.{◌≡◌, ℕ, zero, suc, ◌≤◌, ◌<◌, Bool, true, ◌&&◌, ◌||◌, nat_eq, List, [], ◌∷◌, ◌++◌, length, drop, slice_index, Option, None, Some, Result, Ok, Err, is_ok, ◌⊎◌, if◌then◌else◌}
use Rattle.std.specs.List.{list_any, flat_map}
use Rattle.vf_tpkt.specs.declared.error.TpktError.{TpktError}
use Rattle.vf_tpkt.specs.declared.kind.Kind.{Kind}
use Rattle.vf_tpkt.specs.declared.kind.Kind.TheVariants.{Cr}
use Rattle.vf_tpkt.specs.declared.limits.TheConstants.{MOST_TPDU_OCTETS}
use Rattle.vf_tpkt.specs.declared.phase.Side.{Side}
use Rattle.vf_tpkt.specs.declared.phase.Phase.{Phase}
use Rattle.vf_tpkt.specs.declared.phase.Phase.TheVariants.{First, Open, Over}
use Rattle.vf_tpkt.specs.declared.unit.Unit.{Unit as Told}
use Rattle.vf_tpkt.specs.declared.unit.Unit.TheVariants as told
use Rattle.vf_tpkt.specs.Receiving.{Progress, Reading, Kept, checked, FirstPacket, first_packet, part, bad, whole, place_at, stopped}
use Rattle.vf_tpkt.specs.Tpdu.{packet, data_of, is_last, data_size, proposal, answer_of}

-- A packet has a TPDU of at least three octets, and at most 65,535 octets in all.
abbrev pub IsTpdu : List ℕ → Type 0
IsTpdu tpdu = (3 ≤ length tpdu) × (length tpdu ≤ MOST_TPDU_OCTETS)

abbrev pub code_of : List ℕ → ℕ
code_of tpdu = slice_index tpdu 1

abbrev pub is_cr : List ℕ → Bool
is_cr tpdu = nat_eq (code_of tpdu) 224

abbrev pub is_dt : List ℕ → Bool
is_dt tpdu = nat_eq (code_of tpdu) 240

-- a DR or an ER
abbrev pub is_end : List ℕ → Bool
is_end tpdu = nat_eq (code_of tpdu) 128 || nat_eq (code_of tpdu) 112

abbrev pub ends_tsdu : List ℕ → Bool
ends_tsdu tpdu = is_dt tpdu && is_last tpdu

-- The connection stands from the first TPDU on, a CR or a CC, up to a DR or ER. A CR agrees the size.
abbrev pub most_by : List ℕ → ℕ
most_by first = if is_cr first then data_size (proposal first) else data_size None

abbrev pub phase_of : List (List ℕ) → Phase
phase_of [] = First
phase_of (first ∷ others) = if list_any is_end others then Over else Open (most_by first)

-- the data of each DT that neither ends a TSDU nor has one after it that does
abbrev pub unended : List (List ℕ) → List ℕ
unended [] = []
unended (tpdu ∷ others) =
    if list_any ends_tsdu (tpdu ∷ others) then unended others
    else (if is_dt tpdu then data_of tpdu ++ unended others else unended others)

-- what these TPDUs make of a connection
abbrev pub connection_of : Side → List (List ℕ) → Progress
connection_of side tpdus =
    record { side = side; phase = phase_of tpdus; tsdu = unended tpdus; place = place_at (length (flat_map packet tpdus)) }

-- what a TPDU tells after others, and what answers it
abbrev pub unit_of : List (List ℕ) → List ℕ → List Told
unit_of before tpdu =
    if is_end tpdu then told.Ended ∷ []
    else (if is_dt tpdu then (if is_last tpdu then told.Data (unended before ++ data_of tpdu) ∷ [] else []) else told.Connected ∷ [])

abbrev pub units_told : List (List ℕ) → List (List ℕ) → List Told
units_told before [] = []
units_told before (tpdu ∷ others) = unit_of before tpdu ++ units_told (before ++ tpdu ∷ []) others

abbrev pub answer : List ℕ → List ℕ
answer tpdu = if is_cr tpdu then answer_of Cr tpdu else []

-- ---- the TPDUs of a stream

-- Those of the whole packets at its beginning, up to a packet with a wrong header. A packet has at least seven octets,
-- so that as many turns as there are octets reach the end.
abbrev pub listed : (List ℕ → List (List ℕ)) → FirstPacket → List (List ℕ)
listed others part = []
listed others (bad fault) = []
listed others (whole tpdu more) = tpdu ∷ others more

unfoldable pub tpdus_in : ℕ → List ℕ → List (List ℕ)
tpdus_in zero stream = []
tpdus_in (suc turns) stream = listed (tpdus_in turns) (first_packet 0 stream)

abbrev pub tpdus : List ℕ → List (List ℕ)
tpdus stream = tpdus_in (length stream) stream

-- Those that are without fault after the ones before them, up to the first that isn't.
abbrev pub right_after : Side → List (List ℕ) → List (List ℕ) → List (List ℕ)
right_after side before [] = []
right_after side before (tpdu ∷ others) =
    if is_ok (checked (connection_of side before) tpdu) then tpdu ∷ right_after side (before ++ tpdu ∷ []) others else []

-- the octets after the packets of these
abbrev pub rest_after : List (List ℕ) → List ℕ → List ℕ
rest_after tpdus stream = drop (length (flat_map packet tpdus)) stream

-- ---- what they tell

-- The fault after TPDUs without one: of the header that follows, or of the TPDU in the packet that follows.
abbrev pub error_of : Result Kind TpktError → Option TpktError
error_of (Ok kind) = None
error_of (Err fault) = Some fault

abbrev pub fault_of : Progress → FirstPacket → Option TpktError
fault_of p part = None
fault_of p (bad fault) = Some fault
fault_of p (whole tpdu more) = error_of (checked p tpdu)

abbrev pub kept_by : Progress → List ℕ → Option TpktError → Kept
kept_by p rest None = record { connection = p; packet = rest; fault = None }
kept_by p rest (Some fault) = stopped p fault

-- what is kept after TPDUs without fault, by the octets that follow them
abbrev pub kept_after : Side → List (List ℕ) → List ℕ → Kept
kept_after side right rest = let p = connection_of side right in kept_by p rest (fault_of p (first_packet p.place rest))

abbrev pub reading_by : Side → List ℕ → List (List ℕ) → Reading
reading_by side stream right =
    record { units = units_told [] right; answers = flat_map answer right; kept = kept_after side right (rest_after right stream) }

abbrev pub reading : Side → List ℕ → Reading
reading side stream = reading_by side stream (right_after side [] (tpdus stream))

-- An end has received a stream: what it keeps is what is kept of it.
abbrev pub HasReceived : Kept → Side → List ℕ → Type 0
HasReceived kept side stream = kept ≡ (reading side stream).kept

-- ---- the octets of a stream

-- each is without fault after those before it
abbrev pub AreRight : Side → List (List ℕ) → List (List ℕ) → Type 0
AreRight side before [] = Unit {0}
AreRight side before (tpdu ∷ others) =
    IsTpdu tpdu × (is_ok (checked (connection_of side before) tpdu) ≡ true) × AreRight side (before ++ tpdu ∷ []) others

-- The rest is the beginning of a packet whose header is right so far, or it begins with a fault: of the header, or of a
-- whole packet's TPDU.
abbrev pub IsFaulty : Progress → List ℕ → TpktError → Type 0
IsFaulty p rest fault =
    (first_packet p.place rest ≡ bad fault)
    ⊎ ((tpdu more : List ℕ) × IsTpdu tpdu × (rest ≡ packet tpdu ++ more) × (checked p tpdu ≡ Err fault))

abbrev pub Ends : Progress → List ℕ → Kept → Type 0
Ends p rest kept =
    ((first_packet p.place rest ≡ part) × (kept ≡ record { connection = p; packet = rest; fault = None }))
    ⊎ ((fault : TpktError) × IsFaulty p rest fault × (kept ≡ stopped p fault))

-- After the TPDUs before, the stream holds these, and then the rest.
pub record Holds (side : Side) (before : List (List ℕ)) (stream : List ℕ) (tpdus : List (List ℕ)) (rest : List ℕ) (r : Reading) : Type 0 where
  pub octets : stream ≡ flat_map packet tpdus ++ rest
  pub right : AreRight side before tpdus
  pub units : r.units ≡ units_told before tpdus
  pub answers : r.answers ≡ flat_map answer tpdus
  pub ends : Ends (connection_of side (before ++ tpdus)) rest r.kept

-- Each stream of octets is so, and its reading is that of these TPDUs.
abbrev pub HoldsTpdus : Side → List ℕ → Type 0
HoldsTpdus side stream =
    ((i : ℕ) → slice_index stream i < 256) →
    (tpdus : List (List ℕ)) × (rest : List ℕ) × Holds side [] stream tpdus rest (reading side stream)
