-- What a stream of RFC 1006 packets tells one end of a connection of transport class 0. The stream is read
-- packet by packet: of the first packet follow its unit and its answer or its fault, and the octets after it
-- are read by what the connection then is.
use Rattle.std.specs.Prelude.{ℕ, zero, suc, ◌+◌, ◌-◌, ◌*◌, Bool, false, nat_eq, nat_lt, min, List, [], ◌∷◌, ◌++◌, length, take, drop, slice_index, Option, None, Some, Result, Ok, Err, if◌then◌else◌}
use Rattle.vf_base.specs.declared.limits.TheConstants.{MOST_VALUE_OCTETS}
use Rattle.vf_tpkt.specs.declared.error.TpktError.{TpktError}
use Rattle.vf_tpkt.specs.declared.error.TpktError.TheVariants as errors
use Rattle.vf_tpkt.specs.declared.kind.Kind.{Kind}
use Rattle.vf_tpkt.specs.declared.kind.Kind.TheVariants.{Cr, Cc, Dt}
use Rattle.vf_tpkt.specs.declared.phase.Side.{Side}
use Rattle.vf_tpkt.specs.declared.phase.Phase.{Phase}
use Rattle.vf_tpkt.specs.declared.phase.Phase.TheVariants.{First, Open, Over}
use Rattle.vf_tpkt.specs.declared.unit.Unit.{Unit as Told}
use Rattle.vf_tpkt.specs.declared.unit.Unit.TheVariants as told
use Rattle.vf_tpkt.specs.Tpdu.{kind_of, may_come, has_lengths, has_fixed, is_last, data_of, data_size, proposal, answer_of}

-- What the packets received so far make of a connection: which end it is, whether it stands, the data of the
-- TSDU that isn't ended, and the number of octets received, which stays at the last number of its type.
pub record Progress : Type 0 where
  pub side : Side
  pub phase : Phase
  pub tsdu : List ℕ
  pub place : ℕ

-- a place in the stream
abbrev pub place_at : ℕ → ℕ
place_at place = min place 18446744073709551615

-- A TSDU has at most as many octets as a value (profile).
abbrev pub passes_longest : Progress → Kind → List ℕ → Bool
passes_longest p Dt tpdu = nat_lt MOST_VALUE_OCTETS (length p.tsdu + length (data_of tpdu))
passes_longest p kind tpdu = false

-- A TPDU is of this kind, or has this fault. Of several faults an unlisted code goes first, then a kind that
-- may not come now, then a wrong length, a wrong fixed octet, and a TSDU that grows too long (profile). The
-- place is the TPDU's first octet, after the four of the packet's header.
abbrev pub checked_as : Progress → List ℕ → Option Kind → Result Kind TpktError
checked_as p tpdu None = Err (errors.Code (place_at (p.place + 4)) (slice_index tpdu 1))
checked_as p tpdu (Some kind) =
    if may_come p.side p.phase kind then
    (if has_lengths kind tpdu then
    (if has_fixed kind tpdu then
    (if passes_longest p kind tpdu then Err (errors.Size (place_at (p.place + 4))) else Ok kind)
    else Err (errors.Code (place_at (p.place + 4)) (slice_index tpdu 1)))
    else Err (errors.Length (place_at (p.place + 4))))
    else Err (errors.State (place_at (p.place + 4)) (slice_index tpdu 1))

abbrev pub checked : Progress → List ℕ → Result Kind TpktError
checked p tpdu = checked_as p tpdu (kind_of (slice_index tpdu 1))

-- what a TPDU without fault tells the user
abbrev pub units_of : Progress → Kind → List ℕ → List Told
units_of p Cr tpdu = told.Connected ∷ []
units_of p Cc tpdu = told.Connected ∷ []
units_of p Dt tpdu = if is_last tpdu then told.Data (p.tsdu ++ data_of tpdu) ∷ [] else []
units_of p kind tpdu = told.Ended ∷ []

-- what a TPDU without fault makes of the connection
abbrev pub phase_after : Phase → Kind → List ℕ → Phase
phase_after phase Cr tpdu = Open (data_size (proposal tpdu))
phase_after phase Cc tpdu = Open (data_size None)
phase_after phase Dt tpdu = phase
phase_after phase kind tpdu = Over

abbrev pub tsdu_after : List ℕ → Kind → List ℕ → List ℕ
tsdu_after tsdu Dt tpdu = if is_last tpdu then [] else tsdu ++ data_of tpdu
tsdu_after tsdu kind tpdu = tsdu

abbrev pub after : Progress → Kind → List ℕ → Progress
after p kind tpdu =
    record { side = p.side; phase = phase_after p.phase kind tpdu; tsdu = tsdu_after p.tsdu kind tpdu; place = place_at (p.place + (length tpdu + 4)) }

-- The beginning of a stream that has passed so many octets: not yet a whole packet, with a header that is right so
-- far; a wrong header (RFC 1006, 6), at the octet that decides it; or a packet's TPDU and the octets after it.
pub data FirstPacket : Type 0 where
  part : FirstPacket
  bad : TpktError → FirstPacket
  whole : List ℕ → List ℕ → FirstPacket

-- a length, which counts the four octets of the header, and the octets after it; below 7 it is wrong (profile)
abbrev pub packet_by_size : ℕ → ℕ → List ℕ → FirstPacket
packet_by_size place size more =
    if nat_lt size 7 then bad (errors.Length (place_at (place + 3)))
    else if nat_lt (length more) (size - 4) then part
    else whole (take (size - 4) more) (drop (size - 4) more)

abbrev pub packet_sized : ℕ → List ℕ → FirstPacket
packet_sized place [] = part
packet_sized place (high ∷ []) = part
packet_sized place (high ∷ low ∷ more) = packet_by_size place (high * 256 + low) more

abbrev pub packet_reserved : ℕ → List ℕ → FirstPacket
packet_reserved place [] = part
packet_reserved place (reserved ∷ more) =
    if nat_eq reserved 0 then packet_sized place more else bad (errors.Version (place_at (place + 1)))

abbrev pub first_packet : ℕ → List ℕ → FirstPacket
first_packet place [] = part
first_packet place (version ∷ more) =
    if nat_eq version 3 then packet_reserved place more else bad (errors.Version (place_at place))

-- What is kept of a stream: the connection, the beginning of a packet that isn't whole, and the fault that ended
-- the reading. After a fault neither that packet nor the data of a TSDU is kept.
pub record Kept : Type 0 where
  pub connection : Progress
  pub packet : List ℕ
  pub fault : Option TpktError

-- what a stream tells, the octets that answer it, and what is kept of it
pub record Reading : Type 0 where
  pub units : List Told
  pub answers : List ℕ
  pub kept : Kept

abbrev pub resting : Progress → List ℕ → Reading
resting p packet = record { units = []; answers = []; kept = record { connection = p; packet = packet; fault = None } }

abbrev pub stopped : Progress → TpktError → Kept
stopped p fault =
    record { connection = record { side = p.side; phase = p.phase; tsdu = []; place = p.place }; packet = []; fault = Some fault }

abbrev pub stopping : Progress → TpktError → Reading
stopping p fault = record { units = []; answers = []; kept = stopped p fault }

abbrev pub preceded : List Told → List ℕ → Reading → Reading
preceded units answers r = record { units = units ++ r.units; answers = answers ++ r.answers; kept = r.kept }

abbrev pub after_tpdu : (Progress → List ℕ → Reading) → Progress → List ℕ → List ℕ → Result Kind TpktError → Reading
after_tpdu others p tpdu more (Err fault) = stopping p fault
after_tpdu others p tpdu more (Ok kind) =
    preceded (units_of p kind tpdu) (answer_of kind tpdu) (others (after p kind tpdu) more)

abbrev pub after_first_packet : (Progress → List ℕ → Reading) → Progress → List ℕ → FirstPacket → Reading
after_first_packet others p octets part = resting p octets
after_first_packet others p octets (bad fault) = stopping p fault
after_first_packet others p octets (whole tpdu more) = after_tpdu others p tpdu more (checked p tpdu)

-- The reading of octets by a connection. A packet has at least seven octets, so that as many turns as there are
-- octets reach the end.
unfoldable pub receiving_in : ℕ → Progress → List ℕ → Reading
receiving_in zero p octets = resting p octets
receiving_in (suc turns) p octets = after_first_packet (receiving_in turns) p octets (first_packet p.place octets)

abbrev pub receiving : Progress → List ℕ → Reading
receiving p octets = receiving_in (length octets) p octets

-- Every connection begins so.
abbrev pub beginning : Side → Progress
beginning side = record { side = side; phase = First; tsdu = []; place = 0 }

-- What the octets that one end has received from the beginning tell it.
abbrev pub receives : Side → List ℕ → Reading
receives side stream = receiving (beginning side) stream

-- What one more piece tells, by what is kept of the octets before it; nothing after a fault.
abbrev pub onward_from : Kept → List ℕ → Option TpktError → Reading
onward_from kept piece None = receiving kept.connection (kept.packet ++ piece)
onward_from kept piece (Some fault) = record { units = []; answers = []; kept = kept }

abbrev pub onward : Kept → List ℕ → Reading
onward kept piece = onward_from kept piece kept.fault
