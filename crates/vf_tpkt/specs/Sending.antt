-- What one end sends of a TSDU: DT TPDUs, each in its packet (ISO 8073, 13.7; RFC 1006, 6).
use Rattle.std.specs.Prelude.{◌≡◌, ◌+◌, ◌≤◌, [], IsTrue, ℕ, zero, suc, Bool, true, false, nat_le, List, ◌∷◌, ◌++◌, length, take, drop, Option, None, Some, ◌&&◌, if◌then◌else◌}
use Rattle.vf_base.specs.declared.limits.TheConstants.{MOST_VALUE_OCTETS}
use Rattle.vf_tpkt.specs.declared.error.TpktError.{TpktError}
use Rattle.vf_tpkt.specs.declared.error.TpktError.TheVariants as errors
use Rattle.vf_tpkt.specs.declared.phase.Phase.{Phase}
use Rattle.vf_tpkt.specs.declared.phase.Phase.TheVariants.{Open}
use Rattle.vf_tpkt.specs.declared.unit.Unit.TheVariants as told
use Rattle.vf_tpkt.specs.Receiving.{Kept, Progress, receiving, preceded, place_at}
use Rattle.vf_tpkt.specs.Tpdu.{packet}

-- A DT, with the mark of the last one of its TSDU or of another.
abbrev pub last_dt : List ℕ → List ℕ
last_dt octets = 2 ∷ 240 ∷ 128 ∷ octets

abbrev pub other_dt : List ℕ → List ℕ
other_dt octets = 2 ∷ 240 ∷ 0 ∷ octets

-- All but the last have the most octets that are agreed. As many turns as there are octets reach the last one.
unfoldable pub sent_in : ℕ → ℕ → List ℕ → List ℕ
sent_in zero most tsdu = packet (last_dt tsdu)
sent_in (suc turns) most tsdu =
    if nat_le (length tsdu) most then packet (last_dt tsdu)
    else packet (other_dt (take most tsdu)) ++ sent_in turns most (drop most tsdu)

abbrev pub sent : ℕ → List ℕ → List ℕ
sent most tsdu = sent_in (length tsdu) most tsdu

-- A connection that stands has the most octets of data in a DT.
abbrev pub is_open : Phase → Bool
is_open (Open most) = true
is_open phase = false

abbrev pub most_of : Phase → ℕ
most_of (Open most) = most
most_of phase = 0

-- It may still be sent something after a TSDU that was too long, and after no other fault.
abbrev pub is_received : Option TpktError → Bool
is_received None = true
is_received (Some (errors.Size place)) = true
is_received (Some fault) = false

abbrev pub stands : Kept → Bool
stands kept = is_open kept.connection.phase && is_received kept.fault

-- What is sent of a TSDU tells this TSDU at an end that waits for one, and then what follows it tells what it
-- tells: the connection is as it was, with the octets of the packets after it.
abbrev pub after_sent : Progress → List ℕ → Progress
after_sent p octets = record { side = p.side; phase = p.phase; tsdu = []; place = place_at (p.place + length octets) }

abbrev pub ReceivesSent : Progress → ℕ → List ℕ → List ℕ → Type 0
ReceivesSent p most tsdu more =
    IsTrue (is_open p.phase) → p.tsdu ≡ [] → 1 ≤ most → most ≤ 65528 → length tsdu ≤ MOST_VALUE_OCTETS →
    receiving p (sent most tsdu ++ more) ≡ preceded (told.Data tsdu ∷ []) [] (receiving (after_sent p (sent most tsdu)) more)
