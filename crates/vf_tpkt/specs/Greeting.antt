-- How two ends of this project connect: a CR without parameters, and the CC that answers it (ISO 8073, 6.5).
use Rattle.std.specs.Prelude.{◌≡◌, [], ◌∷◌, None}
use Rattle.vf_tpkt.specs.declared.phase.Side.{Side}
use Rattle.vf_tpkt.specs.declared.phase.Side.TheVariants.{Calling, Called}
use Rattle.vf_tpkt.specs.declared.phase.Phase.TheVariants.{Open}
use Rattle.vf_tpkt.specs.declared.unit.Unit.TheVariants as told
use Rattle.vf_tpkt.specs.Receiving.{Kept, receives}
use Rattle.vf_tpkt.specs.Tpdu.{packet, request, confirm}

-- an end that has received one packet of 11 octets, by which the connection stands
abbrev pub connected : Side → Kept
connected side =
    record { connection = record { side = side; phase = Open 65528; tsdu = []; place = 11 }; packet = []; fault = None }

abbrev pub ConnectsCalled : Type 0
ConnectsCalled =
    receives Called (packet request) ≡ record { units = told.Connected ∷ []; answers = packet (confirm 0 1 None); kept = connected Called }

abbrev pub ConnectsCalling : Type 0
ConnectsCalling =
    receives Calling (packet (confirm 0 1 None)) ≡ record { units = told.Connected ∷ []; answers = []; kept = connected Calling }
