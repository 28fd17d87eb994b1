-- What is read of a stream, and what comes in a round (profile).
use Rattle.std.specs.Prelude.{◌≡◌, ℕ, ◌<◌, ◌≤◌, List, [], length, Option, None, Some}
use Rattle.vf_base.specs.declared.events.LinkEvent.{LinkEvent}
use Rattle.vf_base.specs.declared.events.LinkEvent.TheVariants as events
use Rattle.vf_cli_sockets.specs.declared.streams.Heard.{Heard}
use Rattle.vf_cli_sockets.specs.declared.streams.Heard.TheVariants.{Octets, Nothing, End}

-- octets that were read are at least one, and they have room
abbrev pub IsWithin : Heard → (room : ℕ) → Type 0
IsWithin (Octets count) room = (0 < count) × (count ≤ room)
IsWithin Nothing room = Unit {0}
IsWithin End room = Unit {0}

-- what came, beside a piece, after so many links
abbrev pub Comes : (links : ℕ) → List ℕ → LinkEvent → Type 0
Comes links piece (events.Arrived link) = (links < link) × (piece ≡ [])
Comes links piece (events.Octets link moment) = (1 ≤ length piece) × (length piece ≤ 65536)
Comes links piece (events.Ended link) = piece ≡ []
Comes links piece events.Done = ⊥

abbrev pub MayCome : (links : ℕ) → List ℕ → Option LinkEvent → Type 0
MayCome links piece None = piece ≡ []
MayCome links piece (Some event) = Comes links piece event
