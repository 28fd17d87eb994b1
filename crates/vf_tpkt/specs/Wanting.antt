-- How many octets an end can receive before something is told.
use Rattle.std.specs.Prelude.{◌≡◌, ◌≤◌, ◌-◌, ◌⊎◌, ℕ, nat_lt, List, [], ◌++◌, length, None, Some, if◌then◌else◌}
use Rattle.vf_tpkt.specs.declared.error.TpktError.{TpktError}
use Rattle.vf_tpkt.specs.Receiving.{Kept, Reading, onward}
use Rattle.vf_tpkt.specs.Steps.{size_in}

-- what a packet lacks: of the four octets of its header, and then by the length in it
abbrev pub lacking : List ℕ → ℕ
lacking packet = if nat_lt (length packet) 4 then 4 - length packet else size_in packet - length packet

-- Nothing is told.
pub record IsSilent (r : Reading) : Type 0 where
  pub units : r.units ≡ []
  pub answers : r.answers ≡ []
  pub fault : r.kept.fault ≡ None

-- So many octets, or fewer, tell one thing at most: wherever they are cut, the octets before the cut tell nothing, or
-- they are all of them, or they came to a fault, after which nothing is told.
abbrev pub TellsOnce : Kept → ℕ → Type 0
TellsOnce kept most =
    (a b : List ℕ) → length (a ++ b) ≤ most
    → IsSilent (onward kept a) ⊎ ((b ≡ []) ⊎ ((fault : TpktError) × ((onward kept a).kept.fault ≡ Some fault)))
