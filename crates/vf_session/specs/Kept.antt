-- What a session keeps of a trace.
use Rattle.std.specs.Prelude.{◌≡◌, Bool}
use Rattle.vf_session.specs.declared.state.SessionState.{SessionState}
use Rattle.vf_session.specs.declared.units.TokenSide.{TokenSide}
use Rattle.vf_session.specs.Trace.{Trace, state, settled, token}

-- which end it is, whether it proposes sync, where the connection stands, and who has the token where an RS that waits
-- turns out to have lost
pub record Kept : Type 0 where
  pub side : TokenSide
  pub offer : Bool
  pub state : SessionState
  pub token : TokenSide

abbrev pub kept_of : TokenSide → Bool → Trace → Kept
kept_of own offer trace = record { side = own; offer = offer; state = state own trace; token = token (settled trace) }

-- which end it is, and whether it proposes sync, stays
abbrev pub IsSameEnd : Kept → Kept → Type 0
IsSameEnd kept kept' = (kept'.side ≡ kept.side) × (kept'.offer ≡ kept.offer)
