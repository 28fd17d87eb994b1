-- What one end may say the other end receives, while nothing is on its way. The two traces needn't be the same: a token that
-- passes before data is one unit where it is sent and two where it is received. They agree where they leave the
-- connection at the same place, each end in a phase that fits the other's.
use Rattle.std.specs.Prelude.{◌≡◌, Bool, true, false, IsTrue, List, [], ◌∷◌, Option, None, Some}
use Rattle.std.specs.List.{AllByRecursion}
use Rattle.std.specs.Option.{option_map}
use Rattle.vf_session_spdu.specs.declared.spdu.Spdu.{Spdu}
use Rattle.vf_session.specs.declared.meaning.SpduMeaning.{SpduMeaning}
use Rattle.vf_session.specs.declared.meaning.SpduMeaning.TheVariants.{Nothing, Tells, Faulty}
use Rattle.vf_session.specs.declared.phase.Phase.{Phase}
use Rattle.vf_session.specs.declared.phase.Phase.TheVariants.{Idle, Asked, Open, Leaving, Left, Aborted, Over}
use Rattle.vf_session.specs.declared.state.SessionState.{SessionState}
use Rattle.vf_session.specs.declared.units.SessionSay.{SessionSay}
use Rattle.vf_session.specs.declared.units.SessionSay.TheVariants.{Data, Token}
use Rattle.vf_session.specs.declared.units.TokenSide.{TokenSide}
use Rattle.vf_session.specs.Allowed.{IsAllowed, IsRead}
use Rattle.vf_session.specs.Receiving.{receives, is_over}
use Rattle.vf_session.specs.Sending.{may, spdus}
use Rattle.vf_session.specs.Trace.{Trace, other, state, with_received, with_sent}

-- ---- two ends that agree

-- the phases of the two ends
abbrev pub Fits : Phase → Phase → Type 0
Fits Idle p = p ≡ Idle
Fits Asked p = p ≡ Asked
Fits Open p = p ≡ Open
Fits Leaving p = p ≡ Left
Fits Left p = p ≡ Leaving
Fits Aborted p = is_over p ≡ true
Fits Over p = is_over p ≡ true

pub record Agree (s s' : SessionState) : Type 0 where
  pub phases_fit : Fits s.phase s'.phase
  pub proposed_is : s.proposed ≡ s'.proposed
  pub agreed_is : s.agreed ≡ s'.agreed
  pub first_is : s.first ≡ s'.first
  pub next_is : s.next ≡ s'.next
  pub oldest_is : s.oldest ≡ s'.oldest
  pub token_is : s.token ≡ s'.token
  pub resync_is : s.resync ≡ s'.resync

-- two ends begin so, and it doesn't matter which of them is named first
abbrev pub Begins : TokenSide → Type 0
Begins own = Agree (state own []) (state (other own) [])

abbrev pub Turns : SessionState → SessionState → Type 0
Turns s s' = Agree s s' → Agree s' s

-- ---- what is told

-- What several SPDUs tell one after the other; none where one of them is a fault.
abbrev pub told_first : TokenSide → Trace → (Trace → Option (List SessionSay)) → SpduMeaning → Option (List SessionSay)
told_first own trace others Nothing = others trace
told_first own trace others (Tells unit) = option_map (λ units. unit ∷ units) (others (with_received own unit trace))
told_first own trace others (Faulty fault) = None

abbrev pub told_by : TokenSide → Trace → List Spdu → Option (List SessionSay)
told_by own trace [] = Some []
told_by own trace (spdu ∷ spdus) = told_first own trace (λ trace. told_by own trace spdus) (receives own (state own trace) spdu)

-- The units that are received of one that is sent: the same, and a token that passes before data as one of its own.
abbrev pub received_of : TokenSide → SessionSay → List SessionSay
received_of own (Data true octets) = Token (other own) ∷ Data false octets ∷ []
received_of own sent = sent ∷ []

abbrev pub with_all : TokenSide → List SessionSay → Trace → Trace
with_all own [] trace = trace
with_all own (unit ∷ units) trace = with_all own units (with_received own unit trace)

-- The other end receives what was sent, its trace with it is one that it may have, and the two ends agree again. Each of
-- the SPDUs is one that a TSDU is read as.
pub record IsReceived (own : TokenSide) (offer' : Bool) (trace trace' : Trace) (sent : SessionSay) : Type 0 where
  pub told : told_by (other own) trace' (spdus own sent) ≡ Some (received_of own sent)
  pub agree : Agree (state own (with_sent own sent trace)) (state (other own) (with_all (other own) (received_of own sent) trace'))
  pub allowed : IsAllowed (other own) offer' (with_all (other own) (received_of own sent) trace')
  pub are_read : AllByRecursion IsRead (spdus own sent)

abbrev pub Receives : TokenSide → Bool → Bool → Trace → Trace → SessionSay → Type 0
Receives own offer offer' trace trace' sent =
    IsAllowed own offer trace → IsAllowed (other own) offer' trace' → Agree (state own trace) (state (other own) trace')
    → IsTrue (may own offer (state own trace) sent) → IsReceived own offer' trace trace' sent
