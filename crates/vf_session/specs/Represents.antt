-- Which traces a session represents, and what its calls owe for each of them, and by its state alone.
use Rattle.std.specs.Prelude.{◌≡◌, List, [], ◌∷◌, ◌++◌, Result, Ok, Err}
use Rattle.vf_session.specs.declared.errors.SessionError.{SessionError}
use Rattle.vf_session.specs.declared.errors.SessionError.TheVariants.{NoMemory}
use Rattle.vf_session.specs.declared.meaning.SpduMeaning.{SpduMeaning}
use Rattle.vf_session.specs.declared.meaning.SpduMeaning.TheVariants.{Nothing, Tells, Faulty}
use Rattle.vf_session_spdu.specs.declared.spdu.Spdu.{Spdu}
use Rattle.vf_session.specs.declared.units.SessionSay.{SessionSay}
use Rattle.vf_session.specs.Advances.{kept_after}
use Rattle.vf_session.specs.Allowed.{IsAllowed}
use Rattle.vf_session.specs.Kept.{Kept}
use Rattle.vf_session.specs.Receiving.{receives}
use Rattle.vf_session.specs.Trace.{Trace, other, state, settled, token, with_received}

-- The trace is one that this end may have, and what is kept is what the filters on it give.
pub record Represents (kept : Kept) (trace : Trace) : Type 0 where
  pub allowed : IsAllowed kept.side kept.offer trace
  pub state_is : state kept.side trace ≡ kept.state
  pub token_is : token (settled trace) ≡ kept.token

-- An SPDU was received: it told what it tells after the trace, and the session represents the trace with it.
abbrev pub MeetsMeaning : Kept → Trace → List SessionSay → Kept → List SessionSay → SpduMeaning → Type 0
MeetsMeaning kept trace told kept' told' Nothing = (told' ≡ told) × Represents kept' trace
MeetsMeaning kept trace told kept' told' (Tells unit) = (told' ≡ told ++ unit ∷ []) × Represents kept' (with_received kept.side unit trace)
MeetsMeaning kept trace told kept' told' (Faulty fault) = ⊥

abbrev pub Takes : Kept → Spdu → List SessionSay → Kept → List SessionSay → Trace → Result (Unit {0}) SessionError → Type 0
Takes kept spdu told kept' told' trace (Ok done) =
    MeetsMeaning kept trace told kept' told' (receives kept.side (state kept.side trace) spdu)
Takes kept spdu told kept' told' trace (Err NoMemory) = Unit {0}
Takes kept spdu told kept' told' trace (Err fault) = receives kept.side (state kept.side trace) spdu ≡ Faulty fault

-- The same by what is kept, whatever was received and sent before.
abbrev pub Advances : Kept → List SessionSay → Kept → List SessionSay → SpduMeaning → Type 0
Advances kept told kept' told' Nothing = (told' ≡ told) × (kept' ≡ kept)
Advances kept told kept' told' (Tells unit) = (told' ≡ told ++ unit ∷ []) × (kept' ≡ kept_after (other kept.side) kept unit)
Advances kept told kept' told' (Faulty fault) = ⊥

abbrev pub TakesBy : Kept → Spdu → List SessionSay → Kept → List SessionSay → Result (Unit {0}) SessionError → Type 0
TakesBy kept spdu told kept' told' (Ok done) = Advances kept told kept' told' (receives kept.side kept.state spdu)
TakesBy kept spdu told kept' told' (Err NoMemory) = Unit {0}
TakesBy kept spdu told kept' told' (Err fault) = receives kept.side kept.state spdu ≡ Faulty fault
