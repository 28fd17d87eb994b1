-- What `take` promises by the state, and for every trace that the session represents.
use Rattle.std.proofs.Common.{◌≡◌, List, [], ◌∷◌, ◌++◌, Result, Ok, Err, refl, ap, sym, subst, ◌∙◌}
use Rattle.vf_session.specs.declared.errors.SessionError.{SessionError}
use Rattle.vf_session.specs.declared.errors.SessionError.TheVariants as errors
use Rattle.vf_session.specs.declared.meaning.SpduMeaning.{SpduMeaning}
use Rattle.vf_session.specs.declared.meaning.SpduMeaning.TheVariants.{Nothing, Tells, Faulty}
use Rattle.vf_session_spdu.specs.declared.spdu.Spdu.{Spdu}
use Rattle.vf_session.specs.declared.state.SessionState.{SessionState}
use Rattle.vf_session.specs.declared.units.SessionSay.{SessionSay}
use Rattle.vf_session.specs.Advances.{kept_after}
use Rattle.vf_session_spdu.specs.Fields.{IsReadable}
use Rattle.vf_session.specs.Kept.{Kept}
use Rattle.vf_session.specs.Receiving.{receives}
use Rattle.vf_session.specs.Represents.{Represents, Takes, TakesBy, MeetsMeaning, Advances}
use Rattle.vf_session.specs.Trace.{Trace, state, other, with_received}
use Rattle.vf_session.proofs.AllowedLemmas.{represents-received}

-- ---- by the state

pub by-nothing : (kept : Kept) (spdu : Spdu) (told : List SessionSay) → receives kept.side kept.state spdu ≡ Nothing → TakesBy kept spdu told kept told (Ok tt)
by-nothing kept spdu told h = let P : SpduMeaning → Type 0 = λ x. Advances kept told kept told x in subst P (sym h) (refl, refl)

pub by-tells : (kept : Kept) (spdu : Spdu) (told : List SessionSay) (kept' : Kept) (told' : List SessionSay) (unit : SessionSay) → receives kept.side kept.state spdu ≡ Tells unit
    → kept' ≡ kept_after (other kept.side) kept unit → told' ≡ told ++ unit ∷ [] → TakesBy kept spdu told kept' told' (Ok tt)
by-tells kept spdu told kept' told' unit h k t = let P : SpduMeaning → Type 0 = λ x. Advances kept told kept' told' x in subst P (sym h) (t, k)

pub by-fault : (kept : Kept) (spdu : Spdu) (told : List SessionSay) (fault : SessionError) → receives kept.side kept.state spdu ≡ Faulty fault → TakesBy kept spdu told kept told (Err fault)
by-fault kept spdu told (errors.State code) h = h
by-fault kept spdu told (errors.Serial expected found) h = h
by-fault kept spdu told errors.Token h = h
by-fault kept spdu told errors.NoMemory h = tt

-- ---- for each trace

meets : (kept : Kept) (trace : Trace) (spdu : Spdu) (told : List SessionSay) (kept' : Kept) (told' : List SessionSay) (x : SpduMeaning) → IsReadable spdu → Represents kept trace
    → receives kept.side (state kept.side trace) spdu ≡ x → Advances kept told kept' told' x → MeetsMeaning kept trace told kept' told' x
meets kept trace spdu told kept' told' Nothing readable r e a = (a.0, let P : Kept → Type 0 = λ k. Represents k trace in subst P (sym a.1) r)
meets kept trace spdu told kept' told' (Tells unit) readable r e a = (
  a.0,
  let P : Kept → Type 0 = λ k. Represents k (with_received kept.side unit trace) in
      subst P (sym a.1) (represents-received kept trace spdu unit readable e r),
)
meets kept trace spdu told kept' told' (Faulty fault) readable r e a = a

pub takes-of : (kept : Kept) (spdu : Spdu) (told : List SessionSay) (kept' : Kept) (told' : List SessionSay) (result : Result (Unit {0}) SessionError) → IsReadable spdu
    → TakesBy kept spdu told kept' told' result → (trace : Trace) → Represents kept trace → Takes kept spdu told kept' told' trace result
takes-of kept spdu told kept' told' (Ok done) readable t trace r =
    let same : receives kept.side (state kept.side trace) spdu ≡ receives kept.side kept.state spdu = ap (λ (s : SessionState). receives kept.side s spdu) r.state_is in
    let P : SpduMeaning → Type 0 = λ x. Advances kept told kept' told' x in
    meets kept trace spdu told kept' told' (receives kept.side (state kept.side trace) spdu) readable r refl (subst P (sym same) t)
takes-of kept spdu told kept' told' (Err (errors.State code)) readable t trace r = ap (λ (s : SessionState). receives kept.side s spdu) r.state_is ∙ t
takes-of kept spdu told kept' told' (Err (errors.Serial expected found)) readable t trace r = ap (λ (s : SessionState). receives kept.side s spdu) r.state_is ∙ t
takes-of kept spdu told kept' told' (Err errors.Token) readable t trace r = ap (λ (s : SessionState). receives kept.side s spdu) r.state_is ∙ t
takes-of kept spdu told kept' told' (Err errors.NoMemory) readable t trace r = tt
