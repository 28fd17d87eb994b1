-- An SPDU.
use Rattle.std.proofs.Common.{◌≡◌, ℕ, false, List, [], ◌∷◌, refl, ap, sym, subst, ◌∙◌, append-nil, ◌≢◌, Result, Ok, Err}
use Rattle.vf_session.specs.Kept.{IsSameEnd, Kept as SessionKept}
use Rattle.vf_session.specs.Receiving.{receives}
use Rattle.vf_session.specs.Represents.{MeetsMeaning, Represents as Keeps, Takes}
use Rattle.vf_session.specs.Trace.{Trace, state, with_received}
use Rattle.vf_session.specs.declared.errors.SessionError.{SessionError}
use Rattle.vf_session.specs.declared.errors.SessionError.TheVariants as errors
use Rattle.vf_session.specs.declared.meaning.SpduMeaning.{SpduMeaning}
use Rattle.vf_session.specs.declared.meaning.SpduMeaning.TheVariants.{Nothing, Tells as TellsOne, Faulty}
use Rattle.vf_session.specs.declared.units.SessionSay.{SessionSay}
use Rattle.vf_session.specs.declared.units.TokenSide.{TokenSide}
use Rattle.vf_session_spdu.specs.Fields.{Fails}
use Rattle.vf_session_spdu.specs.Reading.{reading}
use Rattle.vf_session_spdu.specs.declared.errors.SpduError.{SpduError}
use Rattle.vf_session_spdu.specs.declared.errors.SpduError.TheVariants as spdu_errors
use Rattle.vf_session_spdu.specs.declared.spdu.Spdu.{Spdu}
use Rattle.vf_stack.specs.Association.{Exchange, is_ended}
use Rattle.vf_stack.specs.Contexts.{accepted}
use Rattle.vf_stack.specs.Faults.{of_form, of_state}
use Rattle.vf_stack.specs.Receiving.{Received, meaning_received, read_received, refused, spdu_received, unit_received}
use Rattle.vf_stack.specs.Represents.{IsInSession, IsSame, IsTraced, Receives, Refuses, Stands, Tells, TellsUnits}
use Rattle.vf_stack.specs.declared.ending.Ending.{Ending}
use Rattle.vf_stack.specs.declared.ending.Ending.TheVariants.{Open, Closed, Broken, Refused, Partly}
use Rattle.vf_stack.specs.declared.exchange.KeptExchange.{KeptExchange}
use Rattle.vf_stack.specs.declared.fault.Fault.{Fault}
use Rattle.vf_stack.specs.declared.indication.Indication.{Indication}
use Rattle.vf_stack.proofs.EndLemmas.{same-session, same-then}
use Rattle.vf_stack.proofs.UnitLemmas.{refused-traced, tells-same, tells-unit}

-- what stands for an exchange that goes on
pub record IsOpen (kept : KeptExchange) (x : Exchange) : Type 0 where
  pub exchange_is : x.ending ≡ Open
  pub kept_is : kept.ending ≡ Open
  pub keeps : Keeps kept.session x.trace
  pub traced : IsTraced kept x.trace

open-by : (kept : KeptExchange) (trace : Trace) (ending : Ending) → is_ended ending ≡ false → IsInSession kept trace ending → (ending ≡ Open) × Keeps kept.session trace
open-by kept trace Open e t = (refl, t)
open-by kept trace Closed e t = cc
open-by kept trace Broken e t = cc
open-by kept trace Refused e t = cc
open-by kept trace Partly e t = cc

pub is-open : (kept : KeptExchange) (x : Exchange) → Stands kept x → is_ended kept.ending ≡ false → IsOpen kept x
is-open kept x s e =
    let o = open-by kept x.trace x.ending (sym (ap is_ended s.ending_is) ∙ e) s.in_session in
    record { exchange_is = o.0; kept_is = s.ending_is ∙ o.0; keeps = o.1; traced = s.traced }

-- ---- a fault of which nothing else is told

pub tells-refused : (kept kept2 : KeptExchange) (out out2 : List Indication) (fault : Fault) (x : Exchange) → IsTraced kept x.trace → Refuses kept out fault kept2 out2 → Tells out (refused x fault) kept2 out2
tells-refused kept kept2 out out2 fault x t r =
    let P : KeptExchange → Type 0 = λ k. Stands k (record x { ending = Refused }) in
    (r.1, subst P (sym r.0) (record { ending_is = refl; traced = refused-traced kept x.trace t; in_session = tt }))

refused-same : (kept kept2 : KeptExchange) (out out2 : List Indication) (fault : Fault) → Refuses kept out fault kept2 out2 → IsSame kept kept2
refused-same kept kept2 out out2 fault r = same-session kept kept2 (ap (λ (k : KeptExchange). k.session) r.0)

pub receives-refusal : (kept kept2 : KeptExchange) (out out2 : List Indication) (fault : Fault) (receive : TokenSide → Exchange → Received)
    → ((x : Exchange) → Stands kept x → receive kept.session.side x ≡ refused x fault) → Refuses kept out fault kept2 out2 → Receives kept out receive kept2 out2
receives-refusal kept kept2 out out2 fault receive same r = (
  refused-same kept kept2 out out2 fault r,
  λ x s.
      let P : Received → Type 0 = λ received. Tells out received kept2 out2 in
      subst P (sym (same x s)) (tells-refused kept kept2 out out2 fault x s.traced r),
)

-- ---- what session tells

traced-taken : (kept : KeptExchange) (s : SessionKept) (trace : Trace) → s.side ≡ kept.session.side → IsTraced kept trace → IsTraced (record kept { session = s }) trace
traced-taken kept s trace e p =
    record {
      state_is = p.state_is ∙ ap (λ (side : TokenSide). state side trace) (sym e);
      offers_are = p.offers_are;
      accepted_are = p.accepted_are ∙ ap (λ (side : TokenSide). accepted side trace) (sym e);
    }

by-meaning : (kept kept2 : KeptExchange) (s : SessionKept) (units : List SessionSay) (out out2 : List Indication) (place : ℕ) (x : Exchange) (meaning : SpduMeaning)
    → s.side ≡ kept.session.side → IsOpen kept x
    → MeetsMeaning kept.session x.trace [] s units meaning
    → TellsUnits (record kept { session = s }) out units kept2 out2
    → Tells out (meaning_received kept.session.side x place meaning) kept2 out2
by-meaning kept kept2 s units out out2 place x Nothing e o m told =
    let kept1 = record kept { session = s } in
    let P : List SessionSay → Type 0 = λ us. TellsUnits kept1 out us kept2 out2 in
    let t : P [] = subst P m.0 told in
    let stands : Stands kept1 x = record { ending_is = o.kept_is ∙ sym o.exchange_is; traced = traced-taken kept s x.trace e o.traced; in_session = subst (IsInSession kept1 x.trace) (sym o.exchange_is) m.1 } in
    let Q : KeptExchange → Type 0 = λ k. Stands k x in
    (t.1 ∙ sym (append-nil out), subst Q (sym t.0) stands)
by-meaning kept kept2 s units out out2 place x (TellsOne unit) e o m told =
    let kept1 = record kept { session = s } in
    let P : List SessionSay → Type 0 = λ us. TellsUnits kept1 out us kept2 out2 in
    let t : P (unit ∷ []) = subst P m.0 told in
    let R : TokenSide → Type 0 = λ own. Tells out (unit_received own x unit) kept2 out2 in
    let W : TokenSide → Type 0 = λ own. Keeps s (with_received own unit x.trace) in
    subst R e (tells-unit kept1 kept2 x unit out out2 (record { session_is = subst W (sym e) m.1; traced = traced-taken kept s x.trace e o.traced }) t)
by-meaning kept kept2 s units out out2 place x (Faulty fault) e o m told = absurd m

spdu-open : (own : TokenSide) (place : ℕ) (x : Exchange) (spdu : Spdu) → x.ending ≡ Open → spdu_received own place x spdu ≡ meaning_received own x place (receives own (state own x.trace) spdu)
spdu-open own place x spdu e = rw e refl

-- Session has taken the SPDU.
pub receives-told : (kept kept2 : KeptExchange) (s : SessionKept) (units : List SessionSay) (out out2 : List Indication) (place : ℕ) (spdu : Spdu)
    → is_ended kept.ending ≡ false → IsSameEnd kept.session s
    → ((trace : Trace) → Keeps kept.session trace → Takes kept.session spdu [] s units trace (Ok tt))
    → TellsUnits (record kept { session = s }) out units kept2 out2
    → Receives kept out (λ own x. spdu_received own place x spdu) kept2 out2
receives-told kept kept2 s units out out2 place spdu e same takes told = (
  same-then kept (record kept { session = s }) kept2 same (tells-same (record kept { session = s }) kept2 out out2 units told),
  λ x st.
      let o = is-open kept x st e in
      let own = kept.session.side in
      let P : Received → Type 0 = λ r. Tells out r kept2 out2 in
      subst P (sym (spdu-open own place x spdu o.exchange_is))
      (by-meaning kept kept2 s units out out2 place x (receives own (state own x.trace) spdu) same.0 o (takes x.trace o.keeps) told),
)

-- Session refuses it.
by-fault : (own : TokenSide) (trace : Trace) (spdu : Spdu) (fault : SessionError) → receives own (state own trace) spdu ≡ Faulty fault → (place : ℕ) (x : Exchange) → meaning_received own x place (receives own (state own trace) spdu) ≡ refused x (of_state place fault)
by-fault own trace spdu fault e place x = rw e refl

pub receives-fault : (kept kept2 : KeptExchange) (s : SessionKept) (out out2 : List Indication) (place : ℕ) (spdu : Spdu) (fault : SessionError)
    → is_ended kept.ending ≡ false → IsSameEnd kept.session s
    → ((trace : Trace) → Keeps kept.session trace → receives kept.session.side (state kept.session.side trace) spdu ≡ Faulty fault)
    → Refuses (record kept { session = s }) out (of_state place fault) kept2 out2
    → Receives kept out (λ own x. spdu_received own place x spdu) kept2 out2
receives-fault kept kept2 s out out2 place spdu fault e same faulty r =
    let kept1 = record kept { session = s } in (
      same-then kept kept1 kept2 same (refused-same kept1 kept2 out out2 (of_state place fault) r),
      λ x st.
          let o = is-open kept x st e in
          let own = kept.session.side in
          let P : Received → Type 0 = λ received. Tells out received kept2 out2 in
          subst P (sym (spdu-open own place x spdu o.exchange_is ∙ by-fault own x.trace spdu fault (faulty x.trace o.keeps) place x))
          (tells-refused kept1 kept2 out out2 (of_state place fault) x (traced-taken kept s x.trace same.0 o.traced) r),
    )

-- ---- the faults of calls, where memory wasn't wanting

pub faulty-by : (kept kept' : SessionKept) (spdu : Spdu) (told told' : List SessionSay) (trace : Trace) (fault : SessionError)
    → fault ≢ errors.NoMemory → Takes kept spdu told kept' told' trace (Err fault) → receives kept.side (state kept.side trace) spdu ≡ Faulty fault
faulty-by kept kept' spdu told told' trace (errors.State code) n t = t
faulty-by kept kept' spdu told told' trace (errors.Serial expected found) n t = t
faulty-by kept kept' spdu told told' trace errors.Token n t = t
faulty-by kept kept' spdu told told' trace errors.NoMemory n t = absurd (n refl)

reads-fault : (fault : SpduError) (read : Result (List Spdu) SpduError) → fault ≢ spdu_errors.NoMemory → Fails fault read → read ≡ Err fault
reads-fault (spdu_errors.Code at) read n f = f
reads-fault (spdu_errors.Length at) read n f = f
reads-fault (spdu_errors.Missing code) read n f = f
reads-fault (spdu_errors.Value code) read n f = f
reads-fault spdu_errors.NoMemory read n f = absurd (n refl)

pub receives-unread : (kept kept2 : KeptExchange) (out out2 : List Indication) (tsdu : List ℕ) (fault : SpduError) (told : Fault)
    → fault ≢ spdu_errors.NoMemory → Fails fault (reading tsdu) → (reading tsdu ≡ Err fault → told ≡ of_form tsdu fault) → Refuses kept out told kept2 out2
    → Receives kept out (λ own x. read_received own x tsdu (reading tsdu)) kept2 out2
receives-unread kept kept2 out out2 tsdu fault told n fails names r =
    let e = reads-fault fault (reading tsdu) n fails in
    let R : Fault → Type 0 = λ f. Refuses kept out f kept2 out2 in
    receives-refusal kept kept2 out out2 (of_form tsdu fault) (λ own x. read_received own x tsdu (reading tsdu))
    (λ x s. ap (λ (read : Result (List Spdu) SpduError). read_received kept.session.side x tsdu read) e) (subst R (names e) r)
