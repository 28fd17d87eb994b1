-- What one stack sends the other receives.
use Rattle.std.proofs.Common.{◌≡◌, ℕ, Bool, true, false, if◌then◌else◌, List, [], ◌∷◌, ◌++◌, refl, ap, sym, subst, ◌∙◌, append-nil, Option, None, Some}
use Rattle.std.specs.Option.{option_map}
use Rattle.vf_session.specs.Receiving.{receives as told_by}
use Rattle.vf_session.specs.Mutual.{told_first, told_by as told_all}
use Rattle.vf_session.specs.Trace.{Trace, state, with_received}
use Rattle.vf_session.specs.declared.meaning.SpduMeaning.{SpduMeaning}
use Rattle.vf_session.specs.declared.meaning.SpduMeaning.TheVariants.{Nothing, Tells as TellsUnit, Faulty}
use Rattle.vf_session.specs.declared.units.SessionSay.{SessionSay}
use Rattle.vf_session.specs.declared.units.TokenSide.{TokenSide}
use Rattle.vf_session_spdu.specs.declared.spdu.Spdu.{Spdu}
use Rattle.vf_stack.specs.Carriage.{all_told, fault_told, unit_told}
use Rattle.vf_stack.specs.Contexts.{standing}
use Rattle.vf_stack.specs.declared.fault.Fault.{Fault}
use Rattle.vf_stack.specs.Receiving.{Received, nothing, preceded, each, ending_by, joined, exchange_after, unit_received, meaning_received, spdu_received, spdus_received}
use Rattle.vf_stack.specs.Association.{Exchange, is_ended}
use Rattle.vf_stack.specs.declared.ending.Ending.{Ending}
use Rattle.vf_stack.specs.declared.ending.Ending.TheVariants.{Open, Closed, Broken, Refused, Partly}
use Rattle.vf_stack.specs.declared.indication.Indication.{Indication}
use Rattle.vf_stack.proofs.PieceLemmas.{each-ended}

-- the units of a list, each where receiving goes on
abbrev pub unit_after : TokenSide → Exchange → SessionSay → Received
unit_after own x unit = if is_ended x.ending then nothing x else unit_received own x unit

-- after this trace, one after the other, their user data have no fault
abbrev pub AreSound : TokenSide → Trace → List SessionSay → Type 0
AreSound own trace [] = Unit {0}
AreSound own trace (unit ∷ units) = ((unit_told (standing own trace) unit).fault ≡ None) × AreSound own (with_received own unit trace) units

spdu-ended : (own : TokenSide) (place : ℕ) (x : Exchange) (spdu : Spdu) → is_ended x.ending ≡ true → spdu_received own place x spdu ≡ nothing x
spdu-ended own place x spdu e = rw e refl

unit-ended : (own : TokenSide) (x : Exchange) (unit : SessionSay) → is_ended x.ending ≡ true → unit_after own x unit ≡ nothing x
unit-ended own x unit e = rw e refl

sound-by : (own : TokenSide) (x : Exchange) (unit : SessionSay) (told : List Indication) (fault : Option Fault) → fault ≡ None → exchange_after own x unit told fault ≡ joined own x unit (ending_by unit)
sound-by own x unit told None e = refl
sound-by own x unit told (Some fault) e = cc

abbrev pub as_received : List Indication → Exchange → Received
as_received indications x = record { indications = indications; exchange = x }

pub sound : (own : TokenSide) (x : Exchange) (unit : SessionSay) → (unit_told (standing own x.trace) unit).fault ≡ None
    → unit_received own x unit ≡ as_received (unit_told (standing own x.trace) unit).indications (joined own x unit (ending_by unit))
sound own x unit e =
    let told = unit_told (standing own x.trace) unit in
    let i : all_told told ≡ told.indications = ap (λ (f : Option Fault). told.indications ++ fault_told f) e ∙ append-nil told.indications in
    ap (λ (indications : List Indication). as_received indications (exchange_after own x unit told.indications told.fault)) i
    ∙ ap (λ (y : Exchange). as_received told.indications y) (sound-by own x unit told.indications told.fault e)

mapped : (o : Option (List SessionSay)) (unit : SessionSay) (units : List SessionSay) → option_map (λ (us : List SessionSay). unit ∷ us) o ≡ Some units → (us : List SessionSay) × (o ≡ Some us) × (units ≡ unit ∷ us)
mapped None unit units e = cc
mapped (Some us) unit units e = (us, refl, cc)

open-if : (ending : Ending) → is_ended ending ≡ false → ending ≡ Open
open-if Open e = refl
open-if Closed e = cc
open-if Broken e = cc
open-if Refused e = cc
open-if Partly e = cc

-- SPDUs that tell units, at an exchange, are received as these units
abbrev pub Same : TokenSide → ℕ → List Spdu → Type 0
Same own place spdus = (y : Exchange) (us : List SessionSay) → y.ending ≡ Open → told_all own y.trace spdus ≡ Some us → AreSound own y.trace us → each (spdu_received own place) y spdus ≡ each (unit_after own) y us

after-unit : (own : TokenSide) (place : ℕ) (spdus : List Spdu) (y : Exchange) (us : List SessionSay) (b : Bool) → is_ended y.ending ≡ b → told_all own y.trace spdus ≡ Some us → AreSound own y.trace us → Same own place spdus
    → each (spdu_received own place) y spdus ≡ each (unit_after own) y us
after-unit own place spdus y us true e t s same =
    each-ended (spdu_received own place) y spdus (λ spdu. spdu-ended own place y spdu e) ∙ sym (each-ended (unit_after own) y us (λ unit. unit-ended own y unit e))
after-unit own place spdus y us false e t s same = same y us (open-if y.ending e) t s

spdu-open : (own : TokenSide) (place : ℕ) (x : Exchange) (spdu : Spdu) (meaning : SpduMeaning) → x.ending ≡ Open → told_by own (state own x.trace) spdu ≡ meaning → spdu_received own place x spdu ≡ meaning_received own x place meaning
spdu-open own place x spdu meaning o e = rw (o, e) refl

pub unit-open : (own : TokenSide) (x : Exchange) (unit : SessionSay) → x.ending ≡ Open → unit_after own x unit ≡ unit_received own x unit
unit-open own x unit o = rw o refl

by-told : (own : TokenSide) (first place : ℕ) (spdu : Spdu) (spdus : List Spdu) (x : Exchange) (units : List SessionSay) (meaning : SpduMeaning)
    → told_by own (state own x.trace) spdu ≡ meaning → x.ending ≡ Open → told_first own x.trace (λ trace. told_all own trace spdus) meaning ≡ Some units → AreSound own x.trace units → Same own place spdus
    → preceded (spdu_received own first x spdu).indications (each (spdu_received own place) (spdu_received own first x spdu).exchange spdus) ≡ each (unit_after own) x units
by-told own first place spdu spdus x units Nothing e o t s same =
    let R : Received → Received = λ received. preceded received.indications (each (spdu_received own place) received.exchange spdus) in
    ap R (spdu-open own first x spdu Nothing o e) ∙ same x units o t s
by-told own first place spdu spdus x units (TellsUnit unit) e o t s same =
    let m = mapped (told_all own (with_received own unit x.trace) spdus) unit units t in
    let us = m.0 in
    let S : List SessionSay → Type 0 = λ us. AreSound own x.trace us in
    let ss : AreSound own x.trace (unit ∷ us) = subst S m.2 s in
    let R : Received → Received = λ received. preceded received.indications (each (spdu_received own place) received.exchange spdus) in
    let U : Received → Received = λ received. preceded received.indications (each (unit_after own) received.exchange us) in
    let told = sound own x unit ss.0 in
    let y = joined own x unit (ending_by unit) in
    let rest : each (spdu_received own place) y spdus ≡ each (unit_after own) y us = after-unit own place spdus y us (is_ended (ending_by unit)) refl m.1 ss.1 same in
    let left = ap R (spdu-open own first x spdu (TellsUnit unit) o e ∙ told) in
    let right = ap U (unit-open own x unit o ∙ told) in
    let middle = ap (λ (received : Received). preceded (unit_told (standing own x.trace) unit).indications received) rest in
    let V : List SessionSay → Type 0 = λ us. preceded (spdu_received own first x spdu).indications (each (spdu_received own place) (spdu_received own first x spdu).exchange spdus) ≡ each (unit_after own) x us in
    subst V (sym m.2) (left ∙ middle ∙ sym right)
by-told own first place spdu spdus x units (Faulty fault) e o t s same = cc

pub told-received : (own : TokenSide) (place : ℕ) (spdus : List Spdu) → Same own place spdus
told-received own place [] y [] o t s = refl
told-received own place [] y (u ∷ us) o t s = cc
told-received own place (spdu ∷ spdus) y us o t s =
    by-told own place place spdu spdus y us (told_by own (state own y.trace) spdu) refl o t s (told-received own place spdus)

pub spdus-told : (own : TokenSide) (after : ℕ) (spdus : List Spdu) (x : Exchange) (units : List SessionSay) → x.ending ≡ Open → told_all own x.trace spdus ≡ Some units → AreSound own x.trace units
    → spdus_received own after x spdus ≡ each (unit_after own) x units
spdus-told own after [] x [] o t s = refl
spdus-told own after [] x (u ∷ us) o t s = cc
spdus-told own after (spdu ∷ spdus) x units o t s =
    by-told own 0 after spdu spdus x units (told_by own (state own x.trace) spdu) refl o t s (told-received own after spdus)
