-- A unit that session has taken.
use Rattle.std.proofs.Common.{◌≡◌, ◌&&◌, ℕ, Bool, true, false, nat_eq, if◌then◌else◌, List, [], ◌∷◌, ◌++◌, length, refl, ap, sym, subst, ◌∙◌, append_assoc, append-nil, length-append, arith, Option, None, Some, unwrap_or}
use Rattle.std.proofs.lemmas.Bool.Decides.{nat_tests}
use Rattle.vf_base.specs.declared.spdu_kind.SpduKind.{SpduKind}
use Rattle.vf_session.specs.Represents.{Represents as Keeps}
use Rattle.vf_session.specs.Trace.{Trace, is_from, is_resync, resync, settled, with_received}
use Rattle.vf_session.specs.Units.{parameters, user_data}
use Rattle.vf_session.specs.declared.parameters.SayParameters.{SayParameters}
use Rattle.vf_session.specs.declared.state.SessionState.{SessionState}
use Rattle.vf_session.specs.declared.units.SessionSay.{SessionSay}
use Rattle.vf_session.specs.declared.units.SessionSay.TheVariants as say
use Rattle.vf_session.specs.declared.units.TokenSide.{TokenSide}
use Rattle.vf_session.specs.declared.units.TokenSide.TheVariants.{Initiator, Responder}
use Rattle.vf_stack.specs.Association.{Exchange}
use Rattle.vf_stack.specs.Carriage.{Told, all_told, carried_told, carrier, fault_told, unit_told}
use Rattle.vf_stack.specs.Contexts.{Standing, accepted, accepted_by, accepts, contexts_among, offers_by, proposals, proposes, standing}
use Rattle.vf_stack.specs.Faults.{indication_of}
use Rattle.vf_stack.specs.Receiving.{ending_by, exchange_after, unit_received}
use Rattle.vf_stack.specs.Represents.{Concludes, IsInSession, IsSame, IsTraced, Puts, PutsRead, PutsUnit, Stands, Tells, TellsUnit, TellsUnits, kept_after, standing_of, with_unit}
use Rattle.vf_stack.specs.declared.ending.Ending.{Ending}
use Rattle.vf_stack.specs.declared.ending.Ending.TheVariants.{Refused, Partly}
use Rattle.vf_stack.specs.declared.exchange.KeptExchange.{KeptExchange}
use Rattle.vf_stack.specs.declared.exchange.Negotiated.{Negotiated}
use Rattle.vf_stack.specs.declared.fault.Fault.{Fault}
use Rattle.vf_stack.specs.declared.indication.Indication.{Indication}
use Rattle.vf_upper.specs.Primitives.{reading as user_data_read}
use Rattle.vf_upper.specs.declared.contexts.ContextEntry.{ContextEntry}
use Rattle.vf_upper.specs.declared.contexts.Offer.{Offer}
use Rattle.vf_stack.proofs.EndLemmas.{same-session}

-- ---- an RS that is settled proposes and accepts nothing

settled-entry-offers : (told : SessionSay) (earlier : Trace) (from : TokenSide) → proposals (if is_resync told then earlier else record { from = from; told = told } ∷ earlier) ≡ proposals (record { from = from; told = told } ∷ earlier)
settled-entry-offers (say.Connect sync serial octets) earlier from = refl
settled-entry-offers (say.Accept sync serial octets) earlier from = refl
settled-entry-offers (say.Refuse octets) earlier from = refl
settled-entry-offers (say.Finish octets) earlier from = refl
settled-entry-offers (say.Finished octets) earlier from = refl
settled-entry-offers (say.Data pass octets) earlier from = refl
settled-entry-offers (say.Check serial) earlier from = refl
settled-entry-offers (say.Acknowledge serial) earlier from = refl
settled-entry-offers (say.Resync kind serial token octets) earlier from = refl
settled-entry-offers (say.Resynced serial token octets) earlier from = refl
settled-entry-offers (say.Abort octets) earlier from = refl
settled-entry-offers (say.Token to) earlier from = refl

settled-offers : (trace : Trace) → proposals (settled trace) ≡ proposals trace
settled-offers [] = refl
settled-offers (entry ∷ earlier) = settled-entry-offers entry.told earlier entry.from

settled-entry-accepted : (own : TokenSide) (told : SessionSay) (earlier : Trace) (from : TokenSide) → accepted own (if is_resync told then earlier else record { from = from; told = told } ∷ earlier) ≡ accepted own (record { from = from; told = told } ∷ earlier)
settled-entry-accepted own (say.Connect sync serial octets) earlier from = refl
settled-entry-accepted own (say.Accept sync serial octets) earlier from = refl
settled-entry-accepted own (say.Refuse octets) earlier from = refl
settled-entry-accepted own (say.Finish octets) earlier from = refl
settled-entry-accepted own (say.Finished octets) earlier from = refl
settled-entry-accepted own (say.Data pass octets) earlier from = refl
settled-entry-accepted own (say.Check serial) earlier from = refl
settled-entry-accepted own (say.Acknowledge serial) earlier from = refl
settled-entry-accepted Initiator (say.Resync kind serial token octets) earlier from = refl
settled-entry-accepted Responder (say.Resync kind serial token octets) earlier from = refl
settled-entry-accepted own (say.Resynced serial token octets) earlier from = refl
settled-entry-accepted own (say.Abort octets) earlier from = refl
settled-entry-accepted own (say.Token to) earlier from = refl

settled-accepted : (own : TokenSide) (trace : Trace) → accepted own (settled trace) ≡ accepted own trace
settled-accepted own [] = refl
settled-accepted own (entry ∷ earlier) = settled-entry-accepted own entry.told earlier entry.from

chosen-offers : (b : Bool) (trace : Trace) → proposals (if b then settled trace else trace) ≡ proposals trace
chosen-offers true trace = settled-offers trace
chosen-offers false trace = refl

chosen-accepted : (b : Bool) (own : TokenSide) (trace : Trace) → accepted own (if b then settled trace else trace) ≡ accepted own trace
chosen-accepted true own trace = settled-accepted own trace
chosen-accepted false own trace = refl

received-offers : (own : TokenSide) (unit : SessionSay) (trace : Trace) → proposals (with_received own unit trace) ≡ unwrap_or (proposes unit) (proposals trace)
received-offers own unit trace = ap (λ (offers : List Offer). unwrap_or (proposes unit) offers) (chosen-offers (is_resync unit && is_from own (resync trace)) trace)

received-accepted : (own : TokenSide) (unit : SessionSay) (trace : Trace) → accepted own (with_received own unit trace) ≡ unwrap_or (accepts own (proposals trace) unit) (accepted own trace)
received-accepted own unit trace =
    let b = is_resync unit && is_from own (resync trace) in
    ap (λ (offers : List Offer). unwrap_or (accepts own offers unit) (accepted own (if b then settled trace else trace))) (chosen-offers b trace)
    ∙ ap (λ (contexts : List ContextEntry). unwrap_or (accepts own (proposals trace) unit) contexts) (chosen-accepted b own trace)

-- ---- what is kept

-- Session has taken a unit, which the layers above haven't.
pub record Awaits (kept : KeptExchange) (x : Exchange) (unit : SessionSay) : Type 0 where
  pub session_is : Keeps kept.session (with_received kept.session.side unit x.trace)
  pub traced : IsTraced kept x.trace

traced-unit : (kept : KeptExchange) (x : Exchange) (unit : SessionSay) (ending : Ending) → Awaits kept x unit → IsTraced (with_unit kept unit ending) (with_received kept.session.side unit x.trace)
traced-unit kept x unit ending a =
    let own = kept.session.side in
    let p = a.traced in
    record {
      state_is = sym a.session_is.state_is;
      offers_are = ap (λ (offers : List Offer). unwrap_or (proposes unit) offers) p.offers_are ∙ sym (received-offers own unit x.trace);
      accepted_are = ap (λ (offers : List Offer). unwrap_or (accepts own offers unit) kept.accepted) p.offers_are
          ∙ ap (λ (contexts : List ContextEntry). unwrap_or (accepts own (proposals x.trace) unit) contexts) p.accepted_are
          ∙ sym (received-accepted own unit x.trace);
    }

pub standing-is : (kept : KeptExchange) (trace : Trace) → IsTraced kept trace → standing_of kept ≡ standing kept.session.side trace
standing-is kept trace p =
    let made : List Offer → List ContextEntry → SessionState → Standing = λ offers contexts state. record { offers = offers; accepted = contexts; state = state } in
    ap (λ (offers : List Offer). made offers kept.accepted kept.state) p.offers_are
    ∙ ap (λ (contexts : List ContextEntry). made (proposals trace) contexts kept.state) p.accepted_are
    ∙ ap (λ (state : SessionState). made (proposals trace) (accepted kept.session.side trace) state) p.state_is

-- ---- how receiving ends by it

session-by : (kept : KeptExchange) (trace : Trace) (unit : SessionSay) → Keeps kept.session trace → IsInSession kept trace (ending_by unit)
session-by kept trace (say.Connect sync serial octets) k = k
session-by kept trace (say.Accept sync serial octets) k = k
session-by kept trace (say.Refuse octets) k = tt
session-by kept trace (say.Finish octets) k = k
session-by kept trace (say.Finished octets) k = tt
session-by kept trace (say.Data pass octets) k = k
session-by kept trace (say.Check serial) k = k
session-by kept trace (say.Acknowledge serial) k = k
session-by kept trace (say.Resync kind serial token octets) k = k
session-by kept trace (say.Resynced serial token octets) k = k
session-by kept trace (say.Abort octets) k = tt
session-by kept trace (say.Token to) k = k

pub refused-traced : (kept : KeptExchange) (trace : Trace) → IsTraced kept trace → IsTraced (record kept { ending = Refused }) trace
refused-traced kept trace p = record { state_is = p.state_is; offers_are = p.offers_are; accepted_are = p.accepted_are }

stands-by : (kept : KeptExchange) (x : Exchange) (unit : SessionSay) (told : List Indication) (fault : Option Fault) → Awaits kept x unit
    → Stands (kept_after kept unit told fault) (exchange_after kept.session.side x unit told fault)
stands-by kept x unit told None a =
    record { ending_is = refl; traced = traced-unit kept x unit (ending_by unit) a; in_session = session-by (with_unit kept unit (ending_by unit)) (with_received kept.session.side unit x.trace) unit a.session_is }
stands-by kept x unit [] (Some fault) a = record { ending_is = refl; traced = refused-traced kept x.trace a.traced; in_session = tt }
stands-by kept x unit (first ∷ told) (Some fault) a = record { ending_is = refl; traced = traced-unit kept x unit Partly a; in_session = a.session_is }

-- The unit is received.
pub tells-unit : (kept kept2 : KeptExchange) (x : Exchange) (unit : SessionSay) (out out2 : List Indication)
    → Awaits kept x unit → TellsUnit kept out unit kept2 out2 → Tells out (unit_received kept.session.side x unit) kept2 out2
tells-unit kept kept2 x unit out out2 a t =
    let own = kept.session.side in
    let same : unit_told (standing_of kept) unit ≡ unit_told (standing own x.trace) unit = ap (λ (st : Standing). unit_told st unit) (standing-is kept x.trace a.traced) in
    let told = unit_told (standing own x.trace) unit in
    let K : Told → Type 0 = λ told. (kept2 ≡ kept_after kept unit told.indications told.fault) × (out2 ≡ out ++ all_told told) in
    let t1 : K told = subst K same t in
    let P : KeptExchange → Type 0 = λ k. Stands k (exchange_after own x unit told.indications told.fault) in
    (t1.1, subst P (sym t1.0) (stands-by kept x unit told.indications told.fault a))

-- ---- its indications and its fault

more-than : (A : Type 0) (out : List A) (first : A) (told : List A) → nat_eq (length (out ++ first ∷ told)) (length out) ≡ false
more-than A out first told = let l = length-append out (first ∷ told) in grind (arith, nat_tests)

abbrev pub negotiated_of : KeptExchange → SessionSay → Negotiated
negotiated_of kept unit = record { offers = proposes unit; accepted = accepts kept.session.side kept.offers unit }

concludes-by : (kept kept2 : KeptExchange) (unit : SessionSay) (out out1 out2 told : List Indication) (fault : Option Fault)
    → out1 ≡ out ++ told → Concludes kept (length out) (ending_by unit) (negotiated_of kept unit) out1 fault kept2 out2
    → (kept2 ≡ kept_after kept unit told fault) × (out2 ≡ out ++ (told ++ fault_told fault))
concludes-by kept kept2 unit out out1 out2 told None o c =
    (c.0, c.1 ∙ o ∙ ap (λ (told : List Indication). out ++ told) (sym (append-nil told)))
concludes-by kept kept2 unit out out1 out2 [] (Some fault) o c =
    let same : out1 ≡ out = o ∙ append-nil out in
    let test : nat_eq (length out1) (length out) ≡ true = rw same (grind (arith, nat_tests)) in
    (c.0 ∙ ap (λ (b : Bool). if b then record kept { ending = Refused } else with_unit kept unit Partly) test, c.1 ∙ ap (λ (told : List Indication). told ++ indication_of fault ∷ []) same)
concludes-by kept kept2 unit out out1 out2 (first ∷ told) (Some fault) o c =
    let test : nat_eq (length out1) (length out) ≡ false =
    ap (λ (out1 : List Indication). nat_eq (length out1) (length out)) o ∙ more-than Indication out first told in (
      c.0 ∙ ap (λ (b : Bool). if b then record kept { ending = Refused } else with_unit kept unit Partly) test,
      c.1 ∙ ap (λ (told : List Indication). told ++ indication_of fault ∷ []) o ∙ append_assoc out (first ∷ told) (indication_of fault ∷ []),
    )

concludes-unit : (kept kept2 : KeptExchange) (unit : SessionSay) (out out1 out2 : List Indication) (n : Negotiated) (fault : Option Fault)
    → PutsUnit kept unit out out1 n fault → Concludes kept (length out) (ending_by unit) n out1 fault kept2 out2 → TellsUnit kept out unit kept2 out2
concludes-unit kept kept2 unit out out1 out2 n fault puts c =
    let told = unit_told (standing_of kept) unit in
    let N : Negotiated → Type 0 = λ n. Concludes kept (length out) (ending_by unit) n out1 fault kept2 out2 in
    let c1 : N (negotiated_of kept unit) = subst N puts.0 c in
    let F : Option Fault → Type 0 = λ f. Concludes kept (length out) (ending_by unit) (negotiated_of kept unit) out1 f kept2 out2 in
    concludes-by kept kept2 unit out out1 out2 told.indications told.fault puts.1.0 (subst F puts.1.1 c1)

-- ---- by the user data as they are read

-- the contexts of a unit with this SPDU, or without one
abbrev pub contexts_read : TokenSide → List Offer → List ContextEntry → SayParameters → List ℕ → Option SpduKind → Negotiated
contexts_read own offers accepted unit octets None = record { offers = None; accepted = None }
contexts_read own offers accepted unit octets (Some kind) =
    let read = user_data_read kind (contexts_among offers accepted kind) octets in record { offers = offers_by unit read; accepted = accepted_by own offers unit read }

contexts-same : (own : TokenSide) (unit : SessionSay) (offers : List Offer) (accepted : List ContextEntry)
    → contexts_read own offers accepted (parameters unit) (user_data unit) (carrier (parameters unit)) ≡ record { offers = proposes unit; accepted = accepts own offers unit }
contexts-same Initiator (say.Connect sync serial octets) offers accepted = refl
contexts-same Initiator (say.Accept sync serial octets) offers accepted = refl
contexts-same Initiator (say.Refuse octets) offers accepted = refl
contexts-same Initiator (say.Finish octets) offers accepted = refl
contexts-same Initiator (say.Finished octets) offers accepted = refl
contexts-same Initiator (say.Data pass octets) offers accepted = refl
contexts-same Initiator (say.Check serial) offers accepted = refl
contexts-same Initiator (say.Acknowledge serial) offers accepted = refl
contexts-same Initiator (say.Resync kind serial token octets) offers accepted = refl
contexts-same Initiator (say.Resynced serial token octets) offers accepted = refl
contexts-same Initiator (say.Abort octets) offers accepted = refl
contexts-same Initiator (say.Token to) offers accepted = refl
contexts-same Responder (say.Connect sync serial octets) offers accepted = refl
contexts-same Responder (say.Accept sync serial octets) offers accepted = refl
contexts-same Responder (say.Refuse octets) offers accepted = refl
contexts-same Responder (say.Finish octets) offers accepted = refl
contexts-same Responder (say.Finished octets) offers accepted = refl
contexts-same Responder (say.Data pass octets) offers accepted = refl
contexts-same Responder (say.Check serial) offers accepted = refl
contexts-same Responder (say.Acknowledge serial) offers accepted = refl
contexts-same Responder (say.Resync kind serial token octets) offers accepted = refl
contexts-same Responder (say.Resynced serial token octets) offers accepted = refl
contexts-same Responder (say.Abort octets) offers accepted = refl
contexts-same Responder (say.Token to) offers accepted = refl

abbrev pub PutsCarried : KeptExchange → SayParameters → List ℕ → Option SpduKind → List Indication → List Indication → Negotiated → Option Fault → Type 0
PutsCarried kept unit octets kind out out' n fault =
    (n ≡ contexts_read kept.session.side kept.offers kept.accepted unit octets kind) × Puts (carried_told (standing_of kept) unit octets kind) out out' fault

puts-unit : (kept : KeptExchange) (unit : SessionSay) (kind : Option SpduKind) (out out' : List Indication) (n : Negotiated) (fault : Option Fault)
    → carrier (parameters unit) ≡ kind → PutsCarried kept (parameters unit) (user_data unit) kind out out' n fault → PutsUnit kept unit out out' n fault
puts-unit kept unit kind out out' n fault e puts =
    let K : Option SpduKind → Type 0 = λ k. PutsCarried kept (parameters unit) (user_data unit) k out out' n fault in
    let p : K (carrier (parameters unit)) = subst K (sym e) puts in
    (p.0 ∙ contexts-same kept.session.side unit kept.offers kept.accepted, p.1)

pub puts-some : (kept : KeptExchange) (unit : SessionSay) (kind : SpduKind) (head : SayParameters) (octets : List ℕ) (out out' : List Indication) (n : Negotiated) (fault : Option Fault)
    → head ≡ parameters unit → octets ≡ user_data unit → carrier head ≡ Some kind
    → PutsRead kept head (user_data_read kind (contexts_among kept.offers kept.accepted kind) octets) out out' n fault → PutsUnit kept unit out out' n fault
puts-some kept unit kind head octets out out' n fault same equal some puts =
    let H : SayParameters → Type 0 = λ head. PutsCarried kept head octets (Some kind) out out' n fault in
    let D : List ℕ → Type 0 = λ octets. PutsCarried kept (parameters unit) octets (Some kind) out out' n fault in
    puts-unit kept unit (Some kind) out out' n fault (ap carrier (sym same) ∙ some) (subst D equal (subst H same puts))

-- ---- what session told

pub tells-concluded : (kept kept2 : KeptExchange) (unit : SessionSay) (before : ℕ) (ending : Ending) (out out1 out2 : List Indication) (n : Negotiated) (fault : Option Fault)
    → before ≡ length out → ending ≡ ending_by unit → PutsUnit kept unit out out1 n fault → Concludes kept before ending n out1 fault kept2 out2 → TellsUnit kept out unit kept2 out2
tells-concluded kept kept2 unit before ending out out1 out2 n fault count same puts c =
    let B : ℕ → Type 0 = λ before. Concludes kept before ending n out1 fault kept2 out2 in
    let E : Ending → Type 0 = λ ending. Concludes kept (length out) ending n out1 fault kept2 out2 in
    concludes-unit kept kept2 unit out out1 out2 n fault puts (subst E same (subst B count c))

-- ---- session keeps which end it is, and whether it proposes sync

after-same : (kept kept2 : KeptExchange) (unit : SessionSay) (told : List Indication) (fault : Option Fault) → kept2 ≡ kept_after kept unit told fault → IsSame kept kept2
after-same kept kept2 unit told None e = same-session kept kept2 (ap (λ (k : KeptExchange). k.session) e)
after-same kept kept2 unit [] (Some fault) e = same-session kept kept2 (ap (λ (k : KeptExchange). k.session) e)
after-same kept kept2 unit (first ∷ told) (Some fault) e = same-session kept kept2 (ap (λ (k : KeptExchange). k.session) e)

unit-same : (kept kept2 : KeptExchange) (out out2 : List Indication) (unit : SessionSay) → TellsUnit kept out unit kept2 out2 → IsSame kept kept2
unit-same kept kept2 out out2 unit t =
    let told = unit_told (standing_of kept) unit in
    after-same kept kept2 unit told.indications told.fault t.0

pub tells-same : (kept kept2 : KeptExchange) (out out2 : List Indication) (units : List SessionSay) → TellsUnits kept out units kept2 out2 → IsSame kept kept2
tells-same kept kept2 out out2 [] t = same-session kept kept2 (ap (λ (k : KeptExchange). k.session) t.0)
tells-same kept kept2 out out2 (unit ∷ []) t = unit-same kept kept2 out out2 unit t
tells-same kept kept2 out out2 (unit ∷ other ∷ units) t = t

pub tells-last : (kept kept2 : KeptExchange) (out out2 : List Indication) (before : List SessionSay) (unit : SessionSay) → TellsUnit kept out unit kept2 out2 → TellsUnits kept out (before ++ unit ∷ []) kept2 out2
tells-last kept kept2 out out2 [] unit t = t
tells-last kept kept2 out out2 (first ∷ []) unit t = unit-same kept kept2 out out2 unit t
tells-last kept kept2 out out2 (first ∷ second ∷ before) unit t = unit-same kept kept2 out out2 unit t
