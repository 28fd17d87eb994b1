-- What one end may say the other end receives.
use Rattle.std.specs.Prelude.{not}
use Rattle.std.proofs.Common.{◌≡◌, ℕ, ◌≤◌, Bool, true, false, cond, nat_eq, nat_le, nat_lt, ◌&&◌, ◌||◌, List, [], ◌∷◌, ◌++◌, length, Option, Some, None, unwrap_or, is_none, if◌then◌else◌, refl, ap, sym, subst, ◌∙◌, arith}
use Rattle.std.proofs.lemmas.Bool.Decides.{nat_tests}
use Rattle.std.specs.List.{AllByRecursion}
use Rattle.std.specs.Option.{option_map}
use Rattle.vf_base.specs.declared.spdu_kind.SpduKind.TheVariants.{CN, AC, RF, FN, DN, AB, DT, MIP, MIA, RS, RA}
use Rattle.vf_session.specs.declared.errors.SessionError.TheVariants.{State, Token as TokenFault}
use Rattle.vf_session.specs.declared.meaning.SpduMeaning.TheVariants.{Nothing, Tells, Faulty}
use Rattle.vf_session.specs.declared.phase.Phase.{Phase}
use Rattle.vf_session.specs.declared.phase.Phase.TheVariants.{Idle, Asked, Open, Leaving, Left, Aborted, Over}
use Rattle.vf_session.specs.declared.resync.PendingResync.{PendingResync}
use Rattle.vf_session_spdu.specs.declared.spdu.Spdu.{Spdu}
use Rattle.vf_session_spdu.specs.declared.spdu.SpduFields.{SpduFields}
use Rattle.vf_session.specs.declared.state.SessionState.{SessionState}
use Rattle.vf_session.specs.declared.units.ResyncKind.{ResyncKind}
use Rattle.vf_session.specs.declared.units.ResyncKind.TheVariants.{Restart, Abandon}
use Rattle.vf_session.specs.declared.units.SessionSay.{SessionSay}
use Rattle.vf_session.specs.declared.units.SessionSay.TheVariants as say
use Rattle.vf_session.specs.declared.units.TokenSide.{TokenSide}
use Rattle.vf_session.specs.declared.units.TokenSide.TheVariants.{Initiator, Responder}
use Rattle.vf_session.specs.Advances.{advanced}
use Rattle.vf_session.specs.Allowed.{IsAllowed, received, IsRead, newest_resync}
use Rattle.vf_session.specs.Kept.{kept_of}
use Rattle.vf_session_spdu.specs.Fields.{IsReadable}
use Rattle.vf_session_spdu.specs.Fields.{no_fields}
use Rattle.vf_session.specs.Receiving.{receives, receives_by, unwaiting_receives, waiting_receives, allowed_receives, may_come, receives_data, owes, is_idle, is_asked, is_open, is_leaving, is_left, is_over, check_received, acknowledgement_received, resync_received, resync_of, kind_of, named, answer_received, answers}
use Rattle.vf_session.specs.Mutual.{Fits, Agree, Begins, Turns, told_first, told_by, received_of, with_all, IsReceived, Receives}
use Rattle.vf_session.specs.Sending.{may, is_allowed, fits, is_free, names_rightly, numbers_rightly, answers_rightly, answer_number, is_written, spdus, gt, units_fields, serial_fields, reason_fields, abort_fields, resync_code, token_item}
use Rattle.vf_session_spdu.specs.Kinds.{code_of, first_kind, second_kind}
use Rattle.vf_session_spdu.specs.Spelling.{IsWritten, spelling}
use Rattle.vf_session_spdu.proofs.RoundTrip.{reads-alone, reads-after}
use Rattle.vf_session.specs.Trace.{Trace, other, is_side, is_from, state, phase, resync, token, settled, with_received, with_sent}
use Rattle.vf_session.proofs.AllowedLemmas.{allowed-followed, bounds-of, read-readable, stands-sent, stands-received}
use Rattle.vf_session.proofs.GrowLemmas.{and_true}
use Rattle.vf_session.proofs.SentLemmas.{may-written}

-- ---- the two ends' phases

released : (own from : TokenSide) → Fits (cond (is_side own from) Leaving Left) (cond (is_side (other own) from) Leaving Left)
released Initiator Initiator = refl
released Initiator Responder = refl
released Responder Initiator = refl
released Responder Responder = refl

aborted : (own from : TokenSide) → Fits (cond (is_side own from) Aborted Over) (cond (is_side (other own) from) Aborted Over)
aborted Initiator Initiator = refl
aborted Initiator Responder = refl
aborted Responder Initiator = refl
aborted Responder Responder = refl

idle-seen : (p q : Phase) → Fits p q → is_idle p ≡ true → q ≡ Idle
idle-seen Idle q m h = m
idle-seen Asked q m h = absurd cc
idle-seen Open q m h = absurd cc
idle-seen Leaving q m h = absurd cc
idle-seen Left q m h = absurd cc
idle-seen Aborted q m h = absurd cc
idle-seen Over q m h = absurd cc

asked-seen : (p q : Phase) → Fits p q → is_asked p ≡ true → q ≡ Asked
asked-seen Idle q m h = absurd cc
asked-seen Asked q m h = m
asked-seen Open q m h = absurd cc
asked-seen Leaving q m h = absurd cc
asked-seen Left q m h = absurd cc
asked-seen Aborted q m h = absurd cc
asked-seen Over q m h = absurd cc

open-seen : (p q : Phase) → Fits p q → is_open p ≡ true → q ≡ Open
open-seen Idle q m h = absurd cc
open-seen Asked q m h = absurd cc
open-seen Open q m h = m
open-seen Leaving q m h = absurd cc
open-seen Left q m h = absurd cc
open-seen Aborted q m h = absurd cc
open-seen Over q m h = absurd cc

left-seen : (p q : Phase) → Fits p q → is_left p ≡ true → q ≡ Leaving
left-seen Idle q m h = absurd cc
left-seen Asked q m h = absurd cc
left-seen Open q m h = absurd cc
left-seen Leaving q m h = absurd cc
left-seen Left q m h = m
left-seen Aborted q m h = absurd cc
left-seen Over q m h = absurd cc

over-seen : (p q : Phase) → Fits p q → not (is_over p) ≡ true → not (is_over q) ≡ true
over-seen Idle q m h = ap (λ p. not (is_over p)) m
over-seen Asked q m h = ap (λ p. not (is_over p)) m
over-seen Open q m h = ap (λ p. not (is_over p)) m
over-seen Leaving q m h = ap (λ p. not (is_over p)) m
over-seen Left q m h = ap (λ p. not (is_over p)) m
over-seen Aborted q m h = absurd cc
over-seen Over q m h = absurd cc

closed-seen : (p q : Phase) → Fits p q → is_open q ≡ false → is_open p ≡ false
closed-seen Idle q m h = refl
closed-seen Asked q m h = refl
closed-seen Open q m h = sym (ap is_open m) ∙ h
closed-seen Leaving q m h = refl
closed-seen Left q m h = refl
closed-seen Aborted q m h = refl
closed-seen Over q m h = refl

over-turned : (p q : Phase) → is_over p ≡ true → is_over q ≡ true → Fits q p
over-turned p Aborted a b = a
over-turned p Over a b = a
over-turned p Idle a b = absurd cc
over-turned p Asked a b = absurd cc
over-turned p Open a b = absurd cc
over-turned p Leaving a b = absurd cc
over-turned p Left a b = absurd cc

fits-turned : (p q : Phase) → Fits p q → Fits q p
fits-turned Idle q m = let P : Phase → Type 0 = λ q. Fits q Idle in subst P (sym m) refl
fits-turned Asked q m = let P : Phase → Type 0 = λ q. Fits q Asked in subst P (sym m) refl
fits-turned Open q m = let P : Phase → Type 0 = λ q. Fits q Open in subst P (sym m) refl
fits-turned Leaving q m = let P : Phase → Type 0 = λ q. Fits q Leaving in subst P (sym m) refl
fits-turned Left q m = let P : Phase → Type 0 = λ q. Fits q Left in subst P (sym m) refl
fits-turned Aborted q m = over-turned Aborted q refl m
fits-turned Over q m = over-turned Over q refl m

pub turns : (s s' : SessionState) → Turns s s'
turns s s' g =
    record {
      phases_fit = fits-turned s.phase s'.phase g.phases_fit;
      proposed_is = sym g.proposed_is;
      agreed_is = sym g.agreed_is;
      first_is = sym g.first_is;
      next_is = sym g.next_is;
      oldest_is = sym g.oldest_is;
      token_is = sym g.token_is;
      resync_is = sym g.resync_is;
    }

pub begins : (own : TokenSide) → Begins own
begins own = record { phases_fit = refl; proposed_is = refl; agreed_is = refl; first_is = refl; next_is = refl; oldest_is = refl; token_is = refl; resync_is = refl }

-- ---- no RS waits

none_is : (r : Option PendingResync) → is_none r ≡ true → r ≡ None
none_is None h = refl
none_is (Some r) h = absurd cc

-- the newest entry of an allowed trace is the RS that waits
newest : (own : TokenSide) (offer : Bool) (trace : Trace) → IsAllowed own offer trace → newest_resync trace ≡ resync trace
newest own offer trace a = (allowed-followed own offer trace a).follows.newest_is

none-told : (own from : TokenSide) (told : SessionSay) (earlier : Trace) → is_open (phase own (record { from = from; told = told } ∷ earlier)) ≡ false
    → newest_resync (record { from = from; told = told } ∷ earlier) ≡ None
none-told own from (say.Connect sync n o) earlier h = refl
none-told own from (say.Accept sync n o) earlier h = refl
none-told own from (say.Refuse o) earlier h = refl
none-told own from (say.Finish o) earlier h = refl
none-told own from (say.Finished o) earlier h = refl
none-told own from (say.Data pass o) earlier h = refl
none-told own from (say.Check n) earlier h = refl
none-told own from (say.Acknowledge n) earlier h = refl
none-told own from (say.Resync kind n tok o) earlier h = absurd cc
none-told own from (say.Resynced n tok o) earlier h = refl
none-told own from (say.Abort o) earlier h = refl
none-told own from (say.Token to) earlier h = refl

none-newest : (own : TokenSide) (trace : Trace) → is_open (phase own trace) ≡ false → newest_resync trace ≡ None
none-newest own [] h = refl
none-newest own (entry ∷ earlier) h = none-told own entry.from entry.told earlier h

closed-none : (own : TokenSide) (offer : Bool) (trace : Trace) (s' : SessionState) → IsAllowed own offer trace → Agree (state own trace) s' → is_open s'.phase ≡ false → s'.resync ≡ None
closed-none own offer trace s' a g h =
    sym g.resync_is ∙ sym (newest own offer trace a) ∙ none-newest own trace (closed-seen (phase own trace) s'.phase g.phases_fit h)

-- ---- what SPDUs tell

told-one : (own : TokenSide) (trace : Trace) (spdu : Spdu) (unit : SessionSay) → receives own (state own trace) spdu ≡ Tells unit → told_by own trace (spdu ∷ []) ≡ Some (unit ∷ [])
told-one own trace spdu unit h = ap (told_first own trace (λ trace. Some [])) h

told-after : (own : TokenSide) (trace : Trace) (gt spdu : Spdu) (unit : SessionSay) → receives own (state own trace) gt ≡ Nothing → receives own (state own trace) spdu ≡ Tells unit
    → told_by own trace (gt ∷ spdu ∷ []) ≡ Some (unit ∷ [])
told-after own trace gt spdu unit g h = ap (told_first own trace (λ trace. told_by own trace (spdu ∷ []))) g ∙ told-one own trace spdu unit h

comes : (own : TokenSide) (s : SessionState) (spdu : Spdu) → s.resync ≡ None → may_come own s spdu.kind ≡ true → receives own s spdu ≡ allowed_receives own s spdu.fields spdu.octets spdu.kind
comes own s spdu r m =
    ap (receives_by own s spdu.fields spdu.octets spdu.kind) r
    ∙ ap (λ (b : Bool). cond b (allowed_receives own s spdu.fields spdu.octets spdu.kind) (Faulty (State (code_of spdu.kind)))) m

data-comes : (own : TokenSide) (s : SessionState) → s.phase ≡ Open → s.resync ≡ None → receives_data own s ≡ true
data-comes own s p r =
    ap (λ (p : Phase). (is_open p || is_leaving p) && not (owes own s)) p ∙ ap (λ (r : Option PendingResync). not (is_from (other own) r)) r

sync-comes : (own : TokenSide) (s : SessionState) → s.phase ≡ Open → s.resync ≡ None → s.agreed ≡ true → (receives_data own s && s.agreed) ≡ true
sync-comes own s p r a = ap (λ (b : Bool). b && s.agreed) (data-comes own s p r) ∙ a

-- a GT without the token
gt-silent : (own : TokenSide) (s : SessionState) → s.phase ≡ Open → s.resync ≡ None → receives own s (gt false) ≡ Nothing
gt-silent own s p r = comes own s (gt false) r (data-comes own s p r)

-- ---- sides

not-side : (own : TokenSide) (at : TokenSide) → is_side at own ≡ true → is_side at (other own) ≡ false
not-side Initiator Initiator h = refl
not-side Initiator Responder h = absurd cc
not-side Responder Initiator h = absurd cc
not-side Responder Responder h = refl

same-side : (a b : TokenSide) → is_side a b ≡ true → a ≡ b
same-side Initiator Initiator h = refl
same-side Initiator Responder h = absurd cc
same-side Responder Initiator h = absurd cc
same-side Responder Responder h = refl

named-back : (own : TokenSide) (tok : Option TokenSide) → named (other own) (option_map (token_item own) tok) ≡ tok
named-back own None = refl
named-back Initiator (Some Initiator) = refl
named-back Initiator (Some Responder) = refl
named-back Responder (Some Initiator) = refl
named-back Responder (Some Responder) = refl

kind-back : (kind : ResyncKind) → kind_of (Some (resync_code kind)) ≡ kind
kind-back Restart = refl
kind-back Abandon = refl

-- ---- each unit

-- that which is free at one end is so at the other
pub record Free (s : SessionState) : Type 0 where
  pub open_is : s.phase ≡ Open
  pub none_is : s.resync ≡ None

free : (s s' : SessionState) → Agree s s' → is_free s ≡ true → Free s'
free s s' g h =
    let parts = and_true (is_open s.phase) (is_none s.resync) h in
    record { open_is = open-seen s.phase s'.phase g.phases_fit parts.0; none_is = sym g.resync_is ∙ none_is s.resync parts.1 }

connect-received : (own : TokenSide) (s : SessionState) (sync : Bool) (n : ℕ) (o : List ℕ) → is_side own Initiator ≡ true → s.phase ≡ Idle → s.resync ≡ None → n ≡ 1
    → receives (other own) s (record { kind = CN; fields = units_fields sync n; octets = o }) ≡ Tells (say.Connect sync n o)
connect-received Initiator s true n o side p r e = comes Responder s (record { kind = CN; fields = units_fields true n; octets = o }) r (ap is_idle p)
connect-received Initiator s false n o side p r e =
    comes Responder s (record { kind = CN; fields = units_fields false n; octets = o }) r (ap is_idle p) ∙ ap (λ (k : ℕ). Tells (say.Connect false k o)) (sym e)
connect-received Responder s sync n o side p r e = absurd cc

accept-received : (own : TokenSide) (s : SessionState) (sync : Bool) (n : ℕ) (o : List ℕ) → is_side own Responder ≡ true → s.phase ≡ Asked → s.resync ≡ None → cond sync s.proposed true ≡ true → n ≡ s.first
    → receives (other own) s (record { kind = AC; fields = units_fields sync n; octets = o }) ≡ Tells (say.Accept sync n o)
accept-received Responder s true n o side p r a e =
    comes Initiator s (record { kind = AC; fields = units_fields true n; octets = o }) r (ap is_asked p) ∙ ap (λ (b : Bool). Tells (say.Accept b n o)) a
accept-received Responder s false n o side p r a e =
    comes Initiator s (record { kind = AC; fields = units_fields false n; octets = o }) r (ap is_asked p) ∙ ap (λ (k : ℕ). Tells (say.Accept false k o)) (sym e)
accept-received Initiator s sync n o side p r a e = absurd cc

refuse-received : (own : TokenSide) (s : SessionState) (reason : ℕ) (o : List ℕ) → is_side own Responder ≡ true → s.phase ≡ Asked → s.resync ≡ None
    → receives (other own) s (record { kind = RF; fields = reason_fields reason; octets = o }) ≡ Tells (say.Refuse o)
refuse-received Responder s reason o side p r = comes Initiator s (record { kind = RF; fields = reason_fields reason; octets = o }) r (ap is_asked p)
refuse-received Initiator s reason o side p r = absurd cc

finish-received : (own : TokenSide) (s : SessionState) (o : List ℕ) → Free s → receives own s (record { kind = FN; fields = no_fields; octets = o }) ≡ Tells (say.Finish o)
finish-received own s o f =
    let may : (is_open s.phase && not (is_from (other own) s.resync)) ≡ true =
    ap (λ (p : Phase). is_open p && not (is_from (other own) s.resync)) f.open_is ∙ ap (λ (r : Option PendingResync). not (is_from (other own) r)) f.none_is in
    comes own s (record { kind = FN; fields = no_fields; octets = o }) f.none_is may

finished-received : (own : TokenSide) (s : SessionState) (o : List ℕ) → s.phase ≡ Leaving → s.resync ≡ None → receives own s (record { kind = DN; fields = no_fields; octets = o }) ≡ Tells (say.Finished o)
finished-received own s o p r = comes own s (record { kind = DN; fields = no_fields; octets = o }) r (ap is_leaving p)

data-received : (own : TokenSide) (s : SessionState) (o : List ℕ) → Free s → receives own s (record { kind = DT; fields = no_fields; octets = o }) ≡ Tells (say.Data false o)
data-received own s o f = comes own s (record { kind = DT; fields = no_fields; octets = o }) f.none_is (data-comes own s f.open_is f.none_is)

-- the token, from the end that has it
passed : (own : TokenSide) (s : SessionState) → Free s → is_side s.token own ≡ false → receives own s (gt true) ≡ Tells (say.Token own)
passed own s f t =
    comes own s (gt true) f.none_is (data-comes own s f.open_is f.none_is)
    ∙ ap (λ (b : Bool). cond b (Faulty TokenFault) (Tells (say.Token own))) t

check-told : (own : TokenSide) (s : SessionState) (n : ℕ) → is_side s.token own ≡ false → n ≡ s.next → check_received own s n ≡ Tells (say.Check n)
check-told own s n t e =
    let same : nat_eq n s.next ≡ true = grind (arith, nat_tests) in
    rw (t, same) refl

check-received : (own : TokenSide) (s : SessionState) (n : ℕ) → Free s → s.agreed ≡ true → is_side s.token own ≡ false → n ≡ s.next
    → receives own s (record { kind = MIP; fields = serial_fields n; octets = [] }) ≡ Tells (say.Check n)
check-received own s n f a t e =
    comes own s (record { kind = MIP; fields = serial_fields n; octets = [] }) f.none_is (sync-comes own s f.open_is f.none_is a) ∙ check-told own s n t e

acknowledgement-told : (s : SessionState) (n : ℕ) → nat_le s.oldest n ≡ true → nat_lt n s.next ≡ true → acknowledgement_received s n ≡ Tells (say.Acknowledge n)
acknowledgement-told s n l h = rw (l, h) refl

acknowledgement-received : (own : TokenSide) (s : SessionState) (n : ℕ) → Free s → s.agreed ≡ true → nat_le s.oldest n ≡ true → nat_lt n s.next ≡ true
    → receives own s (record { kind = MIA; fields = serial_fields n; octets = [] }) ≡ Tells (say.Acknowledge n)
acknowledgement-received own s n f a l h =
    comes own s (record { kind = MIA; fields = serial_fields n; octets = [] }) f.none_is (sync-comes own s f.open_is f.none_is a) ∙ acknowledgement-told s n l h

-- the fields of an RS and of an RA
abbrev rs : TokenSide → ResyncKind → ℕ → Option TokenSide → SpduFields
rs own kind n tok = record no_fields { tokens = option_map (token_item own) tok; resync = Some (resync_code kind); serial = Some n }

abbrev ra : TokenSide → ℕ → Option TokenSide → SpduFields
ra own n tok = record no_fields { tokens = option_map (token_item own) tok; serial = Some n }

asked-for : (own : TokenSide) (kind : ResyncKind) (n : ℕ) (tok : Option TokenSide) → resync_of (other own) (rs own kind n tok) ≡ record { from = other (other own); kind = kind; serial = n; token = tok }
asked-for own kind n tok =
    let a = kind-back kind in
    let b = named-back own tok in
    rw (a, b) refl

resync-told : (s : SessionState) (from : TokenSide) (kind : ResyncKind) (n : ℕ) (tok : Option TokenSide) (o : List ℕ) → numbers_rightly kind s n ≡ true
    → (let r : PendingResync = record { from = from; kind = kind; serial = n; token = tok } in resync_received s r o) ≡ Tells (say.Resync kind n tok o)
resync-told s from Restart n tok o h = rw h refl
resync-told s from Abandon n tok o h = refl

resync-received : (own : TokenSide) (s : SessionState) (kind : ResyncKind) (n : ℕ) (tok : Option TokenSide) (o : List ℕ) → Free s → s.agreed ≡ true → numbers_rightly kind s n ≡ true
    → receives (other own) s (record { kind = RS; fields = rs own kind n tok; octets = o }) ≡ Tells (say.Resync kind n tok o)
resync-received own s kind n tok o f a h =
    let O = other own in
    comes O s (record { kind = RS; fields = rs own kind n tok; octets = o }) f.none_is (sync-comes O s f.open_is f.none_is a)
    ∙ ap (λ (r : PendingResync). resync_received s r o) (asked-for own kind n tok) ∙ resync-told s (other O) kind n tok o h

numbers-same : (kind : ResyncKind) (s s' : SessionState) (n : ℕ) → s.next ≡ s'.next → numbers_rightly kind s n ≡ true → numbers_rightly kind s' n ≡ true
numbers-same Restart s s' n e h = sym (ap (nat_le n) e) ∙ h
numbers-same Abandon s s' n e h = sym (ap (nat_eq n) e) ∙ h

-- while the other end's RS waits
waits : (own : TokenSide) (s : SessionState) (spdu : Spdu) (r : PendingResync) → s.resync ≡ Some r → is_side own r.from ≡ true → receives own s spdu ≡ waiting_receives own r spdu.fields spdu.octets spdu.kind
waits own s spdu r e side =
    ap (receives_by own s spdu.fields spdu.octets spdu.kind) e
    ∙ ap (λ (b : Bool). cond b (waiting_receives own r spdu.fields spdu.octets spdu.kind) (unwaiting_receives own s spdu.fields spdu.octets spdu.kind)) side

answered : (kind : ResyncKind) (asked next n : ℕ) → n ≡ answer_number kind asked next → answers kind asked n ≡ true
answered Restart asked next n e = grind (arith, nat_tests)
answered Abandon asked next n e =
    let above : asked ≤ n = omega arith in
    grind (arith, nat_tests)

answer-told : (own : TokenSide) (r : PendingResync) (n : ℕ) (tok : Option TokenSide) (o : List ℕ) → answers r.kind r.serial n ≡ true → answer_received r n (named (other own) (option_map (token_item own) tok)) o ≡ Tells (say.Resynced n tok o)
answer-told own r n tok o h =
    let b = named-back own tok in
    rw (h, b) refl

-- an RA, and the GT before it
pub record Answered (own : TokenSide) (s : SessionState) (n : ℕ) (tok : Option TokenSide) (o : List ℕ) : Type 0 where
  pub silent : receives (other own) s (gt false) ≡ Nothing
  pub tells : receives (other own) s (record { kind = RA; fields = ra own n tok; octets = o }) ≡ Tells (say.Resynced n tok o)

answer-received : (own : TokenSide) (s : SessionState) (next : ℕ) (r : PendingResync) (n : ℕ) (tok : Option TokenSide) (o : List ℕ) → s.resync ≡ Some r → is_side (other own) r.from ≡ true → n ≡ answer_number r.kind r.serial next → Answered own s n tok o
answer-received own s next r n tok o e side m =
    let O = other own in
    let spdu : Spdu = record { kind = RA; fields = ra own n tok; octets = o } in
    record {
      silent = waits O s (gt false) r e side;
      tells = waits O s spdu r e side ∙ answer-told own r n tok o (answered r.kind r.serial next n m);
    }

answer-by : (own : TokenSide) (s s' : SessionState) (waiting : Option PendingResync) (n : ℕ) (tok : Option TokenSide) (o : List ℕ) → s'.resync ≡ waiting → answers_rightly own s waiting n tok ≡ true → Answered own s' n tok o
answer-by own s s' None n tok o e h = absurd cc
answer-by own s s' (Some r) n tok o e h =
    let names = and_true (is_side (other own) r.from && nat_eq n (answer_number r.kind r.serial s.next)) (names_rightly r.kind s tok) h in
    let numbers = and_true (is_side (other own) r.from) (nat_eq n (answer_number r.kind r.serial s.next)) names.0 in
    let test : nat_eq n (answer_number r.kind r.serial s.next) ≡ true = numbers.1 in
    answer-received own s' s.next r n tok o e numbers.0 (grind (arith, nat_tests))

-- an abort, whatever waits
abort-side : (own : TokenSide) (s : SessionState) (fields : SpduFields) (o : List ℕ) (b : Bool) → not (is_over s.phase) ≡ true → cond b (Tells (say.Abort o)) (unwaiting_receives own s fields o AB) ≡ Tells (say.Abort o)
abort-side own s fields o true h = refl
abort-side own s fields o false h = ap (λ (b : Bool). cond b (Tells (say.Abort o)) (Faulty (State (code_of AB)))) h

abort-by : (own : TokenSide) (s : SessionState) (fields : SpduFields) (o : List ℕ) (waiting : Option PendingResync) → not (is_over s.phase) ≡ true → receives_by own s fields o AB waiting ≡ Tells (say.Abort o)
abort-by own s fields o None h = ap (λ (b : Bool). cond b (Tells (say.Abort o)) (Faulty (State (code_of AB)))) h
abort-by own s fields o (Some r) h = abort-side own s fields o (is_side own r.from) h

-- ---- what the two ends have then

named-some : (kind : ResyncKind) (s : SessionState) (tok : Option TokenSide) (a b : TokenSide) → names_rightly kind s tok ≡ true → unwrap_or tok a ≡ unwrap_or tok b
named-some Restart s None a b h = absurd cc
named-some Abandon s None a b h = absurd cc
named-some kind s (Some t) a b h = refl

abbrev Names : SessionState → SessionSay → Type 0
Names s (say.Resync kind n tok o) = names_rightly kind s tok ≡ true
Names s sent = Unit {0}

-- by a unit that is received as it was sent
after-agree : (own a b : TokenSide) (s s' : SessionState) (u : SessionSay) → Agree s s' → Names s u → Agree (advanced own own a s u) (advanced (other own) own b s' u)
after-agree own a b s s' (say.Connect sync n o) g k = record { phases_fit = refl; proposed_is = refl; agreed_is = g.agreed_is; first_is = refl; next_is = refl; oldest_is = refl; token_is = g.token_is; resync_is = refl }
after-agree own a b s s' (say.Accept sync n o) g k = record { phases_fit = refl; proposed_is = g.proposed_is; agreed_is = refl; first_is = refl; next_is = refl; oldest_is = refl; token_is = g.token_is; resync_is = refl }
after-agree own a b s s' (say.Refuse o) g k = record { phases_fit = refl; proposed_is = g.proposed_is; agreed_is = g.agreed_is; first_is = g.first_is; next_is = g.next_is; oldest_is = g.oldest_is; token_is = g.token_is; resync_is = refl }
after-agree own a b s s' (say.Finish o) g k = record { phases_fit = released own own; proposed_is = g.proposed_is; agreed_is = g.agreed_is; first_is = g.first_is; next_is = g.next_is; oldest_is = g.oldest_is; token_is = g.token_is; resync_is = g.resync_is }
after-agree own a b s s' (say.Finished o) g k = record { phases_fit = refl; proposed_is = g.proposed_is; agreed_is = g.agreed_is; first_is = g.first_is; next_is = g.next_is; oldest_is = g.oldest_is; token_is = g.token_is; resync_is = refl }
after-agree own a b s s' (say.Data pass o) g k = record { phases_fit = g.phases_fit; proposed_is = g.proposed_is; agreed_is = g.agreed_is; first_is = g.first_is; next_is = g.next_is; oldest_is = g.oldest_is; token_is = ap (cond pass (other own)) g.token_is; resync_is = g.resync_is }
after-agree own a b s s' (say.Check n) g k = record { phases_fit = g.phases_fit; proposed_is = g.proposed_is; agreed_is = g.agreed_is; first_is = g.first_is; next_is = refl; oldest_is = g.oldest_is; token_is = g.token_is; resync_is = g.resync_is }
after-agree own a b s s' (say.Acknowledge n) g k = record { phases_fit = g.phases_fit; proposed_is = g.proposed_is; agreed_is = g.agreed_is; first_is = g.first_is; next_is = g.next_is; oldest_is = refl; token_is = g.token_is; resync_is = g.resync_is }
after-agree own a b s s' (say.Resync kind n tok o) g k = record { phases_fit = refl; proposed_is = g.proposed_is; agreed_is = g.agreed_is; first_is = g.first_is; next_is = g.next_is; oldest_is = g.oldest_is; token_is = named-some kind s tok a b k; resync_is = refl }
after-agree own a b s s' (say.Resynced n tok o) g k = record { phases_fit = g.phases_fit; proposed_is = g.proposed_is; agreed_is = g.agreed_is; first_is = g.first_is; next_is = refl; oldest_is = refl; token_is = ap (unwrap_or tok) g.token_is; resync_is = refl }
after-agree own a b s s' (say.Abort o) g k = record { phases_fit = aborted own own; proposed_is = g.proposed_is; agreed_is = g.agreed_is; first_is = g.first_is; next_is = g.next_is; oldest_is = g.oldest_is; token_is = g.token_is; resync_is = refl }
after-agree own a b s s' (say.Token to) g k = record { phases_fit = g.phases_fit; proposed_is = g.proposed_is; agreed_is = g.agreed_is; first_is = g.first_is; next_is = g.next_is; oldest_is = g.oldest_is; token_is = refl; resync_is = g.resync_is }

-- by the token and the data after it
pass-agree : (own a b c : TokenSide) (s s' : SessionState) (o : List ℕ) → Agree s s'
    → Agree (advanced own own a s (say.Data true o)) (advanced (other own) own c (advanced (other own) own b s' (say.Token (other own))) (say.Data false o))
pass-agree own a b c s s' o g = record { phases_fit = g.phases_fit; proposed_is = g.proposed_is; agreed_is = g.agreed_is; first_is = g.first_is; next_is = g.next_is; oldest_is = g.oldest_is; token_is = refl; resync_is = g.resync_is }

other-twice : (own : TokenSide) → other (other own) ≡ own
other-twice Initiator = refl
other-twice Responder = refl

-- where the other end stands then
stands-then : (own : TokenSide) (offer : Bool) (trace : Trace) (spdu : Spdu) (unit : SessionSay) → IsAllowed (other own) offer trace → IsReadable spdu → receives (other own) (state (other own) trace) spdu ≡ Tells unit
    → state (other own) (with_received (other own) unit trace) ≡ advanced (other own) own (token (settled trace)) (state (other own) trace) unit
stands-then own offer trace spdu unit a r h =
    stands-received (other own) offer trace spdu unit a r h
    ∙ ap (λ (from : TokenSide). advanced (other own) from (token (settled trace)) (state (other own) trace) unit) (other-twice own)

-- ---- the SPDUs that were sent

read-alone : (spdu : Spdu) → IsWritten spdu → first_kind (code_of spdu.kind) ≡ Some spdu.kind → IsRead spdu
read-alone spdu w k = (spelling spdu, [], [], reads-alone spdu w k)

read-after : (spdu : Spdu) → IsWritten (gt false) → IsWritten spdu → second_kind (code_of spdu.kind) ≡ Some spdu.kind → IsRead spdu
read-after spdu g w k = (spelling (gt false) ++ spelling spdu, gt false ∷ [], [], reads-after (gt false) spdu g refl w k)

gt-read : (spdu : Spdu) → IsWritten (gt false) → IsWritten spdu → second_kind (code_of spdu.kind) ≡ Some spdu.kind → IsRead (gt false)
gt-read spdu g w k = (spelling (gt false) ++ spelling spdu, [], spdu ∷ [], reads-after (gt false) spdu g refl w k)

-- a unit that is received as it was sent
pub record Passes (own : TokenSide) (trace : Trace) (sent : SessionSay) : Type 0 where
  pub spdu : Spdu
  pub told : told_by (other own) trace (spdus own sent) ≡ Some (sent ∷ [])
  pub tells : receives (other own) (state (other own) trace) spdu ≡ Tells sent
  pub readable : IsReadable spdu
  pub are_read : AllByRecursion IsRead (spdus own sent)

alone : (own : TokenSide) (trace : Trace) (sent : SessionSay) (spdu : Spdu) → spdus own sent ≡ spdu ∷ [] → AllByRecursion IsWritten (spdus own sent) → first_kind (code_of spdu.kind) ≡ Some spdu.kind
    → receives (other own) (state (other own) trace) spdu ≡ Tells sent → Passes own trace sent
alone own trace sent spdu e w k h =
    let P : List Spdu → Type 0 = λ l. AllByRecursion IsWritten l in
    let Q : List Spdu → Type 0 = λ l. AllByRecursion IsRead l in
    let read = read-alone spdu (subst P e w).0 k in
    record { spdu = spdu; told = ap (told_by (other own) trace) e ∙ told-one (other own) trace spdu sent h; tells = h; readable = read-readable spdu read; are_read = subst Q (sym e) (read, tt) }

after : (own : TokenSide) (trace : Trace) (sent : SessionSay) (spdu : Spdu) → spdus own sent ≡ gt false ∷ spdu ∷ [] → AllByRecursion IsWritten (spdus own sent) → second_kind (code_of spdu.kind) ≡ Some spdu.kind
    → receives (other own) (state (other own) trace) (gt false) ≡ Nothing → receives (other own) (state (other own) trace) spdu ≡ Tells sent → Passes own trace sent
after own trace sent spdu e w k g h =
    let P : List Spdu → Type 0 = λ l. AllByRecursion IsWritten l in
    let Q : List Spdu → Type 0 = λ l. AllByRecursion IsRead l in
    let both = subst P e w in
    let read = read-after spdu both.0 both.1.0 k in
    record { spdu = spdu; told = ap (told_by (other own) trace) e ∙ told-after (other own) trace (gt false) spdu sent g h; tells = h; readable = read-readable spdu read; are_read = subst Q (sym e) (gt-read spdu both.0 both.1.0 k, (read, tt)) }

-- ---- all of them

equal : (a b : ℕ) → nat_eq a b ≡ true → a ≡ b
equal a b h = grind (arith, nat_tests)

-- what stands at both ends before
pub record Before (own : TokenSide) (offer offer' : Bool) (trace trace' : Trace) (sent : SessionSay) : Type 0 where
  pub mine : IsAllowed own offer trace
  pub theirs : IsAllowed (other own) offer' trace'
  pub agree : Agree (state own trace) (state (other own) trace')
  pub may_say : may own offer (state own trace) sent ≡ true

written-of : (own : TokenSide) (offer offer' : Bool) (trace trace' : Trace) (sent : SessionSay) → Before own offer offer' trace trace' sent → AllByRecursion IsWritten (spdus own sent)
written-of own offer offer' trace trace' sent b =
    may-written (kept_of own offer trace) (kept_of own offer trace) sent refl (bounds-of own offer trace (allowed-followed own offer trace b.mine)) b.may_say

received-as-sent : (own : TokenSide) (offer offer' : Bool) (trace trace' : Trace) (sent : SessionSay) → Before own offer offer' trace trace' sent → Names (state own trace) sent → received_of own sent ≡ sent ∷ [] → Passes own trace' sent
    → IsReceived own offer' trace trace' sent
received-as-sent own offer offer' trace trace' sent b names e p =
    let O = other own in
    let after = with_received O sent trace' in
    let mine = stands-sent own offer trace sent b.mine b.may_say in
    let theirs = stands-then own offer' trace' p.spdu sent b.theirs p.readable p.tells in
    let agree : Agree (state own (with_sent own sent trace)) (state O after) =
    let P : SessionState → Type 0 = λ s. Agree s (state O after) in
    let Q : SessionState → Type 0 = λ s. Agree (advanced own own (token (settled trace)) (state own trace) sent) s in
    subst P (sym mine) (subst Q (sym theirs) (after-agree own (token (settled trace)) (token (settled trace')) (state own trace) (state O trace') sent b.agree names)) in
    let allowed : IsAllowed O offer' after = received trace' p.spdu sent b.theirs p.readable p.tells in
    let R : List SessionSay → Type 0 = λ units. Agree (state own (with_sent own sent trace)) (state O (with_all O units trace')) in
    let S : List SessionSay → Type 0 = λ units. IsAllowed O offer' (with_all O units trace') in
    record { told = p.told ∙ ap (λ (units : List SessionSay). Some units) (sym e); agree = subst R (sym e) agree; allowed = subst S (sym e) allowed; are_read = p.are_read }

-- the token and the data after it
received-passed : (own : TokenSide) (offer offer' : Bool) (trace trace' : Trace) (o : List ℕ) → Before own offer offer' trace trace' (say.Data true o) → IsReceived own offer' trace trace' (say.Data true o)
received-passed own offer offer' trace trace' o b =
    let O = other own in
    let s = state own trace in
    let s' = state O trace' in
    let allowed = (and_true (is_allowed own offer s (say.Data true o)) (fits own (say.Data true o)) b.may_say).0 in
    let parts = and_true (is_free s) (s.agreed && is_side s.token own) allowed in
    let f = free s s' b.agree parts.0 in
    let holder : is_side s'.token own ≡ true = sym (ap (λ (t : TokenSide). is_side t own) b.agree.token_is) ∙ (and_true s.agreed (is_side s.token own) parts.1).1 in
    let dt : Spdu = record { kind = DT; fields = no_fields; octets = o } in
    let w = written-of own offer offer' trace trace' (say.Data true o) b in
    let gt-tells = passed O s' f (not-side own s'.token holder) in
    let token-read : IsRead (gt true) = (spelling (gt true) ++ spelling dt, [], dt ∷ [], reads-after (gt true) dt w.0 refl w.1.0 refl) in
    let dt-read : IsRead dt = (spelling (gt true) ++ spelling dt, gt true ∷ [], [], reads-after (gt true) dt w.0 refl w.1.0 refl) in
    let middle = with_received O (say.Token O) trace' in
    let middle-allowed : IsAllowed O offer' middle = received trace' (gt true) (say.Token O) b.theirs (read-readable (gt true) token-read) gt-tells in
    let still : Free (state O middle) = record { open_is = f.open_is; none_is = f.none_is } in
    let dt-tells = data-received O (state O middle) o still in
    let after = with_received O (say.Data false o) middle in
    let mine = stands-sent own offer trace (say.Data true o) b.mine b.may_say in
    let first = stands-then own offer' trace' (gt true) (say.Token O) b.theirs (read-readable (gt true) token-read) gt-tells in
    let second = stands-then own offer' middle dt (say.Data false o) middle-allowed (read-readable dt dt-read) dt-tells in
    let P : SessionState → Type 0 = λ x. Agree x (state O after) in
    let Q : SessionState → Type 0 = λ x. Agree (advanced own own (token (settled trace)) s (say.Data true o)) x in
    let R : SessionState → Type 0 = λ x. Agree (advanced own own (token (settled trace)) s (say.Data true o)) (advanced O own (token (settled middle)) x (say.Data false o)) in
    record {
      told = ap (told_first O trace' (λ trace. told_by O trace (dt ∷ []))) gt-tells ∙ ap (option_map (λ units. say.Token O ∷ units)) (told-one O middle dt (say.Data false o) dt-tells);
      agree = subst P (sym mine) (subst Q (sym second) (subst R (sym first) (pass-agree own (token (settled trace)) (token (settled trace')) (token (settled middle)) s s' o b.agree)));
      allowed = received middle dt (say.Data false o) middle-allowed (read-readable dt dt-read) dt-tells;
      are_read = (token-read, (dt-read, tt));
    }

sent-by : (own : TokenSide) (offer offer' : Bool) (trace trace' : Trace) (sent : SessionSay) → Before own offer offer' trace trace' sent → IsReceived own offer' trace trace' sent
sent-by own offer offer' trace trace' (say.Connect sync n o) b =
    let O = other own in
    let s = state own trace in
    let s' = state O trace' in
    let allowed = (and_true (is_allowed own offer s (say.Connect sync n o)) (fits own (say.Connect sync n o)) b.may_say).0 in
    let number = and_true _ (nat_eq n 1) (and_true _ (nat_le (length o) 10240) allowed).0 in
    let proposal = and_true (is_side own Initiator && is_idle s.phase) _ number.0 in
    let side = and_true (is_side own Initiator) (is_idle s.phase) proposal.0 in
    let idle = idle-seen s.phase s'.phase b.agree.phases_fit side.1 in
    received-as-sent own offer offer' trace trace' (say.Connect sync n o) b tt refl
    (alone own trace' (say.Connect sync n o) (record { kind = CN; fields = units_fields sync n; octets = o }) refl (written-of own offer offer' trace trace' (say.Connect sync n o) b) refl
    (connect-received own s' sync n o side.0 idle (closed-none own offer trace s' b.mine b.agree (ap is_open idle)) (equal n 1 number.1)))
sent-by own offer offer' trace trace' (say.Accept sync n o) b =
    let O = other own in
    let s = state own trace in
    let s' = state O trace' in
    let allowed = (and_true (is_allowed own offer s (say.Accept sync n o)) (fits own (say.Accept sync n o)) b.may_say).0 in
    let number = and_true _ (nat_eq n s.first) allowed in
    let agreement = and_true (is_side own Responder && is_asked s.phase) _ number.0 in
    let side = and_true (is_side own Responder) (is_asked s.phase) agreement.0 in
    let asked = asked-seen s.phase s'.phase b.agree.phases_fit side.1 in
    received-as-sent own offer offer' trace trace' (say.Accept sync n o) b tt refl
    (alone own trace' (say.Accept sync n o) (record { kind = AC; fields = units_fields sync n; octets = o }) refl (written-of own offer offer' trace trace' (say.Accept sync n o) b) refl
    (accept-received own s' sync n o side.0 asked (closed-none own offer trace s' b.mine b.agree (ap is_open asked)) (sym (ap (λ (p : Bool). cond sync p true) b.agree.proposed_is) ∙ agreement.1) (equal n s.first number.1 ∙ b.agree.first_is)))
sent-by own offer offer' trace trace' (say.Refuse o) b =
    let O = other own in
    let s = state own trace in
    let s' = state O trace' in
    let side = and_true (is_side own Responder) (is_asked s.phase) (and_true (is_allowed own offer s (say.Refuse o)) (fits own (say.Refuse o)) b.may_say).0 in
    let asked = asked-seen s.phase s'.phase b.agree.phases_fit side.1 in
    let reason = if nat_eq (length o) 0 then 0 else 2 in
    received-as-sent own offer offer' trace trace' (say.Refuse o) b tt refl
    (alone own trace' (say.Refuse o) (record { kind = RF; fields = reason_fields reason; octets = o }) refl (written-of own offer offer' trace trace' (say.Refuse o) b) refl
    (refuse-received own s' reason o side.0 asked (closed-none own offer trace s' b.mine b.agree (ap is_open asked))))
sent-by own offer offer' trace trace' (say.Finish o) b =
    let s = state own trace in
    let s' = state (other own) trace' in
    let f = free s s' b.agree (and_true (is_allowed own offer s (say.Finish o)) (fits own (say.Finish o)) b.may_say).0 in
    received-as-sent own offer offer' trace trace' (say.Finish o) b tt refl
    (alone own trace' (say.Finish o) (record { kind = FN; fields = no_fields; octets = o }) refl (written-of own offer offer' trace trace' (say.Finish o) b) refl (finish-received (other own) s' o f))
sent-by own offer offer' trace trace' (say.Finished o) b =
    let O = other own in
    let s = state own trace in
    let s' = state O trace' in
    let leaving = left-seen s.phase s'.phase b.agree.phases_fit (and_true (is_allowed own offer s (say.Finished o)) (fits own (say.Finished o)) b.may_say).0 in
    received-as-sent own offer offer' trace trace' (say.Finished o) b tt refl
    (alone own trace' (say.Finished o) (record { kind = DN; fields = no_fields; octets = o }) refl (written-of own offer offer' trace trace' (say.Finished o) b) refl
    (finished-received O s' o leaving (closed-none own offer trace s' b.mine b.agree (ap is_open leaving))))
sent-by own offer offer' trace trace' (say.Data true o) b = received-passed own offer offer' trace trace' o b
sent-by own offer offer' trace trace' (say.Data false o) b =
    let O = other own in
    let s = state own trace in
    let s' = state O trace' in
    let parts = and_true (is_free s) true (and_true (is_allowed own offer s (say.Data false o)) (fits own (say.Data false o)) b.may_say).0 in
    let f = free s s' b.agree parts.0 in
    received-as-sent own offer offer' trace trace' (say.Data false o) b tt refl
    (after own trace' (say.Data false o) (record { kind = DT; fields = no_fields; octets = o }) refl (written-of own offer offer' trace trace' (say.Data false o) b) refl (gt-silent O s' f.open_is f.none_is) (data-received O s' o f))
sent-by own offer offer' trace trace' (say.Check n) b =
    let O = other own in
    let s = state own trace in
    let s' = state O trace' in
    let allowed = (and_true (is_allowed own offer s (say.Check n)) (fits own (say.Check n)) b.may_say).0 in
    let number = and_true _ (nat_eq n s.next) (and_true _ (is_written n) allowed).0 in
    let holder = and_true (is_free s && s.agreed) (is_side s.token own) number.0 in
    let sync = and_true (is_free s) s.agreed holder.0 in
    let f = free s s' b.agree sync.0 in
    let theirs : is_side s'.token own ≡ true = sym (ap (λ (t : TokenSide). is_side t own) b.agree.token_is) ∙ holder.1 in
    received-as-sent own offer offer' trace trace' (say.Check n) b tt refl
    (after own trace' (say.Check n) (record { kind = MIP; fields = serial_fields n; octets = [] }) refl (written-of own offer offer' trace trace' (say.Check n) b) refl (gt-silent O s' f.open_is f.none_is)
    (check-received O s' n f (sym b.agree.agreed_is ∙ sync.1) (not-side own s'.token theirs) (equal n s.next number.1 ∙ b.agree.next_is)))
sent-by own offer offer' trace trace' (say.Acknowledge n) b =
    let O = other own in
    let s = state own trace in
    let s' = state O trace' in
    let high = and_true (is_free s && s.agreed && nat_le s.oldest n) (nat_lt n s.next) (and_true (is_allowed own offer s (say.Acknowledge n)) (fits own (say.Acknowledge n)) b.may_say).0 in
    let low = and_true (is_free s && s.agreed) (nat_le s.oldest n) high.0 in
    let sync = and_true (is_free s) s.agreed low.0 in
    let f = free s s' b.agree sync.0 in
    received-as-sent own offer offer' trace trace' (say.Acknowledge n) b tt refl
    (after own trace' (say.Acknowledge n) (record { kind = MIA; fields = serial_fields n; octets = [] }) refl (written-of own offer offer' trace trace' (say.Acknowledge n) b) refl (gt-silent O s' f.open_is f.none_is)
    (acknowledgement-received O s' n f (sym b.agree.agreed_is ∙ sync.1) (sym (ap (λ (k : ℕ). nat_le k n) b.agree.oldest_is) ∙ low.1) (sym (ap (nat_lt n) b.agree.next_is) ∙ high.1)))
sent-by own offer offer' trace trace' (say.Resync kind n tok o) b =
    let O = other own in
    let s = state own trace in
    let s' = state O trace' in
    let allowed = (and_true (is_allowed own offer s (say.Resync kind n tok o)) (fits own (say.Resync kind n tok o)) b.may_say).0 in
    let names = and_true _ (names_rightly kind s tok) allowed in
    let written = and_true _ (is_written n) names.0 in
    let number = and_true (is_free s && s.agreed) (numbers_rightly kind s n) written.0 in
    let sync = and_true (is_free s) s.agreed number.0 in
    let f = free s s' b.agree sync.0 in
    received-as-sent own offer offer' trace trace' (say.Resync kind n tok o) b names.1 refl
    (after own trace' (say.Resync kind n tok o) (record { kind = RS; fields = rs own kind n tok; octets = o }) refl (written-of own offer offer' trace trace' (say.Resync kind n tok o) b) refl (gt-silent O s' f.open_is f.none_is)
    (resync-received own s' kind n tok o f (sym b.agree.agreed_is ∙ sync.1) (numbers-same kind s s' n b.agree.next_is number.1)))
sent-by own offer offer' trace trace' (say.Resynced n tok o) b =
    let O = other own in
    let s = state own trace in
    let s' = state O trace' in
    let allowed = (and_true (is_allowed own offer s (say.Resynced n tok o)) (fits own (say.Resynced n tok o)) b.may_say).0 in
    let a = answer-by own s s' s.resync n tok o (sym b.agree.resync_is) (and_true (is_open s.phase && is_written n) (answers_rightly own s s.resync n tok) allowed).1 in
    received-as-sent own offer offer' trace trace' (say.Resynced n tok o) b tt refl
    (after own trace' (say.Resynced n tok o) (record { kind = RA; fields = ra own n tok; octets = o }) refl (written-of own offer offer' trace trace' (say.Resynced n tok o) b) refl a.silent a.tells)
sent-by own offer offer' trace trace' (say.Abort o) b =
    let O = other own in
    let s = state own trace in
    let s' = state O trace' in
    let over = over-seen s.phase s'.phase b.agree.phases_fit (and_true (is_allowed own offer s (say.Abort o)) (fits own (say.Abort o)) b.may_say).0 in
    let fields = abort_fields (if nat_eq (length o) 0 then 5 else 3) in
    received-as-sent own offer offer' trace trace' (say.Abort o) b tt refl
    (alone own trace' (say.Abort o) (record { kind = AB; fields = fields; octets = o }) refl (written-of own offer offer' trace trace' (say.Abort o) b) refl (abort-by O s' fields o s'.resync over))
sent-by own offer offer' trace trace' (say.Token to) b =
    let O = other own in
    let s = state own trace in
    let s' = state O trace' in
    let named = and_true (is_free s && s.agreed && is_side s.token own) (is_side to O) (and_true (is_allowed own offer s (say.Token to)) (fits own (say.Token to)) b.may_say).0 in
    let holder = and_true (is_free s && s.agreed) (is_side s.token own) named.0 in
    let f = free s s' b.agree (and_true (is_free s) s.agreed holder.0).0 in
    let theirs : is_side s'.token own ≡ true = sym (ap (λ (t : TokenSide). is_side t own) b.agree.token_is) ∙ holder.1 in
    received-as-sent own offer offer' trace trace' (say.Token to) b tt refl
    (alone own trace' (say.Token to) (gt true) refl (written-of own offer offer' trace trace' (say.Token to) b) refl
    (passed O s' f (not-side own s'.token theirs) ∙ ap (λ (side : TokenSide). Tells (say.Token side)) (sym (same-side to O named.1))))

pub sent-received : (own : TokenSide) (offer offer' : Bool) (trace trace' : Trace) (sent : SessionSay) → Receives own offer offer' trace trace' sent
sent-received own offer offer' trace trace' sent mine theirs agree may_say =
    sent-by own offer offer' trace trace' sent (record { mine = mine; theirs = theirs; agree = agree; may_say = may_say })
