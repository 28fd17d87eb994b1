-- A unit that an SPDU tells, or that may be sent, is one that the trace may grow by.
use Rattle.std.specs.Prelude.{not}
use Rattle.std.proofs.Common.{◌≡◌, ℕ, ◌≤◌, ◌<◌, Bool, true, false, cond, nat_eq, nat_le, nat_lt, ◌&&◌, List, Option, Some, None, unwrap_or, is_none, refl, ap, sym, subst, ◌∙◌, arith, inl, inr, ◌⊎◌}
use Rattle.std.proofs.lemmas.Bool.Decides.{nat_tests}
use Rattle.vf_base.specs.declared.spdu_kind.SpduKind.{SpduKind}
use Rattle.vf_base.specs.declared.spdu_kind.SpduKind.TheVariants as kinds
use Rattle.vf_session.specs.declared.errors.SessionError.{SessionError}
use Rattle.vf_session.specs.declared.meaning.SpduMeaning.{SpduMeaning}
use Rattle.vf_session.specs.declared.meaning.SpduMeaning.TheVariants.{Nothing, Tells, Faulty}
use Rattle.vf_session.specs.declared.resync.PendingResync.{PendingResync}
use Rattle.vf_session_spdu.specs.declared.spdu.Spdu.{Spdu}
use Rattle.vf_session_spdu.specs.declared.spdu.SpduFields.{SpduFields}
use Rattle.vf_session.specs.declared.state.SessionState.{SessionState}
use Rattle.vf_session.specs.declared.units.ResyncKind.{ResyncKind}
use Rattle.vf_session.specs.declared.units.ResyncKind.TheVariants.{Restart, Abandon}
use Rattle.vf_session.specs.declared.units.SessionSay.{SessionSay}
use Rattle.vf_session.specs.declared.units.SessionSay.TheVariants as say
use Rattle.vf_session.specs.declared.units.TokenSide.{TokenSide}
use Rattle.vf_session.specs.declared.units.TokenSide.TheVariants.{Initiator, Responder}
use Rattle.vf_session.specs.Advances.{Grows, advanced}
use Rattle.vf_session_spdu.specs.Fields.{IsReadable, is_serial}
use Rattle.vf_session.specs.Receiving.{receives, receives_by, unwaiting_receives, waiting_receives, allowed_receives, may_come, receives_data, owes, is_open, number_of, resync_of, token_received, check_received, acknowledgement_received, resync_received_by, named}
use Rattle.vf_session_spdu.specs.Numbers.{last_serial}
use Rattle.vf_session.specs.Sending.{is_allowed, is_free, is_written}
use Rattle.vf_session.specs.Trace.{other, is_side, is_from, is_resync, wins}

-- ---- tests

pub and_true : (a b : Bool) → (a && b) ≡ true → (a ≡ true) × (b ≡ true)
and_true true b h = (refl, h)
and_true false b h = absurd cc

told : (b : Bool) (x : SpduMeaning) (e : SessionError) (u : SessionSay) → cond b x (Faulty e) ≡ Tells u → (b ≡ true) × (x ≡ Tells u)
told true x e u h = (refl, h)
told false x e u h = absurd cc

told-not : (b : Bool) (e : SessionError) (x : SpduMeaning) (u : SessionSay) → cond b (Faulty e) x ≡ Tells u → (b ≡ false) × (x ≡ Tells u)
told-not true e x u h = absurd cc
told-not false e x u h = (refl, h)

told-else : (b : Bool) (x : SpduMeaning) (u : SessionSay) → cond b x Nothing ≡ Tells u → x ≡ Tells u
told-else true x u h = h
told-else false x u h = absurd cc

is_told : (a b : SessionSay) → Tells a ≡ Tells b → a ≡ b
is_told a b h = cc

as_told : (own : TokenSide) (s : SessionState) (a u : SessionSay) → Tells a ≡ Tells u → Grows own s a → Grows own s u
as_told own s a u h g = let P : SessionSay → Type 0 = λ u. Grows own s u in subst P (is_told a u h) g

serial-or : (field : Option ℕ) (d : ℕ) → is_serial field ≡ true → d ≤ last_serial → unwrap_or field d ≤ last_serial
serial-or None d h b = b
serial-or (Some n) d h b = grind (arith, nat_tests)

-- ---- no RS waits

-- the other end's RS is owed an RA, or there is none
Other : TokenSide → Option PendingResync → Type 0
Other own r = (r ≡ None) ⊎ (is_from (other own) r ≡ true)

other-side : (own from : TokenSide) → is_side own from ≡ false → is_side (other own) from ≡ true
other-side Initiator Initiator h = absurd cc
other-side Initiator Responder h = refl
other-side Responder Initiator h = refl
other-side Responder Responder h = absurd cc

not-owed : (own : TokenSide) (r : Option PendingResync) → Other own r → not (is_from (other own) r) ≡ true → r ≡ None
unfolding Other
not-owed own r (inl none) h = none
not-owed own r (inr owed) h = let e : not true ≡ true = ap not (sym owed) ∙ h in absurd cc

receives_data-free : (own : TokenSide) (s : SessionState) → Other own s.resync → receives_data own s ≡ true → s.resync ≡ None
receives_data-free own s o h = not-owed own s.resync o (and_true _ _ h).1

-- ---- each SPDU

token-grows : (own : TokenSide) (s : SessionState) (given : Option ℕ) (u : SessionSay) → s.resync ≡ None → token_received own s given ≡ Tells u → Grows own s u
token-grows own s None u free h = absurd cc
token-grows own s (Some item) u free h = as_told own s (say.Token own) u (told-not _ _ _ u h).1 free

check-grows : (own : TokenSide) (s : SessionState) (n : ℕ) (u : SessionSay) → n ≤ last_serial → s.resync ≡ None → check_received own s n ≡ Tells u → Grows own s u
check-grows own s n u b free h =
    let t = told (nat_eq n s.next) (Tells (say.Check n)) _ u (told-not _ _ _ u h).1 in
    let equal : nat_eq n s.next ≡ true = t.0 in
    let e : n ≡ s.next = grind (arith, nat_tests) in
    as_told own s (say.Check n) u t.1 (e, b, free)

acknowledgement-grows : (own : TokenSide) (s : SessionState) (n : ℕ) (u : SessionSay) → s.resync ≡ None → acknowledgement_received s n ≡ Tells u → Grows own s u
acknowledgement-grows own s n u free h =
    let t = told (nat_le s.oldest n && nat_lt n s.next) (Tells (say.Acknowledge n)) _ u h in
    let both = and_true (nat_le s.oldest n) (nat_lt n s.next) t.0 in
    let low : nat_le s.oldest n ≡ true = both.0 in
    let high : nat_lt n s.next ≡ true = both.1 in
    let l : s.oldest ≤ n = grind (arith, nat_tests) in
    let m : n < s.next = grind (arith, nat_tests) in
    as_told own s (say.Acknowledge n) u t.1 (l, m, free)

resync-grows : (own : TokenSide) (s : SessionState) (r : PendingResync) (octets : List ℕ) (kind : ResyncKind) (u : SessionSay) → s.resync ≡ None → resync_received_by s r octets kind ≡ Tells u → Grows own s u
resync-grows own s r octets Restart u free h =
    as_told own s (say.Resync r.kind r.serial r.token octets) u (told _ _ _ u h).1 (inl free)
resync-grows own s r octets Abandon u free h = as_told own s (say.Resync r.kind r.serial r.token octets) u h (inl free)

allowed-grows : (own : TokenSide) (s : SessionState) (fields : SpduFields) (octets : List ℕ) (kind : SpduKind) (u : SessionSay)
    → is_serial fields.first ≡ true → is_serial fields.serial ≡ true → s.first ≤ last_serial → Other own s.resync
    → may_come own s kind ≡ true → allowed_receives own s fields octets kind ≡ Tells u → Grows own s u
allowed-grows own s fields octets kinds.CN u p q b o m h = as_told own s (say.Connect _ _ octets) u h (serial-or fields.first 1 p (omega arith))
allowed-grows own s fields octets kinds.AC u p q b o m h = as_told own s (say.Accept _ _ octets) u h (serial-or fields.first s.first p b)
allowed-grows own s fields octets kinds.RF u p q b o m h = as_told own s (say.Refuse octets) u h tt
allowed-grows own s fields octets kinds.FN u p q b o m h = as_told own s (say.Finish octets) u h (not-owed own s.resync o (and_true (is_open s.phase) (not (owes own s)) m).1)
allowed-grows own s fields octets kinds.DN u p q b o m h = as_told own s (say.Finished octets) u h tt
allowed-grows own s fields octets kinds.AB u p q b o m h = as_told own s (say.Abort octets) u h tt
allowed-grows own s fields octets kinds.AA u p q b o m h = absurd cc
allowed-grows own s fields octets kinds.DT u p q b o m h = as_told own s (say.Data false octets) u h (receives_data-free own s o m)
allowed-grows own s fields octets kinds.GT u p q b o m h = token-grows own s fields.given u (receives_data-free own s o m) h
allowed-grows own s fields octets kinds.MIP u p q b o m h = check-grows own s (number_of fields) u (serial-or fields.serial 0 q (omega arith)) (receives_data-free own s o (and_true (receives_data own s) s.agreed m).0) h
allowed-grows own s fields octets kinds.MIA u p q b o m h = acknowledgement-grows own s (number_of fields) u (receives_data-free own s o (and_true (receives_data own s) s.agreed m).0) h
allowed-grows own s fields octets kinds.RS u p q b o m h = resync-grows own s (resync_of own fields) octets (resync_of own fields).kind u (receives_data-free own s o (and_true (receives_data own s) s.agreed m).0) h
allowed-grows own s fields octets kinds.RA u p q b o m h = absurd cc

unwaiting-grows : (own : TokenSide) (s : SessionState) (fields : SpduFields) (octets : List ℕ) (kind : SpduKind) (u : SessionSay)
    → is_serial fields.first ≡ true → is_serial fields.serial ≡ true → s.first ≤ last_serial → Other own s.resync
    → unwaiting_receives own s fields octets kind ≡ Tells u → Grows own s u
unwaiting-grows own s fields octets kind u p q b o h =
    let t = told (may_come own s kind) (allowed_receives own s fields octets kind) _ u h in
    allowed-grows own s fields octets kind u p q b o t.0 t.1

waiting-grows : (own : TokenSide) (s : SessionState) (r : PendingResync) (fields : SpduFields) (octets : List ℕ) (kind : SpduKind) (u : SessionSay)
    → is_serial fields.serial ≡ true → is_from own s.resync ≡ true → waiting_receives own r fields octets kind ≡ Tells u → Grows own s u
waiting-grows own s r fields octets kinds.RS u q w h =
    as_told own s (say.Resync (resync_of own fields).kind (resync_of own fields).serial (resync_of own fields).token octets) u (told-else (wins (resync_of own fields) r) _ u h) (inr w)
waiting-grows own s r fields octets kinds.RA u q w h =
    as_told own s (say.Resynced (number_of fields) (named own fields.tokens) octets) u (told _ _ _ u h).1 (serial-or fields.serial 0 q (omega arith))
waiting-grows own s r fields octets kinds.AB u q w h = as_told own s (say.Abort octets) u h tt
waiting-grows own s r fields octets kinds.CN u q w h = absurd cc
waiting-grows own s r fields octets kinds.AC u q w h = absurd cc
waiting-grows own s r fields octets kinds.RF u q w h = absurd cc
waiting-grows own s r fields octets kinds.FN u q w h = absurd cc
waiting-grows own s r fields octets kinds.DN u q w h = absurd cc
waiting-grows own s r fields octets kinds.AA u q w h = absurd cc
waiting-grows own s r fields octets kinds.DT u q w h = absurd cc
waiting-grows own s r fields octets kinds.GT u q w h = absurd cc
waiting-grows own s r fields octets kinds.MIP u q w h = absurd cc
waiting-grows own s r fields octets kinds.MIA u q w h = absurd cc

side-grows : (own : TokenSide) (s : SessionState) (r : PendingResync) (fields : SpduFields) (octets : List ℕ) (kind : SpduKind) (u : SessionSay) (test : Bool) → is_side own r.from ≡ test
    → is_serial fields.first ≡ true → is_serial fields.serial ≡ true → s.first ≤ last_serial → s.resync ≡ Some r
    → cond test (waiting_receives own r fields octets kind) (unwaiting_receives own s fields octets kind) ≡ Tells u → Grows own s u
unfolding Other
side-grows own s r fields octets kind u true t p q b e h = waiting-grows own s r fields octets kind u q (ap (is_from own) e ∙ t) h
side-grows own s r fields octets kind u false t p q b e h =
    unwaiting-grows own s fields octets kind u p q b (inr (ap (is_from (other own)) e ∙ other-side own r.from t)) h

by-grows : (own : TokenSide) (s : SessionState) (fields : SpduFields) (octets : List ℕ) (kind : SpduKind) (u : SessionSay) (waits : Option PendingResync)
    → is_serial fields.first ≡ true → is_serial fields.serial ≡ true → s.first ≤ last_serial → s.resync ≡ waits
    → receives_by own s fields octets kind waits ≡ Tells u → Grows own s u
unfolding Other
by-grows own s fields octets kind u None p q b e h = unwaiting-grows own s fields octets kind u p q b (inl e) h
by-grows own s fields octets kind u (Some r) p q b e h = side-grows own s r fields octets kind u (is_side own r.from) refl p q b e h

pub receives-grows : (own : TokenSide) (s : SessionState) (spdu : Spdu) (u : SessionSay) → IsReadable spdu → s.first ≤ last_serial → receives own s spdu ≡ Tells u → Grows own s u
receives-grows own s spdu u readable b h =
    by-grows own s spdu.fields spdu.octets spdu.kind u s.resync readable.first readable.serial b refl h

-- ---- what may be sent

none_is : (r : Option PendingResync) → is_none r ≡ true → r ≡ None
none_is None h = refl
none_is (Some r) h = absurd cc

free-none : (s : SessionState) → is_free s ≡ true → s.resync ≡ None
free-none s h = none_is s.resync (and_true (is_open s.phase) (is_none s.resync) h).1

pub sent-grows : (own : TokenSide) (offer : Bool) (s : SessionState) (u : SessionSay) → s.first ≤ last_serial → is_allowed own offer s u ≡ true → Grows own s u
sent-grows own offer s (say.Connect sync n octets) b h =
    let prefix = and_true _ (nat_le _ _) h in
    let one : nat_eq n 1 ≡ true = (and_true _ (nat_eq n 1) prefix.0).1 in
    grind (arith, nat_tests)
sent-grows own offer s (say.Accept sync n octets) b h =
    let first : nat_eq n s.first ≡ true = (and_true _ (nat_eq n s.first) h).1 in
    grind (arith, nat_tests)
sent-grows own offer s (say.Refuse octets) b h = tt
sent-grows own offer s (say.Finish octets) b h = free-none s h
sent-grows own offer s (say.Finished octets) b h = tt
sent-grows own offer s (say.Data pass octets) b h = free-none s (and_true (is_free s) _ h).0
sent-grows own offer s (say.Check n) b h =
    let written = and_true _ (is_written n) h in
    let next = and_true _ (nat_eq n s.next) written.0 in
    let token = and_true _ (is_side s.token own) next.0 in
    let agreed = and_true (is_free s) s.agreed token.0 in
    let low : nat_le n last_serial ≡ true = written.1 in
    let equal : nat_eq n s.next ≡ true = next.1 in
    let l : n ≤ last_serial = grind (arith, nat_tests) in
    let e : n ≡ s.next = grind (arith, nat_tests) in
    (e, l, free-none s agreed.0)
sent-grows own offer s (say.Acknowledge n) b h =
    let high = and_true _ (nat_lt n s.next) h in
    let low = and_true _ (nat_le s.oldest n) high.0 in
    let agreed = and_true (is_free s) s.agreed low.0 in
    let h1 : nat_lt n s.next ≡ true = high.1 in
    let h2 : nat_le s.oldest n ≡ true = low.1 in
    let l : s.oldest ≤ n = grind (arith, nat_tests) in
    let m : n < s.next = grind (arith, nat_tests) in
    (l, m, free-none s agreed.0)
sent-grows own offer s (say.Resync kind n tok octets) b h =
    let names = and_true _ _ h in
    let written = and_true _ (is_written n) names.0 in
    let numbers = and_true _ _ written.0 in
    inl (free-none s (and_true (is_free s) s.agreed numbers.0).0)
sent-grows own offer s (say.Resynced n tok octets) b h =
    let answer = and_true _ _ h in
    let written = and_true (is_open s.phase) (is_written n) answer.0 in
    let low : nat_le n last_serial ≡ true = written.1 in
    grind (arith, nat_tests)
sent-grows own offer s (say.Abort octets) b h = tt
sent-grows own offer s (say.Token to) b h =
    let to' = and_true _ (is_side to (other own)) h in
    let token = and_true _ (is_side s.token own) to'.0 in
    free-none s (and_true (is_free s) s.agreed token.0).0

-- ---- the numbers that are kept stay in their ranges

abbrev pub InBounds : SessionState → Type 0
InBounds s = (s.first ≤ 999999) × (s.oldest ≤ s.next) × (s.next ≤ 1000000)

pub advanced-bounds : (own from before : TokenSide) (s : SessionState) (u : SessionSay) → Grows own s u → InBounds s → InBounds (advanced own from before s u)
advanced-bounds own from before s (say.Connect sync n octets) g b = (g, omega arith, omega arith)
advanced-bounds own from before s (say.Accept sync n octets) g b = (g, omega arith, omega arith)
advanced-bounds own from before s (say.Refuse octets) g b = b
advanced-bounds own from before s (say.Finish octets) g b = b
advanced-bounds own from before s (say.Finished octets) g b = b
advanced-bounds own from before s (say.Data pass octets) g b = b
advanced-bounds own from before s (say.Check n) g b = let e = g.0 in let m = g.1 in let l = b.1 in (b.0, omega arith, omega arith)
advanced-bounds own from before s (say.Acknowledge n) g b = let m = g.1 in (b.0, omega arith, b.2)
advanced-bounds own from before s (say.Resync kind n tok octets) g b = b
advanced-bounds own from before s (say.Resynced n tok octets) g b = (b.0, omega arith, omega arith)
advanced-bounds own from before s (say.Abort octets) g b = b
advanced-bounds own from before s (say.Token to) g b = b

pub sent-free : (own : TokenSide) (offer : Bool) (s : SessionState) (u : SessionSay) → is_allowed own offer s u ≡ true → is_resync u ≡ true → s.resync ≡ None
sent-free own offer s (say.Connect sync n octets) h r = absurd cc
sent-free own offer s (say.Accept sync n octets) h r = absurd cc
sent-free own offer s (say.Refuse octets) h r = absurd cc
sent-free own offer s (say.Finish octets) h r = absurd cc
sent-free own offer s (say.Finished octets) h r = absurd cc
sent-free own offer s (say.Data pass octets) h r = absurd cc
sent-free own offer s (say.Check n) h r = absurd cc
sent-free own offer s (say.Acknowledge n) h r = absurd cc
sent-free own offer s (say.Resynced n tok octets) h r = absurd cc
sent-free own offer s (say.Abort octets) h r = absurd cc
sent-free own offer s (say.Token to) h r = absurd cc
sent-free own offer s (say.Resync kind n tok octets) h r =
    let names = and_true _ _ h in
    let written = and_true _ (is_written n) names.0 in
    let numbers = and_true _ _ written.0 in
    free-none s (and_true (is_free s) s.agreed numbers.0).0
