-- Each SPDU in which a unit is sent, where it may be, has a spelling.
use Rattle.std.proofs.Common.{◌≡◌, ℕ, ◌≤◌, Bool, true, false, cond, nat_eq, nat_le, nat_lt, ◌&&◌, List, [], ◌∷◌, length, Option, Some, None, if◌then◌else◌, refl, subst, arith, inl, inr}
use Rattle.std.proofs.lemmas.Bool.Decides.{nat_tests}
use Rattle.std.specs.List.{list_all, AllByRecursion}
use Rattle.vf_base.specs.declared.spdu_kind.SpduKind.TheVariants as kinds
use Rattle.vf_session.specs.declared.resync.PendingResync.{PendingResync}
use Rattle.vf_session_spdu.specs.declared.spdu.Spdu.{Spdu}
use Rattle.vf_session.specs.declared.state.SessionState.{SessionState}
use Rattle.vf_session.specs.declared.units.ResyncKind.{ResyncKind}
use Rattle.vf_session.specs.declared.units.ResyncKind.TheVariants.{Restart, Abandon}
use Rattle.vf_session.specs.declared.units.SessionSay.{SessionSay}
use Rattle.vf_session.specs.declared.units.SessionSay.TheVariants as say
use Rattle.vf_session.specs.declared.units.TokenSide.{TokenSide}
use Rattle.vf_session_spdu.specs.Fields.{no_fields}
use Rattle.vf_session_spdu.specs.Numbers.{last_serial}
use Rattle.vf_session.specs.Advances.{Grows}
use Rattle.vf_session.specs.Kept.{Kept}
use Rattle.vf_session.specs.Sending.{may, is_allowed, fits, has_room, spdus, gt, units_fields, reason_fields, abort_fields, serial_fields, resync_code, token_item, names_rightly, answers_rightly, is_written, answer_number}
use Rattle.vf_session_spdu.specs.Spelling.{IsWritten, HasFields, HasUnits, HasReason, HasAbort, IsSide, spelled_parameters}
use Rattle.vf_session.specs.Trace.{other, is_side, is_resync}
use Rattle.vf_session.proofs.GrowLemmas.{and_true, InBounds, sent-free, sent-grows}

room-of : (spdu : Spdu) → has_room spdu ≡ true → length (spelled_parameters spdu) ≤ 65535
room-of spdu h = grind (arith, nat_tests)

written : (spdu : Spdu) → HasFields spdu.kind spdu.fields spdu.octets → has_room spdu ≡ true → IsWritten spdu
written spdu f r = record { has_fields = f; room = room-of spdu r }

one-room : (spdu : Spdu) → list_all has_room (spdu ∷ []) ≡ true → has_room spdu ≡ true
one-room spdu h = (and_true (has_room spdu) true h).0

two-room : (a b : Spdu) → list_all has_room (a ∷ b ∷ []) ≡ true → (has_room a ≡ true) × (has_room b ≡ true)
two-room a b h = let both = and_true (has_room a) (list_all has_room (b ∷ [])) h in (both.0, one-room b both.1)

has-units : (sync : Bool) (n : ℕ) → n ≤ last_serial → HasUnits (units_fields sync n)
has-units true n h = inr (n, h, refl)
has-units false n h = inl refl

gt-written : (pass : Bool) → has_room (gt pass) ≡ true → IsWritten (gt pass)
gt-written true r = written (gt true) (inr refl, refl) r
gt-written false r = written (gt false) (inl refl, refl) r

none : (o : List ℕ) → nat_eq (length o) 0 ≡ true → o ≡ []
none [] h = refl
none (x ∷ o) h = absurd (grind (arith, nat_tests))

has-reason : (o : List ℕ) (b : Bool) → nat_eq (length o) 0 ≡ b → HasReason (reason_fields (cond b 0 2)) o
has-reason o true h = inr (refl, none o h)
has-reason o false h = let some : 1 ≤ length o = grind (arith, nat_tests) in inl (refl, some)

has-abort : (o : List ℕ) (b : Bool) → nat_eq (length o) 0 ≡ b → HasAbort (abort_fields (cond b 5 3)) o
has-abort o true h = inr (refl, none o h)
has-abort o false h = let some : 1 ≤ length o = grind (arith, nat_tests) in inl (refl, some)

is-item : (own side : TokenSide) → IsSide (token_item own side)
is-item own side = elim (is_side own side) as (λ b. IsSide (cond b 0 4)) [ true ↦ inl refl | false ↦ inr refl ]

is-resync-code : (kind : ResyncKind) → resync_code kind ≤ 1
is-resync-code Restart = omega arith
is-resync-code Abandon = omega arith

number-written : (n : ℕ) → nat_le n last_serial ≡ true → n ≤ last_serial
number-written n h = grind (arith, nat_tests)

unnamed : (kind : ResyncKind) (s : SessionState) → names_rightly kind s None ≡ true → ⊥
unnamed Restart s h = cc
unnamed Abandon s h = cc

resync-written : (own : TokenSide) (s : SessionState) (kind : ResyncKind) (n : ℕ) (tok : Option TokenSide) (o : List ℕ) → n ≤ last_serial → names_rightly kind s tok ≡ true
    → fits own (say.Resync kind n tok o) ≡ true → AllByRecursion IsWritten (spdus own (say.Resync kind n tok o))
resync-written own s kind n None o b h f = absurd (unnamed kind s h)
resync-written own s kind n (Some side) o b h f =
    let spdu : Spdu = record { kind = kinds.RS; fields = record no_fields { tokens = Some (token_item own side); resync = Some (resync_code kind); serial = Some n }; octets = o } in
    let r = two-room (gt false) spdu f in
    (gt-written false r.0, (written spdu (token_item own side, resync_code kind, n, is-item own side, is-resync-code kind, b, refl) r.1, tt))

resynced-written : (own : TokenSide) (s : SessionState) (kind : ResyncKind) (n : ℕ) (tok : Option TokenSide) (o : List ℕ) → n ≤ last_serial → names_rightly kind s tok ≡ true
    → fits own (say.Resynced n tok o) ≡ true → AllByRecursion IsWritten (spdus own (say.Resynced n tok o))
resynced-written own s kind n None o b h f = absurd (unnamed kind s h)
resynced-written own s kind n (Some side) o b h f =
    let spdu : Spdu = record { kind = kinds.RA; fields = record no_fields { tokens = Some (token_item own side); serial = Some n }; octets = o } in
    let r = two-room (gt false) spdu f in
    (gt-written false r.0, (written spdu (token_item own side, n, is-item own side, b, refl) r.1, tt))

answer-written : (own : TokenSide) (s : SessionState) (waits : Option PendingResync) (n : ℕ) (tok : Option TokenSide) (o : List ℕ) → n ≤ last_serial → answers_rightly own s waits n tok ≡ true
    → fits own (say.Resynced n tok o) ≡ true → AllByRecursion IsWritten (spdus own (say.Resynced n tok o))
answer-written own s None n tok o b h f = absurd cc
answer-written own s (Some r) n tok o b h f =
    resynced-written own s r.kind n tok o b (and_true (is_side (other own) r.from && nat_eq n (answer_number r.kind r.serial s.next)) (names_rightly r.kind s tok) h).1 f

pub sent-written : (own : TokenSide) (offer : Bool) (s : SessionState) (u : SessionSay) → InBounds s → is_allowed own offer s u ≡ true → fits own u ≡ true → AllByRecursion IsWritten (spdus own u)
sent-written own offer s (say.Connect sync n o) b h f =
    let long = and_true _ (nat_le (length o) 10240) h in
    let one : nat_eq n 1 ≡ true = (and_true _ (nat_eq n 1) long.0).1 in
    let fit : nat_le (length o) 10240 ≡ true = long.1 in
    let small : n ≤ last_serial = grind (arith, nat_tests) in
    let short : length o ≤ 10240 = grind (arith, nat_tests) in
    let spdu : Spdu = record { kind = kinds.CN; fields = units_fields sync n; octets = o } in
    (written spdu (has-units sync n small, short) (one-room spdu f), tt)
sent-written own offer s (say.Accept sync n o) b h f =
    let first : nat_eq n s.first ≡ true = (and_true _ (nat_eq n s.first) h).1 in
    let bound = b.0 in
    let small : n ≤ last_serial = grind (arith, nat_tests) in
    let spdu : Spdu = record { kind = kinds.AC; fields = units_fields sync n; octets = o } in
    (written spdu (has-units sync n small) (one-room spdu f), tt)
sent-written own offer s (say.Refuse o) b h f =
    let spdu : Spdu = record { kind = kinds.RF; fields = reason_fields (if nat_eq (length o) 0 then 0 else 2); octets = o } in
    (written spdu (has-reason o (nat_eq (length o) 0) refl) (one-room spdu f), tt)
sent-written own offer s (say.Finish o) b h f =
    let spdu : Spdu = record { kind = kinds.FN; fields = no_fields; octets = o } in
    (written spdu refl (one-room spdu f), tt)
sent-written own offer s (say.Finished o) b h f =
    let spdu : Spdu = record { kind = kinds.DN; fields = no_fields; octets = o } in
    (written spdu refl (one-room spdu f), tt)
sent-written own offer s (say.Data pass o) b h f =
    let spdu : Spdu = record { kind = kinds.DT; fields = no_fields; octets = o } in
    let r = two-room (gt pass) spdu f in
    (gt-written pass r.0, (written spdu refl r.1, tt))
sent-written own offer s (say.Check n) b h f =
    let spdu : Spdu = record { kind = kinds.MIP; fields = serial_fields n; octets = [] } in
    let r = two-room (gt false) spdu f in
    (gt-written false r.0, (written spdu (n, number-written n (and_true _ (is_written n) h).1, refl, refl) r.1, tt))
sent-written own offer s (say.Acknowledge n) b h f =
    let high : nat_lt n s.next ≡ true = (and_true _ (nat_lt n s.next) h).1 in
    let bound = b.2 in
    let small : n ≤ last_serial = grind (arith, nat_tests) in
    let spdu : Spdu = record { kind = kinds.MIA; fields = serial_fields n; octets = [] } in
    let r = two-room (gt false) spdu f in
    (gt-written false r.0, (written spdu (n, small, refl, refl) r.1, tt))
sent-written own offer s (say.Resync kind n tok o) b h f =
    let names = and_true _ (names_rightly kind s tok) h in
    resync-written own s kind n tok o (number-written n (and_true _ (is_written n) names.0).1) names.1 f
sent-written own offer s (say.Resynced n tok o) b h f =
    let answer = and_true _ (answers_rightly own s s.resync n tok) h in
    answer-written own s s.resync n tok o (number-written n (and_true _ (is_written n) answer.0).1) answer.1 f
sent-written own offer s (say.Abort o) b h f =
    let spdu : Spdu = record { kind = kinds.AB; fields = abort_fields (if nat_eq (length o) 0 then 5 else 3); octets = o } in
    (written spdu (has-abort o (nat_eq (length o) 0) refl) (one-room spdu f), tt)
sent-written own offer s (say.Token to) b h f = (gt-written true (one-room (gt true) f), tt)

-- ---- by what a session keeps

may-parts : (kept : Kept) (u : SessionSay) → may kept.side kept.offer kept.state u ≡ true → (is_allowed kept.side kept.offer kept.state u ≡ true) × (fits kept.side u ≡ true)
may-parts kept u h = and_true (is_allowed kept.side kept.offer kept.state u) (fits kept.side u) h

pub may-written : (kept view : Kept) (u : SessionSay) → view ≡ kept → InBounds view.state → may kept.side kept.offer kept.state u ≡ true → AllByRecursion IsWritten (spdus kept.side u)
may-written kept view u e b h =
    let P : Kept → Type 0 = λ k. InBounds k.state in
    let parts = may-parts kept u h in
    sent-written kept.side kept.offer kept.state u (subst P e b) parts.0 parts.1

pub may-grows : (kept view : Kept) (u : SessionSay) → view ≡ kept → InBounds view.state → may kept.side kept.offer kept.state u ≡ true → Grows kept.side kept.state u
may-grows kept view u e b h =
    let P : Kept → Type 0 = λ k. InBounds k.state in
    let bounds : InBounds kept.state = subst P e b in
    sent-grows kept.side kept.offer kept.state u bounds.0 (may-parts kept u h).0

pub may-free : (kept : Kept) (u : SessionSay) → may kept.side kept.offer kept.state u ≡ true → is_resync u ≡ true → kept.state.resync ≡ None
may-free kept u h r = sent-free kept.side kept.offer kept.state u (may-parts kept u h).0 r
