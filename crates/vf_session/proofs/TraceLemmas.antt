-- What a session keeps follows the trace: each unit changes the filters as it changes the counters.
use Rattle.std.proofs.Common.{◌≡◌, ℕ, zero, suc, ◌+◌, ◌-◌, ◌≤◌, ◌<◌, Bool, true, false, cond, nat_le, min, ◌||◌, if◌then◌else◌, List, [], ◌∷◌, Option, Some, None, unwrap_or, refl, ap, sym, ◌∙◌, arith, inl, inr, ◌⊎◌}
use Rattle.std.proofs.lemmas.Bool.{cases_lt}
use Rattle.std.proofs.lemmas.Bool.Decides.{nat_tests}
use Rattle.std.specs.List.{filter, fold}
use Rattle.vf_session.specs.declared.phase.Phase.{Phase}
use Rattle.vf_session.specs.declared.resync.PendingResync.{PendingResync}
use Rattle.vf_session.specs.declared.state.SessionState.{SessionState}
use Rattle.vf_session.specs.declared.units.ResyncKind.{ResyncKind}
use Rattle.vf_session.specs.declared.units.SessionSay.{SessionSay}
use Rattle.vf_session.specs.declared.units.SessionSay.TheVariants as say
use Rattle.vf_session.specs.declared.units.TokenSide.{TokenSide}
use Rattle.vf_session.specs.Advances.{Grows, kept_after}
use Rattle.vf_session.specs.Allowed.{numbers_up, newest_resync}
use Rattle.vf_session.specs.Kept.{Kept}
use Rattle.vf_session.proofs.Follows.{Follows}
use Rattle.vf_session.specs.Trace.{Trace, state, acknowledged_by, acknowledgements, checks, since, unacknowledged, next, token, resync, settled, is_resync, resync_by, is_from, with_received, other}

-- ---- numbers of checks

fold-up : (a o k : ℕ) → fold min a (numbers_up o (suc k)) ≡ min a o
fold-up a o zero = let e : o + 0 ≡ o = omega arith in ap (λ n. min a n) e
fold-up a o (suc k) = fold-up (min a (o + suc k)) o k ∙ grind arith

oldest-by : (k M N o : ℕ) → M ≡ N → N ≡ o + k → fold min M (numbers_up o k) ≡ o
oldest-by zero M N o e f = omega arith
oldest-by (suc k) M N o e f = fold-up M o k ∙ grind arith

-- the oldest of the numbers from it up to the next
pub oldest-at : (M N o : ℕ) (us : List ℕ) → M ≡ N → o ≤ N → us ≡ numbers_up o (N - o) → fold min M us ≡ o
oldest-at M N o us e h u = ap (λ us. fold min M us) u ∙ oldest-by (N - o) M N o e (omega arith)

numbers-next : (o N : ℕ) → o ≤ N → N ∷ numbers_up o (N - o) ≡ numbers_up o (N + 1 - o)
numbers-next o N h =
    let e : N + 1 - o ≡ suc (N - o) = omega arith in
    let f : o + (N - o) ≡ N = omega arith in
    let g : (o + (N - o)) ∷ numbers_up o (N - o) ≡ N ∷ numbers_up o (N - o) = ap (λ n. n ∷ numbers_up o (N - o)) f in
    sym g ∙ sym (ap (numbers_up o) e)

pub numbers-none : (n : ℕ) → [] ≡ numbers_up n (n - n)
numbers-none n = let e : n - n ≡ 0 = omega arith in sym (ap (numbers_up n) e)

-- not yet acknowledged
abbrev pub is_open_by : List ℕ → ℕ → Bool
is_open_by acks check = if acknowledged_by acks check then false else true

above : ℕ → ℕ → Bool
above n check = if nat_le check n then false else true

pub check-open : (acks cs : List ℕ) (n o N : ℕ) → n ≡ N → acknowledged_by acks N ≡ false → o ≤ N → filter (is_open_by acks) cs ≡ numbers_up o (N - o)
    → filter (is_open_by acks) (n ∷ cs) ≡ numbers_up o (N + 1 - o)
check-open acks cs n o N e a h u =
    let none : acknowledged_by acks n ≡ false = ap (acknowledged_by acks) e ∙ a in
    rw none (ap (λ us. n ∷ us) u ∙ ap (λ m. m ∷ numbers_up o (N - o)) e ∙ numbers-next o N h)

or_false : (a b : Bool) → (a || b) ≡ false → (a ≡ false) × (b ≡ false)
or_false true b h = absurd cc
or_false false b h = (refl, h)

not_above : (n k : ℕ) → nat_le n k ≡ false → nat_le (n + 1) k ≡ false
not_above n k h = grind (arith, nat_tests)

pub ahead-more : (acks : List ℕ) (n : ℕ) → acknowledged_by acks n ≡ false → acknowledged_by acks (n + 1) ≡ false
ahead-more [] n h = refl
ahead-more (k ∷ acks) n h =
    let both = or_false (nat_le n k) (acknowledged_by acks n) h in
    rw (not_above n k both.0) (ahead-more acks n both.1)

pub ahead-acknowledged : (acks : List ℕ) (n N : ℕ) → n < N → acknowledged_by acks N ≡ false → acknowledged_by (n ∷ acks) N ≡ false
ahead-acknowledged acks n N h a = let e : nat_le N n ≡ false = grind (arith, nat_tests) in rw e a

filter-step : (n c : ℕ) (b : Bool) (L R : List ℕ) → L ≡ filter (above n) R →
    cond (cond (nat_le c n || b) false true) (c ∷ L) L ≡ filter (above n) (cond (cond b false true) (c ∷ R) R)
unfolding above
filter-step n c true L R h =
    elim (nat_le c n) as (λ v. cond (cond (v || true) false true) (c ∷ L) L ≡ filter (above n) R) [ true ↦ h | false ↦ h ]
filter-step n c false L R h =
    elim (nat_le c n) as (λ v. cond (cond (v || false) false true) (c ∷ L) L ≡ cond (cond v false true) (c ∷ filter (above n) R) (filter (above n) R))
    [ true ↦ h | false ↦ ap (λ us. c ∷ us) h ]

filter-two : (acks cs : List ℕ) (n : ℕ) → filter (is_open_by (n ∷ acks)) cs ≡ filter (above n) (filter (is_open_by acks) cs)
filter-two acks [] n = refl
filter-two acks (c ∷ cs) n =
    filter-step n c (acknowledged_by acks c) (filter (is_open_by (n ∷ acks)) cs) (filter (is_open_by acks) cs) (filter-two acks cs n)

above-keeps : (n o k : ℕ) (F : List ℕ) → o ≤ n → n < o + k → F ≡ numbers_up (n + 1) (o + k - (n + 1)) →
    cond (cond (nat_le (o + k) n) false true) ((o + k) ∷ F) F ≡ numbers_up (n + 1) (o + suc k - (n + 1))
above-keeps n o k F h lt f =
    let test : nat_le (o + k) n ≡ false = grind (arith, nat_tests) in
    let count : o + suc k - (n + 1) ≡ suc (o + k - (n + 1)) = omega arith in
    let top : n + 1 + (o + k - (n + 1)) ≡ o + k = omega arith in
    rw test (ap (λ us. (o + k) ∷ us) f ∙ sym (ap (λ m. m ∷ numbers_up (n + 1) (o + k - (n + 1))) top) ∙ sym (ap (numbers_up (n + 1)) count))

above-drops : (n o k : ℕ) (F : List ℕ) → o ≤ n → o + k ≤ n → F ≡ numbers_up (n + 1) (o + k - (n + 1)) →
    cond (cond (nat_le (o + k) n) false true) ((o + k) ∷ F) F ≡ numbers_up (n + 1) (o + suc k - (n + 1))
above-drops n o k F h le f =
    let test : nat_le (o + k) n ≡ true = grind (arith, nat_tests) in
    let same : o + k - (n + 1) ≡ o + suc k - (n + 1) = omega arith in
    rw test (f ∙ ap (numbers_up (n + 1)) same)

above-up : (n o k : ℕ) → o ≤ n → filter (above n) (numbers_up o k) ≡ numbers_up (n + 1) (o + k - (n + 1))
unfolding above
above-up n o zero h = let none : o + 0 - (n + 1) ≡ 0 = omega arith in sym (ap (numbers_up (n + 1)) none)
above-up n o (suc k) h =
    elim (cases_lt n (o + k)) [
      | inl lt ↦ above-keeps n o k (filter (above n) (numbers_up o k)) h lt (above-up n o k h)
      | inr le ↦ above-drops n o k (filter (above n) (numbers_up o k)) h le (above-up n o k h)
    ]

pub acknowledged-open : (acks cs : List ℕ) (n o N : ℕ) → o ≤ n → n < N → filter (is_open_by acks) cs ≡ numbers_up o (N - o)
    → filter (is_open_by (n ∷ acks)) cs ≡ numbers_up (n + 1) (N - (n + 1))
acknowledged-open acks cs n o N h lt u =
    let count : o + (N - o) - (n + 1) ≡ N - (n + 1) = omega arith in
    filter-two acks cs n ∙ ap (filter (above n)) u ∙ above-up n o (N - o) h ∙ ap (numbers_up (n + 1)) count

-- ---- where the connection stands

same-state : (p p' : Phase) (a a' b b' : Bool) (f f' n n' o o' : ℕ) (t t' : TokenSide) (r r' : Option PendingResync)
    → p ≡ p' → a ≡ a' → b ≡ b' → f ≡ f' → n ≡ n' → o ≡ o' → t ≡ t' → r ≡ r' →
    (let s : SessionState = record { phase = p; proposed = a; agreed = b; first = f; next = n; oldest = o; token = t; resync = r } in
    let s' : SessionState = record { phase = p'; proposed = a'; agreed = b'; first = f'; next = n'; oldest = o'; token = t'; resync = r' } in s ≡ s')
same-state p p' a a' b b' f f' n n' o o' t t' r r' ep ea eb ef en eo et er = cc

pub stands : (kept : Kept) (trace : Trace) → Follows kept trace → state kept.side trace ≡ kept.state
stands kept trace r =
    same-state _ kept.state.phase _ kept.state.proposed _ kept.state.agreed _ kept.state.first _ kept.state.next _ kept.state.oldest _ kept.state.token _ kept.state.resync
    r.phase_is r.proposed_is r.agreed_is r.first_is r.next_is r.oldest_is r.token_is r.resync_is

-- where no RS waits, the newest entry is none
unsettled_told : (from : TokenSide) (told : SessionSay) (earlier trace : Trace) → unwrap_or (resync_by from told) None ≡ None → cond (is_resync told) earlier trace ≡ trace
unsettled_told from (say.Connect sync n octets) earlier trace h = refl
unsettled_told from (say.Accept sync n octets) earlier trace h = refl
unsettled_told from (say.Refuse octets) earlier trace h = refl
unsettled_told from (say.Finish octets) earlier trace h = refl
unsettled_told from (say.Finished octets) earlier trace h = refl
unsettled_told from (say.Data pass octets) earlier trace h = refl
unsettled_told from (say.Check n) earlier trace h = refl
unsettled_told from (say.Acknowledge n) earlier trace h = refl
unsettled_told from (say.Resync kind n tok octets) earlier trace h = cc
unsettled_told from (say.Resynced n tok octets) earlier trace h = refl
unsettled_told from (say.Abort octets) earlier trace h = refl
unsettled_told from (say.Token to) earlier trace h = refl

pub unsettled : (trace : Trace) → newest_resync trace ≡ None → settled trace ≡ trace
unsettled [] h = refl
unsettled (entry ∷ earlier) h = unsettled_told entry.from entry.told earlier (entry ∷ earlier) h

-- the trace with one more unit, where no RS of this end's own is lost
pub grows : (kept : Kept) (trace : Trace) (from : TokenSide) (told : SessionSay) → Follows kept trace → Grows kept.side kept.state told
    → (is_resync told ≡ true → kept.state.resync ≡ None) → Follows (kept_after from kept told) (record { from = from; told = told } ∷ trace)
grows kept trace from (say.Connect sync n octets) r g free =
    record { phase_is = refl; proposed_is = refl; agreed_is = r.agreed_is; first_is = refl; next_is = omega arith; oldest_is = omega arith; token_is = r.token_is; resync_is = refl; newest_is = refl; settled_is = r.token_is; open_checks = numbers-none n; none_ahead = refl; in_order = omega arith }
grows kept trace from (say.Accept sync n octets) r g free =
    record { phase_is = refl; proposed_is = r.proposed_is; agreed_is = refl; first_is = refl; next_is = omega arith; oldest_is = omega arith; token_is = r.token_is; resync_is = refl; newest_is = refl; settled_is = r.token_is; open_checks = numbers-none n; none_ahead = refl; in_order = omega arith }
grows kept trace from (say.Refuse octets) r g free =
    record { phase_is = refl; proposed_is = r.proposed_is; agreed_is = r.agreed_is; first_is = r.first_is; next_is = r.next_is; oldest_is = r.oldest_is; token_is = r.token_is; resync_is = refl; newest_is = refl; settled_is = r.token_is; open_checks = r.open_checks; none_ahead = r.none_ahead; in_order = r.in_order }
grows kept trace from (say.Finish octets) r g free =
    record { phase_is = refl; proposed_is = r.proposed_is; agreed_is = r.agreed_is; first_is = r.first_is; next_is = r.next_is; oldest_is = r.oldest_is; token_is = r.token_is; resync_is = r.resync_is; newest_is = sym g; settled_is = r.token_is; open_checks = r.open_checks; none_ahead = r.none_ahead; in_order = r.in_order }
grows kept trace from (say.Finished octets) r g free =
    record { phase_is = refl; proposed_is = r.proposed_is; agreed_is = r.agreed_is; first_is = r.first_is; next_is = r.next_is; oldest_is = r.oldest_is; token_is = r.token_is; resync_is = refl; newest_is = refl; settled_is = r.token_is; open_checks = r.open_checks; none_ahead = r.none_ahead; in_order = r.in_order }
grows kept trace from (say.Data true octets) r g free =
    record { phase_is = r.phase_is; proposed_is = r.proposed_is; agreed_is = r.agreed_is; first_is = r.first_is; next_is = r.next_is; oldest_is = r.oldest_is; token_is = refl; resync_is = r.resync_is; newest_is = sym g; settled_is = refl; open_checks = r.open_checks; none_ahead = r.none_ahead; in_order = r.in_order }
grows kept trace from (say.Data false octets) r g free =
    record { phase_is = r.phase_is; proposed_is = r.proposed_is; agreed_is = r.agreed_is; first_is = r.first_is; next_is = r.next_is; oldest_is = r.oldest_is; token_is = r.token_is; resync_is = r.resync_is; newest_is = sym g; settled_is = r.token_is; open_checks = r.open_checks; none_ahead = r.none_ahead; in_order = r.in_order }
grows kept trace from (say.Check n) r g free =
    let after : next (record { from = from; told = say.Check n } ∷ trace) ≡ n + 1 = let e = r.next_is in let f = g.0 in omega arith in
    let left : unacknowledged (record { from = from; told = say.Check n } ∷ trace) ≡ numbers_up kept.state.oldest (n + 1 - kept.state.oldest) = let f = g.0 in rw f (check-open (acknowledgements (since trace)) (checks (since trace)) kept.state.next kept.state.oldest kept.state.next refl r.none_ahead r.in_order r.open_checks) in
    let ordered : kept.state.oldest ≤ n + 1 = let f = g.0 in let e = r.in_order in omega arith in
    record { phase_is = r.phase_is; proposed_is = r.proposed_is; agreed_is = r.agreed_is; first_is = r.first_is; next_is = after; oldest_is = oldest-at (next (record { from = from; told = say.Check n } ∷ trace)) (n + 1) kept.state.oldest (unacknowledged (record { from = from; told = say.Check n } ∷ trace)) after ordered left; token_is = r.token_is; resync_is = r.resync_is; newest_is = sym g.2; settled_is = r.token_is; open_checks = left; none_ahead = let f = g.0 in rw f (ahead-more (acknowledgements (since trace)) kept.state.next r.none_ahead); in_order = ordered }
grows kept trace from (say.Acknowledge n) r g free =
    let left : unacknowledged (record { from = from; told = say.Acknowledge n } ∷ trace) ≡ numbers_up (n + 1) (kept.state.next - (n + 1)) = acknowledged-open (acknowledgements (since trace)) (checks (since trace)) n kept.state.oldest kept.state.next g.0 g.1 r.open_checks in
    let ordered : n + 1 ≤ kept.state.next = let f = g.1 in omega arith in
    record { phase_is = r.phase_is; proposed_is = r.proposed_is; agreed_is = r.agreed_is; first_is = r.first_is; next_is = r.next_is; oldest_is = oldest-at (next (record { from = from; told = say.Acknowledge n } ∷ trace)) kept.state.next (n + 1) (unacknowledged (record { from = from; told = say.Acknowledge n } ∷ trace)) r.next_is ordered left; token_is = r.token_is; resync_is = r.resync_is; newest_is = sym g.2; settled_is = r.token_is; open_checks = left; none_ahead = ahead-acknowledged (acknowledgements (since trace)) n kept.state.next g.1 r.none_ahead; in_order = ordered }
grows kept trace from (say.Resync kind n tok octets) r g free =
    let before : token trace ≡ kept.token = sym (ap token (unsettled trace (r.newest_is ∙ free refl))) ∙ r.settled_is in
    record { phase_is = refl; proposed_is = r.proposed_is; agreed_is = r.agreed_is; first_is = r.first_is; next_is = r.next_is; oldest_is = r.oldest_is; token_is = ap (unwrap_or tok) before; resync_is = refl; newest_is = refl; settled_is = before; open_checks = r.open_checks; none_ahead = r.none_ahead; in_order = r.in_order }
grows kept trace from (say.Resynced n tok octets) r g free =
    record { phase_is = r.phase_is; proposed_is = r.proposed_is; agreed_is = r.agreed_is; first_is = r.first_is; next_is = omega arith; oldest_is = omega arith; token_is = ap (unwrap_or tok) r.token_is; resync_is = refl; newest_is = refl; settled_is = ap (unwrap_or tok) r.token_is; open_checks = numbers-none n; none_ahead = refl; in_order = omega arith }
grows kept trace from (say.Abort octets) r g free =
    record { phase_is = refl; proposed_is = r.proposed_is; agreed_is = r.agreed_is; first_is = r.first_is; next_is = r.next_is; oldest_is = r.oldest_is; token_is = r.token_is; resync_is = refl; newest_is = refl; settled_is = r.token_is; open_checks = r.open_checks; none_ahead = r.none_ahead; in_order = r.in_order }
grows kept trace from (say.Token to) r g free =
    record { phase_is = r.phase_is; proposed_is = r.proposed_is; agreed_is = r.agreed_is; first_is = r.first_is; next_is = r.next_is; oldest_is = r.oldest_is; token_is = refl; resync_is = r.resync_is; newest_is = sym g; settled_is = refl; open_checks = r.open_checks; none_ahead = r.none_ahead; in_order = r.in_order }

none_waits : (own : TokenSide) (r : Option PendingResync) → r ≡ None → is_from own r ≡ true → ⊥
none_waits own None e h = cc
none_waits own (Some r) e h = cc

-- an RS of this end's own is lost: the newest entry goes out
lost_told : (kept : Kept) (from by : TokenSide) (newest : SessionSay) (earlier : Trace) (kind : ResyncKind) (n : ℕ) (tok : Option TokenSide) (octets : List ℕ)
    → Follows kept (record { from = by; told = newest } ∷ earlier) → is_from kept.side kept.state.resync ≡ true
    → Follows (kept_after from kept (say.Resync kind n tok octets)) (record { from = from; told = say.Resync kind n tok octets } ∷ cond (is_resync newest) earlier (record { from = by; told = newest } ∷ earlier))
lost_told kept from by (say.Connect sync m octets') earlier kind n tok octets r own = absurd (none_waits kept.side kept.state.resync (sym r.newest_is) own)
lost_told kept from by (say.Accept sync m octets') earlier kind n tok octets r own = absurd (none_waits kept.side kept.state.resync (sym r.newest_is) own)
lost_told kept from by (say.Refuse octets') earlier kind n tok octets r own = absurd (none_waits kept.side kept.state.resync (sym r.newest_is) own)
lost_told kept from by (say.Finish octets') earlier kind n tok octets r own = absurd (none_waits kept.side kept.state.resync (sym r.newest_is) own)
lost_told kept from by (say.Finished octets') earlier kind n tok octets r own = absurd (none_waits kept.side kept.state.resync (sym r.newest_is) own)
lost_told kept from by (say.Data pass octets') earlier kind n tok octets r own = absurd (none_waits kept.side kept.state.resync (sym r.newest_is) own)
lost_told kept from by (say.Check m) earlier kind n tok octets r own = absurd (none_waits kept.side kept.state.resync (sym r.newest_is) own)
lost_told kept from by (say.Acknowledge m) earlier kind n tok octets r own = absurd (none_waits kept.side kept.state.resync (sym r.newest_is) own)
lost_told kept from by (say.Resync kind' m tok' octets') earlier kind n tok octets r own =
    record { phase_is = refl; proposed_is = r.proposed_is; agreed_is = r.agreed_is; first_is = r.first_is; next_is = r.next_is; oldest_is = r.oldest_is; token_is = ap (unwrap_or tok) r.settled_is; resync_is = refl; newest_is = refl; settled_is = r.settled_is; open_checks = r.open_checks; none_ahead = r.none_ahead; in_order = r.in_order }
lost_told kept from by (say.Resynced m tok' octets') earlier kind n tok octets r own = absurd (none_waits kept.side kept.state.resync (sym r.newest_is) own)
lost_told kept from by (say.Abort octets') earlier kind n tok octets r own = absurd (none_waits kept.side kept.state.resync (sym r.newest_is) own)
lost_told kept from by (say.Token to) earlier kind n tok octets r own = absurd (none_waits kept.side kept.state.resync (sym r.newest_is) own)

pub lost : (kept : Kept) (trace : Trace) (from : TokenSide) (kind : ResyncKind) (n : ℕ) (tok : Option TokenSide) (octets : List ℕ)
    → Follows kept trace → is_from kept.side kept.state.resync ≡ true
    → Follows (kept_after from kept (say.Resync kind n tok octets)) (record { from = from; told = say.Resync kind n tok octets } ∷ settled trace)
lost kept [] from kind n tok octets r own = absurd (none_waits kept.side kept.state.resync (sym r.newest_is) own)
lost kept (entry ∷ earlier) from kind n tok octets r own = lost_told kept from entry.from entry.told earlier kind n tok octets r own

-- ---- what was received, and what was sent

received-resync : (kept : Kept) (trace : Trace) (kind : ResyncKind) (n : ℕ) (tok : Option TokenSide) (octets : List ℕ) → Follows kept trace
    → ((kept.state.resync ≡ None) ⊎ (is_from kept.side kept.state.resync ≡ true))
    → Follows (kept_after (other kept.side) kept (say.Resync kind n tok octets)) (with_received kept.side (say.Resync kind n tok octets) trace)
received-resync kept trace kind n tok octets r (inl none) =
    let test : is_from kept.side (resync trace) ≡ false = ap (is_from kept.side) (r.resync_is ∙ none) in
    rw test (grows kept trace (other kept.side) (say.Resync kind n tok octets) r (inl none) (λ h. none))
received-resync kept trace kind n tok octets r (inr own) =
    let test : is_from kept.side (resync trace) ≡ true = ap (is_from kept.side) r.resync_is ∙ own in
    rw test (lost kept trace (other kept.side) kind n tok octets r own)

pub received : (kept : Kept) (trace : Trace) (told : SessionSay) → Follows kept trace → Grows kept.side kept.state told
    → Follows (kept_after (other kept.side) kept told) (with_received kept.side told trace)
received kept trace (say.Connect sync n octets) r g = grows kept trace (other kept.side) (say.Connect sync n octets) r g (λ h. absurd cc)
received kept trace (say.Accept sync n octets) r g = grows kept trace (other kept.side) (say.Accept sync n octets) r g (λ h. absurd cc)
received kept trace (say.Refuse octets) r g = grows kept trace (other kept.side) (say.Refuse octets) r g (λ h. absurd cc)
received kept trace (say.Finish octets) r g = grows kept trace (other kept.side) (say.Finish octets) r g (λ h. absurd cc)
received kept trace (say.Finished octets) r g = grows kept trace (other kept.side) (say.Finished octets) r g (λ h. absurd cc)
received kept trace (say.Data pass octets) r g = grows kept trace (other kept.side) (say.Data pass octets) r g (λ h. absurd cc)
received kept trace (say.Check n) r g = grows kept trace (other kept.side) (say.Check n) r g (λ h. absurd cc)
received kept trace (say.Acknowledge n) r g = grows kept trace (other kept.side) (say.Acknowledge n) r g (λ h. absurd cc)
received kept trace (say.Resync kind n tok octets) r g = received-resync kept trace kind n tok octets r g
received kept trace (say.Resynced n tok octets) r g = grows kept trace (other kept.side) (say.Resynced n tok octets) r g (λ h. absurd cc)
received kept trace (say.Abort octets) r g = grows kept trace (other kept.side) (say.Abort octets) r g (λ h. absurd cc)
received kept trace (say.Token to) r g = grows kept trace (other kept.side) (say.Token to) r g (λ h. absurd cc)
