-- What holds of each trace that is allowed.
use Rattle.std.proofs.Common.{◌≡◌, ◌≤◌, ◌∙◌, Bool, true, [], ◌∷◌, ◌++◌, refl, ap, sym, subst, arith}
use Rattle.vf_session.specs.declared.meaning.SpduMeaning.TheVariants.{Tells}
use Rattle.vf_session_spdu.specs.declared.spdu.Spdu.{Spdu}
use Rattle.vf_session.specs.declared.state.SessionState.{SessionState}
use Rattle.vf_session.specs.declared.units.SessionSay.{SessionSay}
use Rattle.vf_session.specs.declared.units.TokenSide.{TokenSide}
use Rattle.vf_session.specs.Advances.{Grows, advanced, kept_after}
use Rattle.vf_session.specs.Allowed.{IsAllowed, nothing, sent, received, IsRead, IsOrdered}
use Rattle.vf_session_spdu.specs.Fields.{IsReadable}
use Rattle.vf_session.specs.Receiving.{receives}
use Rattle.vf_session.specs.Kept.{Kept, kept_of}
use Rattle.vf_session.specs.Represents.{Represents}
use Rattle.vf_session.proofs.Follows.{Follows}
use Rattle.vf_session.specs.Sending.{may}
use Rattle.vf_session.specs.Trace.{Trace, other, state, settled, token, with_received, with_sent}
use Rattle.vf_session_spdu.proofs.GrammarLemmas.{all-split}
use Rattle.vf_session_spdu.proofs.ReadableLemmas.{reading-readable}
use Rattle.vf_session.proofs.GrowLemmas.{InBounds, advanced-bounds, receives-grows}
use Rattle.vf_session.proofs.SentLemmas.{may-grows, may-free}
use Rattle.vf_session.proofs.TraceLemmas as traces

-- What follows a trace is what the filters give.
same-kept : (side : TokenSide) (offer : Bool) (s s' : SessionState) (t t' : TokenSide) → s ≡ s' → t ≡ t' →
    (let k : Kept = record { side = side; offer = offer; state = s; token = t } in
    let k' : Kept = record { side = side; offer = offer; state = s'; token = t' } in k ≡ k')
same-kept side offer s s' t t' e f = cc

pub kept-is : (kept : Kept) (trace : Trace) → Follows kept trace → kept_of kept.side kept.offer trace ≡ kept
kept-is kept trace r = same-kept kept.side kept.offer (state kept.side trace) kept.state (token (settled trace)) kept.token (traces.stands kept trace r) r.settled_is

-- what a session keeps of a trace follows it, with numbers in their ranges
pub record IsFollowed (own : TokenSide) (offer : Bool) (trace : Trace) : Type 0 where
  pub follows : Follows (kept_of own offer trace) trace
  pub first_is : (state own trace).first ≤ 999999
  pub next_is : (state own trace).next ≤ 1000000

pub bounds-of : (own : TokenSide) (offer : Bool) (trace : Trace) → IsFollowed own offer trace → InBounds (state own trace)
bounds-of own offer trace k = (k.first_is, k.follows.in_order, k.next_is)

-- one more unit, from one end
onward : (own : TokenSide) (offer : Bool) (from : TokenSide) (trace next : Trace) (unit : SessionSay) → IsFollowed own offer trace → Grows own (state own trace) unit
    → Follows (kept_after from (kept_of own offer trace) unit) next → IsFollowed own offer next
onward own offer from trace next unit k g r =
    let e = kept-is (kept_after from (kept_of own offer trace) unit) next r in
    let b : InBounds (advanced own from (token (settled trace)) (state own trace) unit) = advanced-bounds own from (token (settled trace)) (state own trace) unit g (bounds-of own offer trace k) in
    let P : Kept → Type 0 = λ k. Follows k next in
    let Q : Kept → Type 0 = λ k. InBounds k.state in
    let bounds : InBounds (state own next) = subst Q (sym e) b in
    record { follows = subst P (sym e) r; first_is = bounds.0; next_is = bounds.2 }

pub read-readable : (spdu : Spdu) → IsRead spdu → IsReadable spdu
read-readable spdu (tsdu, prefix, rest, h) = (all-split IsReadable prefix (spdu ∷ rest) (reading-readable tsdu (prefix ++ spdu ∷ rest) h)).1.0

pub allowed-followed : (own : TokenSide) (offer : Bool) (trace : Trace) → IsAllowed own offer trace → IsFollowed own offer trace
allowed-followed own offer trace nothing =
    record {
      follows = record { phase_is = refl; proposed_is = refl; agreed_is = refl; first_is = refl; next_is = refl; oldest_is = refl; token_is = refl; resync_is = refl; newest_is = refl; settled_is = refl; open_checks = refl; none_ahead = refl; in_order = omega arith };
      first_is = omega arith;
      next_is = omega arith;
    }
allowed-followed own offer trace (sent earlier unit a may-say) =
    let k = allowed-followed own offer earlier a in
    let kept = kept_of own offer earlier in
    let g = may-grows kept kept unit refl (bounds-of own offer earlier k) may-say in
    onward own offer own earlier (with_sent own unit earlier) unit k g
    (traces.grows kept earlier own unit k.follows g (may-free kept unit may-say))
allowed-followed own offer trace (received earlier spdu unit a readable tells) =
    let k = allowed-followed own offer earlier a in
    let kept = kept_of own offer earlier in
    let g = receives-grows own (state own earlier) spdu unit readable k.first_is tells in
    onward own offer (other own) earlier (with_received own unit earlier) unit k g (traces.received kept earlier unit k.follows g)

-- ---- where the connection stands after one more unit

pub stands-sent : (own : TokenSide) (offer : Bool) (trace : Trace) (unit : SessionSay) → IsAllowed own offer trace → may own offer (state own trace) unit ≡ true
    → state own (with_sent own unit trace) ≡ advanced own own (token (settled trace)) (state own trace) unit
stands-sent own offer trace unit a m =
    let k = allowed-followed own offer trace a in
    let kept = kept_of own offer trace in
    let g = may-grows kept kept unit refl (bounds-of own offer trace k) m in
    ap (λ (k : Kept). k.state) (kept-is (kept_after own kept unit) (with_sent own unit trace) (traces.grows kept trace own unit k.follows g (may-free kept unit m)))

pub stands-received : (own : TokenSide) (offer : Bool) (trace : Trace) (spdu : Spdu) (unit : SessionSay) → IsAllowed own offer trace → IsReadable spdu → receives own (state own trace) spdu ≡ Tells unit
    → state own (with_received own unit trace) ≡ advanced own (other own) (token (settled trace)) (state own trace) unit
stands-received own offer trace spdu unit a readable tells =
    let k = allowed-followed own offer trace a in
    let kept = kept_of own offer trace in
    let g = receives-grows own (state own trace) spdu unit readable k.first_is tells in
    ap (λ (k : Kept). k.state) (kept-is (kept_after (other own) kept unit) (with_received own unit trace) (traces.received kept trace unit k.follows g))

-- ---- as the contracts say it

pub follows-of : (kept : Kept) (trace : Trace) → Represents kept trace → Follows kept trace
follows-of kept trace r =
    let same = same-kept kept.side kept.offer (state kept.side trace) kept.state (token (settled trace)) kept.token r.state_is r.token_is in
    let P : Kept → Type 0 = λ k. Follows k trace in
    subst P same (allowed-followed kept.side kept.offer trace r.allowed).follows

pub represents-of : (kept : Kept) (trace : Trace) → IsAllowed kept.side kept.offer trace → Follows kept trace → Represents kept trace
represents-of kept trace a f = record { allowed = a; state_is = traces.stands kept trace f; token_is = f.settled_is }

pub allowed-kept : (own : TokenSide) (offer : Bool) (trace : Trace) → IsAllowed own offer trace → Represents (kept_of own offer trace) trace
allowed-kept own offer trace a = record { allowed = a; state_is = refl; token_is = refl }

pub allowed-ordered : (own : TokenSide) (offer : Bool) (trace : Trace) → IsAllowed own offer trace → IsOrdered own trace
allowed-ordered own offer trace a =
    let k = allowed-followed own offer trace a in
    record { first_is = k.first_is; next_is = k.next_is; in_order = k.follows.in_order; newest_is = k.follows.newest_is; open_checks = k.follows.open_checks; none_ahead = k.follows.none_ahead }

pub first-in : (kept : Kept) (trace : Trace) → Represents kept trace → kept.state.first ≤ 999999
first-in kept trace r =
    let P : SessionState → Type 0 = λ s. s.first ≤ 999999 in
    subst P r.state_is (allowed-followed kept.side kept.offer trace r.allowed).first_is

pub represents-sent : (kept : Kept) (trace : Trace) (unit : SessionSay) → may kept.side kept.offer kept.state unit ≡ true → Grows kept.side kept.state unit → Represents kept trace
    → Represents (kept_after kept.side kept unit) (with_sent kept.side unit trace)
represents-sent kept trace unit m g r =
    let say : may kept.side kept.offer (state kept.side trace) unit ≡ true = ap (λ (s : SessionState). may kept.side kept.offer s unit) r.state_is ∙ m in
    represents-of (kept_after kept.side kept unit) (with_sent kept.side unit trace) (sent trace unit r.allowed say)
    (traces.grows kept trace kept.side unit (follows-of kept trace r) g (may-free kept unit m))

pub represents-received : (kept : Kept) (trace : Trace) (spdu : Spdu) (unit : SessionSay) → IsReadable spdu → receives kept.side (state kept.side trace) spdu ≡ Tells unit → Represents kept trace
    → Represents (kept_after (other kept.side) kept unit) (with_received kept.side unit trace)
represents-received kept trace spdu unit readable tells r =
    let by_state : receives kept.side kept.state spdu ≡ Tells unit = sym (ap (λ (s : SessionState). receives kept.side s spdu) r.state_is) ∙ tells in
    let g = receives-grows kept.side kept.state spdu unit readable (first-in kept trace r) by_state in
    represents-of (kept_after (other kept.side) kept unit) (with_received kept.side unit trace) (received trace spdu unit r.allowed readable tells)
    (traces.received kept trace unit (follows-of kept trace r) g)
