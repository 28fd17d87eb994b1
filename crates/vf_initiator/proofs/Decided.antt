-- A request may be sent or it may not, so that requests are sent in one way. Data and checks don't end the association.
use Rattle.std.proofs.Common.{◌≡◌, ◌<◌, ◌≤◌, ℕ, Bool, true, false, List, [], ◌∷◌, ◌++◌, nat_lt, nat_le, refl, sym, ap, ◌∙◌, arith, Option, None, Some, ◌⊎◌, inl, inr}
use Rattle.std.specs.List.{list_all}
use Rattle.std.proofs.lemmas.Bool.Decides.{nat_tests}
use Rattle.vf_base.specs.declared.element.Element.TheVariants.{Descriptor, Enter, Exit, Text, Binary}
use Rattle.vf_initiator.proofs.TaskEntries.{first_of, second_of}
use Rattle.vf_initiator.specs.Owed.{is_open}
use Rattle.vf_initiator.specs.Talking.{AreSent, IsSent}
use Rattle.vf_pdu.specs.declared.pdu.Pdu.{Pdu}
use Rattle.vf_session.specs.declared.units.TokenSide.{TokenSide}
use Rattle.vf_session.specs.declared.units.TokenSide.TheVariants.{Initiator}
use Rattle.vf_stack.specs.Association.{Association, is_ended}
use Rattle.vf_stack.specs.Contexts.{Standing}
use Rattle.vf_stack.specs.Sending.{IsCarried, IsDue, IsItem, IsMaybe, IsSendable, IsWritten, May, octets_sent, with_request}
use Rattle.vf_stack.specs.declared.indication.Item.{Item as ItemOf}
use Rattle.vf_stack.specs.declared.indication.Item.TheVariants as items
use Rattle.vf_stack.specs.declared.request.Request.{Request}
use Rattle.vf_stack.specs.declared.request.Request.TheVariants.{Associate, Accept, Refuse, Release, Released, Item, Check, Acknowledge, Restart, Restarted, Cancel, Cancelled, Abort, Pass}
use Rattle.vf_upper.specs.Written.{IsWritable}
use Rattle.vf_upper.specs.declared.contexts.ContextEntry.{ContextEntry}
use Rattle.vf_upper.specs.declared.primitive.Primitive.{Primitive}

-- ---- one or the other

abbrev pub Either : Type 0 → Type 0
Either A = A ⊎ (A → ⊥)

truth : (b : Bool) → Either (b ≡ true)
truth true = inl refl
truth false = inr (λ (e : false ≡ true). absurd (cc))

both : {A B : Type 0} → Either A → Either B → Either (A × B)
both (inl a) (inl b) = inl (a, b)
both (inl a) (inr never) = inr (λ t. never t.1)
both (inr never) b = inr (λ t. never t.0)

neither : {A B : Type 0} → Either A → Either B → Either (A ⊎ B → ⊥)
neither (inl a) b = inr (λ n. n (inl a))
neither (inr never) (inl b) = inr (λ n. n (inr b))
neither {A = A} {B = B} (inr never) (inr nor) = inl (λ (t : A ⊎ B). elim t [
  | inl a ↦ never a
  | inr b ↦ nor b
])

less_by : (m n : ℕ) (b : Bool) → nat_lt m n ≡ b → Either (m < n)
less_by m n true is = inl (grind (arith, nat_tests))
less_by m n false is = inr (λ (l : m < n). (let over : n ≤ m = grind (arith, nat_tests) in absurd (omega (arith, over, l))))

less : (m n : ℕ) → Either (m < n)
less m n = less_by m n (nat_lt m n) refl

most_by : (m n : ℕ) (b : Bool) → nat_le m n ≡ b → Either (m ≤ n)
most_by m n true is = inl (grind (arith, nat_tests))
most_by m n false is = inr (λ (l : m ≤ n). (let over : n < m = grind (arith, nat_tests) in absurd (omega (arith, over, l))))

most : (m n : ℕ) → Either (m ≤ n)
most m n = most_by m n (nat_le m n) refl

-- ---- what a request carries, and its user data

due : (b : Bool) (pdu : Pdu) → Either (IsDue b pdu)
due b pdu = both (truth b) (truth _)

maybe : (is_due : Pdu → Bool) (pdu : Option Pdu) → Either (IsMaybe is_due pdu)
maybe is_due None = inl tt
maybe is_due (Some pdu) = due (is_due pdu) pdu

item : (sync : Bool) (one : ItemOf) → Either (IsItem sync one)
item sync (items.Pdu pdu) = due _ pdu
item sync (items.Element (Descriptor None filled)) = inl tt
item sync (items.Element (Descriptor (Some name) filled)) = truth _
item sync (items.Element Enter) = inl tt
item sync (items.Element Exit) = inl tt
item sync (items.Element (Text class octets)) = truth _
item sync (items.Element (Binary octets)) = inl tt

carried : (s : Standing) (request : Request) → Either (IsCarried s request)
carried s (Associate sync pdu) = due _ pdu
carried s (Accept sync pdu) = due _ pdu
carried s (Refuse pdu) = maybe _ pdu
carried s (Release pdu) = due _ pdu
carried s (Released pdu) = due _ pdu
carried s (Item one) = item s.state.agreed one
carried s (Check serial) = inl tt
carried s (Acknowledge serial) = inl tt
carried s (Restart serial pdu) = due _ pdu
carried s (Restarted serial pdu) = due _ pdu
carried s (Cancel pdu) = due _ pdu
carried s (Cancelled pdu) = due _ pdu
carried s (Abort pdu) = maybe _ pdu
carried s Pass = inl tt

writable : (primitive : Primitive) (contexts : List ContextEntry) {A B : Type 0} → Either A → Either B → (A → B → IsWritable primitive contexts) → (IsWritable primitive contexts → A × B) → Either (IsWritable primitive contexts)
writable primitive contexts (inl a) (inl b) to from = inl (to a b)
writable primitive contexts (inl a) (inr never) to from = inr (λ w. never (from w).1)
writable primitive contexts (inr never) b to from = inr (λ w. never (from w).0)

is_written : (contexts : List ContextEntry) (primitive : Option Primitive) → Either (IsWritten contexts primitive)
is_written contexts None = inl tt
is_written contexts (Some primitive) =
    writable primitive contexts (truth _) (neither (less _ _) (less _ _)) (λ placed small. record { placed = placed; small = small }) (λ w. (w.placed, w.small))

-- ---- whether it may be sent

sendable_of : (own : TokenSide) (s : Standing) (request : Request) {A B C D : Type 0} → Either A → Either B → Either C → Either D → (A → B → C → D → IsSendable own s request) → (IsSendable own s request → A × B × C × D) → Either (IsSendable own s request)
sendable_of own s request (inl a) (inl b) (inl c) (inl d) to from = inl (to a b c d)
sendable_of own s request (inl a) (inl b) (inl c) (inr never) to from = inr (λ t. never (from t).3)
sendable_of own s request (inl a) (inl b) (inr never) d to from = inr (λ t. never (from t).2)
sendable_of own s request (inl a) (inr never) c d to from = inr (λ t. never (from t).1)
sendable_of own s request (inr never) b c d to from = inr (λ t. never (from t).0)

sendable : (own : TokenSide) (s : Standing) (request : Request) → Either (IsSendable own s request)
sendable own s request =
    sendable_of own s request (truth _) (carried s request) (is_written _ _) (most _ _) (λ a b c d. record { suited = a; carried = b; is_written = c; fits = d }) (λ t. (t.suited, t.carried, t.is_written, t.fits))

may_of : (own : TokenSide) (offer : Bool) (a : Association) (request : Request) {A B C : Type 0} → Either A → Either B → Either C → (A → B → C → May own offer a request) → (May own offer a request → A × B × C) → Either (May own offer a request)
may_of own offer a request (inl x) (inl y) (inl z) to from = inl (to x y z)
may_of own offer a request (inl x) (inl y) (inr never) to from = inr (λ m. never (from m).2)
may_of own offer a request (inl x) (inr never) z to from = inr (λ m. never (from m).1)
may_of own offer a request (inr never) y z to from = inr (λ m. never (from m).0)

pub may : (own : TokenSide) (offer : Bool) (a : Association) (request : Request) → Either (May own offer a request)
may own offer a request =
    may_of own offer a request (truth _) (truth _) (sendable own _ request) (λ x y z. record { connected = x; permitted = y; sendable = z }) (λ m. (m.connected, m.permitted, m.sendable))

-- ---- so it is sent in one way

one_by : (offer : Bool) (a : Association) (request : Request) → Either (May Initiator offer a request) → (octets : List ℕ) × (after : Association) × IsSent offer a request octets after
one_by offer a request (inl may) = (octets_sent Initiator a request, with_request Initiator a request, inl (may, refl, refl))
one_by offer a request (inr never) = ([], a, inr (never, refl, refl))

pub are_sent : (offer : Bool) (a : Association) (requests : List Request) → (octets : List ℕ) × (after : Association) × AreSent offer a requests octets after
are_sent offer a [] = ([], a, (refl, refl))
are_sent offer a (request ∷ requests) =
    let one = one_by offer a request (may Initiator offer a request) in
    let others = are_sent offer one.1 requests in
    (one.0 ++ others.0, others.1, (one.0, others.0, one.1, (one.2, others.2, refl)))

pub sent_once : (offer : Bool) (a : Association) (request : Request) (octets octets' : List ℕ) (after after' : Association) → IsSent offer a request octets after → IsSent offer a request octets' after'
    → (octets ≡ octets') × (after ≡ after')
sent_once offer a request octets octets' after after' (inl one) (inl other) = (one.1 ∙ sym other.1, one.2 ∙ sym other.2)
sent_once offer a request octets octets' after after' (inl one) (inr other) = absurd (other.0 one.0)
sent_once offer a request octets octets' after after' (inr one) (inl other) = absurd (one.0 other.0)
sent_once offer a request octets octets' after after' (inr one) (inr other) = (one.1 ∙ sym other.1, one.2 ∙ sym other.2)

-- ---- and by data and checks the association lasts

by_data : (offer : Bool) (a : Association) (request : Request) (octets : List ℕ) (after : Association) → is_ended (with_request Initiator a request).exchange.ending ≡ is_ended a.exchange.ending → IsSent offer a request octets after
    → is_ended after.exchange.ending ≡ is_ended a.exchange.ending
by_data offer a request octets after same (inl one) = ap (λ (b : Association). is_ended b.exchange.ending) one.2 ∙ same
by_data offer a request octets after same (inr one) = ap (λ (b : Association). is_ended b.exchange.ending) one.2

lasts_by : (a : Association) (request : Request) → is_open request ≡ true → is_ended (with_request Initiator a request).exchange.ending ≡ is_ended a.exchange.ending
lasts_by a (Item one) is = refl
lasts_by a (Check serial) is = refl
lasts_by a (Associate sync pdu) is = absurd (let e : false ≡ true = is in cc)
lasts_by a (Accept sync pdu) is = absurd (let e : false ≡ true = is in cc)
lasts_by a (Refuse pdu) is = absurd (let e : false ≡ true = is in cc)
lasts_by a (Release pdu) is = absurd (let e : false ≡ true = is in cc)
lasts_by a (Released pdu) is = absurd (let e : false ≡ true = is in cc)
lasts_by a (Acknowledge serial) is = absurd (let e : false ≡ true = is in cc)
lasts_by a (Restart serial pdu) is = absurd (let e : false ≡ true = is in cc)
lasts_by a (Restarted serial pdu) is = absurd (let e : false ≡ true = is in cc)
lasts_by a (Cancel pdu) is = absurd (let e : false ≡ true = is in cc)
lasts_by a (Cancelled pdu) is = absurd (let e : false ≡ true = is in cc)
lasts_by a (Abort pdu) is = absurd (let e : false ≡ true = is in cc)
lasts_by a Pass is = absurd (let e : false ≡ true = is in cc)

pub all_last : (offer : Bool) (a : Association) (requests : List Request) (octets : List ℕ) (after : Association) → list_all is_open requests ≡ true → AreSent offer a requests octets after
    → is_ended after.exchange.ending ≡ is_ended a.exchange.ending
all_last offer a [] octets after all are = ap (λ (b : Association). is_ended b.exchange.ending) are.1
all_last offer a (request ∷ requests) octets after all are =
    all_last offer are.2 requests are.1 after (second_of (is_open request) (list_all is_open requests) all) are.3.1
    ∙ by_data offer a request are.0 are.2 (lasts_by a request (first_of (is_open request) (list_all is_open requests) all)) are.3.0
