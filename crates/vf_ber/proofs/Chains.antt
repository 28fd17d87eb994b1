-- One language after another, and how the answers on the first and on the second are answers on both.
use Rattle.std.proofs.Common.{◌≡◌, ℕ, Bool, true, false, List, [], ◌∷◌, ◌++◌, length, ap, sym, subst, ◌∙◌, append_assoc, inl, inr, ◌⊎◌}
use Rattle.std.specs.Prelude.{Result, IfErr, IsErrAnd}
use Rattle.std.proofs.lemmas.List.{append_cancel_left}
use Rattle.std.proofs.lemmas.Result.{err_from_is_err_and}
use Rattle.vf_ber.specs.declared.fault.Fault.{Fault}
use Rattle.vf_ber.specs.declared.fault.Fault.TheVariants as faults
use Rattle.vf_ber.specs.Reading.{Limits, free, shallow, bounded}
use Rattle.vf_ber.specs.Steps.{Language, Open, Ruled, Got, FaultAt, Failed, Judged}

-- the words of H are a word of F, and one of G after it
pub record Chain {X Y Z : Type 0} (F : Language X) (G : X → List ℕ → Language Y) (H : Language Z) (make : X → Y → Z) : Type 0 where
  pub unique : (l k : Limits) (a b r s : List ℕ) (x y : X) → F l a x → F k b y → a ++ r ≡ b ++ s → (a ≡ b) × (x ≡ y)
  pub lift : (l : Limits) (a : List ℕ) (x : X) → F bounded a x → F l a x
  pub nonempty : (l : Limits) (a : List ℕ) (x : X) → F l a x → Open (G x a) l []
  pub join : (l : Limits) (a b : List ℕ) (x : X) (y : Y) → F l a x → G x a l b y → H l (a ++ b) (make x y)
  pub split : (l : Limits) (o : List ℕ) (z : Z) → H l o z → (a : List ℕ) × (b : List ℕ) × (x : X) × (y : Y) × F l a x × G x a l b y × (o ≡ a ++ b)

-- ---- the first alone

open_prefix : {X Y Z : Type 0} (F : Language X) (G : X → List ℕ → Language Y) (H : Language Z) (make : X → Y → Z) → Chain F G H make → (l : Limits) (t : List ℕ) → Open F l t → Open H l t
open_prefix F G H make chain l t (w, x, f) =
    let more = chain.nonempty l (t ++ w) x f in
    (w ++ more.0, make x more.1, subst (λ (o : List ℕ). H l o (make x more.1)) (append_assoc t w more.0) (chain.join l (t ++ w) more.0 x more.1 f more.2))

ruled_prefix : {X Y Z : Type 0} (F : Language X) (G : X → List ℕ → Language Y) (H : Language Z) (make : X → Y → Z) → Chain F G H make → (l : Limits) (t : List ℕ) → Ruled F l t → Ruled H l t
ruled_prefix F G H make chain l t ruled word tail rest z h e =
    let s = chain.split l word z h in
    ruled s.0 (s.1 ++ tail) rest s.2 s.4 (sym (append_assoc s.0 s.1 tail) ∙ ap (λ o. o ++ tail) (sym s.6) ∙ e)

fault_prefix : {X Y Z : Type 0} (F : Language X) (G : X → List ℕ → Language Y) (H : Language Z) (make : X → Y → Z) → Chain F G H make
    → (octets : List ℕ) (left : ℕ) (reason other : List ℕ → Type 0) → ((t : List ℕ) → reason t → other t) → FaultAt F octets left reason → FaultAt H octets left other
fault_prefix F G H make chain octets left reason other to f =
    record {
      prefix = f.prefix;
      octet = f.octet;
      rest = f.rest;
      parts = f.parts;
      left_is = f.left_is;
      before = elim f.before [ inl e ↦ inl e | inr o ↦ inr (open_prefix F G H make chain bounded f.prefix o) ];
      after = to (f.prefix ++ (f.octet ∷ [])) f.after;
    }

pub prefix_failed : {X Y Z : Type 0} (F : Language X) (G : X → List ℕ → Language Y) (H : Language Z) (make : X → Y → Z) → Chain F G H make
    → (octets : List ℕ) (fault : Fault) → Failed F octets fault → Failed H octets fault
prefix_failed F G H make chain octets faults.Short (next, w, x, f) =
    let more = chain.nonempty bounded (octets ++ (next ∷ w)) x f in (
      next,
      w ++ more.0,
      make x more.1,
      subst (λ (o : List ℕ). H bounded o (make x more.1)) (append_assoc octets (next ∷ w) more.0) (chain.join bounded (octets ++ (next ∷ w)) more.0 x more.1 f more.2),
    )
prefix_failed F G H make chain octets (faults.Bad left) f = fault_prefix F G H make chain octets left _ _ (ruled_prefix F G H make chain free) f
prefix_failed F G H make chain octets (faults.Deep left) f =
    fault_prefix F G H make chain octets left _ _ (λ t r. (open_prefix F G H make chain free t r.0, ruled_prefix F G H make chain shallow t r.1)) f
prefix_failed F G H make chain octets (faults.Long left) f =
    fault_prefix F G H make chain octets left _ _ (λ t r. (open_prefix F G H make chain shallow t r.0, ruled_prefix F G H make chain bounded t r.1)) f
prefix_failed F G H make chain octets faults.NoMemory f = tt

-- ---- the second after the first

open_tail : {X Y Z : Type 0} (F : Language X) (G : X → List ℕ → Language Y) (H : Language Z) (make : X → Y → Z) → Chain F G H make
    → (l : Limits) (a t : List ℕ) (x : X) → F bounded a x → Open (G x a) l t → Open H l (a ++ t)
open_tail F G H make chain l a t x f (w, y, g) =
    (w, make x y, subst (λ (o : List ℕ). H l o (make x y)) (sym (append_assoc a t w)) (chain.join l a (t ++ w) x y (chain.lift l a x f) g))

ruled_tail : {X Y Z : Type 0} (F : Language X) (G : X → List ℕ → Language Y) (H : Language Z) (make : X → Y → Z) → Chain F G H make
    → (l : Limits) (a t : List ℕ) (x : X) → F bounded a x → Ruled (G x a) l t → Ruled H l (a ++ t)
ruled_tail F G H make chain l a t x f ruled word tail rest z h e =
    let s = chain.split l word z h in
    let spelled : s.0 ++ (s.1 ++ tail) ≡ a ++ (t ++ rest) =
    sym (append_assoc s.0 s.1 tail) ∙ ap (λ o. o ++ tail) (sym s.6) ∙ e ∙ append_assoc a t rest in
    let same = chain.unique l bounded s.0 a (s.1 ++ tail) (t ++ rest) s.2 x s.4 f spelled in
    let at_x : G x s.0 l s.1 s.3 = subst (λ (v : _). G v s.0 l s.1 s.3) same.1 s.5 in
    let at_a : G x a l s.1 s.3 = subst (λ (v : List ℕ). G x v l s.1 s.3) same.0 at_x in
    let shorter : a ++ (s.1 ++ tail) ≡ a ++ (t ++ rest) = ap (λ o. o ++ (s.1 ++ tail)) (sym same.0) ∙ spelled in
    ruled s.1 tail rest s.3 at_a (append_cancel_left a (s.1 ++ tail) (t ++ rest) shorter)

pub tail_got : {X Y Z : Type 0} (F : Language X) (G : X → List ℕ → Language Y) (H : Language Z) (make : X → Y → Z) → Chain F G H make
    → (octets rest after a : List ℕ) (x : X) (y : Y) → octets ≡ a ++ rest → F bounded a x → Got (G x a) rest y after → Got H octets (make x y) after
tail_got F G H make chain octets rest after a x y e f (b, is, g) =
    (a ++ b, e ∙ ap (λ o. a ++ o) is ∙ sym (append_assoc a b after), chain.join bounded a b x y f g)

fault_tail : {X Y Z : Type 0} (F : Language X) (G : X → List ℕ → Language Y) (H : Language Z) (make : X → Y → Z) → Chain F G H make
    → (octets rest a : List ℕ) (x : X) → octets ≡ a ++ rest → F bounded a x → (left : ℕ) (reason other : List ℕ → Type 0) → ((t : List ℕ) → reason t → other (a ++ t))
    → FaultAt (G x a) rest left reason → FaultAt H octets left other
fault_tail F G H make chain octets rest a x e f left reason other to at =
    record {
      prefix = a ++ at.prefix;
      octet = at.octet;
      rest = at.rest;
      parts = e ∙ ap (λ o. a ++ o) at.parts ∙ sym (append_assoc a at.prefix (at.octet ∷ at.rest));
      left_is = at.left_is;
      before = inr (elim at.before [
        | inl none ↦ open_tail F G H make chain bounded a at.prefix x f (subst (λ (o : List ℕ). Open (G x a) bounded o) (sym none) (chain.nonempty bounded a x f))
        | inr o ↦ open_tail F G H make chain bounded a at.prefix x f o
      ]);
      after = subst other (sym (append_assoc a at.prefix (at.octet ∷ []))) (to (at.prefix ++ (at.octet ∷ [])) at.after);
    }

pub tail_failed : {X Y Z : Type 0} (F : Language X) (G : X → List ℕ → Language Y) (H : Language Z) (make : X → Y → Z) → Chain F G H make
    → (octets rest a : List ℕ) (x : X) (fault : Fault) → octets ≡ a ++ rest → F bounded a x → Failed (G x a) rest fault → Failed H octets fault
tail_failed F G H make chain octets rest a x faults.Short e f (next, w, y, g) = (
  next,
  w,
  make x y,
  subst (λ (o : List ℕ). H bounded o (make x y)) (sym (ap (λ o. o ++ (next ∷ w)) e ∙ append_assoc a rest (next ∷ w))) (chain.join bounded a (rest ++ (next ∷ w)) x y f g),
)
tail_failed F G H make chain octets rest a x (faults.Bad left) e f at = fault_tail F G H make chain octets rest a x e f left _ _ (λ t r. ruled_tail F G H make chain free a t x f r) at
tail_failed F G H make chain octets rest a x (faults.Deep left) e f at =
    fault_tail F G H make chain octets rest a x e f left _ _ (λ t r. (open_tail F G H make chain free a t x f r.0, ruled_tail F G H make chain shallow a t x f r.1)) at
tail_failed F G H make chain octets rest a x (faults.Long left) e f at =
    fault_tail F G H make chain octets rest a x e f left _ _ (λ t r. (open_tail F G H make chain shallow a t x f r.0, ruled_tail F G H make chain bounded a t x f r.1)) at
tail_failed F G H make chain octets rest a x faults.NoMemory e f at = tt

-- ---- an octet that doesn't pass a test

judged_fault : {X : Type 0} (L : Language X) (octets prefix rest : List ℕ) (octet left : ℕ) (reason : List ℕ → Type 0) → octets ≡ prefix ++ (octet ∷ rest) → left ≡ length (octet ∷ rest)
    → (prefix ≡ []) ⊎ Open L bounded prefix → reason (prefix ++ (octet ∷ [])) → FaultAt L octets left reason
judged_fault L octets prefix rest octet left reason parts is before after =
    record { prefix = prefix; octet = octet; rest = rest; parts = parts; left_is = is; before = before; after = after }

-- a test that tells whether the octets up to and with one can be completed
pub record Tells {X : Type 0} (L : Language X) (upto : List ℕ) (test : Limits → Bool) : Type 0 where
  pub opens : (l : Limits) → test l ≡ true → Open L l upto
  pub rules : (l : Limits) → test l ≡ false → Ruled L l upto

pub test_failed : {X : Type 0} (L : Language X) (octets prefix rest : List ℕ) (octet left : ℕ) (test : Limits → Bool) (fault : Fault) → octets ≡ prefix ++ (octet ∷ rest) → left ≡ length (octet ∷ rest)
    → (prefix ≡ []) ⊎ Open L bounded prefix → Tells L (prefix ++ (octet ∷ [])) test → Judged test left fault → Failed L octets fault
test_failed L octets prefix rest octet left test faults.Short parts is before tells j = absurd j
test_failed L octets prefix rest octet left test (faults.Bad n) parts is before tells (same, failed) =
    judged_fault L octets prefix rest octet n _ parts (same ∙ is) before (tells.rules free failed)
test_failed L octets prefix rest octet left test (faults.Deep n) parts is before tells (same, passed, failed) =
    judged_fault L octets prefix rest octet n _ parts (same ∙ is) before (tells.opens free passed, tells.rules shallow failed)
test_failed L octets prefix rest octet left test (faults.Long n) parts is before tells (same, passed, failed) =
    judged_fault L octets prefix rest octet n _ parts (same ∙ is) before (tells.opens shallow passed, tells.rules bounded failed)
test_failed L octets prefix rest octet left test faults.NoMemory parts is before tells j = absurd j

-- ---- a language that says the same of the octets

-- The words of M are those of L, where the octets with what is after them are as P says.
pub record Carries {X Y : Type 0} (L : Language X) (M : Language Y) (make : X → Y) (P : List ℕ → Type 0) : Type 0 where
  pub onto : (l : Limits) (word : List ℕ) (x : X) → L l word x → M l word (make x)
  pub back : (l : Limits) (word tail : List ℕ) (y : Y) → M l word y → P (word ++ tail) → (x : X) × L l word x

carried_open : {X Y : Type 0} (L : Language X) (M : Language Y) (make : X → Y) (P : List ℕ → Type 0) → Carries L M make P → (l : Limits) (t : List ℕ) → Open L l t → Open M l t
carried_open L M make P carries l t (w, x, h) = (w, make x, carries.onto l (t ++ w) x h)

carried_fault : {X Y : Type 0} (L : Language X) (M : Language Y) (make : X → Y) (P : List ℕ → Type 0) → Carries L M make P
    → (octets : List ℕ) (left : ℕ) (reason other : List ℕ → Type 0)
    → ((prefix rest more : List ℕ) (octet : ℕ) → octets ≡ prefix ++ (octet ∷ rest) → P ((prefix ++ (octet ∷ [])) ++ more))
    → ((t : List ℕ) → ((more : List ℕ) → P (t ++ more)) → reason t → other t) → FaultAt L octets left reason → FaultAt M octets left other
carried_fault L M make P carries octets left reason other holds to f =
    record {
      prefix = f.prefix;
      octet = f.octet;
      rest = f.rest;
      parts = f.parts;
      left_is = f.left_is;
      before = elim f.before [ inl e ↦ inl e | inr o ↦ inr (carried_open L M make P carries bounded f.prefix o) ];
      after = to (f.prefix ++ (f.octet ∷ [])) (λ more. holds f.prefix f.rest more f.octet f.parts) f.after;
    }

carried_ruled : {X Y : Type 0} (L : Language X) (M : Language Y) (make : X → Y) (P : List ℕ → Type 0) → Carries L M make P → (l : Limits) (t : List ℕ)
    → ((more : List ℕ) → P (t ++ more)) → Ruled L l t → Ruled M l t
carried_ruled L M make P carries l t holds ruled word tail rest y m e =
    let x = carries.back l word tail y m (subst P (sym e) (holds rest)) in
    ruled word tail rest x.0 x.1 e

pub carried_failed : {X Y : Type 0} (L : Language X) (M : Language Y) (make : X → Y) (P : List ℕ → Type 0) → Carries L M make P
    → (octets : List ℕ) (fault : Fault) → ((prefix rest more : List ℕ) (octet : ℕ) → octets ≡ prefix ++ (octet ∷ rest) → P ((prefix ++ (octet ∷ [])) ++ more))
    → Failed L octets fault → Failed M octets fault
carried_failed L M make P carries octets faults.Short holds (next, w, x, h) = (next, w, make x, carries.onto bounded (octets ++ (next ∷ w)) x h)
carried_failed L M make P carries octets (faults.Bad left) holds f = carried_fault L M make P carries octets left _ _ holds (carried_ruled L M make P carries free) f
carried_failed L M make P carries octets (faults.Deep left) holds f =
    carried_fault L M make P carries octets left _ _ holds (λ t p r. (carried_open L M make P carries free t r.0, carried_ruled L M make P carries shallow t p r.1)) f
carried_failed L M make P carries octets (faults.Long left) holds f =
    carried_fault L M make P carries octets left _ _ holds (λ t p r. (carried_open L M make P carries shallow t r.0, carried_ruled L M make P carries bounded t p r.1)) f
carried_failed L M make P carries octets faults.NoMemory holds f = tt

abbrev pub Anything : List ℕ → Type 0
Anything octets = Unit {0}

-- ---- what a `?` passes on

pub through : {T : Type 0} (r : Result T Fault) (fault : Fault) (P : Fault → Type 0) → IsErrAnd r (λ e. e ≡ fault) → P fault → IfErr r P
through r fault P h p = let e = err_from_is_err_and r h in rw (e.1, e.2) p
