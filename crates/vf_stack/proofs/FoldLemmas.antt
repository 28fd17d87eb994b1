-- What is received one after the other.
use Rattle.std.proofs.Common.{◌≡◌, ℕ, List, [], ◌∷◌, ◌++◌, refl, ap, sym, subst, ◌∙◌, append_assoc, append-nil}
use Rattle.vf_session.specs.declared.units.TokenSide.{TokenSide}
use Rattle.vf_session_spdu.specs.declared.spdu.Spdu.{Spdu}
use Rattle.vf_stack.specs.Association.{Exchange}
use Rattle.vf_stack.specs.Receiving.{Received, preceded, each, followed, nothing, spdu_received, spdus_received}
use Rattle.vf_stack.specs.Represents.{IsSame, Onward, Receives, Stands, Tells}
use Rattle.vf_stack.specs.declared.exchange.KeptExchange.{KeptExchange}
use Rattle.vf_stack.specs.declared.indication.Indication.{Indication}
use Rattle.vf_stack.proofs.EndLemmas.{same-then}

preceded-twice : (a b : List Indication) (r : Received) → preceded a (preceded b r) ≡ preceded (a ++ b) r
preceded-twice a b r = rw (append_assoc a b r.indications) refl

-- one more was received
pub onward-one : {A : Type 0} (kept kept' kept'' : KeptExchange) (out out' out'' : List Indication) (receive : TokenSide → Exchange → A → Received) (all rest : List A) (y : A)
    → Onward kept out receive all kept' out' (y ∷ rest) → Receives kept' out' (λ own x. receive own x y) kept'' out'' → Onward kept out receive all kept'' out'' rest
onward-one kept kept' kept'' out out' out'' receive all rest y before one = (
  same-then kept kept' kept'' before.0 one.0,
  λ x s.
      let b = before.1 x s in
      let x' = b.0 in
      let own = kept.session.side in
      let P : TokenSide → Type 0 = λ own. Tells out' (receive own x' y) kept'' out'' in
      let o : P own = subst P before.0.0 (one.1 x' b.1) in
      let first = receive own x' y in
      let others = each (receive own) first.exchange rest in
      (first.exchange, o.1, b.2 ∙ preceded-twice out' first.indications others ∙ ap (λ (told : List Indication). preceded told others) (sym o.0)),
)

-- all were received
pub onward-all : {A : Type 0} (kept kept' : KeptExchange) (out out' : List Indication) (receive : TokenSide → Exchange → A → Received) (all : List A)
    → Onward kept out receive all kept' out' [] → Receives kept out (λ own x. each (receive own) x all) kept' out'
onward-all kept kept' out out' receive all told = (
  told.0,
  λ x s.
      let t = told.1 x s in
      let whole : preceded out (each (receive kept.session.side) x all) ≡ record { indications = out'; exchange = t.0 } =
      t.2 ∙ rw (append-nil out') refl in
      let P : Exchange → Type 0 = λ x'. Stands kept' x' in
      (sym (ap (λ (r : Received). r.indications) whole), subst P (sym (ap (λ (r : Received). r.exchange) whole)) t.1),
)

-- one thing and then another
pub receives-then : (kept kept' kept'' : KeptExchange) (out out' out'' : List Indication) (first second : TokenSide → Exchange → Received)
    → Receives kept out first kept' out' → Receives kept' out' second kept'' out''
    → Receives kept out (λ own x. followed (first own x) (second own)) kept'' out''
receives-then kept kept' kept'' out out' out'' first second a b = (
  same-then kept kept' kept'' a.0 b.0,
  λ x s.
      let own = kept.session.side in
      let f = first own x in
      let t = a.1 x s in
      let P : TokenSide → Type 0 = λ own. Tells out' (second own f.exchange) kept'' out'' in
      let u : P own = subst P a.0.0 (b.1 f.exchange t.1) in
      let next = second own f.exchange in
      (u.0 ∙ ap (λ (told : List Indication). told ++ next.indications) t.0 ∙ append_assoc out f.indications next.indications, u.1),
)

-- ---- the SPDUs of a TSDU

-- those that are left, of which the first begins at one place and the others at another
abbrev pub from_place : TokenSide → ℕ → ℕ → Exchange → List Spdu → Received
from_place own place after x [] = nothing x
from_place own place after x (spdu ∷ others) =
    let first = spdu_received own place x spdu in preceded first.indications (each (spdu_received own after) first.exchange others)

pub from-first : (own : TokenSide) (after : ℕ) (x : Exchange) (all : List Spdu) → spdus_received own after x all ≡ from_place own 0 after x all
from-first own after x [] = refl
from-first own after x (spdu ∷ others) = refl

from-others : (own : TokenSide) (after : ℕ) (x : Exchange) (all : List Spdu) → each (spdu_received own after) x all ≡ from_place own after after x all
from-others own after x [] = refl
from-others own after x (spdu ∷ others) = refl

-- Some of the SPDUs were received, and those that are left tell the rest.
abbrev pub Places : KeptExchange → List Indication → ℕ → List Spdu → KeptExchange → List Indication → ℕ → List Spdu → Type 0
Places kept out after all kept' out' place rest =
    IsSame kept kept'
    × ((x : Exchange) → Stands kept x → (x' : Exchange) × Stands kept' x'
    × (preceded out (spdus_received kept.session.side after x all) ≡ preceded out' (from_place kept.session.side place after x' rest)))

pub places-none : (kept : KeptExchange) (out : List Indication) (after : ℕ) (all : List Spdu) → Places kept out after all kept out 0 all
places-none kept out after all = ((refl, refl), λ x s. (x, s, ap (preceded out) (from-first kept.session.side after x all)))

pub places-one : (kept kept' kept'' : KeptExchange) (out out' out'' : List Indication) (after place : ℕ) (all rest : List Spdu) (y : Spdu)
    → Places kept out after all kept' out' place (y ∷ rest) → Receives kept' out' (λ own x. spdu_received own place x y) kept'' out'' → Places kept out after all kept'' out'' after rest
places-one kept kept' kept'' out out' out'' after place all rest y before one = (
  same-then kept kept' kept'' before.0 one.0,
  λ x s.
      let b = before.1 x s in
      let x' = b.0 in
      let own = kept.session.side in
      let P : TokenSide → Type 0 = λ own. Tells out' (spdu_received own place x' y) kept'' out'' in
      let o : P own = subst P before.0.0 (one.1 x' b.1) in
      let first = spdu_received own place x' y in
      let others = each (spdu_received own after) first.exchange rest in (
        first.exchange,
        o.1,
        b.2 ∙ preceded-twice out' first.indications others ∙ ap (λ (told : List Indication). preceded told others) (sym o.0)
            ∙ ap (preceded out'') (from-others own after first.exchange rest),
      ),
)

pub places-all : (kept kept' : KeptExchange) (out out' : List Indication) (after place : ℕ) (all : List Spdu)
    → Places kept out after all kept' out' place [] → Receives kept out (λ own x. spdus_received own after x all) kept' out'
places-all kept kept' out out' after place all told = (
  told.0,
  λ x s.
      let t = told.1 x s in
      let whole : preceded out (spdus_received kept.session.side after x all) ≡ record { indications = out'; exchange = t.0 } =
      t.2 ∙ rw (append-nil out') refl in
      let P : Exchange → Type 0 = λ x'. Stands kept' x' in
      (sym (ap (λ (r : Received). r.indications) whole), subst P (sym (ap (λ (r : Received). r.exchange) whole)) t.1),
)
