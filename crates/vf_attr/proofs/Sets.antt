-- Sets of actions as numbers: `|` joins two, and `&` keeps all of the one that is in the other.
use Rattle.std.proofs.Common.{◌≡◌, ◌↔◌, IsTrue, ℕ, zero, suc, ◌<◌, min, max, Bool, true, false, ◌&&◌, ◌||◌, not, nat_eq, List, [], ◌∷◌, filter, drop, cond, fold, bit_and, bit_or, refl, sym, ◌∙◌, ap, arith}
use Rattle.std.proofs.lemmas.Bool.{eqb-true, eq-eqb}
use Rattle.std.proofs.lemmas.Nat.{and_le_l}
use Rattle.std.proofs.lemmas.Nat.Bits.{bit_at_and, bit_at_or, bit_at-lt, same_from_bits_below}
use Rattle.std.specs.Int.{bit_at}
use Rattle.vf_base.specs.declared.action.Action.{Action}
use Rattle.vf_base.specs.declared.action.Action.TheVariants.{Read, Insert, Replace, Extend, Erase, ReadAttribute, ChangeAttribute, Delete}
use Rattle.vf_base.specs.declared.action.Actions.{Actions}
use Rattle.vf_base.specs.declared.term.Term.{Term}
use Rattle.vf_attr.specs.Access.{all_actions, has, is_in_some, missing, number_of, sets_of}

abbrev pub set_of : ℕ → Actions
set_of value = record { value = value }

-- ---- joined sets

one_of_both : (a b : ℕ) → a < 2 → b < 2 → nat_eq (max a b) 1 ≡ (nat_eq a 1 || nat_eq b 1)
one_of_both zero zero p q = refl
one_of_both zero (suc zero) p q = refl
one_of_both (suc zero) zero p q = refl
one_of_both (suc zero) (suc zero) p q = refl
one_of_both zero (suc (suc b)) p q = absurd (omega arith)
one_of_both (suc zero) (suc (suc b)) p q = absurd (omega arith)
one_of_both (suc (suc a)) b p q = absurd (omega arith)

has_joined : (a b : ℕ) (action : Action) → has (set_of (bit_or a b)) action ≡ (has (set_of a) action || has (set_of b) action)
has_joined a b action =
    let i : ℕ = number_of action in
    ap (λ n. nat_eq n 1) (bit_at_or a b i) ∙ one_of_both (bit_at a i) (bit_at b i) (bit_at-lt a i) (bit_at-lt b i)

or_assoc : (p q r : Bool) → ((p || q) || r) ≡ (p || (q || r))
or_assoc true q r = refl
or_assoc false q r = refl

or_false : (p : Bool) → (p || false) ≡ p
or_false true = refl
or_false false = refl

abbrev pub joined : ℕ → List Term → ℕ
joined value terms = fold (λ (value : ℕ) (term : Term). bit_or value term.actions.value) value terms

has_all : (terms : List Term) (value : ℕ) (action : Action) → has (set_of (joined value terms)) action ≡ (has (set_of value) action || is_in_some (sets_of terms) action)
has_all [] value action = sym (or_false _)
has_all (term ∷ terms) value action =
    has_all terms (bit_or value term.actions.value) action
    ∙ ap (λ p. p || is_in_some (sets_of terms) action) (has_joined value term.actions.value action)
    ∙ or_assoc (has (set_of value) action) (has term.actions action) (is_in_some (sets_of terms) action)

no_action : (action : Action) → has (set_of 0) action ≡ false
no_action Read = refl
no_action Insert = refl
no_action Replace = refl
no_action Extend = refl
no_action Erase = refl
no_action ReadAttribute = refl
no_action ChangeAttribute = refl
no_action Delete = refl

-- what is missing from the joined sets of the terms is missing from each
pub missing_joined : (value : ℕ) (terms : List Term) → value ≡ joined 0 terms → (wanted : Actions) → missing (set_of value ∷ []) wanted ≡ missing (sets_of terms) wanted
missing_joined value terms is wanted =
    let same : (action : Action) → is_in_some (set_of value ∷ []) action ≡ is_in_some (sets_of terms) action
    = λ action.
    or_false _ ∙ ap (λ n. has (set_of n) action) is ∙ has_all terms 0 action
    ∙ ap (λ p. p || is_in_some (sets_of terms) action) (no_action action) in
    λ i. filter (λ action. has wanted action && not (same action i)) all_actions

-- ---- one set in another

both_ones : (a b : ℕ) → a < 2 → b < 2 → (nat_eq a 1 && not (nat_eq b 1 || false)) ≡ false → min a b ≡ a
both_ones zero b p q h = omega arith
both_ones (suc zero) zero p q h = absurd (cc)
both_ones (suc zero) (suc zero) p q h = omega arith
both_ones (suc zero) (suc (suc b)) p q h = absurd (omega arith)
both_ones (suc (suc a)) b p q h = absurd (omega arith)

not_both : (a b : ℕ) → a < 2 → b < 2 → min a b ≡ a → (nat_eq a 1 && not (nat_eq b 1 || false)) ≡ false
not_both zero b p q h = refl
not_both (suc zero) zero p q h = absurd (omega arith)
not_both (suc zero) (suc zero) p q h = refl
not_both (suc zero) (suc (suc b)) p q h = absurd (omega arith)
not_both (suc (suc a)) b p q h = absurd (omega arith)

abbrev is_missing : Actions → Actions → Action → Bool
is_missing set wanted action = has wanted action && not (is_in_some (set ∷ []) action)

-- what a test drops
dropped : (p : Action → Bool) (action : Action) (actions : List Action) → filter p (action ∷ actions) ≡ [] → (p action ≡ false) × (filter p actions ≡ [])
dropped p action actions = by (p action)
  where
    by : (b : Bool) → cond b (action ∷ filter p actions) (filter p actions) ≡ [] → (b ≡ false) × (filter p actions ≡ [])
    by true h = absurd (cc)
    by false h = (refl, h)

each_dropped : (p : Action → Bool) → filter p all_actions ≡ [] → (action : Action) → p action ≡ false
each_dropped p h =
    let read = dropped p Read (drop 1 all_actions) h in
    let insert = dropped p Insert (drop 2 all_actions) read.1 in
    let replace = dropped p Replace (drop 3 all_actions) insert.1 in
    let extend = dropped p Extend (drop 4 all_actions) replace.1 in
    let erase = dropped p Erase (drop 5 all_actions) extend.1 in
    let read_attribute = dropped p ReadAttribute (drop 6 all_actions) erase.1 in
    let change_attribute = dropped p ChangeAttribute (drop 7 all_actions) read_attribute.1 in
    let delete = dropped p Delete (drop 8 all_actions) change_attribute.1 in
    λ action. elim action as (λ action. p action ≡ false) [
      | Read ↦ read.0
      | Insert ↦ insert.0
      | Replace ↦ replace.0
      | Extend ↦ extend.0
      | Erase ↦ erase.0
      | ReadAttribute ↦ read_attribute.0
      | ChangeAttribute ↦ change_attribute.0
      | Delete ↦ delete.0
    ]

bit_kept : (a b : ℕ) → missing (set_of b ∷ []) (set_of a) ≡ [] → (action : Action) → bit_at (bit_and a b) (number_of action) ≡ bit_at a (number_of action)
bit_kept a b h action =
    let i : ℕ = number_of action in
    bit_at_and a b i ∙ both_ones (bit_at a i) (bit_at b i) (bit_at-lt a i) (bit_at-lt b i) (each_dropped (is_missing (set_of b) (set_of a)) h action)

bits_kept : (a b : ℕ) → missing (set_of b ∷ []) (set_of a) ≡ [] → (i : ℕ) → i < 8 → bit_at (bit_and a b) i ≡ bit_at a i
bits_kept a b h zero p = bit_kept a b h Read
bits_kept a b h (suc zero) p = bit_kept a b h Insert
bits_kept a b h (suc (suc zero)) p = bit_kept a b h Replace
bits_kept a b h (suc (suc (suc zero))) p = bit_kept a b h Extend
bits_kept a b h (suc (suc (suc (suc zero)))) p = bit_kept a b h Erase
bits_kept a b h (suc (suc (suc (suc (suc zero))))) p = bit_kept a b h ReadAttribute
bits_kept a b h (suc (suc (suc (suc (suc (suc zero)))))) p = bit_kept a b h ChangeAttribute
bits_kept a b h (suc (suc (suc (suc (suc (suc (suc zero))))))) p = bit_kept a b h Delete
bits_kept a b h (suc (suc (suc (suc (suc (suc (suc (suc i)))))))) p = absurd (omega arith)

kept_from_none : (a b : ℕ) → a < 256 → missing (set_of b ∷ []) (set_of a) ≡ [] → bit_and a b ≡ a
kept_from_none a b small h =
    same_from_bits_below 8 (bit_and a b) a (omega (arith, and_le_l a b)) small (bits_kept a b h)

none_from_kept : (a b : ℕ) → bit_and a b ≡ a → missing (set_of b ∷ []) (set_of a) ≡ []
none_from_kept a b h =
    let none : (action : Action) → is_missing (set_of b) (set_of a) action ≡ false
    = λ action.
    let i : ℕ = number_of action in
    not_both (bit_at a i) (bit_at b i) (bit_at-lt a i) (bit_at-lt b i) (sym (bit_at_and a b i) ∙ ap (λ n. bit_at n i) h) in
    λ i. filter (λ action. none action i) all_actions

-- a set is in another one where `&` keeps all of it
pub kept_is_none_missing : (wanted set : Actions) → wanted.value < 256 → IsTrue (nat_eq (bit_and wanted.value set.value) wanted.value) ↔ (missing (set ∷ []) wanted ≡ [])
kept_is_none_missing wanted set small = (
  λ kept. none_from_kept wanted.value set.value (eqb-true (bit_and wanted.value set.value) wanted.value kept),
  λ none. eq-eqb (bit_and wanted.value set.value) wanted.value (kept_from_none wanted.value set.value small none),
)
