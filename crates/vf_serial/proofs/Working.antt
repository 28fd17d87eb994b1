-- The regimes that work on contents, with their positions.
use Rattle.std.proofs.Common.{◌≡◌, ℕ, Bool, true, false, List, [], ◌∷◌, ◌++◌, is_some, Option, None, Some, inl, inr, refl, ap, sym, subst, ◌∙◌}
use Rattle.std.specs.Prelude.{◌⊎◌, IsSome, flat_map}
use Rattle.vf_filestore.specs.History.{History, Regime, Selection, position, regime, selection}
use Rattle.vf_filestore.specs.State.{State, file_in, name_in}
use Rattle.vf_filestore.specs.Sound.{IsNested}
use Rattle.vf_filestore.proofs.Lists.{flat_map-append}
use Rattle.vf_filestore.proofs.Nested.{nests}
use Rattle.vf_serial.specs.Moves.{works}
use Rattle.vf_serial.specs.Uses.{Standing}
use Rattle.vf_serial.proofs.Acting.{AreOf, placed_at}
use Rattle.vf_serial.proofs.Among.{IsAmong, in_either, in_left, in_right}
use Rattle.vf_serial.proofs.Led.{at}
use Rattle.vf_serial.proofs.Present.{Item, history_of, items, stand_by, stands, stands_in}

abbrev pub working_at : Bool → (file : List ℕ) → Regime → (position : ℕ) → List Standing
working_at true file regime position = placed_at file regime position ∷ []
working_at false file regime position = []

abbrev pub worker_by : (position : ℕ) → Option Regime → Option Selection → List Standing
worker_by position (Some regime) (Some selection) = working_at (works regime.mode) selection.file regime position
worker_by position regime selection = []

abbrev pub workers_in : History → List Standing
workers_in history = worker_by (position history) (regime history) (selection history)

abbrev pub workers : Item → List Standing
workers item = workers_in (history_of item)

abbrev pub working : State → List Standing
working state = flat_map workers (items state.dockets state.parties)

pub none_works : (history : History) → regime history ≡ None → workers_in history ≡ []
none_works history none = ap (λ (one : Option Regime). worker_by (position history) one (selection history)) none

pub works_at : (history : History) (opened : Regime) (place : ℕ) → IsNested history → regime history ≡ Some opened → worker_by place (regime history) (selection history) ≡ working_at (works opened.mode) (name_in history) opened place
works_at history opened place nested is =
    ap (λ (one : Option Regime). worker_by place one (selection history)) is
    ∙ by (selection history) ((nests history nested).regimes (ap is_some is))
  where
    by : (one : Option Selection) → IsSome one → worker_by place (Some opened) one ≡ working_at (works opened.mode) (file_in one) opened place
    by None some = absurd cc
    by (Some selection) some = refl

-- the same regime at the same position
pub same_works : (history other : History) → regime other ≡ regime history → selection other ≡ selection history → (IsSome (regime history) → position other ≡ position history) → workers_in other ≡ workers_in history
same_works history other opens selects places = by (regime history) refl
  where
    by : (one : Option Regime) → regime history ≡ one → workers_in other ≡ workers_in history
    by None none = none_works other (opens ∙ none) ∙ sym (none_works history none)
    by (Some opened) some = λ i. worker_by (places (ap is_some some) i) (opens i) (selects i)

-- ---- one among the others

-- those of one, or of the others
pub apart_of : (item : Item) (before after : List Item) (x : Standing) → IsAmong x (flat_map workers (before ++ item ∷ after)) → IsAmong x (workers item) ⊎ IsAmong x (flat_map workers (before ++ after))
apart_of item before after x there =
    elim (in_either x (flat_map workers before) (flat_map workers (item ∷ after)) (subst (IsAmong x) (flat_map-append workers before (item ∷ after)) there)) [
      | inl first ↦ inr (subst (IsAmong x) (sym (flat_map-append workers before after)) (in_left x (flat_map workers before) (flat_map workers after) first))
      | inr later ↦ elim (in_either x (workers item) (flat_map workers after) later) [
        | inl own ↦ inl own
        | inr last ↦ inr (subst (IsAmong x) (sym (flat_map-append workers before after)) (in_right x (flat_map workers before) (flat_map workers after) last))
      ]
    ]

pub own_of : (item : Item) (before after : List Item) → AreOf (workers item) (flat_map workers (before ++ item ∷ after))
own_of item before after x there =
    subst (IsAmong x) (sym (flat_map-append workers before (item ∷ after)))
    (in_right x (flat_map workers before) (flat_map workers (item ∷ after)) (in_left x (workers item) (flat_map workers after) there))

pub rest_of : (item : Item) (before after : List Item) → AreOf (flat_map workers (before ++ after)) (flat_map workers (before ++ item ∷ after))
rest_of item before after x there =
    elim (in_either x (flat_map workers before) (flat_map workers after) (subst (IsAmong x) (flat_map-append workers before after) there)) [
      | inl first ↦ subst (IsAmong x) (sym (flat_map-append workers before (item ∷ after))) (in_left x (flat_map workers before) (flat_map workers (item ∷ after)) first)
      | inr last ↦
          subst (IsAmong x) (sym (flat_map-append workers before (item ∷ after)))
          (in_right x (flat_map workers before) (flat_map workers (item ∷ after)) (in_right x (workers item) (flat_map workers after) last))
    ]

-- where one is another, those of the later are those of the former or its own
pub were_next : (item next : Item) (before after : List Item) → AreOf (workers next) (workers item) → AreOf (flat_map workers (before ++ next ∷ after)) (flat_map workers (before ++ item ∷ after))
were_next item next before after own x there =
    elim (apart_of next before after x there) [ inl mine ↦ own_of item before after x (own x mine) | inr others ↦ rest_of item before after x others ]

pub of_equal : (later all : List Standing) → later ≡ all → AreOf later all
of_equal later all same x there = subst (IsAmong x) same there

pub of_none : (later all : List Standing) → later ≡ [] → AreOf later all
of_none later all none x there = absurd (subst (IsAmong x) none there)

-- ---- a regime that works stands

worker_stands : (history : History) (x : Standing) → IsAmong x (workers_in history) → IsAmong (at x.file x.regime) (stands_in history)
worker_stands history x there = by (regime history) (selection history) there
  where
    by : (r : Option Regime) (s : Option Selection) → IsAmong x (worker_by (position history) r s) → IsAmong (at x.file x.regime) (stand_by r s)
    by None s there = absurd there
    by (Some r) None there = absurd there
    by (Some r) (Some s) there = which (works r.mode) there
      where
        which : (b : Bool) → IsAmong x (working_at b s.file r (position history)) → IsAmong (at x.file x.regime) (at s.file r ∷ [])
        which false there = absurd there
        which true (inl same) = inl (λ i. at (same i).file (same i).regime)
        which true (inr none) = absurd none

pub working_stands : (all : List Item) (x : Standing) → IsAmong x (flat_map workers all) → IsAmong (at x.file x.regime) (flat_map stands all)
working_stands [] x there = absurd there
working_stands (item ∷ all) x there =
    elim (in_either x (workers item) (flat_map workers all) there) [
      | inl own ↦ in_left (at x.file x.regime) (stands item) (flat_map stands all) (worker_stands (history_of item) x own)
      | inr later ↦ in_right (at x.file x.regime) (stands item) (flat_map stands all) (working_stands all x later)
    ]
