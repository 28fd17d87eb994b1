-- The regimes that stand in a sound state have numbers of their own, and those of one file agree.
use Rattle.std.proofs.Common.{◌≡◌, ℕ, ◌<◌, true, false, ◌&&◌, List, [], ◌∷◌, ◌++◌, map, nat_eq, Option, None, Some, inl, inr, refl, ap, sym, subst, ◌∙◌}
use Rattle.std.specs.Prelude.{flat_map}
use Rattle.std.specs.List.{AllByRecursion, IsDistinct}
use Rattle.std.specs.Str.{bytes_eq}
use Rattle.std.proofs.lemmas.Bool.{eqb-false, or_parts}
use Rattle.vf_locks.specs.Clash.{clash}
use Rattle.vf_filestore.specs.History.{History, Regime, Selection, regime, selection}
use Rattle.vf_filestore.specs.Holders.{controls_by}
use Rattle.vf_filestore.specs.Sound as sounds
use Rattle.vf_filestore.specs.Sound.{IsBefore, IsSound, Use, are_clashing, do_clash, is_same_number, standing_by, use_by, use_in}
use Rattle.vf_filestore.specs.State.{Docket, State, StandingParty, identity_of}
use Rattle.vf_filestore.proofs.Broken.{standings}
use Rattle.vf_filestore.proofs.Clashes.{held_uses}
use Rattle.vf_filestore.proofs.Filed.{name_itself}
use Rattle.vf_filestore.proofs.Lists.{all-from_flat_map, flat_map-append}
use Rattle.vf_filestore.proofs.Moving.{Has, all_of}
use Rattle.vf_serial.proofs.Among.{IsAmong, in_either}
use Rattle.vf_serial.proofs.Exclusion.{Agree, agree_flips}
use Rattle.vf_serial.proofs.Led.{IsCoherent, Stand, at}
use Rattle.vf_serial.proofs.Pairs.{AreApart, ArePairs, distinct_pairs, flat_map-map, two}

-- ---- who has a history

pub data Item : Type 0 where
  docked : Docket → Item
  standing : StandingParty → Item

abbrev pub history_of : Item → History
history_of (docked docket) = docket.history
history_of (standing party) = party.history

abbrev pub items : List Docket → List StandingParty → List Item
items dockets parties = map docked dockets ++ map standing parties

abbrev pub of_item : {A : Type 0} → Has A → Item → List A
of_item has (docked docket) = has.of_docket docket
of_item has (standing party) = has.of_party party

pub all_items : {A : Type 0} (has : Has A) (dockets : List Docket) (parties : List StandingParty) → flat_map (of_item has) (items dockets parties) ≡ all_of has dockets parties
all_items has dockets parties =
    flat_map-append (of_item has) (map docked dockets) (map standing parties)
    ∙ (λ i. flat_map-map (of_item has) docked dockets i ++ flat_map-map (of_item has) standing parties i)

-- ---- the regimes that stand

abbrev pub stand_by : Option Regime → Option Selection → List Stand
stand_by (Some regime) (Some selection) = at selection.file regime ∷ []
stand_by regime selection = []

abbrev pub stands_in : History → List Stand
stands_in history = stand_by (regime history) (selection history)

abbrev pub stands : Item → List Stand
stands item = stands_in (history_of item)

abbrev pub present : State → List Stand
present state = flat_map stands (items state.dockets state.parties)

pub record IsStand (history : History) (x : Stand) : Type 0 where
  pub selected : Selection
  pub chosen : selection history ≡ Some selected
  pub opened : regime history ≡ Some x.regime
  pub on : selected.file ≡ x.file

pub stand_is : (history : History) (x : Stand) → IsAmong x (stands_in history) → IsStand history x
stand_is history x there = by (regime history) refl (selection history) refl there
  where
    by : (r : Option Regime) → regime history ≡ r → (s : Option Selection) → selection history ≡ s → IsAmong x (stand_by r s) → IsStand history x
    by None is s too there = absurd there
    by (Some r) is None too there = absurd there
    by (Some r) is (Some s) too (inl same) = record {
      selected = s;
      chosen = too;
      opened = is ∙ ap (λ r. Some r) (sym (ap (λ (x : Stand). x.regime) same));
      on = sym (ap (λ (x : Stand). x.file) same);
    }
    by (Some r) is (Some s) too (inr later) = absurd later

pub one_stand : (history : History) (x y : Stand) → IsAmong x (stands_in history) → IsAmong y (stands_in history) → x ≡ y
one_stand history x y there too = by (regime history) (selection history) there too
  where
    by : (r : Option Regime) (s : Option Selection) → IsAmong x (stand_by r s) → IsAmong y (stand_by r s) → x ≡ y
    by None s there too = absurd there
    by (Some r) None there too = absurd there
    by (Some r) (Some s) (inl same) (inl other) = same ∙ sym other
    by (Some r) (Some s) (inl same) (inr later) = absurd later
    by (Some r) (Some s) (inr later) too = absurd later

-- ---- their numbers, and their controls

abbrev pub numbers_of : Item → List sounds.Standing
numbers_of item = of_item standings item

abbrev pub uses_of : Item → List Use
uses_of item = of_item held_uses item

pub number_at : (item : Item) (x : Stand) → IsAmong x (stands item) → (P : ℕ → Type 0) → AllByRecursion (λ (one : sounds.Standing). P one.number) (numbers_of item) → P x.regime.number
number_at (docked docket) x there P all =
    (subst (λ (one : Option Regime). AllByRecursion (λ (one : sounds.Standing). P one.number) (standing_by docket.identity one)) (stand_is docket.history x there).opened all).0
number_at (standing party) x there P all =
    (subst (λ (one : Option Regime). AllByRecursion (λ (one : sounds.Standing). P one.number) (standing_by (identity_of party) one)) (stand_is party.history x there).opened all).0

abbrev used : Selection → Regime → Use
used selected opened = record { file = selected.file; controls = controls_by selected (Some opened) }

use_in_at : (history : History) (x : Stand) (is : IsStand history x) → (P : Use → Type 0) → AllByRecursion P (use_in history) → P (used is.selected x.regime)
use_in_at history x is P all =
    (subst (λ (one : Option Selection). AllByRecursion P (use_by (Some x.regime) one)) is.chosen
    (subst (λ (one : Option Regime). AllByRecursion P (use_by one (selection history))) is.opened all)).0

use_at : (item : Item) (x : Stand) (there : IsAmong x (stands item)) → (P : Use → Type 0) → AllByRecursion P (uses_of item) → P (used (stand_is (history_of item) x there).selected x.regime)
use_at (docked docket) x there P all = use_in_at docket.history x (stand_is docket.history x there) P all
use_at (standing party) x there P all = use_in_at party.history x (stand_is party.history x there) P all

agree_from : (selected other : Selection) (one two : Regime) → selected.file ≡ other.file → do_clash (used selected one) (used other two) ≡ false → Agree one.controls two.controls
agree_from selected other one two on apart =
    let same : bytes_eq selected.file other.file ≡ true = subst (λ name. bytes_eq selected.file name ≡ true) on (name_itself selected.file) in
    let clear : are_clashing (controls_by selected (Some one)) (controls_by other (Some two)) ≡ false
    = sym (ap (λ b. b && are_clashing (controls_by selected (Some one)) (controls_by other (Some two))) same) ∙ apart in
    let read = or_parts (clash one.controls.read two.controls.read) _ clear in
    let insert = or_parts (clash one.controls.insert two.controls.insert) _ read.1 in
    let replace = or_parts (clash one.controls.replace two.controls.replace) _ insert.1 in
    let extend = or_parts (clash one.controls.extend two.controls.extend) _ replace.1 in
    let erase = or_parts (clash one.controls.erase two.controls.erase) _ extend.1 in
    record { read = read.0; insert = insert.0; replace = replace.0; extend = extend.0; erase = erase.0 }

pub numbers_apart : (i j : Item) (x y : Stand) → AreApart is_same_number numbers_of i j → IsAmong x (stands i) → IsAmong y (stands j) → nat_eq x.regime.number y.regime.number ≡ false
numbers_apart i j x y apart there too =
    number_at j y too (λ m. nat_eq x.regime.number m ≡ false)
    (number_at i x there (λ n. AllByRecursion (λ (other : sounds.Standing). nat_eq n other.number ≡ false) (numbers_of j)) apart)

agree_at : (i j : Item) (x y : Stand) → AreApart do_clash uses_of i j → IsAmong x (stands i) → IsAmong y (stands j) → x.file ≡ y.file → Agree x.regime.controls y.regime.controls
agree_at i j x y apart there too on =
    let one = stand_is (history_of i) x there in
    let other = stand_is (history_of j) y too in
    agree_from one.selected other.selected x.regime y.regime (one.on ∙ on ∙ sym other.on)
    (use_at j y too (λ b. do_clash (used one.selected x.regime) b ≡ false) (use_at i x there (λ a. AllByRecursion (λ b. do_clash a b ≡ false) (uses_of j)) apart))

pub number_pairs : (state : State) → IsSound state → ArePairs (AreApart is_same_number numbers_of) (items state.dockets state.parties)
number_pairs state sound =
    distinct_pairs is_same_number numbers_of (items state.dockets state.parties)
    (subst (λ (all : List sounds.Standing). IsDistinct is_same_number all) (sym (all_items standings state.dockets state.parties)) sound.numbered.apart)

use_pairs : (state : State) → IsSound state → ArePairs (AreApart do_clash uses_of) (items state.dockets state.parties)
use_pairs state sound =
    distinct_pairs do_clash uses_of (items state.dockets state.parties)
    (subst (λ (all : List Use). IsDistinct do_clash all) (sym (all_items held_uses state.dockets state.parties)) sound.agreed)

below_all : (next : ℕ) (xs : List Item) (x : Stand) → AllByRecursion (IsBefore next) (flat_map numbers_of xs) → IsAmong x (flat_map stands xs) → x.regime.number < next
below_all next xs x all there = found xs (all-from_flat_map numbers_of (IsBefore next) xs all) there
  where
    found : (xs : List Item) → AllByRecursion (λ i. AllByRecursion (IsBefore next) (numbers_of i)) xs → IsAmong x (flat_map stands xs) → x.regime.number < next
    found [] each there = absurd there
    found (i ∷ xs) each there =
        elim (in_either x (stands i) (flat_map stands xs) there) [ inl here ↦ number_at i x here (λ n. n < next) each.0 | inr later ↦ found xs each.1 later ]

pub coherent : (state : State) → IsSound state → IsCoherent (present state) state.concluded
coherent state sound = record {
  below = λ x there.
      below_all state.concluded (items state.dockets state.parties) x
      (subst (λ (all : List sounds.Standing). AllByRecursion (IsBefore state.concluded) all) (sym (all_items standings state.dockets state.parties)) sound.numbered.before) there;
  single = λ x y there too same.
      two (AreApart is_same_number numbers_of) stands (x ≡ y) x y (items state.dockets state.parties) (number_pairs state sound) there too
      (λ i here also. one_stand (history_of i) x y here also)
      (λ i j apart here also. absurd (eqb-false x.regime.number y.regime.number (numbers_apart i j x y apart here also) same))
      (λ i j apart also here. absurd (eqb-false y.regime.number x.regime.number (numbers_apart i j y x apart also here) (sym same)));
  agreed = λ x y there too differ on.
      two (AreApart do_clash uses_of) stands (Agree x.regime.controls y.regime.controls) x y (items state.dockets state.parties) (use_pairs state sound) there too
      (λ i here also. absurd (differ (ap (λ (s : Stand). s.regime.number) (one_stand (history_of i) x y here also))))
      (λ i j apart here also. agree_at i j x y apart here also on)
      (λ i j apart also here. agree_flips y.regime.controls x.regime.controls (agree_at i j y x apart also here (sym on)));
}
