-- What holds of each entry of a history after those before it holds of what is retained of it, and of what a recovery
-- takes up.
use Rattle.std.proofs.Common.{◌≡◌, ℕ, Bool, true, false, cond, List, [], ◌∷◌, ◌++◌, is_some, Option, None, Some, refl}
use Rattle.std.specs.Prelude.{flat_map}
use Rattle.std.specs.List.{AllByRecursion}
use Rattle.vf_attr.specs.declared.file.File.{File}
use Rattle.vf_filestore.specs.Dockets.{docket_by, docket_left_by, retained, secured, secures, since_selection}
use Rattle.vf_filestore.specs.Dockets.{selects as is_selection}
use Rattle.vf_filestore.specs.History.{Entry, History, regime, selection}
use Rattle.vf_filestore.specs.Keeping.{EachAfter}
use Rattle.vf_filestore.specs.Sound.{IsNested, IsPlaced, IsSoundParty}
use Rattle.vf_filestore.specs.State.{Docket, StandingParty, activity_of}
use Rattle.vf_filestore.specs.Transfers.{under_way}
use Rattle.vf_filestore.proofs.Alike.{AreAlike}
use Rattle.vf_filestore.proofs.Counted.{AreCounted, counted_none, counted_resumed, counted_since}
use Rattle.vf_filestore.proofs.Lists.{all_append}
use Rattle.vf_filestore.proofs.Retained.{alike_first, alike_since, selected_at}
use Rattle.vf_filestore.proofs.Soundness.{alike_resumed}
use Rattle.vf_filestore.proofs.Views.{view}

-- it holds of an entry after another history too in which the same stands
abbrev pub Lasts : (History → Entry → Type 0) → Type 0
Lasts Holds =
    (earlier other : History) (entry : Entry) → AreAlike earlier other → AreCounted earlier other → IsPlaced earlier entry.message → Holds earlier entry → Holds other entry

-- ---- two facts of each entry

pub each_weaker : (P Q : History → Entry → Type 0) (history : History) → ((earlier : History) (entry : Entry) → P earlier entry → Q earlier entry) → EachAfter P history → EachAfter Q history
each_weaker P Q [] f each = tt
each_weaker P Q (entry ∷ earlier) f each = (f earlier entry each.0, each_weaker P Q earlier f each.1)

pub each_both : (P Q R : History → Entry → Type 0) (history : History) → ((earlier : History) (entry : Entry) → P earlier entry → Q earlier entry → R earlier entry) → EachAfter P history → EachAfter Q history → EachAfter R history
each_both P Q R [] f each other = tt
each_both P Q R (entry ∷ earlier) f each other = (f earlier entry each.0 other.0, each_both P Q R earlier f each.1 other.1)

-- ---- what is retained

nested_secured : (history : History) → IsNested history → IsNested (secured history)
nested_secured [] nested = tt
nested_secured (entry ∷ earlier) nested = by (secures entry.message) (nested_secured earlier nested.1)
  where
    by : (b : Bool) → IsNested (secured earlier) → IsNested (cond b (entry ∷ earlier) (secured earlier))
    by true rest = nested
    by false rest = rest

module _ (Holds : History → Entry → Type 0) (lasts : Lasts Holds) where
  each_since : (history : History) → IsNested history → EachAfter Holds history → EachAfter Holds (since_selection history)
  each_since [] nested each = tt
  each_since (entry ∷ earlier) nested each = by (each_since earlier nested.1 each.1) (is_selection entry.message) refl
    where
      by : EachAfter Holds (since_selection earlier) → (b : Bool) → is_selection entry.message ≡ b → EachAfter Holds (cond b (entry ∷ []) (entry ∷ since_selection earlier))
      by rest true is =
          let at = selected_at earlier entry.message (view entry.message) is nested.0 in
          (lasts earlier [] entry (alike_first earlier at) (counted_none earlier [] at.no_regime) nested.0 each.0, tt)
      by rest false is = (lasts earlier (since_selection earlier) entry (alike_since earlier nested.1) (counted_since earlier nested.1) nested.0 each.0, rest)

  each_secured : (history : History) → EachAfter Holds history → EachAfter Holds (secured history)
  each_secured [] each = tt
  each_secured (entry ∷ earlier) each = by (secures entry.message) (each_secured earlier each.1)
    where
      by : (b : Bool) → EachAfter Holds (secured earlier) → EachAfter Holds (cond b (entry ∷ earlier) (secured earlier))
      by true rest = each
      by false rest = rest

  each_retained : (history : History) → IsNested history → EachAfter Holds history → EachAfter Holds (retained history)
  each_retained history nested each = by (is_some (under_way history))
    where
      by : (b : Bool) → EachAfter Holds (since_selection (cond b (secured history) history))
      by true = each_since (secured history) (nested_secured history nested) (each_secured history each)
      by false = each_since history nested each

  pub each_resumed : (docket party : History) → selection party ≡ None → regime party ≡ None → under_way party ≡ None → IsNested docket → EachAfter Holds docket → EachAfter Holds party → EachAfter Holds (docket ++ party)
  each_resumed [] party s r t nested each before = before
  each_resumed (entry ∷ docket) party s r t nested each before =
      (lasts docket (docket ++ party) entry (alike_resumed docket party s r t) (counted_resumed docket party) nested.0 each.0, each_resumed docket party s r t nested.1 each.1 before)

  -- the docket that a party leaves
  pub each_left : (party : StandingParty) → IsNested party.history → EachAfter Holds party.history → AllByRecursion (λ (docket : Docket). EachAfter Holds docket.history) (docket_left_by party)
  each_left party nested each = by (activity_of party)
    where
      by : (activity : Option ℕ) → AllByRecursion (λ (docket : Docket). EachAfter Holds docket.history) (docket_by activity party)
      by None = tt
      by (Some activity) = (each_retained party.history nested each, tt)

  -- those that all parties leave
  pub each_left_by_all : (files : List File) (parties : List StandingParty) → AllByRecursion (IsSoundParty files) parties → AllByRecursion (λ (party : StandingParty). EachAfter Holds party.history) parties
      → AllByRecursion (λ (docket : Docket). EachAfter Holds docket.history) (flat_map docket_left_by parties)
  each_left_by_all files [] sound each = tt
  each_left_by_all files (party ∷ parties) sound each =
      all_append (λ (docket : Docket). EachAfter Holds docket.history) (docket_left_by party) (flat_map docket_left_by parties) (each_left party sound.0.sound.nested each.0) (each_left_by_all files parties sound.1 each.1)
