-- A switch to the area that was prepared.
use Rattle.std.proofs.Common.{◌≡◌, ◌==◌, ℕ, ◌≤◌, Bool, true, false, not, List, [], ◌∷◌, length, get_or, drop, Option, Some, refl, sym, ◌∙◌, ap, subst, arith}
use Rattle.std.proofs.lemmas.List.{get_or-drop}
use Rattle.vf_disk.specs.Disk.{LeavesOnly, LeavesShown, Torn, overwritten}
use Rattle.vf_disk.proofs.Runs.{leaves_octets, weaker}
use Rattle.vf_journal.specs.declared.area.Area.{Area}
use Rattle.vf_journal.specs.Layout.{anchor, first_start, selector_of, selector_place, selects_second, selected_start}
use Rattle.vf_journal.specs.Records.{HoldsArea}
use Rattle.vf_journal.specs.Image.{HoldsEither}
use Rattle.vf_journal.specs.JournalState.{HasPrepared, JournalState, StandsOn, after_switch, area_of}
use Rattle.vf_journal.specs.Writes.{MadeBy, Shows}
use Rattle.vf_journal.proofs.Images.{anchors, gate_within, other_selected, selector_torn}
use Rattle.vf_journal.proofs.Parts.{overwritten_from, torn_whole}

selects : (second : Bool) → not (selector_of second == 0) ≡ second
selects true = refl
selects false = refl

module _ {D : Type 0} (shown : D → Option (List ℕ)) (may_leave : D → List ℕ → Type 0) (moment : D → ℕ) (left_since : D → ℕ → List ℕ → Type 0)
    (journal : JournalState) (old : D) (item : List ℕ) (records : List (List ℕ)) (on : StandsOn shown may_leave journal old records) (has : HasPrepared shown journal old item) where
  abbrev Allowed : List ℕ → Type 0
  Allowed = HoldsEither records (item ∷ [])

  same_image : has.image ≡ on.image
  same_image = let shows : Some has.image ≡ Some on.image = sym has.shows ∙ on.shows in cc

  named : anchor has.image (not journal.second) ≡ anchor on.image (not (selects_second on.image))
  named = ap (λ (l : List ℕ). anchor l (not journal.second)) same_image ∙ ap (λ (b : Bool). anchor on.image (not b)) on.second

  start : first_start ≤ anchor on.image (not (selects_second on.image))
  start = subst (λ (n : ℕ). first_start ≤ n) named has.start

  area : HoldsArea (drop (anchor on.image (not (selects_second on.image))) on.image) (item ∷ [])
  area = subst (λ (n : ℕ). HoldsArea (drop n on.image) (item ∷ [])) named (subst (λ (l : List ℕ). HoldsArea (drop (anchor has.image (not journal.second)) l) (item ∷ [])) same_image has.holds)

  pub switch_left : (new : D) → LeavesOnly moment left_since old new (MadeBy (Torn selector_place 1) (may_leave old)) → LeavesOnly moment left_since old new Allowed
  switch_left new run = weaker moment left_since old new (MadeBy (Torn selector_place 1) (may_leave old)) Allowed run (λ image left.
      let same : left.0 ≡ on.image = leaves_octets (shown old) (may_leave old) on.image left.0 on.synced on.shows left.1 in
      selector_torn records (item ∷ []) on.image image on.holds start area (subst (λ (l : List ℕ). Torn selector_place 1 l image) same left.2))

  pub switch_seen : (new : Option (List ℕ)) → Shows new (Torn selector_place 1 on.image) → Shows new Allowed
  switch_seen new seen = (seen.0, seen.1, selector_torn records (item ∷ []) on.image seen.0 on.holds start area seen.2)

  abbrev last : List ℕ
  last = overwritten on.image selector_place (selector_of (not journal.second) ∷ [])

  selector_within : selector_place ≤ length on.image
  selector_within = omega (arith, on.holds.start, gate_within on.image records on.holds)

  last_torn : Torn selector_place 1 on.image last
  last_torn = torn_whole on.image selector_place (selector_of (not journal.second) ∷ []) selector_within

  turned : selects_second last ≡ not (selects_second on.image)
  turned =
      ap (λ (n : ℕ). not (n == 0)) (
      sym (get_or-drop selector_place last 0 0)
      ∙ ap (λ (l : List ℕ). get_or l 0 0) (overwritten_from on.image selector_place (selector_of (not journal.second) ∷ []) selector_within))
      ∙ selects (not journal.second) ∙ ap not on.second

  starts : selected_start last ≡ anchor on.image (not (selects_second on.image))
  starts = ap (λ (b : Bool). anchor last b) turned ∙ anchors records (item ∷ []) on.image last on.holds start area last_torn (not (selects_second on.image))

  pub switch_done : (next : Area) → journal.prepared ≡ Some next → (new : D) → shown new ≡ Some last → LeavesShown (shown new) (may_leave new) → StandsOn shown may_leave (after_switch journal next) new (item ∷ [])
  switch_done next prepared new shows synced =
      let is : Some next ≡ Some (area_of (anchor has.image (not journal.second)) (item ∷ [])) = sym prepared ∙ has.area in
      let area_is : next ≡ area_of (anchor has.image (not journal.second)) (item ∷ []) = cc in
      record {
        image = last;
        shows = shows;
        synced = synced;
        holds = other_selected records (item ∷ []) on.image last on.holds start area last_torn turned;
        second = ap not on.second ∙ sym turned;
        area = area_is ∙ ap (λ (n : ℕ). area_of n (item ∷ [])) (named ∙ sym starts);
      }
