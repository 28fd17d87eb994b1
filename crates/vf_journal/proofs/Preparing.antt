-- An area that is prepared beside the selected one.
use Rattle.std.proofs.Common.{◌≡◌, ◌⊎◌, inl, inr, ⊎_elim, ℕ, ◌+◌, ◌-◌, ◌≤◌, Bool, true, false, not, if◌then◌else◌, nat_le, List, [], ◌∷◌, ◌++◌, length, drop, Option, Some, refl, sym, ◌∙◌, ap, subst, arith}
use Rattle.std.proofs.lemmas.Bool.{leb-true}
use Rattle.vf_disk.specs.Disk.{LeavesOnly, LeavesShown, Torn, greatest_length, overwritten}
use Rattle.vf_disk.proofs.Runs.{leaves_octets, weaker}
use Rattle.vf_disk.specs.Plans.{StopPlan}
use Rattle.vf_disk.specs.State.{State}
use Rattle.vf_disk.specs.Steps.{MakesSteps}
use Rattle.vf_disk.specs.declared.step.Step.{Step}
use Rattle.vf_disk.specs.declared.step.Step.TheVariants.{Wrote}
use Rattle.vf_journal.specs.declared.area.Area.{Area}
use Rattle.vf_journal.specs.Layout.{anchor, anchor_place, first_start, place_named, place_octets, selects_second, selected_start}
use Rattle.vf_journal.specs.Records.{HoldsArea, IsArea, area_with, entry_of, octets_of}
use Rattle.vf_journal.specs.Image.{Holds}
use Rattle.vf_journal.specs.JournalState.{HasPrepared, JournalState, StandsOn, area_of, new_start}
use Rattle.vf_journal.specs.Writes.{MadeBy, Shows, prepare_steps, written_steps}
use Rattle.vf_journal.proofs.Areas.{area_alone}
use Rattle.vf_journal.proofs.Lengths.{area_short, length-area_with}
use Rattle.vf_journal.proofs.Images.{SameHead, anchor_low, gate_within, other_anchor, written_before, written_after}
use Rattle.vf_journal.proofs.Numbers.{length-place_octets, place_named-take, place_read_back}
use Rattle.vf_journal.proofs.Parts.{drop_after, overwritten_from, length-overwritten, torn_whole}

-- where a new area starts
pub new_start_cases : (journal : JournalState) (count : ℕ) → ((new_start journal count ≡ first_start) × (first_start + count ≤ journal.area.start)) ⊎ (new_start journal count ≡ journal.area.end)
new_start_cases journal count = by (nat_le (first_start + count) journal.area.start) refl
  where
    by : (low : Bool) → nat_le (first_start + count) journal.area.start ≡ low
        → (((if low then first_start else journal.area.end) ≡ first_start) × (first_start + count ≤ journal.area.start)) ⊎ ((if low then first_start else journal.area.end) ≡ journal.area.end)
    by true is = inl (refl, leb-true (first_start + count) journal.area.start is)
    by false is = inr refl

-- an area of one record, by its octets
made : ℕ → ℕ → ℕ → Area
made start end first = record { start = start; end = end; first = first; later = 0 }

pub alone : (start count : ℕ) (item : List ℕ) → count ≡ length item + 6 → (let area : Area = record { start = start; end = start + count; first = count - 6; later = 0 } in area) ≡ area_of start (item ∷ [])
unfolding made
alone start count item is =
    let end : start + count ≡ start + 1 + (length item + 5 + 0) = omega (arith, is) in
    let first : count - 6 ≡ length item = omega (arith, is) in
    ap (λ (n : ℕ). made start n (count - 6)) end ∙ ap (λ (n : ℕ). made start (start + 1 + (length item + 5 + 0)) n) first

-- what a read gives after it
pub prepared_shown : (told : Option (List ℕ)) (image : List ℕ) (start start' at at' : ℕ) (area name : List ℕ) → told ≡ Some (overwritten (overwritten image start area) at name) → start ≡ start' → at ≡ at' → name ≡ place_octets start
    → told ≡ Some (overwritten (overwritten image start' area) at' (place_octets start'))
prepared_shown told image start start' at at' area name shows start_is at_is name_is =
    shows ∙ ap (λ (l : List ℕ). Some (overwritten (overwritten image start area) at l)) name_is
    ∙ ap (λ (n : ℕ). Some (overwritten (overwritten image start area) n (place_octets start))) at_is
    ∙ ap (λ (n : ℕ). Some (overwritten (overwritten image n area) at' (place_octets n))) start_is

-- the calls of a prepare, told by what was handed to the disk
pub prepare_goes : (start start' : ℕ) (area : List ℕ) (at : ℕ) (name : List ℕ) (second : Bool) (p q : Option StopPlan) (s t : Option State) (failed : Bool) (l n : ℕ) → start ≡ start' → at ≡ anchor_place second → name ≡ place_octets start
    → MakesSteps (Wrote start area true ∷ written_steps at name) p q s t failed l n → MakesSteps (prepare_steps start' area second) p q s t failed l n
prepare_goes start start' area at name second p q s t failed l n start_is at_is name_is made =
    let Goes : List Step → Type 0 = λ steps. MakesSteps steps p q s t failed l n in
    subst (λ (x : ℕ). Goes (prepare_steps x area second)) start_is
    (subst (λ (x : ℕ). Goes (Wrote start area true ∷ written_steps x (place_octets start))) at_is (subst (λ (x : List ℕ). Goes (Wrote start area true ∷ written_steps at x)) name_is made))

module _ {D : Type 0} (shown : D → Option (List ℕ)) (may_leave : D → List ℕ → Type 0) (moment : D → ℕ) (left_since : D → ℕ → List ℕ → Type 0)
    (journal : JournalState) (old : D) (records : List (List ℕ)) (octets : List ℕ) (start : ℕ) (place : start ≡ new_start journal (length octets))
    (on : StandsOn shown may_leave journal old records) where
  abbrev other : ℕ
  other = anchor_place (not journal.second)

  starts : journal.area.start ≡ selected_start on.image
  starts = ap (λ (area : Area). area.start) on.area

  ends : journal.area.end ≡ selected_start on.image + 1 + octets_of records
  ends = ap (λ (area : Area). area.end) on.area

  pub start_high : first_start ≤ start
  start_high = ⊎_elim (λ low. omega (arith, place, low.0)) (λ high. omega (arith, place, high, ends, on.holds.start)) (new_start_cases journal (length octets))

  pub start_within : start ≤ length on.image
  start_within = ⊎_elim (λ low. omega (arith, place, low.0, on.holds.start, gate_within on.image records on.holds)) (λ high. omega (arith, place, high, ends, gate_within on.image records on.holds)) (new_start_cases journal (length octets))

  -- the area is written, whole or cut short
  area_left : (new : List ℕ) → Torn start (length octets) on.image new → SameHead on.image new × Holds new records
  area_left new torn = ⊎_elim
      (λ low. written_before records start (length octets) on.image new on.holds start_high (omega (arith, place, low.0, low.1, starts)) torn)
      (λ high. written_after records start (length octets) on.image new on.holds (omega (arith, place, high, ends)) torn)
      (new_start_cases journal (length octets))

  -- and then the anchor that isn't selected
  anchor_left : (mid new : List ℕ) → SameHead on.image mid × Holds mid records → Torn other 8 mid new → SameHead mid new × Holds new records
  anchor_left mid new kept torn =
      let same : other ≡ anchor_place (not (selects_second mid)) = ap (λ (b : Bool). anchor_place (not b)) (on.second ∙ sym kept.0.second) in
      other_anchor records mid new kept.1 (subst (λ (n : ℕ). Torn n 8 mid new) same torn)

  pub prepare_left : (new : D) → LeavesOnly moment left_since old new (MadeBy (Torn other 8) (MadeBy (Torn start (length octets)) (may_leave old))) → LeavesOnly moment left_since old new (λ image. Holds image records)
  prepare_left new run = weaker moment left_since old new (MadeBy (Torn other 8) (MadeBy (Torn start (length octets)) (may_leave old))) (λ image. Holds image records) run (λ image left.
      let mid = left.0 in
      let from = left.1 in
      let same : from.0 ≡ on.image = leaves_octets (shown old) (may_leave old) on.image from.0 on.synced on.shows from.1 in
      (anchor_left mid image (area_left mid (subst (λ (l : List ℕ). Torn start (length octets) l mid) same from.2)) left.2).1)

  -- what a read gives meanwhile
  pub prepare_seen : (at count : ℕ) → at ≡ other → count ≡ 8 → (new : Option (List ℕ)) → Shows new (MadeBy (Torn at count) (Torn start (length octets) on.image)) → Shows new (λ image. Holds image records)
  prepare_seen at count place_is count_is new (image, shows, (mid, first, second)) =
      let Left : ℕ → ℕ → Type 0 = λ a n. Torn a n mid image in
      let torn : Torn other 8 mid image = subst (λ (n : ℕ). Left other n) count_is (subst (λ (a : ℕ). Left a count) place_is second) in
      (image, shows, (anchor_left mid image (area_left mid first) torn).1)

  -- the same, told by what was handed to the disk
  pub prepare_run : (at count : ℕ) → at ≡ other → count ≡ 8 → (new : D) → LeavesOnly moment left_since old new (MadeBy (Torn at count) (MadeBy (Torn start (length octets)) (may_leave old))) → LeavesOnly moment left_since old new (λ image. Holds image records)
  prepare_run at count place_is count_is new run =
      let Runs : ℕ → ℕ → Type 0 = λ a n. LeavesOnly moment left_since old new (MadeBy (Torn a n) (MadeBy (Torn start (length octets)) (may_leave old))) in
      prepare_left new (subst (λ (n : ℕ). Runs other n) count_is (subst (λ (a : ℕ). Runs a count) place_is run))

  abbrev with_area : List ℕ
  with_area = overwritten on.image start octets

  abbrev last : List ℕ
  last = overwritten with_area other (place_octets start)

  area_kept_whole : SameHead on.image with_area × Holds with_area records
  area_kept_whole = area_left with_area (torn_whole on.image start octets start_within)

  other_low : other + 8 ≤ first_start
  other_low = anchor_low (not journal.second)

  other_within : other ≤ length with_area
  other_within = omega (arith, other_low, length-overwritten on.image start octets start_within, start_high, start_within)

  last_torn : Torn other 8 with_area last
  last_torn = subst (λ (n : ℕ). Torn other n with_area last) (length-place_octets start) (torn_whole with_area other (place_octets start) other_within)

  last_kept : SameHead with_area last × Holds last records
  last_kept = anchor_left with_area last area_kept_whole last_torn

  -- what the journal keeps then
  abbrev standing : JournalState
  standing = record { second = journal.second; area = journal.area; limit = journal.limit; prepared = Some (record { start = start; end = start + length octets; first = length octets - 6; later = 0 }) }

  module _ (bound : start + length octets ≤ greatest_length) (item : List ℕ) (built : IsArea octets) (is : octets ≡ area_with item) where
    named : anchor last (not journal.second) ≡ start
    named =
        place_named-take (drop other last)
        ∙ ap place_named (overwritten_from with_area other (place_octets start) other_within)
        ∙ place_read_back start (drop (other + length (place_octets start)) with_area) (omega (arith, bound))

    area_after : drop start last ≡ 1 ∷ (entry_of item ++ drop (start + length octets) on.image)
    area_after =
        drop_after (other + 8) start with_area last last_torn.past (omega (arith, other_low, start_high))
        ∙ overwritten_from on.image start octets start_within
        ∙ ap (λ (l : List ℕ). l ++ drop (start + length octets) on.image) is

    pub prepare_done : (at : ℕ) (name : List ℕ) → at ≡ other → name ≡ place_octets start → (new : D) → shown new ≡ Some (overwritten with_area at name) → LeavesShown (shown new) (may_leave new)
        → StandsOn shown may_leave standing new records × HasPrepared shown standing new item
    prepare_done at name at_is name_is new told synced =
        let shows : shown new ≡ Some last = told ∙ ap (λ (n : ℕ). Some (overwritten with_area n name)) at_is ∙ ap (λ (l : List ℕ). Some (overwritten with_area other l)) name_is in (
          record {
            image = last;
            shows = shows;
            synced = synced;
            holds = last_kept.1;
            second = on.second ∙ sym (last_kept.0.second ∙ area_kept_whole.0.second);
            area = on.area ∙ ap (λ (n : ℕ). area_of n records) (sym (last_kept.0.start ∙ area_kept_whole.0.start));
          },
          record {
            image = last;
            shows = shows;
            start = subst (λ (n : ℕ). first_start ≤ n) (sym named) start_high;
            holds = subst (λ (n : ℕ). HoldsArea (drop n last) (item ∷ [])) (sym named)
                (subst (λ (l : List ℕ). HoldsArea l (item ∷ [])) (sym area_after) (area_alone 1 item (drop (start + length octets) on.image) (omega arith) (area_short octets item built is)));
            area = ap Some (alone start (length octets) item (ap length is ∙ length-area_with item) ∙ ap (λ (n : ℕ). area_of n (item ∷ [])) (sym named));
          },
        )
