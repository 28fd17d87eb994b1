-- The numbers of controls, with one holder more or less.
use Rattle.std.proofs.Common.{◌≡◌, ◌<◌, ◌≤◌, ℕ, ◌+◌, Bool, true, false, cond, not, find, is_some, true≢false, List, [], ◌∷◌, length, Option, None, Some, Ok, Err, All, refl, ap, sym, subst, ◌∙◌, slice_get, slice_set, slice_index_or, insert, remove, map, arith}
use Rattle.std.proofs.lemmas.List.Sums.{count_by-le-length}
use Rattle.std.proofs.lemmas.List.Elements.{All-cons, All-nil}
use Rattle.std.proofs.lemmas.List.Edits.{length-remove}
use Rattle.std.specs.Option.{option_map, option_map_or}
use Rattle.vf_base.specs.declared.action.Control.{Control}
use Rattle.vf_base.specs.declared.action.Control.TheVariants.{NotRequired, Shared, Exclusive, NoAccess}
use Rattle.vf_locks.specs.Counts.{action_numbers, control_numbers, has_number, how_many, numbers_of}
use Rattle.vf_locks.specs.Holders.{IsOrdered, controls_of, granted, in_order, is_same, others, passed}
use Rattle.vf_locks.specs.Place.{lowered, lowered_row, place_of, raised, raised_row}
use Rattle.vf_base.specs.declared.action.Controls.{Controls}
use Rattle.vf_locks.specs.declared.held.Held.{Held}
use Rattle.vf_locks.specs.declared.holder.Holder.{Holder}
use Rattle.vf_locks.proofs.Ordered.{AbsentAt, StandsAt, absent_at, stands_at, count_by-in_order, ordered_granted, ordered_others}

abbrev has : ℕ → ℕ → Held → Bool
has action number held = has_number number (slice_get held.controls.each action)

abbrev row : List Held → ℕ → List ℕ
row hs action = map (how_many hs action) control_numbers

abbrev changed : (Control → List ℕ → List ℕ) → Held → ℕ → List ℕ → List ℕ
changed change h action numbers = option_map_or (λ control. change control numbers) (slice_get h.controls.each action) numbers

four : {a b c d e f g h : ℕ} → a ≡ e → b ≡ f → c ≡ g → d ≡ h → a ∷ b ∷ c ∷ d ∷ [] ≡ e ∷ f ∷ g ∷ h ∷ []
four p q r s = λ i. p i ∷ q i ∷ r i ∷ s i ∷ []

row_raised : (h : Held) (hs : List Held) (action : ℕ) → row (in_order h hs) action ≡ changed raised_row h action (row hs action)
row_raised h hs action = four (one 0) (one 1) (one 2) (one 3) ∙ by (slice_get h.controls.each action) _ _ _ _
  where
    one : (number : ℕ) → how_many (in_order h hs) action number ≡ how_many hs action number + cond (has_number number (slice_get h.controls.each action)) 1 0
    one number = count_by-in_order (has action number) h hs

    by : (o : Option Control) (a b c d : ℕ)
        → (a + cond (has_number 0 o) 1 0) ∷ (b + cond (has_number 1 o) 1 0) ∷ (c + cond (has_number 2 o) 1 0) ∷ (d + cond (has_number 3 o) 1 0) ∷ []
        ≡ option_map_or (λ control. raised_row control (a ∷ b ∷ c ∷ d ∷ [])) o (a ∷ b ∷ c ∷ d ∷ [])
    by None a b c d = four (omega arith) (omega arith) (omega arith) (omega arith)
    by (Some NotRequired) a b c d = four (omega arith) (omega arith) (omega arith) (omega arith)
    by (Some Shared) a b c d = four (omega arith) (omega arith) (omega arith) (omega arith)
    by (Some Exclusive) a b c d = four (omega arith) (omega arith) (omega arith) (omega arith)
    by (Some NoAccess) a b c d = four (omega arith) (omega arith) (omega arith) (omega arith)

row_lowered : (h : Held) (action a b c d : ℕ) → changed lowered_row h action (changed raised_row h action (a ∷ b ∷ c ∷ d ∷ [])) ≡ a ∷ b ∷ c ∷ d ∷ []
row_lowered h action a b c d = by (slice_get h.controls.each action)
  where
    by : (o : Option Control)
        → option_map_or (λ control. lowered_row control (option_map_or (λ control. raised_row control (a ∷ b ∷ c ∷ d ∷ [])) o (a ∷ b ∷ c ∷ d ∷ []))) o (option_map_or (λ control. raised_row control (a ∷ b ∷ c ∷ d ∷ [])) o (a ∷ b ∷ c ∷ d ∷ []))
        ≡ a ∷ b ∷ c ∷ d ∷ []
    by None = refl
    by (Some NotRequired) = four (omega arith) refl refl refl
    by (Some Shared) = four refl (omega arith) refl refl
    by (Some Exclusive) = four refl refl (omega arith) refl
    by (Some NoAccess) = four refl refl refl (omega arith)

-- one holder more
pub numbers_of-in_order : (h : Held) (hs : List Held) → numbers_of (in_order h hs) ≡ raised h.controls.each (numbers_of hs)
unfolding numbers_of raised
numbers_of-in_order h hs = λ i. row_raised h hs 0 i ∷ row_raised h hs 1 i ∷ row_raised h hs 2 i ∷ row_raised h hs 3 i ∷ row_raised h hs 4 i ∷ row_raised h hs 5 i ∷ row_raised h hs 6 i ∷ row_raised h hs 7 i ∷ []

rows_lowered : (h : Held) (hs : List Held) (action : ℕ) → changed lowered_row h action (changed raised_row h action (row hs action)) ≡ row hs action
rows_lowered h hs action = row_lowered h action _ _ _ _

-- one holder less
pub numbers_of-without : (h : Held) (hs : List Held) → lowered h.controls.each (raised h.controls.each (numbers_of hs)) ≡ numbers_of hs
unfolding numbers_of raised lowered
numbers_of-without h hs = λ i. rows_lowered h hs 0 i ∷ rows_lowered h hs 1 i ∷ rows_lowered h hs 2 i ∷ rows_lowered h hs 3 i ∷ rows_lowered h hs 4 i ∷ rows_lowered h hs 5 i ∷ rows_lowered h hs 6 i ∷ rows_lowered h hs 7 i ∷ []

all_mapped : {X : Type 0} (P : X → Type 0) (f : ℕ → X) → ((n : ℕ) → P (f n)) → (ns : List ℕ) → All P (map f ns)
all_mapped P f each [] = All-nil P
all_mapped P f each (n ∷ ns) = All-cons P (f n) (map f ns) (each n) (all_mapped P f each ns)

-- no number passes the number of holders
pub numbers_bounded : (hs : List Held) → length hs < 9223372036854775808 → All (All (λ n. n < 18446744073709551615)) (numbers_of hs)
unfolding numbers_of
numbers_bounded hs few = all_mapped (All (λ n. n < 18446744073709551615)) (row hs) (λ action. all_mapped (λ n. n < 18446744073709551615) (how_many hs action) (one action) control_numbers) action_numbers
  where
    one : (action number : ℕ) → how_many hs action number < 18446744073709551615
    one action number = let fewer = count_by-le-length (has action number) hs in omega arith

module _ {holder : Holder} {hs : List Held} {place : ℕ} {h : Held} (stands : StandsAt holder hs place h) where
  -- the numbers once the holder is gone
  pub lowered-numbers_of : lowered h.controls.each (numbers_of hs) ≡ numbers_of (remove hs place)
  lowered-numbers_of = ap (lowered h.controls.each) (ap numbers_of (sym stands.back) ∙ numbers_of-in_order h (remove hs place)) ∙ numbers_of-without h (remove hs place)

  -- and once it has other controls
  pub raised-numbers_of : (new : Held) → new.holder ≡ holder → raised new.controls.each (numbers_of (remove hs place)) ≡ numbers_of (slice_set hs place new)
  raised-numbers_of new is = sym (numbers_of-in_order new (remove hs place)) ∙ ap numbers_of (stands.replaced new is)

  pub ordered_removed : IsOrdered hs → IsOrdered (remove hs place)
  ordered_removed ordered = subst IsOrdered stands.rest (ordered_others holder hs ordered)

  pub ordered_replaced : (new : Held) → new.holder ≡ holder → IsOrdered hs → IsOrdered (slice_set hs place new)
  ordered_replaced new is ordered =
      subst IsOrdered (ap (in_order new) (ap (λ holder. others holder hs) is ∙ stands.rest) ∙ stands.replaced new is) (ordered_granted new hs ordered)

  pub fewer_removed : length (remove hs place) ≤ length hs
  fewer_removed = let within = stands.within in let fewer = length-remove hs place within in omega arith

-- what holds of the holders of a file and their numbers
abbrev pub IsWhole : List (List ℕ) → List Held → Type 0
IsWhole numbers hs = IsOrdered hs × (numbers ≡ numbers_of hs)

pub none_whole : IsWhole ((0 ∷ 0 ∷ 0 ∷ 0 ∷ []) ∷ (0 ∷ 0 ∷ 0 ∷ 0 ∷ []) ∷ (0 ∷ 0 ∷ 0 ∷ 0 ∷ []) ∷ (0 ∷ 0 ∷ 0 ∷ 0 ∷ []) ∷ (0 ∷ 0 ∷ 0 ∷ 0 ∷ []) ∷ (0 ∷ 0 ∷ 0 ∷ 0 ∷ []) ∷ (0 ∷ 0 ∷ 0 ∷ 0 ∷ []) ∷ (0 ∷ 0 ∷ 0 ∷ 0 ∷ []) ∷ []) []
unfolding numbers_of
none_whole = (tt, refl)

module _ (holder : Holder) (hs : List Held) (place : ℕ) (numbers : List (List ℕ)) (whole : IsWhole numbers hs) where
  module _ (is : place_of holder hs ≡ Ok place) where
    stands : (h : Held) × StandsAt holder hs place h
    stands = stands_at holder hs place whole.0 is

    pub within_removed : place < length hs
    within_removed = stands.1.within

    -- the holder gone
    pub whole_removed : (d : Held) → d ≡ slice_index_or hs place d → IsWhole (lowered d.controls.each numbers) (remove hs place)
    whole_removed d same =
        let held : d ≡ stands.0 = same ∙ stands.1.found d in
        (ordered_removed stands.1 whole.0, (λ i. lowered (held i).controls.each (whole.1 i)) ∙ lowered-numbers_of stands.1)

    pub removed_others : remove hs place ≡ others holder hs
    removed_others = sym stands.1.rest

    -- other controls in the place of its own
    pub whole_replaced : (old d : Held) (controls : Controls) → old ≡ slice_index_or hs place old → d ≡ slice_index_or hs place d
        → IsWhole (raised controls.each (lowered old.controls.each numbers)) (slice_set hs place (record { holder = d.holder; controls = controls }))
    whole_replaced old d controls was same =
        let new : Held = record { holder = d.holder; controls = controls } in
        let own : d.holder ≡ holder = ap (λ (h : Held). h.holder) (same ∙ stands.1.found d) ∙ stands.1.same in
        let gone = (whole_removed old was).1 in
        (ordered_replaced stands.1 new own whole.0, ap (raised controls.each) gone ∙ raised-numbers_of stands.1 new own)

    pub replaced_granted : (d : Held) (controls : Controls) → d ≡ slice_index_or hs place d
        → slice_set hs place (record { holder = d.holder; controls = controls }) ≡ granted holder controls hs
    replaced_granted d controls same =
        let new : Held = record { holder = d.holder; controls = controls } in
        let own : d.holder ≡ holder = ap (λ (h : Held). h.holder) (same ∙ stands.1.found d) ∙ stands.1.same in
        sym (stands.1.replaced new own) ∙ (λ i. in_order (record { holder = own i; controls = controls }) (sym stands.1.rest i))

    pub bounded_removed : (old : Held) → old ≡ slice_index_or hs place old → length hs < 9223372036854775808
        → All (All (λ n. n < 18446744073709551615)) (lowered old.controls.each numbers)
    bounded_removed old was few =
        let fewer = fewer_removed stands.1 in
        subst (All (All (λ n. n < 18446744073709551615))) (sym (whole_removed old was).1) (numbers_bounded (remove hs place) (omega arith))

  module _ (is : place_of holder hs ≡ Err place) where
    absent : AbsentAt holder hs place
    absent = absent_at holder hs place whole.0 is

    pub within_inserted : place ≤ length hs
    within_inserted = absent.within

    -- one holder more
    pub whole_inserted : (new : Held) → new.holder ≡ holder → IsWhole (raised new.controls.each numbers) (insert hs place new)
    whole_inserted new own =
        let placed = absent.placed new own in (
          subst IsOrdered (ap (λ holder. in_order new (others holder hs)) own ∙ ap (in_order new) absent.rest ∙ placed) (ordered_granted new hs whole.0),
          ap (raised new.controls.each) whole.1 ∙ sym (numbers_of-in_order new hs) ∙ ap numbers_of placed,
        )

    pub inserted_granted : (new : Held) → new.holder ≡ holder → insert hs place new ≡ granted holder new.controls hs
    inserted_granted new own = sym (absent.placed new own) ∙ (λ i. in_order (record { holder = own i; controls = new.controls }) (sym absent.rest i))

    pub others_absent : hs ≡ others holder hs
    others_absent = sym absent.rest

    pub controls_absent : controls_of holder hs ≡ None
    controls_absent = absent.controls

  pub bounded : length hs < 9223372036854775808 → All (All (λ n. n < 18446744073709551615)) numbers
  bounded few = subst (All (All (λ n. n < 18446744073709551615))) (sym whole.1) (numbers_bounded hs few)

none_left : (holder other : Holder) (hs : List Held) → controls_of holder hs ≡ None → controls_of holder (others other hs) ≡ None
none_left holder other [] none = refl
none_left holder other (x ∷ xs) none = by (is_same x.holder holder) refl (not (is_same x.holder other)) (none_left holder other xs)
  where
    by : (b : Bool) → is_same x.holder holder ≡ b → (keeps : Bool) → (controls_of holder xs ≡ None → controls_of holder (others other xs) ≡ None)
        → controls_of holder (cond keeps (x ∷ others other xs) (others other xs)) ≡ None
    by true is keeps rest = absurd (true≢false (sym (ap (λ b. is_some (option_map (λ (held : Held). held.controls) (cond b (Some x) (find (λ (held : Held). is_same held.holder holder) xs)))) is) ∙ ap is_some none))
    by false is true rest =
        (λ i. option_map (λ (held : Held). held.controls) (cond (is i) (Some x) (find (λ (held : Held). is_same held.holder holder) (others other xs))))
        ∙ rest ((λ i. option_map (λ (held : Held). held.controls) (cond (sym is i) (Some x) (find (λ (held : Held). is_same held.holder holder) xs))) ∙ none)
    by false is false rest = rest ((λ i. option_map (λ (held : Held). held.controls) (cond (sym is i) (Some x) (find (λ (held : Held). is_same held.holder holder) xs))) ∙ none)

-- one holder in the place of another
module _ (holder : Holder) (hs : List Held) (place : ℕ) (numbers : List (List ℕ)) (whole : IsWhole numbers hs) (is : place_of holder hs ≡ Ok place)
    (d : Held) (same : d ≡ slice_index_or hs place d) (to : Holder) where
  pub ordered_without : IsOrdered (remove hs place)
  ordered_without = (whole_removed holder hs place numbers whole is d same).0

  pub free_without : controls_of to hs ≡ None → (at : ℕ) → place_of to (remove hs place) ≡ Ok at → ⊥
  free_without free at there =
      let standing = stands_at to (remove hs place) at ordered_without there in
      let none : controls_of to (remove hs place) ≡ None = subst (λ rest. controls_of to rest ≡ None) (sym (removed_others holder hs place numbers whole is)) (none_left to holder hs free) in
      true≢false (ap is_some (sym standing.1.controls ∙ none))

  module _ (at : ℕ) (absent : place_of to (remove hs place) ≡ Err at) where
    pub whole_passed : IsWhole numbers (insert (remove hs place) at (record { holder = to; controls = d.controls }))
    whole_passed =
        let found = stands_at holder hs place whole.0 is in
        let held : d ≡ found.0 = same ∙ found.1.found d in
        let gone = whole_removed holder hs place numbers whole is d same in
        let new : Held = record { holder = to; controls = d.controls } in
        let back : raised d.controls.each (lowered d.controls.each numbers) ≡ numbers
        = (λ i. raised (held i).controls.each (gone.1 i)) ∙ sym (numbers_of-in_order found.0 (remove hs place)) ∙ ap numbers_of found.1.back ∙ sym whole.1 in
        let all = whole_inserted to (remove hs place) at (lowered d.controls.each numbers) gone absent new refl in
        (all.0, sym back ∙ all.1)

    pub inserted_passed : insert (remove hs place) at (record { holder = to; controls = d.controls }) ≡ passed holder to hs
    inserted_passed =
        let found = stands_at holder hs place whole.0 is in
        let held : d ≡ found.0 = same ∙ found.1.found d in
        let gone = whole_removed holder hs place numbers whole is d same in
        inserted_granted to (remove hs place) at (lowered d.controls.each numbers) gone absent (record { holder = to; controls = d.controls }) refl
        ∙ (λ i. granted to (held i).controls (sym found.1.rest i))
        ∙ (λ i. option_map_or (λ controls. granted to controls (others holder hs)) (sym found.1.controls i) hs)
