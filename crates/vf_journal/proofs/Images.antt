-- What the images of a journal hold after each of its writes, whole or cut short.
use Rattle.std.proofs.Common.{◌≡◌, ◌==◌, ◌⊎◌, inl, inr, ⊎_elim, ℕ, ◌+◌, ◌≤◌, Bool, true, false, not, List, [], ◌∷◌, ◌++◌, length, get_or, take, drop, refl, sym, ◌∙◌, ap, subst, arith, length-drop}
use Rattle.std.proofs.lemmas.List.{drop-drop, drop_more, get_or-take, get_or-drop, append-nil}
use Rattle.std.proofs.lemmas.Bool.{cases_eq}
use Rattle.vf_disk.specs.Disk.{Torn}
use Rattle.vf_journal.specs.Layout.{header, selector_place, anchor_place, anchor, part, place_named, selects_second, selected_start, first_start}
use Rattle.vf_journal.specs.Records.{HoldsArea, entry_of, longest, octets_of}
use Rattle.vf_journal.specs.Image.{Holds, HoldsEither}
use Rattle.vf_journal.proofs.Areas.{area_alone, area_joined, area_kept, area_length}
use Rattle.vf_journal.proofs.Parts.{drop_after, part_before, part_after}

-- a part that lies outside a range
abbrev pub IsApart : ℕ → ℕ → ℕ → ℕ → Type 0
IsApart at count place size = (place + size ≤ at) ⊎ (at + count ≤ place)

-- a write cut short leaves it as it was
pub part_apart : (at count place size : ℕ) (old new : List ℕ) → Torn at count old new → IsApart at count place size → part new place size ≡ part old place size
part_apart at count place size old new torn (inl before) = part_before at place size old new torn.before before
part_apart at count place size old new torn (inr after) = part_after (at + count) place size old new torn.past after

-- the head of an image: the header, the selector and the selected anchor
pub record SameHead (old new : List ℕ) : Type 0 where
  pub head : take 16 new ≡ take 16 old
  pub second : selects_second new ≡ selects_second old
  pub start : selected_start new ≡ selected_start old

octet_of_part : (image : List ℕ) (place : ℕ) → get_or (part image place 1) 0 0 ≡ get_or image place 0
octet_of_part image place =
    get_or-take 1 (drop place image) 0 0 (omega arith) ∙ get_or-drop place image 0 0 ∙ ap (λ (n : ℕ). get_or image n 0) (omega arith)

-- images with the same octet at the selector select the same anchor
pub same_selector : (old new : List ℕ) → part new selector_place 1 ≡ part old selector_place 1 → selects_second new ≡ selects_second old
same_selector old new same =
    let octet : get_or new selector_place 0 ≡ get_or old selector_place 0 = sym (octet_of_part new selector_place) ∙ ap (λ (l : List ℕ). get_or l 0 0) same ∙ octet_of_part old selector_place in
    ap (λ (n : ℕ). not (n == 0)) octet

pub same_anchor : (second : Bool) (old new : List ℕ) → part new (anchor_place second) 8 ≡ part old (anchor_place second) 8 → anchor new second ≡ anchor old second
same_anchor second old new same = ap place_named same

head_of_parts : (old new : List ℕ) → take 16 new ≡ take 16 old → part new selector_place 1 ≡ part old selector_place 1
    → part new (anchor_place (selects_second old)) 8 ≡ part old (anchor_place (selects_second old)) 8 → SameHead old new
head_of_parts old new head selector named =
    let second = same_selector old new selector in
    record {
      head = head;
      second = second;
      start = ap (λ (b : Bool). anchor new b) second ∙ same_anchor (selects_second old) old new named;
    }

pub head_apart : (at count : ℕ) (old new : List ℕ) → Torn at count old new → IsApart at count 0 16 → IsApart at count selector_place 1 → IsApart at count (anchor_place (selects_second old)) 8 → SameHead old new
head_apart at count old new torn header_apart selector_apart anchor_apart = head_of_parts old new
    (part_apart at count 0 16 old new torn header_apart)
    (part_apart at count selector_place 1 old new torn selector_apart)
    (part_apart at count (anchor_place (selects_second old)) 8 old new torn anchor_apart)

-- an anchor ends before the first area starts
pub anchor_low : (second : Bool) → anchor_place second + 8 ≤ first_start
anchor_low true = omega arith
anchor_low false = omega arith

anchor_high : (second : Bool) → selector_place + 1 ≤ anchor_place second
anchor_high true = omega arith
anchor_high false = omega arith

-- after the anchors nothing changes the head
pub head_after : (at count : ℕ) (old new : List ℕ) → Torn at count old new → first_start ≤ at → SameHead old new
head_after at count old new torn high =
    head_apart at count old new torn (inl (omega arith)) (inl (omega arith)) (inl (omega (arith, anchor_low (selects_second old))))

-- what an image holds, while its head and its selected area stay
pub holds_kept : (records : List (List ℕ)) (old new : List ℕ) → Holds old records → SameHead old new
    → part new (selected_start old) (octets_of records + 1) ≡ part old (selected_start old) (octets_of records + 1) → Holds new records
holds_kept records old new holds same area = record {
  head = same.head ∙ holds.head;
  start = subst (λ (n : ℕ). first_start ≤ n) (sym same.start) holds.start;
  area = subst (λ (n : ℕ). HoldsArea (drop n new) records) (sym same.start) (area_kept records (drop (selected_start old) old) (drop (selected_start old) new) holds.area area);
}

-- a write after the selected area
pub written_after : (records : List (List ℕ)) (at count : ℕ) (old new : List ℕ) → Holds old records → selected_start old + 1 + octets_of records ≤ at → Torn at count old new
    → SameHead old new × Holds new records
written_after records at count old new holds high torn =
    let same = head_after at count old new torn (omega (arith, holds.start)) in
    (same, holds_kept records old new holds same (part_apart at count (selected_start old) (octets_of records + 1) old new torn (inl (omega arith))))

-- a write before it and after the anchors
pub written_before : (records : List (List ℕ)) (at count : ℕ) (old new : List ℕ) → Holds old records → first_start ≤ at → at + count ≤ selected_start old → Torn at count old new
    → SameHead old new × Holds new records
written_before records at count old new holds high low torn =
    let same = head_after at count old new torn high in
    (same, holds_kept records old new holds same (part_apart at count (selected_start old) (octets_of records + 1) old new torn (inr low)))

others_apart : (second : Bool) → IsApart (anchor_place (not second)) 8 (anchor_place second) 8
others_apart true = inr (omega arith)
others_apart false = inl (omega arith)

-- a write of the anchor that isn't selected
pub other_anchor : (records : List (List ℕ)) (old new : List ℕ) → Holds old records → Torn (anchor_place (not (selects_second old))) 8 old new → SameHead old new × Holds new records
other_anchor records old new holds torn =
    let at = anchor_place (not (selects_second old)) in
    let high = anchor_high (not (selects_second old)) in
    let low = anchor_low (not (selects_second old)) in
    let same = head_apart at 8 old new torn (inl (omega (arith, high))) (inl high) (others_apart (selects_second old)) in
    (same, holds_kept records old new holds same (part_apart at 8 (selected_start old) (octets_of records + 1) old new torn (inr (omega (arith, low, holds.start)))))

-- the place of the closed gate of the selected area
abbrev pub gate_of : List ℕ → List (List ℕ) → ℕ
gate_of image records = selected_start image + octets_of records

pub gate_within : (image : List ℕ) (records : List (List ℕ)) → Holds image records → gate_of image records + 1 ≤ length image
gate_within image records holds = omega (arith, area_length records (drop (selected_start image) image) holds.area, length-drop (selected_start image) image)

-- A write of the gate after which an entry stands: it's closed still, or open, and then the record counts.
module _ (records : List (List ℕ)) (entry rest old new : List ℕ) (holds : Holds old records) (short : length entry ≤ longest)
    (after : drop (gate_of old records + 1) old ≡ entry_of entry ++ rest) (torn : Torn (gate_of old records) 1 old new) where
  gate : ℕ
  gate = gate_of old records

  octet : ℕ
  octet = get_or new gate 0

  pub gate_head : SameHead old new
  unfolding gate
  gate_head = head_after (gate_of old records) 1 old new torn (omega (arith, holds.start))

  prefix : take (octets_of records) (drop (selected_start old) new) ≡ take (octets_of records) (drop (selected_start old) old)
  unfolding gate
  prefix = part_apart (gate_of old records) 1 (selected_start old) (octets_of records) old new torn (inl (omega arith))

  back : drop (octets_of records) (drop (selected_start old) new) ≡ octet ∷ (entry_of entry ++ rest)
  unfolding gate octet
  back =
      drop-drop (octets_of records) (selected_start old) new
      ∙ drop_more new (gate_of old records) 0 (omega (arith, torn.no_shorter, gate_within old records holds))
      ∙ ap (λ (l : List ℕ). get_or new (gate_of old records) 0 ∷ l) (torn.past ∙ after)

  holding : (more : List (List ℕ)) → HoldsArea (octet ∷ (entry_of entry ++ rest)) more → Holds new (records ++ more)
  holding more tail = record {
    head = gate_head.head ∙ holds.head;
    start = subst (λ (n : ℕ). first_start ≤ n) (sym gate_head.start) holds.start;
    area = subst (λ (n : ℕ). HoldsArea (drop n new) (records ++ more)) (sym gate_head.start)
        (area_joined records more (drop (selected_start old) old) (drop (selected_start old) new) holds.area prefix (subst (λ (l : List ℕ). HoldsArea l more) (sym back) tail));
  }

  closed_tail : octet ≡ 0 → HoldsArea (octet ∷ (entry_of entry ++ rest)) []
  closed_tail closed = (entry_of entry ++ rest, ap (λ (n : ℕ). n ∷ (entry_of entry ++ rest)) closed)

  pub gate_torn : HoldsEither records (records ++ entry ∷ []) new
  gate_torn = elim (cases_eq octet 0) [
    | inl closed ↦ inl (subst (λ (rs : List (List ℕ)). Holds new rs) (append-nil records) (holding [] (closed_tail closed)))
    | inr opened ↦ inr (holding (entry ∷ []) (area_alone octet entry rest opened short))
  ]

  pub gate_open : get_or new (gate_of old records) 0 ≡ 1 → Holds new (records ++ entry ∷ [])
  unfolding octet gate
  gate_open is = holding (entry ∷ []) (area_alone octet entry rest (omega (arith, is)) short)

-- A write of the selector: the selected area stays so, or the other one is.
module _ (records others : List (List ℕ)) (old new : List ℕ) (holds : Holds old records) (start : first_start ≤ anchor old (not (selects_second old)))
    (area : HoldsArea (drop (anchor old (not (selects_second old))) old) others) (torn : Torn selector_place 1 old new) where
  pub anchors : (second : Bool) → anchor new second ≡ anchor old second
  anchors second = same_anchor second old new (part_apart selector_place 1 (anchor_place second) 8 old new torn (inr (anchor_high second)))

  areas : (place : ℕ) → first_start ≤ place → drop place new ≡ drop place old
  areas place high = drop_after (selector_place + 1) place old new torn.past (omega arith)

  same_header : take 16 new ≡ header
  same_header = part_apart selector_place 1 0 16 old new torn (inl (omega arith)) ∙ holds.head

  pub kept_selected : selects_second new ≡ selects_second old → Holds new records
  kept_selected same =
      let at : selected_start new ≡ selected_start old = ap (λ (b : Bool). anchor new b) same ∙ anchors (selects_second old) in
      record {
        head = same_header;
        start = subst (λ (n : ℕ). first_start ≤ n) (sym at) holds.start;
        area = subst (λ (n : ℕ). HoldsArea (drop n new) records) (sym at) (subst (λ (l : List ℕ). HoldsArea l records) (sym (areas (selected_start old) holds.start)) holds.area);
      }

  pub other_selected : selects_second new ≡ not (selects_second old) → Holds new others
  other_selected turned =
      let at : selected_start new ≡ anchor old (not (selects_second old)) = ap (λ (b : Bool). anchor new b) turned ∙ anchors (not (selects_second old)) in
      record {
        head = same_header;
        start = subst (λ (n : ℕ). first_start ≤ n) (sym at) start;
        area = subst (λ (n : ℕ). HoldsArea (drop n new) others) (sym at) (subst (λ (l : List ℕ). HoldsArea l others) (sym (areas (anchor old (not (selects_second old))) start)) area);
      }

  either : (a b : Bool) → (a ≡ b) ⊎ (a ≡ not b)
  either true true = inl refl
  either true false = inr refl
  either false true = inr refl
  either false false = inl refl

  pub selector_torn : HoldsEither records others new
  selector_torn = ⊎_elim (λ same. inl (kept_selected same)) (λ turned. inr (other_selected turned)) (either (selects_second new) (selects_second old))
