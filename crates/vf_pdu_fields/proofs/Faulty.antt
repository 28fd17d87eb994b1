-- The fault of a value is what reading answers.
use Rattle.std.proofs.Common.{◌≡◌, ℕ, ◌+◌, ◌<◌, ◌≤◌, Bool, true, false, cond, List, ◌∷◌, refl, ap, sym, subst, ◌∙◌, inl, inr, arith}
use Rattle.std.specs.Prelude.{Option, Some, None, Result, Ok, Err, ◌||◌, ◌⊎◌, nat_le}
use Rattle.vf_ber.specs.Tree.{Tree, Trees, none, more, root}
use Rattle.vf_pdu_fields.specs.Content.{Content, Slot}
use Rattle.vf_pdu_fields.specs.Fault.{Fault, Range, Missing}
use Rattle.vf_pdu_fields.specs.Faults.{or_else, has_part, is_required, missing, fault_in}
use Rattle.vf_pdu_fields.specs.Meaning.{context, fits}
use Rattle.vf_pdu_fields.specs.Reading.{is_field, part_here, parts_after, shape, ◌>>=◌, checked, field_at, next_place, absence, end_at, found, completed, reading}
use Rattle.vf_pdu_fields.specs.Rows.{Need, required, optional, default, Form, Row, end, field}
use Rattle.vf_pdu_fields.proofs.Complete.{tests, not_field}
use Rattle.vf_pdu_fields.proofs.FirstFaults.{told, told_map, found_told}
use Rattle.vf_pdu_fields.proofs.Found.{ok_is, bind_ok}
use Rattle.vf_pdu_fields.proofs.Plain.{context_is}
use Rattle.vf_pdu_fields.proofs.Tables.{is_table}

-- the whole list of parts and what is left of it agree on the fields from one on
abbrev SameFrom : ℕ → Trees → Trees → Type 0
SameFrom least all parts = (number : ℕ) → least ≤ number → has_part number all ≡ has_part number parts

-- what reading a field and those after it gives
record Step (place number : ℕ) (form : Form) (need : Need) (row : Row) (parts : Trees) (raw : List Slot) : Type 0 where
  first : Slot
  others : List Slot
  at_first : field_at place number form (absence need) (part_here number parts) ≡ Ok first
  at_others : found row (next_place place (part_here number parts)) (parts_after number parts) ≡ Ok others
  both : first ∷ others ≡ raw

stepped : (place number : ℕ) (form : Form) (need : Need) (row : Row) (parts : Trees) (raw : List Slot) → found (field number form need row) place parts ≡ Ok raw → Step place number form need row parts raw
stepped place number form need row parts raw e =
    let a = bind_ok (field_at place number form (absence need) (part_here number parts))
    (λ first. found row (next_place place (part_here number parts)) (parts_after number parts) >>= λ rest. Ok (first ∷ rest)) raw e in
    let b = bind_ok (found row (next_place place (part_here number parts)) (parts_after number parts)) (λ (rest : List Slot). let r : Result (List Slot) Fault = Ok (a.0 ∷ rest) in r) raw a.2 in
    record { first = a.0; others = b.0; at_first = a.1; at_others = b.1; both = ok_is (a.0 ∷ b.0) raw b.2 }

below_by : (n number : ℕ) (part : Tree) (parts : Trees) (b : Bool) → b ≡ is_field n (root part) → number < n → has_part number (cond b parts (more part parts)) ≡ false → has_part number (more part parts) ≡ false
below_by n number part parts false s lt h = h
below_by n number part parts true s lt h =
    let other : is_field number (root part) ≡ false = ap (is_field number) (context_is n (root part) (sym s)) ∙ not_field n number lt in
    ap (λ b. b || has_part number parts) other ∙ h

below_field : (n number : ℕ) (parts : Trees) → number < n → has_part number (parts_after n parts) ≡ false → has_part number parts ≡ false
unfolding parts_after
below_field n number none lt h = refl
below_field n number (more part parts) lt h = below_by n number part parts (is_field n (root part)) refl lt h

-- a field below those that were read isn't among the parts
none_below : (row : Row) (least place : ℕ) (parts : Trees) (raw : List Slot) (number : ℕ) → is_table least row ≡ true → number < least → found row place parts ≡ Ok raw → has_part number parts ≡ false
unfolding end_at
none_below end least place none raw number t lt e = refl
none_below end least place (more part parts) raw number t lt e = absurd cc
none_below (field n form need row) least place parts raw number t lt e =
    let q = tests least n form need row t in
    let s = stepped place n form need row parts raw e in
    let above : number < n = grind (arith, q.low, lt) in
    below_field n number parts above (none_below row (n + 1) (next_place place (part_here n parts)) (parts_after n parts) s.others number q.rest (omega (arith, above)) s.at_others)

other_field : (number n : ℕ) → number + 1 ≤ n → is_field n (context number) ≡ false
other_field number n le = grind (arith, le)

same_next : (all parts : Trees) (least number : ℕ) → nat_le least number ≡ true → SameFrom least all parts → SameFrom (number + 1) all (parts_after number parts)
unfolding parts_after
same_next all none least number low same n le = same n (grind (arith, low, le))
same_next all (more part parts) least number low same n le = same_by all part parts least number low same n le (is_field number (root part)) refl
  where
    same_by : (all : Trees) (part : Tree) (parts : Trees) (least number : ℕ) → nat_le least number ≡ true → SameFrom least all (more part parts) → (n : ℕ) → number + 1 ≤ n
        → (b : Bool) → b ≡ is_field number (root part) → has_part n all ≡ has_part n (cond b parts (more part parts))
    same_by all part parts least number low same n le true s =
        let other : is_field n (root part) ≡ false = ap (is_field n) (context_is number (root part) (sym s)) ∙ other_field number n le in
        same n (grind (arith, low, le)) ∙ ap (λ b. b || has_part n parts) other
    same_by all part parts least number low same n le false s = same n (grind (arith, low, le))

in_range_of : (number : ℕ) (b : Bool) (content : Content) (first : Slot) → (let r : Result Slot Fault = cond b (Ok (Some content)) (Err (Range number)) in r) ≡ Ok first → (content : Content) × (first ≡ Some content)
in_range_of number true content first e = (content, sym (ok_is (Some content) first e))
in_range_of number false content first e = absurd cc

content_of : (place number : ℕ) (form : Form) (o : Option Content) (first : Slot) → checked place number form o ≡ Ok first → (content : Content) × (first ≡ Some content)
content_of place number form None first e = absurd cc
content_of place number form (Some content) first e = in_range_of number (fits form content) content first e

by_part : (place number : ℕ) (form : Form) (need : Need) (row : Row) (part : Tree) (parts : Trees) (first : Slot) (b : Bool) → b ≡ is_field number (root part)
    → field_at place number form (absence need) (cond b (Some part) None) ≡ Ok first
    → (b ≡ false → has_part number (cond b parts (more part parts)) ≡ false)
    → ((has_part number (more part parts) ≡ false) × (first ≡ absence need)) ⊎ ((has_part number (more part parts) ≡ true) × ((content : Content) × (first ≡ Some content)))
unfolding field_at
by_part place number form need row part parts first true s e gone = inr (ap (λ b. b || has_part number parts) (sym s), content_of place number form (shape form part) first e)
by_part place number form need row part parts first false s e gone = inl (gone refl, sym (ok_is (absence need) first e))

-- a field, and whether a part is there
there_or_not : (place number : ℕ) (form : Form) (need : Need) (row : Row) (parts : Trees) (raw : List Slot) → is_table (number + 1) row ≡ true
    → (s : Step place number form need row parts raw)
    → ((has_part number parts ≡ false) × (s.first ≡ absence need)) ⊎ ((has_part number parts ≡ true) × ((content : Content) × (s.first ≡ Some content)))
unfolding field_at part_here parts_after
there_or_not place number form need row none raw t s = inl (refl, sym (ok_is (absence need) s.first s.at_first))
there_or_not place number form need row (more part parts) raw t s =
    by_part place number form need row part parts s.first (is_field number (root part)) refl s.at_first
    (λ e. none_below row (number + 1) (next_place place (part_here number (more part parts))) (parts_after number (more part parts)) s.others number t (omega arith) s.at_others)

-- a field that needn't be there
not_needed : (number : ℕ) (need : Need) (first : Slot) (row : Row) (rest : List Slot) (form : Form) → is_required need ≡ false
    → told (completed (field number form need row) (first ∷ rest)) ≡ told (completed row rest)
not_needed number required first row rest form e = absurd cc
not_needed number optional first row rest form e = told_map (λ (others : List Slot). first ∷ others) (completed row rest)
not_needed number (default content) first row rest form e = told_map (λ (others : List Slot). first ∷ others) (completed row rest)

content_is_there : (number : ℕ) (need : Need) (content : Content) (row : Row) (rest : List Slot) (form : Form)
    → told (completed (field number form need row) (Some content ∷ rest)) ≡ told (completed row rest)
content_is_there number required content row rest form = told_map (λ (others : List Slot). Some content ∷ others) (completed row rest)
content_is_there number optional content row rest form = told_map (λ (others : List Slot). Some content ∷ others) (completed row rest)
content_is_there number (default usual) content row rest form = told_map (λ (others : List Slot). Some content ∷ others) (completed row rest)

missing_by : (number : ℕ) (form : Form) (need : Need) (row : Row) (all parts : Trees) (first : Slot) (rest : List Slot)
    → has_part number all ≡ has_part number parts
    → ((has_part number parts ≡ false) × (first ≡ absence need)) ⊎ ((has_part number parts ≡ true) × ((content : Content) × (first ≡ Some content)))
    → missing row all ≡ told (completed row rest)
    → missing (field number form need row) all ≡ told (completed (field number form need row) (first ∷ rest))
missing_by number form need row all parts first rest same (inr h) after =
    let is : has_part number all ≡ true = same ∙ h.0 in
    let C : Slot → Type 0 = λ x. missing (field number form need row) all ≡ told (completed (field number form need row) (x ∷ rest)) in
    subst C (sym h.1.1) (asked_for (is_required need) (has_part number all) is ∙ after ∙ sym (content_is_there number need h.1.0 row rest form))
  where
    asked_for : (b c : Bool) → c ≡ true → cond b (cond c (missing row all) (Some (Missing number))) (missing row all) ≡ missing row all
    asked_for true true e = refl
    asked_for true false e = absurd cc
    asked_for false c e = refl
missing_by number form required row all parts first rest same (inl h) after =
    let is : has_part number all ≡ false = same ∙ h.0 in
    let C : Slot → Type 0 = λ x. missing (field number form required row) all ≡ told (completed (field number form required row) (x ∷ rest)) in
    subst C (sym h.1) (ap (λ b. cond b (missing row all) (Some (Missing number))) is)
missing_by number form optional row all parts first rest same (inl h) after = after ∙ sym (not_needed number optional first row rest form refl)
missing_by number form (default content) row all parts first rest same (inl h) after = after ∙ sym (not_needed number (default content) first row rest form refl)

pub missing_told : (row : Row) (least place : ℕ) (all parts : Trees) (raw : List Slot) → is_table least row ≡ true → SameFrom least all parts → found row place parts ≡ Ok raw
    → missing row all ≡ told (completed row raw)
missing_told end least place all parts raw t same e = refl
missing_told (field number form need row) least place all parts raw t same e =
    let q = tests least number form need row t in
    let s = stepped place number form need row parts raw e in
    let C : List Slot → Type 0 = λ x. missing (field number form need row) all ≡ told (completed (field number form need row) x) in
    subst C s.both
    (missing_by number form need row all parts s.first s.others (same number (grind (arith, q.low))) (there_or_not place number form need row parts raw q.rest s)
    (missing_told row (number + 1) (next_place place (part_here number parts)) all (parts_after number parts) s.others q.rest (same_next all parts least number q.low same) s.at_others))

told_by : (r : Result (List Slot) Fault) (k : List Slot → Result (List Slot) Fault) (absent : Option Fault) → ((raw : List Slot) → r ≡ Ok raw → absent ≡ told (k raw))
    → or_else (told r) absent ≡ told (r >>= k)
told_by (Ok raw) k absent h = h raw refl
told_by (Err fault) k absent h = refl

-- the fault of the parts is that of reading them
pub fault_told : (row : Row) (parts : Trees) → is_table 0 row ≡ true → fault_in row parts ≡ told (reading row parts)
fault_told row parts t =
    ap (λ o. or_else o (missing row parts)) (found_told row row 0 0 parts t (λ tag le. refl))
    ∙ told_by (found row 0 parts) (completed row) (missing row parts) (λ raw e. missing_told row 0 0 parts parts raw t (λ n le. refl) e)
