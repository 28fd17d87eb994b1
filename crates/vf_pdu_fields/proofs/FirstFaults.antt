-- The fault that reading finds is the first one.
use Rattle.std.proofs.Common.{◌≡◌, ℕ, ◌+◌, ◌<◌, ◌≤◌, Bool, true, false, cond, List, ◌∷◌, refl, ap, sym, subst, ◌∙◌, arith}
use Rattle.std.specs.Prelude.{Option, Some, None, Result, Ok, Err, ◌&&◌, nat_eq, nat_le}
use Rattle.vf_ber.specs.Tree.{Tag, Tree, Trees, none, more, root}
use Rattle.vf_pdu_fields.specs.Content.{Content, Slot}
use Rattle.vf_pdu_fields.specs.Fault.{Fault, Field, Range}
use Rattle.vf_pdu_fields.specs.Faults.{or_else, form_of, judged, part_fault, first_fault}
use Rattle.vf_pdu_fields.specs.Meaning.{context, fits}
use Rattle.vf_pdu_fields.specs.Reading.{is_field, part_here, parts_after, shape, ◌>>=◌, checked, field_at, next_place, absence, end_at, found}
use Rattle.vf_pdu_fields.specs.Rows.{Need, Form, Row, end, field}
use Rattle.vf_pdu_fields.proofs.Complete.{Tests, tests}
use Rattle.vf_pdu_fields.proofs.Plain.{context_is}
use Rattle.vf_pdu_fields.proofs.Tables.{is_table}

-- the fault of a result, if it has one
abbrev pub told : {A : Type 0} → Result A Fault → Option Fault
told (Ok x) = None
told (Err fault) = Some fault

pub told_map : {A B : Type 0} (f : A → B) (r : Result A Fault) → told (r >>= λ x. let s : Result B Fault = Ok (f x) in s) ≡ told r
told_map f (Ok x) = refl
told_map f (Err fault) = refl

-- a row has no tag below its first
form_below : (row : Row) (least tag : ℕ) → is_table least row ≡ true → tag < least → form_of row tag ≡ None
form_below end least tag t lt = refl
form_below (field number form need row) least tag t lt =
    let q = tests least number form need row t in
    let other : nat_eq number tag ≡ false = grind (arith, q.low, lt) in
    ap (λ b. cond b (Some form) (form_of row tag)) other ∙ form_below row (number + 1) tag q.rest (grind (arith, q.low, lt))

-- the whole row and what is left of it agree from a tag on
abbrev pub Agree : Row → Row → ℕ → Type 0
Agree whole row least = (tag : ℕ) → least ≤ tag → form_of whole tag ≡ form_of row tag

agree_next : (whole row : Row) (least number : ℕ) (form : Form) (need : Need) → nat_le least number ≡ true → Agree whole (field number form need row) least → Agree whole row (number + 1)
agree_next whole row least number form need low agree tag le =
    let other : nat_eq number tag ≡ false = grind (arith, le) in
    let above : least ≤ tag = grind (arith, low, le) in
    agree tag above ∙ ap (λ b. cond b (Some form) (form_of row tag)) other

-- a part with a tag that is none of the row's
abbrev part_told : Row → ℕ → ℕ → Tree → Trees → Bool → Option Fault
part_told whole place least part parts b =
    cond b (or_else (part_fault place part (form_of whole (root part).number)) (first_fault whole (place + 1) ((root part).number + 1) parts)) (Some (Field place))

stranger : (whole : Row) (place : ℕ) (part : Tree) (parts : Trees) (b : Bool) (least : ℕ) → (b ≡ true → form_of whole (root part).number ≡ None) → part_told whole place least part parts b ≡ Some (Field place)
stranger whole place part parts true least h =
    ap (λ o. or_else (part_fault place part o) (first_fault whole (place + 1) ((root part).number + 1) parts)) (h refl)
stranger whole place part parts false least h = refl

le_of : (a b : ℕ) (c : Bool) → (c && nat_le a b) ≡ true → a ≤ b
le_of a b true e = grind (arith, e)
le_of a b false e = absurd cc

end_told : (whole : Row) (place least : ℕ) (parts : Trees) → Agree whole end least → first_fault whole place least parts ≡ told (end_at place parts)
unfolding end_at
end_told whole place least none agree = refl
end_told whole place least (more part parts) agree =
    stranger whole place part parts (nat_eq (root part).class 2 && nat_le least (root part).number) least
    (λ e. agree (root part).number (le_of least (root part).number (nat_eq (root part).class 2) e))

-- an absent field changes nothing for the parts that are left
skip_by : (class2 : Bool) (low high : Bool) (whole : Row) (place : ℕ) (part : Tree) (parts : Trees) (least : ℕ)
    → (high ≡ true → low ≡ true) → (high ≡ false → class2 ≡ true → low ≡ true → form_of whole (root part).number ≡ None)
    → part_told whole place least part parts (class2 && low) ≡ part_told whole place least part parts (class2 && high)
skip_by false low high whole place part parts least up outside = refl
skip_by true true true whole place part parts least up outside = refl
skip_by true false true whole place part parts least up outside = absurd (let h : false ≡ true = up refl in cc)
skip_by true false false whole place part parts least up outside = refl
skip_by true true false whole place part parts least up outside = stranger whole place part parts true least (λ e. outside refl refl refl)

skip : (whole row : Row) (place least number : ℕ) (form : Form) (need : Need) (part : Tree) (parts : Trees) → Tests least number form need row
    → Agree whole (field number form need row) least → is_field number (root part) ≡ false
    → first_fault whole place least (more part parts) ≡ first_fault whole place (number + 1) (more part parts)
skip whole row place least number form need part parts q agree other =
    skip_by (nat_eq (root part).class 2) (nat_le least (root part).number) (nat_le (number + 1) (root part).number) whole place part parts least
    (λ h. grind (arith, q.low, h))
    (λ h c l.
    let le : least ≤ (root part).number = grind (arith, l) in
    let ne : nat_eq number (root part).number ≡ false = grind (arith, c, other) in
    let lt : (root part).number < number + 1 = grind (arith, h) in
    agree (root part).number le ∙ ap (λ b. cond b (Some form) (form_of row (root part).number)) ne ∙ form_below row (number + 1) (root part).number q.rest lt)

-- a field that is there: its fault, or that of those after it
part_is_told : (place number : ℕ) (form : Form) (o : Option Content) (k : Slot → Result (List Slot) Fault) (after_it : Option Fault)
    → ((content : Content) → after_it ≡ told (k (Some content)))
    → or_else (judged place number form o) after_it ≡ told (checked place number form o >>= k)
part_is_told place number form None k after h = refl
part_is_told place number form (Some content) k after h = fits_told place number (fits form content) content k after h
  where
    fits_told : (place number : ℕ) (b : Bool) (content : Content) (k : Slot → Result (List Slot) Fault) (after_it : Option Fault)
        → ((content : Content) → after_it ≡ told (k (Some content)))
        → or_else (cond b None (Some (Range number))) after_it ≡ told ((let r : Result Slot Fault = cond b (Ok (Some content)) (Err (Range number)) in r) >>= k)
    fits_told place number true content k after h = h content
    fits_told place number false content k after h = refl

same_number : (number : ℕ) → nat_eq number number ≡ true
same_number number = grind arith

-- the first part is the field
here : (whole row : Row) (place least number : ℕ) (form : Form) (need : Need) (part : Tree) (parts : Trees) → Tests least number form need row
    → Agree whole (field number form need row) least → is_field number (root part) ≡ true
    → first_fault whole (place + 1) (number + 1) parts ≡ told (found row (place + 1) parts)
    → first_fault whole place least (more part parts)
    ≡ told (checked place number form (shape form part) >>= λ first. found row (place + 1) parts >>= λ rest. Ok (first ∷ rest))
here whole row place least number form need part parts q agree is after =
    let tag : root part ≡ context number = context_is number (root part) is in
    let T : Tag → Type 0 = λ t.
    cond (nat_eq t.class 2 && nat_le least t.number) (or_else (let o : Option Fault = elim (form_of whole t.number) [ None ↦ Some (Field place) | Some f ↦ judged place t.number f (shape f part) ] in o) (first_fault whole (place + 1) (t.number + 1) parts)) (Some (Field place))
    ≡ told (checked place number form (shape form part) >>= λ first. found row (place + 1) parts >>= λ rest. Ok (first ∷ rest)) in
    let rises : least ≤ number = grind (arith, q.low) in
    let known : form_of whole number ≡ Some form = agree number rises ∙ ap (λ b. cond b (Some form) (form_of row number)) (same_number number) in
    subst T (sym tag)
    (ap (λ b. cond b (or_else (let o : Option Fault = elim (form_of whole number) [ None ↦ Some (Field place) | Some f ↦ judged place number f (shape f part) ] in o) (first_fault whole (place + 1) (number + 1) parts)) (Some (Field place))) q.low
    ∙ ap (λ (x : Option Form). or_else (let o : Option Fault = elim x [ None ↦ Some (Field place) | Some f ↦ judged place number f (shape f part) ] in o) (first_fault whole (place + 1) (number + 1) parts)) known
    ∙ part_is_told place number form (shape form part) (λ first. found row (place + 1) parts >>= λ rest. Ok (first ∷ rest)) (first_fault whole (place + 1) (number + 1) parts)
    (λ content. after ∙ sym (told_map (λ (rest : List Slot). (Some content) ∷ rest) (found row (place + 1) parts))))

field_told : (whole row : Row) (place least number : ℕ) (form : Form) (need : Need) (part : Tree) (parts : Trees) (b : Bool) → b ≡ is_field number (root part)
    → Tests least number form need row → Agree whole (field number form need row) least
    → first_fault whole (place + 1) (number + 1) parts ≡ told (found row (place + 1) parts)
    → first_fault whole place (number + 1) (more part parts) ≡ told (found row place (more part parts))
    → first_fault whole place least (more part parts)
    ≡ told (field_at place number form (absence need) (cond b (Some part) None) >>= λ first.
    found row (next_place place (cond b (Some part) None)) (cond b parts (more part parts)) >>= λ rest. Ok (first ∷ rest))
unfolding field_at next_place
field_told whole row place least number form need part parts true b q agree after same = here whole row place least number form need part parts q agree (sym b) after
field_told whole row place least number form need part parts false b q agree after same =
    skip whole row place least number form need part parts q agree (sym b) ∙ same ∙ sym (told_map (λ (rest : List Slot). absence need ∷ rest) (found row place (more part parts)))

pub found_told : (whole row : Row) (place least : ℕ) (parts : Trees) → is_table least row ≡ true → Agree whole row least
    → first_fault whole place least parts ≡ told (found row place parts)
unfolding field_at next_place part_here parts_after
found_told whole end place least parts t agree = end_told whole place least parts agree
found_told whole (field number form need row) place least none t agree =
    let q = tests least number form need row t in
    found_told whole row place (number + 1) none q.rest (agree_next whole row least number form need q.low agree)
    ∙ sym (told_map (λ (rest : List Slot). absence need ∷ rest) (found row place none))
found_told whole (field number form need row) place least (more part parts) t agree =
    let q = tests least number form need row t in
    let next = agree_next whole row least number form need q.low agree in
    field_told whole row place least number form need part parts (is_field number (root part)) refl q agree
    (found_told whole row (place + 1) (number + 1) parts q.rest next) (found_told whole row place (number + 1) (more part parts) q.rest next)
