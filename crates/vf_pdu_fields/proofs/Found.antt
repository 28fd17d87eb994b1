-- What is read of a row is what the parts have, and in range.
use Rattle.std.proofs.Common.{◌≡◌, ℕ, ◌+◌, Bool, true, false, cond, List, [], ◌∷◌, refl, sym, subst, inl, inr}
use Rattle.std.specs.Prelude.{Option, Some, None, Result, Ok, Err, ◌&&◌, nat_le}
use Rattle.std.proofs.lemmas.Bool.{and_parts}
use Rattle.vf_ber.specs.Tree.{Tree, Trees, none, more, root}
use Rattle.vf_pdu_fields.specs.Content.{Content, Slot, slots}
use Rattle.vf_pdu_fields.specs.Fault.{Fault, Range}
use Rattle.vf_pdu_fields.specs.Meaning.{context, Holds, fits, all_fit}
use Rattle.vf_pdu_fields.specs.Reading.{is_field, part_here, parts_after, shape, ◌>>=◌, checked, field_at, next_place, absence, end_at, found, filled, completed, reading}
use Rattle.vf_pdu_fields.specs.Rows.{Need, required, optional, default, Form, Row, end, field}
use Rattle.vf_pdu_fields.proofs.Plain.{context_is}
use Rattle.vf_pdu_fields.proofs.Shapes.{shape_has}
use Rattle.vf_pdu_fields.proofs.Tables.{is_form, is_usual, is_table}

-- the slots that parts have by a row, in range
abbrev pub Kept : Row → Trees → List Slot → Type 0
Kept row parts read = Holds row parts (slots read) × (all_fit row (slots read) ≡ true)

pub ok_is : {A : Type 0} (x y : A) → ◌≡◌ {A = Result A Fault} (Ok x) (Ok y) → x ≡ y
ok_is x y e = cc

pub bind_ok : {A B : Type 0} (r : Result A Fault) (f : A → Result B Fault) (y : B) → (r >>= f) ≡ Ok y → (x : A) × (r ≡ Ok x) × (f x ≡ Ok y)
bind_ok (Ok x) f y e = (x, refl, e)
bind_ok (Err fault) f y e = absurd cc

both : (a b : Bool) → a ≡ true → b ≡ true → (a && b) ≡ true
both true true p q = refl
both true false p q = absurd cc
both false b p q = absurd cc

filled_some : (number : ℕ) (need : Need) (content : Content) (kept : Slot) → filled number need (Some content) ≡ Ok kept → kept ≡ Some content
filled_some number required content kept e = sym (ok_is (Some content) kept e)
filled_some number optional content kept e = sym (ok_is (Some content) kept e)
filled_some number (default usual) content kept e = sym (ok_is (Some content) kept e)

-- by whether it is in range
part_fits : (place number : ℕ) (form : Form) (need : Need) (row : Row) (part : Tree) (parts : Trees) (content : Content) (first kept : Slot) (others : List Slot) (b : Bool)
    → b ≡ fits form content → shape form part ≡ Some content → (let r : Result Slot Fault = cond b (Ok (Some content)) (Err (Range number)) in r) ≡ Ok first
    → filled number need first ≡ Ok kept → root part ≡ context number → Kept row parts others → Kept (field number form need row) (more part parts) (kept ∷ others)
part_fits place number form need row part parts content first kept others false b s c f r k = absurd cc
part_fits place number form need row part parts content first kept others true b s c f r k =
    let F : Slot → Type 0 = λ x. filled number need x ≡ Ok kept in
    let same : kept ≡ Some content = filled_some number need content kept (subst F (sym (ok_is (Some content) first c)) f) in
    let P : Slot → Type 0 = λ x. Kept (field number form need row) (more part parts) (x ∷ others) in
    subst P (sym same) (inl (part, parts, content, slots others, refl, refl, r, shape_has form part content s, k.0), both (fits form content) (all_fit row (slots others)) (sym b) k.1)

-- a field that was there
part_kept : (place number : ℕ) (form : Form) (need : Need) (row : Row) (part : Tree) (parts : Trees) (o : Option Content) (first kept : Slot) (others : List Slot)
    → shape form part ≡ o → checked place number form o ≡ Ok first → filled number need first ≡ Ok kept → root part ≡ context number
    → Kept row parts others → Kept (field number form need row) (more part parts) (kept ∷ others)
part_kept place number form need row part parts None first kept others s c f r k = absurd cc
part_kept place number form need row part parts (Some content) first kept others s c f r k =
    part_fits place number form need row part parts content first kept others (fits form content) refl s c f r k

-- a field that was absent
absent_kept : (number : ℕ) (form : Form) (need : Need) (row : Row) (parts : Trees) (kept : Slot) (others : List Slot)
    → is_usual form need ≡ true → filled number need (absence need) ≡ Ok kept → Kept row parts others → Kept (field number form need row) parts (kept ∷ others)
absent_kept number form required row parts kept others u f k = absurd cc
absent_kept number form optional row parts kept others u f k =
    let P : Slot → Type 0 = λ x. Kept (field number form optional row) parts (x ∷ others) in
    subst P (ok_is None kept f) (inr (None, slots others, refl, refl, k.0), k.1)
absent_kept number form (default content) row parts kept others u f k =
    let P : Slot → Type 0 = λ x. Kept (field number form (default content) row) parts (x ∷ others) in
    subst P (ok_is (Some content) kept f) (inr (Some content, slots others, refl, refl, k.0), both (fits form content) (all_fit row (slots others)) u k.1)

absent_first : (need : Need) (kept first : Slot) (number : ℕ) → (let r : Result Slot Fault = Ok (absence need) in r) ≡ Ok first → filled number need first ≡ Ok kept → filled number need (absence need) ≡ Ok kept
absent_first need kept first number e f = let F : Slot → Type 0 = λ x. filled number need x ≡ Ok kept in subst F (sym (ok_is (absence need) first e)) f

-- by whether the first part is the field
first_kept : (place number : ℕ) (form : Form) (need : Need) (row : Row) (part : Tree) (parts : Trees) (first kept : Slot) (others : List Slot) (b : Bool)
    → b ≡ is_field number (root part) → is_usual form need ≡ true
    → field_at place number form (absence need) (cond b (Some part) None) ≡ Ok first → filled number need first ≡ Ok kept
    → Kept row (cond b parts (more part parts)) others → Kept (field number form need row) (more part parts) (kept ∷ others)
unfolding field_at
first_kept place number form need row part parts first kept others true b u e f k =
    part_kept place number form need row part parts (shape form part) first kept others refl e f (context_is number (root part) (sym b)) k
first_kept place number form need row part parts first kept others false b u e f k =
    absent_kept number form need row (more part parts) kept others u (absent_first need kept first number e f) k

field_kept : (place number : ℕ) (form : Form) (need : Need) (row : Row) (parts : Trees) (first kept : Slot) (others : List Slot)
    → is_usual form need ≡ true → field_at place number form (absence need) (part_here number parts) ≡ Ok first → filled number need first ≡ Ok kept
    → Kept row (parts_after number parts) others → Kept (field number form need row) parts (kept ∷ others)
unfolding field_at part_here parts_after
field_kept place number form need row none first kept others u e f k =
    absent_kept number form need row none kept others u (absent_first need kept first number e f) k
field_kept place number form need row (more part parts) first kept others u e f k =
    first_kept place number form need row part parts first kept others (is_field number (root part)) refl u e f k

end_kept : (place : ℕ) (parts : Trees) (raw : List Slot) → end_at place parts ≡ Ok raw → Kept end parts raw
unfolding end_at
end_kept place none raw e = let P : List Slot → Type 0 = λ x. Kept end none x in subst P (ok_is [] raw e) ((refl, refl), refl)
end_kept place (more part parts) raw e = absurd cc

pub found_kept : (row : Row) (least place : ℕ) (parts : Trees) (raw read : List Slot) → is_table least row ≡ true
    → found row place parts ≡ Ok raw → completed row raw ≡ Ok read → Kept row parts read
found_kept end least place parts raw read t e c = let P : List Slot → Type 0 = λ x. Kept end parts x in subst P (ok_is raw read c) (end_kept place parts raw e)
found_kept (field number form need row) least place parts raw read t e c =
    let t1 = and_parts (nat_le least number) (is_form form && (is_usual form need && is_table (number + 1) row)) t in
    let t2 = and_parts (is_form form) (is_usual form need && is_table (number + 1) row) t1.1 in
    let t3 = and_parts (is_usual form need) (is_table (number + 1) row) t2.1 in
    let a = bind_ok (field_at place number form (absence need) (part_here number parts))
    (λ first. found row (next_place place (part_here number parts)) (parts_after number parts) >>= λ rest. Ok (first ∷ rest)) raw e in
    let b = bind_ok (found row (next_place place (part_here number parts)) (parts_after number parts)) (λ (rest : List Slot). let r : Result (List Slot) Fault = Ok (a.0 ∷ rest) in r) raw a.2 in
    let C : List Slot → Type 0 = λ x. completed (field number form need row) x ≡ Ok read in
    let d = bind_ok (filled number need a.0) (λ kept. completed row b.0 >>= λ others. Ok (kept ∷ others)) read (subst C (sym (ok_is (a.0 ∷ b.0) raw b.2)) c) in
    let f = bind_ok (completed row b.0) (λ (others : List Slot). let r : Result (List Slot) Fault = Ok (d.0 ∷ others) in r) read d.2 in
    let P : List Slot → Type 0 = λ x. Kept (field number form need row) parts x in
    subst P (ok_is (d.0 ∷ f.0) read f.2)
    (field_kept place number form need row parts a.0 d.0 f.0 t3.0 a.1 d.1 (found_kept row (number + 1) (next_place place (part_here number parts)) (parts_after number parts) b.0 f.0 t3.1 b.1 f.1))

-- what is read is kept
pub reading_kept : (row : Row) (parts : Trees) (read : List Slot) → is_table 0 row ≡ true → reading row parts ≡ Ok read → Kept row parts read
reading_kept row parts read t e =
    let a = bind_ok (found row 0 parts) (completed row) read e in
    found_kept row 0 0 parts a.0 read t a.1 a.2
