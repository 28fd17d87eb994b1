-- What has the form of a row and is in range is read by it, and nothing else is.
use Rattle.std.proofs.Common.{◌≡◌, ℕ, Bool, true, false, cond, List, [], ◌∷◌, refl, ap, sym, subst, ◌∙◌}
use Rattle.std.specs.Prelude.{Option, Some, None, Result, Ok, Err, is_some}
use Rattle.std.specs.Option.{option_and_then, option_map}
use Rattle.std.proofs.lemmas.Bool.{and_parts}
use Rattle.vf_ber.specs.Tree.{Tree, Trees, none, more}
use Rattle.vf_pdu_fields.specs.Content.{Content, Fields, Slots, Slot, slot, slots}
use Rattle.vf_pdu_fields.specs.Fault.{Fault, Field, Range}
use Rattle.vf_pdu_fields.specs.Meaning.{fits, all_fit}
use Rattle.vf_pdu_fields.specs.Reading.{part_here, parts_after, parts_of, lacking, slot_at, ended, shape, shapes, ◌>>=◌, checked, unread, field_at, next_place, absence, end_at, found, filled, completed, reading}
use Rattle.vf_pdu_fields.specs.Rows.{Need, required, optional, default, Form, sequence, Row, end, field}
use Rattle.vf_pdu_fields.specs.Results.{Fails}
use Rattle.vf_pdu_fields.specs.declared.errors.PduError.{PduError}
use Rattle.vf_pdu_fields.proofs.Complete.{holds_shapes}
use Rattle.vf_pdu_fields.proofs.Found.{reading_kept}
use Rattle.vf_pdu_fields.proofs.Plain.{some_is, bind_some, map_some}
use Rattle.vf_pdu_fields.proofs.Tables.{is_table}

-- a slot's contents are in range
abbrev InRange : Form → Slot → Bool
InRange form None = true
InRange form (Some content) = fits form content

fits_here : (number : ℕ) (form : Form) (need : Need) (row : Row) (first : Slot) (rest : Slots) → all_fit (field number form need row) (slot first rest) ≡ true
    → (InRange form first ≡ true) × (all_fit row rest ≡ true)
fits_here number form need row (Some content) rest e = and_parts (fits form content) (all_fit row rest) e
fits_here number form required row None rest e = absurd cc
fits_here number form optional row None rest e = (refl, e)
fits_here number form (default content) row None rest e = absurd cc

-- a field of the form and in range is read
abbrev Reads : ℕ → ℕ → Form → Need → Option Tree → Slot → Type 0
Reads place number form need part first = (field_at place number form (absence need) part ≡ Ok first) × (filled number need first ≡ Ok first)

filled_content : (number : ℕ) (need : Need) (content : Content) → filled number need (Some content) ≡ Ok (Some content)
filled_content number required content = refl
filled_content number optional content = refl
filled_content number (default usual) content = refl

absent_reads : (place number : ℕ) (form : Form) (need : Need) (first : Slot) → lacking need ≡ Some first → Reads place number form need None first
unfolding field_at
absent_reads place number form required first e = absurd cc
absent_reads place number form optional first e = let P : Slot → Type 0 = λ x. Reads place number form optional None x in subst P (some_is None first e) (refl, refl)
absent_reads place number form (default content) first e =
    let P : Slot → Type 0 = λ x. Reads place number form (default content) None x in subst P (some_is (Some content) first e) (refl, refl)

present_reads : (place number : ℕ) (form : Form) (need : Need) (part : Tree) (content : Content) → shape form part ≡ Some content → fits form content ≡ true
    → Reads place number form need (Some part) (Some content)
unfolding field_at
present_reads place number form need part content s f =
    (ap (checked place number form) s ∙ ap (λ b. let r : Result Slot Fault = cond b (Ok (Some content)) (Err (Range number)) in r) f, filled_content number need content)

field_reads : (place number : ℕ) (form : Form) (need : Need) (part : Option Tree) (first : Slot) → slot_at (shape form) (lacking need) part ≡ Some first
    → InRange form first ≡ true → Reads place number form need part first
unfolding slot_at
field_reads place number form need None first e r = absent_reads place number form need first e
field_reads place number form need (Some part) first e r =
    let m = map_some (λ (c : Content). Some c) (shape form part) first e in
    let R : Slot → Type 0 = λ x. InRange form x ≡ true in
    let P : Slot → Type 0 = λ x. Reads place number form need (Some part) x in
    subst P m.2 (present_reads place number form need part m.0 m.1 (subst R (sym m.2) r))

-- what reading gives
abbrev Given : Row → ℕ → Trees → Type 0
Given row place parts = (raw : List Slot) × (read : List Slot) × (found row place parts ≡ Ok raw) × (completed row raw ≡ Ok read)

end_given : (place : ℕ) (parts : Trees) (s : Slots) → ended parts ≡ Some s → Given end place parts
unfolding end_at
end_given place none s e = ([], [], refl, refl)
end_given place (more part parts) s e = absurd cc

next_given : (place number : ℕ) (form : Form) (need : Need) (row : Row) (parts : Trees) (first : Slot)
    → Reads place number form need (part_here number parts) first → Given row (next_place place (part_here number parts)) (parts_after number parts) → Given (field number form need row) place parts
next_given place number form need row parts first r g = (
  first ∷ g.0,
  first ∷ g.1,
  ap (λ (o : Result Slot Fault). o >>= λ first. found row (next_place place (part_here number parts)) (parts_after number parts) >>= λ rest. let y : Result (List Slot) Fault = Ok (first ∷ rest) in y) r.0
      ∙ ap (λ (o : Result (List Slot) Fault). o >>= λ rest. let y : Result (List Slot) Fault = Ok (first ∷ rest) in y) g.2,
  ap (λ (o : Result Slot Fault). o >>= λ kept. completed row g.0 >>= λ others. let y : Result (List Slot) Fault = Ok (kept ∷ others) in y) r.1
      ∙ ap (λ (o : Result (List Slot) Fault). o >>= λ others. let y : Result (List Slot) Fault = Ok (first ∷ others) in y) g.3,
)

shapes_given : (row : Row) (place : ℕ) (parts : Trees) (s : Slots) → shapes row parts ≡ Some s → all_fit row s ≡ true → Given row place parts
shapes_given end place parts s e r = end_given place parts s e
shapes_given (field number form need row) place parts s e r =
    let b = bind_some (λ (first : Slot). option_map (slot first) (shapes row (parts_after number parts))) (slot_at (shape form) (lacking need) (part_here number parts)) s e in
    let m = map_some (slot b.0) (shapes row (parts_after number parts)) s b.2 in
    let F : Slots → Type 0 = λ x. all_fit (field number form need row) x ≡ true in
    let f = fits_here number form need row b.0 m.0 (subst F (sym m.2) r) in
    next_given place number form need row parts b.0 (field_reads place number form need (part_here number parts) b.0 b.1 f.0)
    (shapes_given row (next_place place (part_here number parts)) (parts_after number parts) m.0 m.1 f.1)

pub shapes_read : (row : Row) (parts : Trees) (s : Slots) → shapes row parts ≡ Some s → all_fit row s ≡ true → (read : List Slot) × (reading row parts ≡ Ok read)
shapes_read row parts s e r =
    let g = shapes_given row 0 parts s e r in
    (g.1, ap (λ (o : Result (List Slot) Fault). o >>= completed row) g.2 ∙ g.3)

-- a sequence that is read
pub sequence_read : (place number : ℕ) (row : Row) (tree : Tree) (parts : Trees) (read : List Slot) → is_table 0 row ≡ true → parts_of tree ≡ Some parts
    → reading row parts ≡ Ok read → checked place number (sequence row) (shape (sequence row) tree) ≡ Ok (Some (Fields (slots read)))
sequence_read place number row tree parts read t p e =
    let k = reading_kept row parts read t e in
    let s : shapes row parts ≡ Some (slots read) = holds_shapes row 0 parts (slots read) t k.0 in
    let h : shape (sequence row) tree ≡ Some (Fields (slots read)) = ap (option_and_then (λ (x : Trees). option_map Fields (shapes row x))) p ∙ ap (option_map Fields) s in
    ap (checked place number (sequence row)) h ∙ ap (λ b. let r : Result Slot Fault = cond b (Ok (Some (Fields (slots read)))) (Err (Range number)) in r) k.1

in_or_out : (place number : ℕ) (row : Row) (parts : Trees) (fault : Fault) (inside : Slots) (b : Bool) → b ≡ all_fit row inside → shapes row parts ≡ Some inside → reading row parts ≡ Err fault
    → (let r : Result Slot Fault = cond b (Ok (Some (Fields inside))) (Err (Range number)) in r) ≡ Err (Range number)
in_or_out place number row parts fault inside false b s e = refl
in_or_out place number row parts fault inside true b s e =
    let r = shapes_read row parts inside s (sym b) in
    let no : ◌≡◌ {A = Result (List Slot) Fault} (Ok r.0) (Err fault) = sym r.1 ∙ e in
    absurd cc

out_by : (place number : ℕ) (row : Row) (parts : Trees) (fault : Fault) (o : Option Slots) → o ≡ shapes row parts → reading row parts ≡ Err fault → is_some o ≡ true
    → checked place number (sequence row) (option_map Fields o) ≡ Err (Range number)
out_by place number row parts fault None s e i = absurd cc
out_by place number row parts fault (Some inside) s e i = in_or_out place number row parts fault inside (all_fit row inside) refl (sym s) e

bad_by : (place number : ℕ) (row : Row) (o : Option Slots) → is_some o ≡ false → checked place number (sequence row) (option_map Fields o) ≡ Err (Field place)
bad_by place number row None i = refl
bad_by place number row (Some inside) i = absurd cc

-- a sequence of the form that isn't read
pub sequence_out : (place number : ℕ) (row : Row) (tree : Tree) (parts : Trees) (fault : Fault) → parts_of tree ≡ Some parts
    → reading row parts ≡ Err fault → is_some (shapes row parts) ≡ true → checked place number (sequence row) (shape (sequence row) tree) ≡ Err (Range number)
sequence_out place number row tree parts fault p e i =
    ap (λ (o : Option Trees). checked place number (sequence row) (option_and_then (λ (x : Trees). option_map Fields (shapes row x)) o)) p
    ∙ out_by place number row parts fault (shapes row parts) refl e i

-- a sequence that hasn't the form
pub sequence_bad : (place number : ℕ) (row : Row) (tree : Tree) (parts : Trees) → parts_of tree ≡ Some parts
    → is_some (shapes row parts) ≡ false → checked place number (sequence row) (shape (sequence row) tree) ≡ Err (Field place)
sequence_bad place number row tree parts p i =
    ap (λ (o : Option Trees). checked place number (sequence row) (option_and_then (λ (x : Trees). option_map Fields (shapes row x)) o)) p
    ∙ bad_by place number row (shapes row parts) i

-- the same, of parts that are another list's
pub nested_read : (place number : ℕ) (row : Row) (tree : Tree) (parts start : Trees) (read : List Slot) → is_table 0 row ≡ true → parts_of tree ≡ Some parts → start ≡ parts
    → reading row start ≡ Ok read → checked place number (sequence row) (shape (sequence row) tree) ≡ Ok (Some (Fields (slots read)))
nested_read place number row tree parts start read t p b e = sequence_read place number row tree parts read t p (ap (reading row) (sym b) ∙ e)

unread_by : (place number : ℕ) (row : Row) (tree : Tree) (parts : Trees) (fault : Fault) (b : Bool) → b ≡ is_some (shapes row parts) → parts_of tree ≡ Some parts
    → reading row parts ≡ Err fault → checked place number (sequence row) (shape (sequence row) tree) ≡ unread place number b
unread_by place number row tree parts fault true s p e = sequence_out place number row tree parts fault p e (sym s)
unread_by place number row tree parts fault false s p e = sequence_bad place number row tree parts p (sym s)

pub nested_unread : (place number : ℕ) (row : Row) (tree : Tree) (parts start : Trees) (fault : Fault) (error : PduError) → parts_of tree ≡ Some parts → start ≡ parts
    → reading row start ≡ Err fault → Fails error (unread place number (is_some (shapes row start))) → Fails error (checked place number (sequence row) (shape (sequence row) tree))
nested_unread place number row tree parts start fault error p b e h =
    let R : Trees → Type 0 = λ t. reading row t ≡ Err fault in
    let U : Trees → Type 0 = λ t. Fails error (unread place number (is_some (shapes row t))) in
    let F : Result Slot Fault → Type 0 = λ r. Fails error r in
    subst F (sym (unread_by place number row tree parts fault (is_some (shapes row parts)) refl p (subst R b e))) (subst U b h)
