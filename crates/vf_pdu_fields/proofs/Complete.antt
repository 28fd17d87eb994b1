-- What a value has is what is read, where the tags of the rows rise.
use Rattle.std.proofs.Common.{◌≡◌, ℕ, ◌+◌, ◌<◌, Bool, true, false, cond, refl, ap, sym, subst, ◌∙◌, inl, inr, arith}
use Rattle.std.specs.Prelude.{Option, Some, None, ◌&&◌, nat_le}
use Rattle.std.specs.Option.{option_and_then, option_map}
use Rattle.std.proofs.lemmas.Bool.{and_parts}
use Rattle.vf_ber.specs.Tree.{Tag, Tree, built, Trees, none, more, root}
use Rattle.vf_pdu_fields.specs.Content.{Content, Fields, Listed, Slots, nil, present, Items, item, Slot, slot}
use Rattle.vf_pdu_fields.specs.Meaning.{context, Lacks, Each, Has, Holds}
use Rattle.vf_pdu_fields.specs.Reading.{is_field, part_here, parts_after, sequence_parts, each_shape, lacking, slot_at, ended, shape, shapes}
use Rattle.vf_pdu_fields.specs.Rows.{Need, required, optional, default, Form, one, sequence, list, Row, end, field}
use Rattle.vf_pdu_fields.proofs.Steps.{step}
use Rattle.vf_pdu_fields.proofs.Tables.{is_form, is_usual, is_table}

-- the parts of a test of a row
pub record Tests (least number : ℕ) (form : Form) (need : Need) (row : Row) : Type 0 where
  pub low : nat_le least number ≡ true
  pub inside : is_form form ≡ true
  pub usual : is_usual form need ≡ true
  pub rest : is_table (number + 1) row ≡ true

pub tests : (least number : ℕ) (form : Form) (need : Need) (row : Row) → is_table least (field number form need row) ≡ true → Tests least number form need row
tests least number form need row t =
    let a = and_parts (nat_le least number) (is_form form && (is_usual form need && is_table (number + 1) row)) t in
    let b = and_parts (is_form form) (is_usual form need && is_table (number + 1) row) a.1 in
    let c = and_parts (is_usual form need) (is_table (number + 1) row) b.1 in
    record { low = a.0; inside = b.0; usual = c.0; rest = c.1 }

pub not_field : (n number : ℕ) → number < n → is_field number (context n) ≡ false
not_field n number lt = grind arith

pub same_field : (number : ℕ) → is_field number (context number) ≡ true
same_field number = grind arith

-- a field below those of a row isn't the first part
pub later : (row : Row) (least : ℕ) (parts : Trees) (s : Slots) (number : ℕ) → is_table least row ≡ true → number < least → Holds row parts s → part_here number parts ≡ None
unfolding part_here
later end least parts s number t lt h = let P : Trees → Type 0 = λ x. part_here number x ≡ None in subst P (sym h.0) refl
later (field n form need row) least parts s number t lt h =
    let q = tests least n form need row t in
    let above : number < n = grind (arith, q.low, lt) in
    elim h [
      | inl a ↦
          let Q : Tag → Type 0 = λ x. cond (is_field number x) (Some a.0) None ≡ None in
          let P : Trees → Type 0 = λ x. part_here number x ≡ None in
          subst P (sym a.4) (subst Q (sym a.6) (ap (λ b. cond b (Some a.0) None) (not_field n number above)))
      | inr a ↦ later row (n + 1) parts a.1 number q.rest (omega (arith, above)) a.4
    ]

after_none : (number : ℕ) (parts : Trees) → part_here number parts ≡ None → parts_after number parts ≡ parts
unfolding part_here parts_after
after_none number none e = refl
after_none number (more part parts) e = after_by number part parts (is_field number (root part)) refl e
  where
    after_by : (number : ℕ) (part : Tree) (parts : Trees) (b : Bool) → b ≡ is_field number (root part) → cond b (Some part) None ≡ None → cond b parts (more part parts) ≡ more part parts
    after_by number part parts true s e = absurd cc
    after_by number part parts false s e = refl

is_lacking : (need : Need) (first : Slot) → Lacks need first → lacking need ≡ Some first
is_lacking required first l = absurd l
is_lacking optional first l = ap (λ (x : Slot). Some x) (sym l)
is_lacking (default content) first l = ap (λ (x : Slot). Some x) (sym l)

each_shapes : (inner : Trees → Option Slots) (row : Row) → ((parts : Trees) (s : Slots) → Holds row parts s → inner parts ≡ Some s)
    → (parts : Trees) (all : Items) → Each (Holds row) parts all → each_shape inner parts ≡ Some all
unfolding each_shape
each_shapes inner row complete none all h = ap (λ (x : Items). Some x) (sym h)
each_shapes inner row complete (more part parts) all h =
    let Q : Tree → Type 0 = λ x. option_and_then inner (sequence_parts x) ≡ Some h.1 in
    let a : option_and_then inner (sequence_parts part) ≡ Some h.1 = subst Q (sym h.3) (complete h.0 h.1 h.5) in
    ap (option_and_then (λ (first : Slots). option_map (item first) (each_shape inner parts))) a
    ∙ ap (option_map (item h.1)) (each_shapes inner row complete parts h.2 h.6) ∙ ap (λ (x : Items). Some x) (sym h.4)

-- a field that is there, and those after it
there : (number : ℕ) (form : Form) (need : Need) (row : Row) (parts : Trees) (s : Slots) (part : Tree) (others : Trees) (content : Content) (rest : Slots)
    → parts ≡ more part others → s ≡ present content rest → root part ≡ context number → shape form part ≡ Some content → shapes row others ≡ Some rest
    → shapes (field number form need row) parts ≡ Some s
unfolding part_here parts_after slot_at
there number form need row parts s part others content rest p e r c o =
    let is : is_field number (root part) ≡ true = ap (is_field number) r ∙ same_field number in
    let F : Trees → Type 0 = λ x. part_here number x ≡ Some part in
    let f : part_here number parts ≡ Some part = subst F (sym p) (ap (λ b. cond b (Some part) None) is) in
    let B : Trees → Type 0 = λ x. others ≡ parts_after number x in
    let b : others ≡ parts_after number parts = subst B (sym p) (sym (ap (λ b. cond b others (more part others)) is)) in
    step number form need row parts others (Some content) rest (ap (slot_at (shape form) (lacking need)) f ∙ ap (option_map (λ (x : Content). Some x)) c) b o
    ∙ ap (λ (x : Slots). Some x) (sym e)

absent_field : (number : ℕ) (form : Form) (need : Need) (row : Row) (parts : Trees) (s : Slots) (first : Slot) (rest : Slots)
    → s ≡ slot first rest → Lacks need first → part_here number parts ≡ None → shapes row parts ≡ Some rest → shapes (field number form need row) parts ≡ Some s
unfolding slot_at
absent_field number form need row parts s first rest e l f o =
    step number form need row parts parts first rest (ap (slot_at (shape form) (lacking need)) f ∙ is_lacking need first l) (sym (after_none number parts f)) o
    ∙ ap (λ (x : Slots). Some x) (sym e)

in_sequence : (row : Row) (tree : Tree) (content : Content) (tag : Tag) (parts : Trees) (inside : Slots) → tree ≡ built tag parts → content ≡ Fields inside
    → shapes row parts ≡ Some inside → shape (sequence row) tree ≡ Some content
in_sequence row tree content tag parts inside t c s =
    let P : Tree → Type 0 = λ x. shape (sequence row) x ≡ Some content in
    subst P (sym t) (ap (option_map Fields) s ∙ ap (λ (x : Content). Some x) (sym c))

in_list : (row : Row) (tree : Tree) (content : Content) (tag : Tag) (parts : Trees) (inside : Items) → tree ≡ built tag parts → content ≡ Listed inside
    → each_shape (shapes row) parts ≡ Some inside → shape (list row) tree ≡ Some content
in_list row tree content tag parts inside t c s =
    let P : Tree → Type 0 = λ x. shape (list row) x ≡ Some content in
    subst P (sym t) (ap (option_map Listed) s ∙ ap (λ (x : Content). Some x) (sym c))

end_shapes : (parts : Trees) (s : Slots) → (parts ≡ none) × (s ≡ nil) → ended parts ≡ Some s
end_shapes parts s h = let P : Trees → Type 0 = λ x. ended x ≡ Some s in subst P (sym h.0) (ap (λ (x : Slots). Some x) (sym h.1))

mutual
  pub has_shape : (form : Form) (tree : Tree) (content : Content) → is_form form ≡ true → Has form tree content → shape form tree ≡ Some content
  has_shape (one simple) tree content t h = h
  has_shape (sequence row) tree content t h = in_sequence row tree content h.0 h.1 h.2 h.3 h.4 (holds_shapes row 0 h.1 h.2 t h.5)
  has_shape (list row) tree content t h =
      in_list row tree content h.0 h.1 h.2 h.3 h.4 (each_shapes (shapes row) row (λ parts s. holds_shapes row 0 parts s t) h.1 h.2 h.5)

  pub holds_shapes : (row : Row) (least : ℕ) (parts : Trees) (s : Slots) → is_table least row ≡ true → Holds row parts s → shapes row parts ≡ Some s
  holds_shapes end least parts s t h = end_shapes parts s h
  holds_shapes (field number form need row) least parts s t h =
      let q = tests least number form need row t in
      elim h [
        | inl a ↦ there number form need row parts s a.0 a.1 a.2 a.3 a.4 a.5 a.6 (has_shape form a.0 a.2 q.inside a.7) (holds_shapes row (number + 1) a.1 a.3 q.rest a.8)
        | inr a ↦ absent_field number form need row parts s a.0 a.1 a.2 a.3 (later row (number + 1) parts a.1 number q.rest (omega arith) a.4)
            (holds_shapes row (number + 1) parts a.1 q.rest a.4)
      ]
