-- What is read by a form is what the value has, and what a value has is read.
use Rattle.std.proofs.Common.{◌≡◌, ℕ, Bool, true, false, cond, refl, ap, sym, subst, inl, inr}
use Rattle.std.specs.Prelude.{Option, Some, None}
use Rattle.std.specs.Option.{option_and_then, option_map}
use Rattle.vf_ber.specs.Tree.{Tree, plain, built, Trees, none, more, root}
use Rattle.vf_pdu_fields.specs.Content.{Content, Fields, Listed, Slots, nil, Items, nothing, item, Slot, slot}
use Rattle.vf_pdu_fields.specs.Meaning.{Lacks, Each, Has, Holds}
use Rattle.vf_pdu_fields.specs.Reading.{is_field, part_here, parts_after, sequence_parts, each_shape, lacking, slot_at, ended, shape, shapes}
use Rattle.vf_pdu_fields.specs.Rows.{Need, required, optional, default, Form, one, sequence, list, Row, end, field}
use Rattle.vf_pdu_fields.proofs.Plain.{some_is, bind_some, map_some, context_is, sequence_is}

-- an absent field
lacks_is : (need : Need) (first : Slot) → lacking need ≡ Some first → Lacks need first
lacks_is required first e = absurd cc
lacks_is optional first e = sym (some_is None first e)
lacks_is (default content) first e = sym (some_is (Some content) first e)

-- one field, and those after it
step_by : (number : ℕ) (form : Form) (need : Need) (row : Row) (part : Tree) (parts : Trees) (first : Slot) (others : Slots) (b : Bool)
    → b ≡ is_field number (root part)
    → slot_at (shape form) (lacking need) (cond b (Some part) None) ≡ Some first
    → ((content : Content) → shape form part ≡ Some content → Has form part content)
    → Holds row (cond b parts (more part parts)) others → Holds (field number form need row) (more part parts) (slot first others)
unfolding slot_at
step_by number form need row part parts first others true s e has holds =
    let m = map_some (λ (c : Content). Some c) (shape form part) first e in
    inl (part, parts, m.0, others, refl, sym (ap (λ (x : Slot). slot x others) m.2), context_is number (root part) (sym s), has m.0 m.1, holds)
step_by number form need row part parts first others false s e has holds = inr (first, others, refl, lacks_is need first e, holds)

step_holds : (number : ℕ) (form : Form) (need : Need) (row : Row) (parts : Trees) (first : Slot) (others : Slots)
    → slot_at (shape form) (lacking need) (part_here number parts) ≡ Some first
    → ((part : Tree) (content : Content) → shape form part ≡ Some content → Has form part content)
    → Holds row (parts_after number parts) others → Holds (field number form need row) parts (slot first others)
unfolding part_here parts_after slot_at
step_holds number form need row none first others e has holds = inr (first, others, refl, lacks_is need first e, holds)
step_holds number form need row (more part parts) first others e has holds =
    step_by number form need row part parts first others (is_field number (root part)) refl e (has part) holds

each_holds : (inner : Trees → Option Slots) (row : Row) → ((parts : Trees) (found : Slots) → inner parts ≡ Some found → Holds row parts found)
    → (parts : Trees) (found : Items) → each_shape inner parts ≡ Some found → Each (Holds row) parts found
unfolding each_shape
each_holds inner row sound none found e = sym (some_is nothing found e)
each_holds inner row sound (more part parts) found e =
    let b = bind_some (λ (first : Slots). option_map (item first) (each_shape inner parts)) (option_and_then inner (sequence_parts part)) found e in
    let i = bind_some inner (sequence_parts part) b.0 b.1 in
    let m = map_some (item b.0) (each_shape inner parts) found b.2 in
    (i.0, b.0, m.0, sequence_is part i.0 i.1, sym m.2, sound i.0 b.0 i.2, each_holds inner row sound parts m.0 m.1)

end_holds : (parts : Trees) (found : Slots) → ended parts ≡ Some found → Holds end parts found
end_holds none found e = (refl, sym (some_is nil found e))
end_holds (more part parts) found e = absurd cc

mutual
  pub shape_has : (form : Form) (tree : Tree) (content : Content) → shape form tree ≡ Some content → Has form tree content
  shape_has (one simple) tree content e = e
  shape_has (sequence row) (plain tag octets) content e = absurd cc
  shape_has (sequence row) (built tag parts) content e =
      let m = map_some Fields (shapes row parts) content e in
      (tag, parts, m.0, refl, sym m.2, shapes_hold row parts m.0 m.1)
  shape_has (list row) (plain tag octets) content e = absurd cc
  shape_has (list row) (built tag parts) content e =
      let m = map_some Listed (each_shape (shapes row) parts) content e in
      (tag, parts, m.0, refl, sym m.2, each_holds (shapes row) row (shapes_hold row) parts m.0 m.1)

  pub shapes_hold : (row : Row) (parts : Trees) (found : Slots) → shapes row parts ≡ Some found → Holds row parts found
  shapes_hold end parts found e = end_holds parts found e
  shapes_hold (field number form need row) parts found e =
      let b = bind_some (λ (first : Slot). option_map (slot first) (shapes row (parts_after number parts))) (slot_at (shape form) (lacking need) (part_here number parts)) found e in
      let m = map_some (slot b.0) (shapes row (parts_after number parts)) found b.2 in
      let P : Slots → Type 0 = λ s. Holds (field number form need row) parts s in
      subst P m.2 (step_holds number form need row parts b.0 m.0 b.1 (shape_has form) (shapes_hold row (parts_after number parts) m.0 m.1))
