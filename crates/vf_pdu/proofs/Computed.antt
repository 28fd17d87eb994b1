-- What is computed of a value is what it means.
use Rattle.std.proofs.Common.{◌≡◌, ◌≤◌, Bool, true, false, cond, List, refl, ap, sym, subst, ◌∙◌}
use Rattle.std.specs.Prelude.{◌&&◌, nat_eq, nat_le, Some, None, Result, Ok, Err}
use Rattle.std.proofs.lemmas.Bool.{eqb-true, leb-true, and_parts}
use Rattle.vf_ber.specs.Tree.{Tag, Tree, plain, built, Trees}
use Rattle.vf_pdu_fields.specs.Content.{Slot, slots}
use Rattle.vf_pdu_fields.specs.Fault.{Fault}
use Rattle.vf_pdu_fields.specs.Meaning.{all_fit, context}
use Rattle.vf_pdu_fields.specs.Reading.{reading}
use Rattle.vf_pdu_fields.proofs.Complete.{holds_shapes}
use Rattle.vf_pdu_fields.proofs.Found.{reading_kept}
use Rattle.vf_pdu_fields.proofs.Nested.{shapes_read}
use Rattle.vf_pdu_fields.proofs.Plain.{some_is, tag_is}
use Rattle.vf_pdu.specs.Laws.{MeaningIsComputed}
use Rattle.vf_pdu.specs.PduComputed.{meaning, pdu_from, pdu_of}
use Rattle.vf_pdu.specs.PduMeaning.{Means}
use Rattle.vf_pdu.specs.PduRows.{row_of}
use Rattle.vf_pdu.specs.PduNumbers.{number_of}
use Rattle.vf_pdu.specs.PduSlots.{slots_of}
use Rattle.vf_pdu.specs.declared.pdu.Pdu.{Pdu}
use Rattle.vf_pdu.proofs.Answering.{meaning_read}
use Rattle.vf_pdu.proofs.OneMeaning.{known, shapes_of, slots_same, true_of}
use Rattle.vf_pdu.proofs.Same.{pdu_back}
use Rattle.vf_pdu.proofs.Tables.{row_is_table}
use Rattle.vf_pdu.proofs.Whole.{whole}

computed_is : (tree : Tree) (pdu : Pdu) → Means tree pdu → meaning tree ≡ Some pdu
computed_is tree pdu m =
    let number = number_of pdu in
    let r = shapes_read (row_of number) m.parts (slots (slots_of pdu)) (shapes_of tree pdu m) (true_of (all_fit (row_of number) (slots (slots_of pdu))) m.in_range) in
    let kept = reading_kept (row_of number) m.parts r.0 (row_is_table number) r.1 in
    let same : slots r.0 ≡ slots (slots_of pdu) =
    some_is (slots r.0) (slots (slots_of pdu)) (sym (holds_shapes (row_of number) 0 m.parts (slots r.0) (row_is_table number) kept.0) ∙ shapes_of tree pdu m) in
    ap meaning m.built_of
    ∙ ap (λ (b : Bool). cond b (pdu_from number (reading (row_of number) m.parts)) None) (known pdu)
    ∙ ap (pdu_from number) r.1
    ∙ ap (λ (all : List Slot). Some (pdu_of number all)) (slots_same r.0 (slots_of pdu) same)
    ∙ ap (λ (p : Pdu). Some p) (pdu_back pdu)

-- by what is read
read_means : (tag : Tag) (parts : Trees) (pdu : Pdu) (r : Result (List Slot) Fault) → tag ≡ context tag.number → tag.number ≤ 40 → reading (row_of tag.number) parts ≡ r
    → pdu_from tag.number r ≡ Some pdu → Means (built tag parts) pdu
read_means tag parts pdu (Ok all) t le e h =
    let kept = reading_kept (row_of tag.number) parts all (row_is_table tag.number) e in
    let w = whole tag.number all le kept.1 in
    let M : Pdu → Type 0 = λ p. Means (built tag parts) p in
    subst M (some_is (pdu_of tag.number all) pdu h)
    (meaning_read tag parts tag.number (pdu_of tag.number all) t w.1 (e ∙ ap (λ (s : List Slot). let x : Result (List Slot) Fault = Ok s in x) (sym w.0)))
read_means tag parts pdu (Err fault) t le e h = absurd cc

-- by its tag
tag_means : (tag : Tag) (parts : Trees) (pdu : Pdu) (b : Bool) → b ≡ (nat_eq tag.class 2 && nat_le tag.number 40)
    → cond b (pdu_from tag.number (reading (row_of tag.number) parts)) None ≡ Some pdu → Means (built tag parts) pdu
tag_means tag parts pdu true s h =
    let b = and_parts (nat_eq tag.class 2) (nat_le tag.number 40) (sym s) in
    read_means tag parts pdu (reading (row_of tag.number) parts) (tag_is tag 2 tag.number (eqb-true tag.class 2 b.0) refl) (leb-true tag.number 40 b.1) refl h
tag_means tag parts pdu false s h = absurd cc

computed_means : (tree : Tree) (pdu : Pdu) → meaning tree ≡ Some pdu → Means tree pdu
computed_means (plain tag octets) pdu h = absurd cc
computed_means (built tag parts) pdu h = tag_means tag parts pdu (nat_eq tag.class 2 && nat_le tag.number 40) refl h

pub is_computed : MeaningIsComputed
is_computed tree pdu = (computed_is tree pdu, computed_means tree pdu)
