-- A value has one meaning at most, and then no fault.
use Rattle.std.proofs.Common.{◌≡◌, ℕ, ◌≤◌, Bool, true, false, List, refl, ap, sym, ◌∙◌, rules, arith}
use Rattle.std.specs.Prelude.{Some, IsTrue, nat_le}
use Rattle.std.proofs.lemmas.List.{get_or_past}
use Rattle.vf_ber.specs.Tree.{Tree, built, root}
use Rattle.vf_pdu_fields.specs.Content.{Slot, slots}
use Rattle.vf_pdu.specs.PduFaults.{fault}
use Rattle.vf_pdu_fields.specs.Contained.{slot_list}
use Rattle.vf_pdu.specs.Laws.{MeaningIsOne, MeaningHasNoFault, MeaningIsInRange}
use Rattle.vf_pdu_fields.specs.Meaning.{context, all_fit}
use Rattle.vf_pdu.specs.PduMeaning.{Means}
use Rattle.vf_pdu_fields.specs.Reading.{parts_of, shapes}
use Rattle.vf_pdu.specs.PduEntry.{Entry}
use Rattle.vf_pdu.specs.PduRows.{entries, entry_of, no_entry, row_of}
use Rattle.vf_pdu.specs.PduNumbers.{number_of}
use Rattle.vf_pdu.specs.PduSlots.{slots_of}
use Rattle.vf_pdu.specs.declared.pdu.Pdu.{Pdu}
use Rattle.vf_pdu.specs.declared.pdu.Pdu.TheVariants.{TerminateRequest}
use Rattle.vf_pdu.proofs.Answering.{fault_is}
use Rattle.vf_pdu_fields.proofs.Complete.{holds_shapes}
use Rattle.vf_pdu_fields.proofs.FirstFaults.{told}
use Rattle.vf_pdu_fields.proofs.Nested.{shapes_read}
use Rattle.vf_pdu_fields.proofs.Plain.{some_is}
use Rattle.vf_pdu_fields.proofs.Back.{slot_list-slots}
use Rattle.vf_pdu.proofs.Same.{pdu_back, same_pdu}
use Rattle.vf_pdu.proofs.Tables.{row_is_table}

-- a number above 40 makes the PDU of number 2
beyond : (pdu : Pdu) → 41 ≤ number_of pdu → pdu ≡ TerminateRequest
beyond pdu le =
    let none : entry_of (number_of pdu) ≡ no_entry = get_or_past entries (number_of pdu) no_entry (omega arith) in
    sym (pdu_back pdu) ∙ ap (λ (e : Entry). e.made (slots_of pdu)) none

known_by : (pdu : Pdu) (b : Bool) → b ≡ nat_le (number_of pdu) 40 → b ≡ true
known_by pdu true e = refl
known_by pdu false e =
    let above : 41 ≤ number_of pdu = grind (arith, e) in
    let two : number_of pdu ≡ 2 = ap number_of (beyond pdu above) in
    absurd (omega arith)

pub known : (pdu : Pdu) → nat_le (number_of pdu) 40 ≡ true
known pdu = known_by pdu (nat_le (number_of pdu) 40) refl

is_known : (pdu : Pdu) → number_of pdu ≤ 40
is_known pdu = grind (arith, known pdu)

pub true_of : (b : Bool) → IsTrue b → b ≡ true
true_of b h = search rules

pub shapes_of : (tree : Tree) (pdu : Pdu) → (m : Means tree pdu) → shapes (row_of (number_of pdu)) m.parts ≡ Some (slots (slots_of pdu))
shapes_of tree pdu m = holds_shapes (row_of (number_of pdu)) 0 m.parts (slots (slots_of pdu)) (row_is_table (number_of pdu)) m.has

pub has_no_fault : MeaningHasNoFault
has_no_fault tree pdu m =
    let r = shapes_read (row_of (number_of pdu)) m.parts (slots (slots_of pdu)) (shapes_of tree pdu m) (true_of (all_fit (row_of (number_of pdu)) (slots (slots_of pdu))) m.in_range) in
    ap fault m.built_of ∙ fault_is (context (number_of pdu)) m.parts (number_of pdu) refl (is_known pdu) ∙ ap told r.1

pub slots_same : (xs ys : List Slot) → slots xs ≡ slots ys → xs ≡ ys
slots_same xs ys e = sym (slot_list-slots xs) ∙ ap slot_list e ∙ slot_list-slots ys

pub is_one : MeaningIsOne
is_one tree p q m n =
    let trees : built (context (number_of p)) m.parts ≡ built (context (number_of q)) n.parts = sym m.built_of ∙ n.built_of in
    let number : number_of p ≡ number_of q = ap (λ t. (root t).number) trees in
    let parts : m.parts ≡ n.parts = some_is m.parts n.parts (ap parts_of trees) in
    let moved : shapes (row_of (number_of q)) n.parts ≡ Some (slots (slots_of p)) =
    ap (λ (k : ℕ). shapes (row_of k) n.parts) (sym number) ∙ ap (shapes (row_of (number_of p))) (sym parts) ∙ shapes_of tree p m in
    same_pdu p q number (slots_same (slots_of p) (slots_of q) (some_is (slots (slots_of p)) (slots (slots_of q)) (sym moved ∙ shapes_of tree q n)))

pub is_in_range : MeaningIsInRange
is_in_range tree pdu m = m.in_range
