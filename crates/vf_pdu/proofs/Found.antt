-- What reading the fields of a PDU answers is what is found in its value.
use Rattle.std.proofs.Common.{◌≡◌, ℕ, ◌≤◌, true, cond, ap, sym, subst, ◌∙◌, arith}
use Rattle.std.specs.Prelude.{Result, Ok, Err, nat_le}
use Rattle.vf_ber.specs.Tree.{Tag, Tree, built, Trees}
use Rattle.vf_pdu_fields.specs.Fault.{Unknown}
use Rattle.vf_pdu_fields.specs.Meaning.{context}
use Rattle.vf_pdu_fields.specs.Reading.{reading}
use Rattle.vf_pdu_fields.specs.Results.{Gives}
use Rattle.vf_pdu_fields.specs.declared.errors.PduError.{PduError}
use Rattle.vf_pdu_fields.specs.declared.errors.PduError.TheVariants as errors
use Rattle.vf_pdu.specs.PduComputed.{pdu_of}
use Rattle.vf_pdu.specs.PduReading.{found_by, pdu_in}
use Rattle.vf_pdu.specs.PduResults.{Reads}
use Rattle.vf_pdu.specs.PduRows.{row_of}
use Rattle.vf_pdu.specs.PduSlots.{slots_of}
use Rattle.vf_pdu.specs.declared.pdu.Pdu.{Pdu}
use Rattle.vf_pdu.proofs.Same.{pdu_back}

pub found_in : (parts : Trees) (number : ℕ) → number ≤ 40 → pdu_in (built (context number) parts) ≡ found_by number (reading (row_of number) parts)
found_in parts number le =
    let known : nat_le number 40 ≡ true = grind (arith, le) in
    ap (λ b. cond b (found_by number (reading (row_of number) parts)) (Err (Unknown (context number)))) known

found_answer : (parts : Trees) (number : ℕ) (r : Result Pdu PduError) → Reads number (row_of number) parts r
    → Gives (λ pdu. pdu) r (found_by number (reading (row_of number) parts))
found_answer parts number (Ok pdu) h =
    ap (found_by number) h.1
    ∙ ap (λ (n : ℕ). Ok (pdu_of n (slots_of pdu))) (sym h.0)
    ∙ ap (λ (p : Pdu). Ok p) (pdu_back pdu)
found_answer parts number (Err (errors.Unknown tag)) h = ap (found_by number) h
found_answer parts number (Err (errors.Field place)) h = ap (found_by number) h
found_answer parts number (Err (errors.Range field)) h = ap (found_by number) h
found_answer parts number (Err (errors.Missing field)) h = ap (found_by number) h
found_answer parts number (Err errors.NoMemory) h = tt

-- the same of a value with these parts
pub found_of : (tree : Tree) (tag : Tag) (parts start : Trees) (number : ℕ) (r : Result Pdu PduError) → tree ≡ built tag parts → start ≡ parts → tag ≡ context number → number ≤ 40
    → Reads number (row_of number) start r → Gives (λ pdu. pdu) r (pdu_in tree)
found_of tree tag parts start number r b s t le h =
    let R : Trees → Type 0 = λ x. Reads number (row_of number) x r in
    let same : pdu_in tree ≡ found_by number (reading (row_of number) parts) =
    ap pdu_in b ∙ ap (λ (x : Tag). pdu_in (built x parts)) t ∙ found_in parts number le in
    subst (Gives (λ pdu. pdu) r) (sym same) (found_answer parts number r (subst R s h))
