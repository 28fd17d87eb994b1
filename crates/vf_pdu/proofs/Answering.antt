-- What reading the fields of a PDU answers is what its value means, or its fault.
use Rattle.std.proofs.Common.{◌≡◌, ℕ, ◌≤◌, Bool, true, cond, ap, sym, subst, ◌∙◌, rules, arith}
use Rattle.std.specs.Prelude.{Some, Result, Ok, Err, IsTrue, IfOk, IfErr, nat_le}
use Rattle.vf_ber.specs.Tree.{Tag, Tree, built, Trees}
use Rattle.vf_pdu_fields.specs.Content.{slots}
use Rattle.vf_pdu_fields.specs.Fault.{Unknown}
use Rattle.vf_pdu_fields.specs.Faults.{fault_in}
use Rattle.vf_pdu.specs.PduFaults.{fault}
use Rattle.vf_pdu_fields.specs.Meaning.{context, all_fit}
use Rattle.vf_pdu.specs.PduMeaning.{IsInRange, Means}
use Rattle.vf_pdu_fields.specs.Reading.{reading}
use Rattle.vf_pdu_fields.specs.Results.{Names}
use Rattle.vf_pdu.specs.PduResults.{Reads}
use Rattle.vf_pdu.specs.PduRows.{row_of}
use Rattle.vf_pdu.specs.PduNumbers.{number_of}
use Rattle.vf_pdu.specs.PduSlots.{slots_of}
use Rattle.vf_pdu_fields.specs.declared.errors.PduError.{PduError}
use Rattle.vf_pdu_fields.specs.declared.errors.PduError.TheVariants as errors
use Rattle.vf_pdu.specs.declared.pdu.Pdu.{Pdu}
use Rattle.vf_pdu_fields.proofs.Faulty.{fault_told}
use Rattle.vf_pdu_fields.proofs.FirstFaults.{told}
use Rattle.vf_pdu_fields.proofs.Found.{Kept, reading_kept}
use Rattle.vf_pdu.proofs.Tables.{row_is_table}

is_true : (b : Bool) → b ≡ true → IsTrue b
is_true b e = search rules

pub meaning_read : (tag : Tag) (parts : Trees) (number : ℕ) (pdu : Pdu) → tag ≡ context number → number_of pdu ≡ number → reading (row_of number) parts ≡ Ok (slots_of pdu)
    → Means (built tag parts) pdu
meaning_read tag parts number pdu t n r =
    let K : ℕ → Type 0 = λ x. Kept (row_of x) parts (slots_of pdu) in
    let k : Kept (row_of (number_of pdu)) parts (slots_of pdu) = subst K (sym n) (reading_kept (row_of number) parts (slots_of pdu) (row_is_table number) r) in
    record {
      parts = parts;
      built_of = ap (λ (x : Tag). built x parts) (t ∙ ap context (sym n));
      has = k.0;
      in_range = is_true (all_fit (row_of (number_of pdu)) (slots (slots_of pdu))) k.1;
    }

meaning_answer : (tag : Tag) (parts : Trees) (number : ℕ) (r : Result Pdu PduError) → tag ≡ context number → Reads number (row_of number) parts r
    → IfOk r (λ pdu. Means (built tag parts) pdu)
meaning_answer tag parts number (Ok pdu) t h = meaning_read tag parts number pdu t h.0 h.1
meaning_answer tag parts number (Err error) t h = search rules

pub fault_is : (tag : Tag) (parts : Trees) (number : ℕ) → tag ≡ context number → number ≤ 40 → fault (built tag parts) ≡ told (reading (row_of number) parts)
fault_is tag parts number t le =
    let known : nat_le number 40 ≡ true = grind (arith, le) in
    let F : Tag → Type 0 = λ x. fault (built x parts) ≡ told (reading (row_of number) parts) in
    subst F (sym t)
    (ap (λ b. cond b (fault_in (row_of number) parts) (Some (Unknown (context number)))) known ∙ fault_told (row_of number) parts (row_is_table number))

fault_answer : (tag : Tag) (parts : Trees) (number : ℕ) (r : Result Pdu PduError) → tag ≡ context number → number ≤ 40 → Reads number (row_of number) parts r
    → IfErr r (λ error. Names error (fault (built tag parts)))
fault_answer tag parts number (Ok pdu) t le h = search rules
fault_answer tag parts number (Err (errors.Unknown other)) t le h = fault_is tag parts number t le ∙ ap told h
fault_answer tag parts number (Err (errors.Field place)) t le h = fault_is tag parts number t le ∙ ap told h
fault_answer tag parts number (Err (errors.Range field)) t le h = fault_is tag parts number t le ∙ ap told h
fault_answer tag parts number (Err (errors.Missing field)) t le h = fault_is tag parts number t le ∙ ap told h
fault_answer tag parts number (Err errors.NoMemory) t le h = tt

-- the same of a value with these parts
pub meaning_of : (tree : Tree) (tag : Tag) (parts start : Trees) (number : ℕ) (r : Result Pdu PduError) → tree ≡ built tag parts → start ≡ parts → tag ≡ context number
    → Reads number (row_of number) start r → IfOk r (λ pdu. Means tree pdu)
meaning_of tree tag parts start number r b s t h =
    let R : Trees → Type 0 = λ x. Reads number (row_of number) x r in
    let M : Tree → Type 0 = λ x. IfOk r (λ pdu. Means x pdu) in
    subst M (sym b) (meaning_answer tag parts number r t (subst R s h))

pub fault_of : (tree : Tree) (tag : Tag) (parts start : Trees) (number : ℕ) (r : Result Pdu PduError) → tree ≡ built tag parts → start ≡ parts → tag ≡ context number → number ≤ 40
    → Reads number (row_of number) start r → IfErr r (λ error. Names error (fault tree))
fault_of tree tag parts start number r b s t le h =
    let R : Trees → Type 0 = λ x. Reads number (row_of number) x r in
    let F : Tree → Type 0 = λ x. IfErr r (λ error. Names error (fault x)) in
    subst F (sym b) (fault_answer tag parts number r t le (subst R s h))

-- what means something is in range
pub ok_in_range : (tree : Tree) (r : Result Pdu PduError) → IfOk r (λ pdu. Means tree pdu) → IfOk r (λ pdu. IsInRange pdu)
ok_in_range tree (Ok pdu) m = m.in_range
ok_in_range tree (Err error) m = m
