-- A place is a number of 54 bits, and a FADU that is asked for has a number.
use Rattle.std.proofs.Common.{◌≡◌, ℕ, ◌≤◌, true, false, [], ◌∷◌, refl, sym, ◌∙◌}
use Rattle.std.specs.Prelude.{◌&&◌, IsSome, Some, None, nat_le}
use Rattle.std.proofs.lemmas.Bool.{leb-true, and_parts}
use Rattle.vf_base.specs.declared.access.Context.{Context}
use Rattle.vf_base.specs.declared.access.FaduId.{FaduId}
use Rattle.vf_pdu_fields.specs.declared.limits.TheConstants.{MOST_PLACE}
use Rattle.vf_pdu_fields.specs.Content.{Slot, Slots, nil, slot, slots}
use Rattle.vf_pdu_fields.specs.Meaning.{all_fit}
use Rattle.vf_pdu_fields.specs.Rows.{Form, Need, Row, end, field, required, or, fadu as fadu_form, int}
use Rattle.vf_pdu_fields.specs.Slots.{context_slot, fadu_slot}
use Rattle.vf_pdu_fields.specs.declared.operation.WriteOperation.{WriteOperation}
use Rattle.vf_pdu_fields.specs.declared.operation.WriteOperation.TheVariants as operations
use Rattle.vf_pdu.specs.PduMeaning.{IsInRange}
use Rattle.vf_pdu.specs.PduRows.{row_of}
use Rattle.vf_pdu.specs.declared.pdu.Pdu.TheVariants.{EraseRequest, LocateRequest, ProviderAbort, ReadRequest, WriteRequest}

pub place_is : (number place : ℕ) → IsInRange (ProviderAbort number place) → place ≤ MOST_PLACE
unfolding row_of
place_is number place h =
    let all = and_parts (nat_le 0 number && nat_le number 65535) (nat_le 0 place && nat_le place MOST_PLACE && true) h in
    let fits = and_parts (nat_le 0 place && nat_le place MOST_PLACE) true all.1 in
    leb-true place MOST_PLACE (and_parts (nat_le 0 place) (nat_le place MOST_PLACE) fits.0).1

-- the first field is there where it may not be absent
there_is : (number : ℕ) (form : Form) (need : Need) (row : Row) (first : Slot) (others : Slots) → ((s : Slots) → all_fit (field number form need row) (slot None s) ≡ false)
    → all_fit (field number form need row) (slot first others) ≡ true → IsSome first
there_is number form need row None others n h = let wrong : false ≡ true = sym (n others) ∙ h in absurd cc
there_is number form need row (Some content) others n h = refl

pub locate_unit : (fadu : FaduId) → IsInRange (LocateRequest fadu) → IsSome (fadu_slot fadu)
unfolding row_of
locate_unit fadu h = there_is 0 fadu_form required end (fadu_slot fadu) nil (λ s. refl) h

pub erase_unit : (fadu : FaduId) → IsInRange (EraseRequest fadu) → IsSome (fadu_slot fadu)
unfolding row_of
erase_unit fadu h = there_is 0 fadu_form (or 0) end (fadu_slot fadu) nil (λ s. refl) h

pub read_unit : (fadu : FaduId) (context : Context) → IsInRange (ReadRequest fadu context) → IsSome (fadu_slot fadu)
unfolding row_of
read_unit fadu context h =
    there_is 0 fadu_form (or 0) (field 1 (int 0 3) (or 2) end) (fadu_slot fadu) (slots (context_slot context ∷ [])) (λ s. refl) h

pub write_unit : (operation : WriteOperation) (fadu : FaduId) → IsInRange (WriteRequest operation fadu) → IsSome (fadu_slot fadu)
unfolding row_of
write_unit operations.Insert fadu h = there_is 1 fadu_form (or 0) end (fadu_slot fadu) nil (λ s. refl) h
write_unit operations.Replace fadu h = there_is 1 fadu_form (or 0) end (fadu_slot fadu) nil (λ s. refl) h
write_unit operations.Extend fadu h = there_is 1 fadu_form (or 0) end (fadu_slot fadu) nil (λ s. refl) h

pub ruleset units = (locate_unit, erase_unit, read_unit, write_unit)
