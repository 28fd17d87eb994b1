-- The value of a PDU has so many octets at most, and no row has values that pass the limits.
use Rattle.std.proofs.Common.{◌≡◌, ℕ, ◌+◌, ◌≤◌, Bool, true, refl, inl, inr, arith}
use Rattle.std.specs.Prelude.{◌&&◌, nat_le}
use Rattle.std.proofs.lemmas.Bool.{leb-true, and_parts}
use Rattle.vf_ber.specs.Tree.{Trees}
use Rattle.vf_pdu_fields.specs.Content.{slots}
use Rattle.vf_pdu_fields.specs.Meaning.{context}
use Rattle.vf_pdu_fields.specs.Rows.{Row}
use Rattle.vf_pdu_fields.specs.Sizes.{most_in}
use Rattle.vf_pdu_fields.specs.Writing.{fields}
use Rattle.vf_pdu_fields.proofs.Sizes.{Fits, built-fits, fields-fit, levels_in}
use Rattle.vf_pdu.specs.PduEntry.{Entry}
use Rattle.vf_pdu.specs.PduMeaning.{IsInRange}
use Rattle.vf_pdu.specs.PduNumbers.{number_of}
use Rattle.vf_pdu.specs.PduRows.{entries, row_of}
use Rattle.vf_pdu.specs.PduSizes.{PduIsShort, PduIsWithin, most}
use Rattle.vf_pdu.specs.PduSlots.{slots_of}
use Rattle.vf_pdu.specs.PduValue.{value}
use Rattle.vf_pdu.specs.declared.pdu.Pdu.{Pdu}
use Rattle.vf_pdu.proofs.Tables.{at_each}

abbrev is_small : Entry → Bool
is_small entry = nat_le (most_in entry.its_row) 1048000 && nat_le (levels_in entry.its_row) 30

row_small : (n : ℕ) → (nat_le (most_in (row_of n)) 1048000 && nat_le (levels_in (row_of n)) 30) ≡ true
unfolding row_of
row_small n = at_each is_small refl entries refl n

fits_row : (pdu : Pdu) → IsInRange pdu → Fits (value pdu) (most (number_of pdu)) (levels_in (row_of (number_of pdu)) + 1)
fits_row pdu in_range =
    let row : Row = row_of (number_of pdu) in
    let parts : Trees = fields row (slots (slots_of pdu)) in
    built-fits (context (number_of pdu)) parts (most_in row) (levels_in row) (fields-fit row (slots (slots_of pdu)) in_range)

pub short : PduIsShort
short pdu in_range = let fit = fits_row pdu in_range in fit.short

fits_small : (pdu : Pdu) → IsInRange pdu → Fits (value pdu) 1048007 31
fits_small pdu in_range =
    let row : Row = row_of (number_of pdu) in
    let both = and_parts (nat_le (most_in row) 1048000) (nat_le (levels_in row) 30) (row_small (number_of pdu)) in
    let few : most_in row ≤ 1048000 = leb-true (most_in row) 1048000 both.0 in
    let low : levels_in row ≤ 30 = leb-true (levels_in row) 30 both.1 in
    let fit = fits_row pdu in_range in
    record { short = omega (arith, few, fit.short); shallow = omega (arith, low, fit.shallow) }

pub within : PduIsWithin
within pdu in_range (inl deep) = let fit = fits_small pdu in_range in omega (arith, deep, fit.shallow)
within pdu in_range (inr long) = let fit = fits_small pdu in_range in omega (arith, long, fit.short)
