-- How long records and areas are in their built form.
use Rattle.std.proofs.Common.{◌≡◌, ℕ, ◌+◌, ◌≤◌, List, [], ◌∷◌, length, ap, arith, length-append}
use Rattle.vf_journal.specs.Records.{IsArea, IsEntry, area_with, entry_of, longest, sized}
use Rattle.vf_journal.proofs.Areas.{length-sized}

pub length-entry_of : (item : List ℕ) → length (entry_of item) ≡ length item + 5
length-entry_of item = omega (arith, length-append (sized item) (0 ∷ []), length-sized item)

-- a record whose built form is handed in isn't too long
pub entry_short : (entry item : List ℕ) → IsEntry entry → entry ≡ entry_of item → length item ≤ longest
entry_short entry item built is = omega (arith, ap length built.2, ap length is, length-entry_of item, length-entry_of built.0, built.1)

pub length-area_with : (item : List ℕ) → length (area_with item) ≡ length item + 6
length-area_with item = omega (arith, length-entry_of item)

pub area_short : (octets item : List ℕ) → IsArea octets → octets ≡ area_with item → length item ≤ longest
area_short octets item built is = omega (arith, ap length built.2, ap length is, length-area_with item, length-area_with built.0, built.1)
