-- The steps of reading, as the functions that take them promise.
use Rattle.std.specs.Prelude.{◌≡◌, ℕ, ◌+◌, ◌≤◌, IsTrue, nat_eq, List, [], ◌∷◌, length, take, drop, Result, Ok, Err, if◌then◌else◌}
use Rattle.std.specs.Borrow.{Bor}
use Rattle.vf_session_spdu.specs.declared.errors.SpduError.{SpduError}
use Rattle.vf_session_spdu.specs.declared.errors.SpduError.TheVariants.{Length}
use Rattle.vf_session_spdu.specs.declared.limits.TheConstants.{MOST_PARAMETER_OCTETS}
use Rattle.vf_session_spdu.specs.declared.table.Form.{Form}
use Rattle.vf_session_spdu.specs.declared.spdu.Spdu.{Spdu}
use Rattle.vf_session_spdu.specs.Reading.{Followed, place_after_gt}
use Rattle.vf_session_spdu.specs.Parts.{short, whole, measured}
use Rattle.vf_session_spdu.specs.Table.{fits}

-- What follows an identifier was found, or its length is wrong.
abbrev pub Measures : ℕ → List ℕ → Result (ℕ × Bor (List ℕ) × Bor (List ℕ)) SpduError → Type 0
Measures place octets (Ok found) =
    (measured octets ≡ whole found.0 found.1.now found.2.now) × (found.0 ≤ 3) × (length found.1.now ≤ MOST_PARAMETER_OCTETS)
    × (found.0 + (length found.1.now + length found.2.now) ≡ length octets)
Measures place octets (Err fault) = (measured octets ≡ short) × (fault ≡ Length (place + 1))

-- Octets that stand at this place among all.
abbrev pub Stands : List ℕ → ℕ → List ℕ → Type 0
Stands all place octets = (take (length octets) (drop place all) ≡ octets) × (place + length octets ≤ length all)

abbrev pub IsFit : Form → List ℕ → Type 0
IsFit form value = IsTrue (fits form value)

abbrev pub viewed : Spdu → ℕ → List ℕ → Followed
viewed spdu place more = record { spdu = spdu; place = place; more = more }

-- where the second SPDU begins if the first is a GT
abbrev pub place_if_gt : List ℕ → ℕ
place_if_gt [] = 0
place_if_gt (code ∷ octets) = if nat_eq code 1 then place_after_gt (code ∷ octets) else 0
