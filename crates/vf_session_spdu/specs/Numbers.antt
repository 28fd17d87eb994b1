-- Lengths (ISO 8327, 8.2.4) and serial numbers (8.3) as octets.
use Rattle.std.specs.Prelude.{ℕ, ◌+◌, ◌-◌, ◌*◌, ◌/◌, ◌%◌, nat_lt, nat_le, List, [], ◌∷◌, length, slice_index, drop, fold, Option, None, Some, if◌then◌else◌}
use Rattle.vf_session_spdu.specs.declared.limits.TheConstants.{LAST_SERIAL}

-- a length in one octet up to 254, else after FF in two
abbrev pub length_octets : ℕ → List ℕ
length_octets count = if nat_lt count 255 then count ∷ [] else 255 ∷ (count / 256) ∷ (count % 256) ∷ []

-- How many octets spell the length that these octets begin with, and its number; none where it is cut off. The long form
-- may also spell a small one.
abbrev pub length_at : List ℕ → Option (ℕ × ℕ)
length_at octets =
    if nat_lt (length octets) 1 then None
    else if nat_lt (slice_index octets 0) 255 then Some (1, slice_index octets 0)
    else if nat_lt (length octets) 3 then None
    else Some (3, slice_index octets 1 * 256 + slice_index octets 2)

-- the number that decimal digits spell
abbrev pub number : List ℕ → ℕ
number digits = fold (λ sum digit. sum * 10 + (digit - 48)) 0 digits

-- six digits of a number, and how many zeros lead
abbrev pub six_digits : ℕ → List ℕ
six_digits n =
    (n / 100000 % 10 + 48) ∷ (n / 10000 % 10 + 48) ∷ (n / 1000 % 10 + 48) ∷ (n / 100 % 10 + 48) ∷ (n / 10 % 10 + 48) ∷ (n % 10 + 48) ∷ []

abbrev pub leading_zeros : ℕ → ℕ
leading_zeros n =
    if nat_le 100000 n then 0
    else if nat_le 10000 n then 1
    else if nat_le 1000 n then 2
    else if nat_le 100 n then 3
    else if nat_le 10 n then 4
    else 5

-- the fewest digits
abbrev pub digits : ℕ → List ℕ
digits n = drop (leading_zeros n) (six_digits n)

abbrev pub digit_count : ℕ → ℕ
digit_count serial = 6 - leading_zeros serial

-- the greatest serial number
abbrev pub last_serial : ℕ
last_serial = LAST_SERIAL
