-- The words of a line of a script (profile), between which stands one space, and what a word spells.
use Rattle.std.specs.Prelude.{ℕ, ◌+◌, ◌*◌, ◌-◌, Bool, true, false, ◌&&◌, ◌||◌, not, nat_eq, nat_le, List, [], ◌∷◌, fold, Option, Some, None, Result, Ok, Err, if◌then◌else◌}
use Rattle.std.specs.Cmp.Lexicographic.{pointwise}
use Rattle.std.specs.List.{list_all, slice_split}
use Rattle.hex.specs.Hex.{decode_of}
use Rattle.hex.specs.declared.error.FromHexError.{FromHexError}

abbrev pub is_word : List ℕ → List ℕ → Bool
is_word one other = pointwise nat_eq one other

abbrev pub is_space : ℕ → Bool
is_space octet = nat_eq octet 32

-- what stands between the spaces of a line; a line that begins or ends with a space, or has two in a row, has words without octets
abbrev pub words_of : List ℕ → List (List ℕ)
words_of line = slice_split is_space line

-- NUMBERS are decimal digits without leading zeros.
abbrev pub is_digit : ℕ → Bool
is_digit octet = nat_le 48 octet && nat_le octet 57

-- a word that has no digit, or a zero in front of others
abbrev pub begins_low : List ℕ → Bool
begins_low [] = true
begins_low (octet ∷ []) = false
begins_low (octet ∷ other ∷ octets) = nat_eq octet 48

abbrev pub with_digit : ℕ → ℕ → ℕ
with_digit number digit = 10 * number + (digit - 48)

abbrev pub number_of : List ℕ → ℕ
number_of digits = fold with_digit 0 digits

abbrev pub is_number : List ℕ → Bool
is_number word = not (begins_low word) && list_all is_digit word

-- the number that a word spells, up to this one
abbrev pub number_in : List ℕ → (most : ℕ) → Option ℕ
number_in word most = if is_number word && nat_le (number_of word) most then Some (number_of word) else None

-- a number from 1 to 4,294,967,295
abbrev pub above_zero : Option ℕ → Option ℕ
above_zero None = None
above_zero (Some number) = if nat_eq number 0 then None else Some number

abbrev pub count_in : List ℕ → Option ℕ
count_in word = above_zero (number_in word 4294967295)

-- the number of a checkpoint
abbrev pub point_in : List ℕ → Option ℕ
point_in word = number_in word 1000000

-- the seconds of a moment before the year 10000
abbrev pub moment_in : List ℕ → Option ℕ
moment_in word = number_in word 253402300799

-- OCTETS are two digits each, 0 to 9 or A to F, the high half first.
abbrev pub is_digit_of_hex : ℕ → Bool
is_digit_of_hex octet = (nat_le 48 octet && nat_le octet 57) || (nat_le 65 octet && nat_le octet 70)

abbrev pub is_empty : List ℕ → Bool
is_empty [] = true
is_empty (octet ∷ octets) = false

abbrev pub is_hex : List ℕ → Bool
is_hex word = not (is_empty word) && list_all is_digit_of_hex word

abbrev pub decoded : Result (List ℕ) FromHexError → Option (List ℕ)
decoded (Ok octets) = Some octets
decoded (Err error) = None

-- the octets that a word spells, at least one
abbrev pub octets_in : List ℕ → Option (List ℕ)
octets_in word = if is_hex word then decoded (decode_of word) else None

-- one octet, by the halves that its two digits are
abbrev pub half_of : ℕ → Option ℕ
half_of digit =
    if nat_le 48 digit && nat_le digit 57 then Some (digit - 48) else if nat_le 65 digit && nat_le digit 70 then Some (digit - 55) else None

abbrev pub octet_of_halves : Option ℕ → Option ℕ → Option ℕ
octet_of_halves (Some high) (Some low) = Some (16 * high + low)
octet_of_halves _ _ = None

abbrev pub octet_in : List ℕ → Option ℕ
octet_in (high ∷ low ∷ []) = octet_of_halves (half_of high) (half_of low)
octet_in _ = None
