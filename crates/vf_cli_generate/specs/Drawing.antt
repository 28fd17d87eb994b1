-- Drawn numbers, and the contents of files by them (profile): each number is 75 times the one before it and 74, modulo 65,537.
use Rattle.std.specs.Prelude.{ℕ, zero, suc, ◌+◌, ◌*◌, ◌/◌, ◌%◌, List, [], ◌∷◌, drop, length, take}

abbrev pub next : ℕ → ℕ
next number = (75 * number + 74) % 65537

-- so many octets, drawn after a number; and the last number that is drawn for them
abbrev pub octets_after : (last count : ℕ) → List ℕ
octets_after last zero = []
octets_after last (suc count) = next last % 256 ∷ octets_after (next last) count

abbrev pub last_after : (last count : ℕ) → ℕ
last_after last zero = last
last_after last (suc count) = last_after (next last) count

-- A FILE: how many octets it has, at most 4,095, is drawn first, and then each of them.
abbrev pub size_after : ℕ → ℕ
size_after last = next last % 4096

abbrev pub contents_after : ℕ → List ℕ
contents_after last = octets_after (next last) (size_after last)

abbrev pub after_file : ℕ → ℕ
after_file last = last_after (next last) (size_after last)

-- the last number that is drawn for so many files
abbrev pub after_files : (number count : ℕ) → ℕ
after_files number zero = number % 65537
after_files number (suc count) = after_file (after_files number count)

-- the contents as so many strings of 512 octets, the last one shorter
abbrev pub strings : (count : ℕ) → List ℕ → List (List ℕ)
strings zero octets = []
strings (suc count) octets = take 512 octets ∷ strings count (drop 512 octets)

abbrev pub strings_of : List ℕ → List (List ℕ)
strings_of octets = strings ((length octets + 511) / 512) octets

-- the name of a file: `f` and its number, in four digits
abbrev pub digit : (number place : ℕ) → ℕ
digit number place = 48 + number / place % 10

abbrev pub name_of : ℕ → List ℕ
name_of number = 102 ∷ digit number 1000 ∷ digit number 100 ∷ digit number 10 ∷ digit number 1 ∷ []
