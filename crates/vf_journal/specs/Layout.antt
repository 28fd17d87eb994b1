-- How a journal lies on a disk (profile). Octets 0 to 15 are the header. Octet 16 is the selector, which selects the
-- first anchor where it is 0 and the second where it is any other octet. Octets 17 to 24 are the first anchor and
-- octets 25 to 32 the second; each names the place where an area starts, and areas start from 33 on. Numbers are
-- big-endian.
use Rattle.std.specs.Prelude.{ℕ, ◌==◌, Bool, not, List, [], ◌∷◌, ◌++◌, take, drop, slice_index, if◌then◌else◌}
use Rattle.vf_journal.specs.declared.layout.TheConstants.{FIRST_START, SELECTOR}
use Rattle.byteorder.specs.Endian.{big_bytes, big_number}

-- `FTAMJNL1`, the number 2, and four zeros
abbrev pub header : List ℕ
header = 70 ∷ 84 ∷ 65 ∷ 77 ∷ 74 ∷ 78 ∷ 76 ∷ 49 ∷ 0 ∷ 0 ∷ 0 ∷ 2 ∷ 0 ∷ 0 ∷ 0 ∷ 0 ∷ []

abbrev pub selector_place : ℕ
selector_place = SELECTOR

-- what is written there to select an anchor
abbrev pub selector_of : Bool → ℕ
selector_of second = if second then 1 else 0

abbrev pub anchor_place : Bool → ℕ
anchor_place second = if second then 25 else 17

-- the least place at which an area starts
abbrev pub first_start : ℕ
first_start = FIRST_START

-- a place in eight octets, and the place that the first eight of some octets name
unfoldable pub place_octets : ℕ → List ℕ
place_octets place = big_bytes 8 place

unfoldable pub place_named : List ℕ → ℕ
place_named octets = big_number 8 octets

-- a length in four octets, and the length that the first four of some octets name
unfoldable pub length_octets : ℕ → List ℕ
length_octets count = big_bytes 4 count

unfoldable pub length_named : List ℕ → ℕ
length_named octets = big_number 4 octets

-- so many octets from a place on
abbrev pub part : List ℕ → ℕ → ℕ → List ℕ
part image place count = take count (drop place image)

-- the second anchor is selected
abbrev pub selects_second : List ℕ → Bool
selects_second image = not (slice_index image selector_place == 0)

-- where the area of an anchor starts
abbrev pub anchor : List ℕ → Bool → ℕ
anchor image second = place_named (part image (anchor_place second) 8)

abbrev pub selected_start : List ℕ → ℕ
selected_start image = anchor image (selects_second image)

-- a journal that is just made: both anchors name the first place, where a closed gate stands
abbrev pub new_journal : List ℕ
new_journal = header ++ 0 ∷ place_octets first_start ++ place_octets first_start ++ 0 ∷ []
