-- Which images of a disk are a journal, which records they hold, and why others are refused (profile).
use Rattle.std.specs.Prelude.{◌≡◌, ◌==◌, ◌⊎◌, ℕ, ◌+◌, ◌≤◌, ◌||◌, nat_le, nat_lt, List, [], ◌∷◌, length, take, drop, Option, None, Some, IsSome, if◌then◌else◌}
use Rattle.vf_journal.specs.Layout.{header, first_start, anchor_place, selects_second, selected_start}
use Rattle.vf_journal.specs.Records.{HoldsArea, records_in}

-- The image of a journal that holds these records: the header, and a selected anchor that names the start of an area
-- with them. The other anchor may hold anything, and so may all octets outside that area.
pub record Holds (image : List ℕ) (records : List (List ℕ)) : Type 0 where
  pub head : take 16 image ≡ header
  pub start : first_start ≤ selected_start image
  pub area : HoldsArea (drop (selected_start image) image) records

-- the one records or the other
abbrev pub HoldsEither : List (List ℕ) → List (List ℕ) → List ℕ → Type 0
HoldsEither before after image = Holds image before ⊎ Holds image after

-- why octets are no journal: the place, the octet found there, where one is, and the one that is expected
pub record Refusal : Type 0 where
  pub place : ℕ
  pub found : Option ℕ
  pub expected : ℕ

-- the first place from one on where the octets differ from those wanted, or end
abbrev pub difference : ℕ → List ℕ → List ℕ → Option Refusal
difference place [] octets = None
difference place (expected ∷ wanted) [] = Some (record { place = place; found = None; expected = expected })
difference place (expected ∷ wanted) (found ∷ octets) =
    if found == expected then difference (place + 1) wanted octets
    else Some (record { place = place; found = Some found; expected = expected })

-- Of an image with the header: it ends before the first gate, or the selected anchor names no place after the anchors
-- and within the image.
abbrev pub misplaced : List ℕ → Option Refusal
misplaced image =
    if nat_le (length image) first_start then Some (record { place = length image; found = None; expected = 0 })
    else if nat_lt (selected_start image) first_start || nat_le (length image) (selected_start image)
    then Some (record { place = anchor_place (selects_second image); found = None; expected = 0 })
    else None

-- Why an image isn't read as a journal, where it isn't: its first octets differ from the header, or it has the header
-- and no area.
abbrev pub or_else : Option Refusal → Option Refusal → Option Refusal
or_else (Some refusal) other = Some refusal
or_else None other = other

unfoldable pub refusal : List ℕ → Option Refusal
refusal image = or_else (difference 0 header image) (misplaced image)

-- What any image that isn't refused is read as: the whole records of its selected area. Of an image that holds records
-- these are the same.
abbrev pub records_of : List ℕ → List (List ℕ)
records_of image = records_in (drop (selected_start image) image)

-- no journal, or one without records
abbrev pub IsNoneOrNew : List ℕ → Type 0
IsNoneOrNew image = IsSome (refusal image) ⊎ Holds image []
