-- Values among octets with their places (ISO 8825, 8.1), as far as they are seen: of octets that are cut off, what
-- stands before.
use Rattle.std.specs.Prelude.{ℕ, zero, suc, ◌+◌, ◌-◌, ◌/◌, ◌%◌, Bool, true, false, not, ◌&&◌, ◌||◌, nat_eq, nat_le, nat_lt, List, [], ◌∷◌, length, take, drop, Option, None, Some, if◌then◌else◌}
use Rattle.std.specs.Option.{option_and_then}
use Rattle.vf_ber.specs.Spellings.{number_in}

-- Octets in turn, the place of the first, and whether they are all that their holder has. The place of an empty text
-- is the one after the last octet.
pub record Text : Type 0 where
  pub octets : List ℕ
  pub at : ℕ
  pub whole : Bool

-- A value: the place of its first octet, this octet, its contents, and the place after it.
pub record Part : Type 0 where
  pub at : ℕ
  pub first : ℕ
  pub contents : Text
  pub after : ℕ

-- The first octet of an identifier has the class in bits 8 and 7, bit 6 set where the value is constructed, and the
-- number where this is at most 30 (8.1.2). No type of presentation or ACSE has a higher one, so that the first octet
-- tells which it is.
abbrev pub class_of : ℕ → ℕ
class_of first = first / 64

abbrev pub is_constructed : ℕ → Bool
is_constructed first = nat_eq (first / 32 % 2) 1

abbrev pub number_of : ℕ → ℕ
number_of first = first % 32

-- ---- identifiers and lengths: what stands after them, where they are there

abbrev pub after_one : List ℕ → Option (List ℕ)
after_one [] = None
after_one (octet ∷ octets) = Some octets

-- after a number in one octet or two (higher ones are outside this profile)
abbrev pub after_number : List ℕ → Option (List ℕ)
after_number [] = None
after_number (octet ∷ octets) = if nat_lt octet 128 then Some octets else after_one octets

abbrev pub after_identifier : List ℕ → Option (List ℕ)
after_identifier [] = None
after_identifier (first ∷ octets) = if nat_lt (number_of first) 31 then Some octets else after_number octets

-- a length, where it is definite, and the octets after it
pub record Header : Type 0 where
  pub count : Option ℕ
  pub rest : List ℕ

abbrev pub long_form : ℕ → List ℕ → Option Header
long_form digits octets =
    if nat_le digits (length octets)
    then Some (record { count = Some (number_in 0 (take digits octets)); rest = drop digits octets })
    else None

-- short, indefinite and long form (8.1.3), the last with 1 to 8 octets (profile)
abbrev pub after_length : List ℕ → Option Header
after_length [] = None
after_length (first ∷ octets) =
    if nat_lt first 128 then Some (record { count = Some first; rest = octets })
    else (if nat_eq first 128 then Some (record { count = None; rest = octets })
    else (if nat_le first 136 then long_form (first - 128) octets else None))

-- identifier and length
abbrev pub header_at : List ℕ → Option Header
header_at octets = option_and_then after_length (after_identifier octets)

-- ---- contents of an indefinite length

-- after the contents, by what is after those of an indefinite length
abbrev pub after_contents : (List ℕ → Option (List ℕ)) → Option ℕ → List ℕ → Option (List ℕ)
after_contents ended (Some n) octets = if nat_le n (length octets) then Some (drop n octets) else None
after_contents ended None octets = ended octets

abbrev pub after_value : (List ℕ → Option (List ℕ)) → List ℕ → Option (List ℕ)
after_value ended octets = option_and_then (λ header. after_contents ended header.count header.rest) (header_at octets)

-- After the end of contents, 00 00, which stands after values in turn (8.1.5). The turns bound their number and
-- their depth; as many as there are octets are enough.
unfoldable pub after_end_in : ℕ → List ℕ → Option (List ℕ)
after_end_in zero octets = None
after_end_in (suc turns) [] = None
after_end_in (suc turns) (first ∷ octets) =
    if nat_eq first 0 then after_one octets
    else option_and_then (after_end_in turns) (after_value (after_end_in turns) (first ∷ octets))

unfoldable pub after_end : List ℕ → Option (List ℕ)
after_end octets = after_end_in (length octets) octets

-- ---- parts

-- the octets of contents, whether they are all, and the octets after their value
pub record Piece : Type 0 where
  pub octets : List ℕ
  pub whole : Bool
  pub rest : List ℕ

abbrev pub cut_piece : List ℕ → Piece
cut_piece octets = record { octets = octets; whole = false; rest = [] }

abbrev pub ended_piece : List ℕ → Option (List ℕ) → Piece
ended_piece octets None = cut_piece octets
ended_piece octets (Some rest) = record { octets = take (length octets - length rest - 2) octets; whole = true; rest = rest }

abbrev pub piece_of : Option ℕ → List ℕ → Piece
piece_of (Some n) octets = record { octets = take n octets; whole = nat_le n (length octets); rest = drop n octets }
piece_of None octets = ended_piece octets (after_end octets)

-- a part, and the octets after it
pub record FirstPart : Type 0 where
  pub part : Part
  pub rest : Text

-- the place in a text after which so many octets are left
abbrev pub place_in : Text → ℕ → ℕ
place_in text left = text.at + (length text.octets - left)

-- a part by what is left after its length
abbrev pub part_with : Text → ℕ → ℕ → Piece → FirstPart
part_with text first contents piece = record {
  part = record {
    at = text.at;
    first = first;
    contents = record { octets = piece.octets; at = place_in text contents; whole = piece.whole };
    after = place_in text (length piece.rest);
  };
  rest = record { octets = piece.rest; at = place_in text (length piece.rest); whole = piece.whole && text.whole };
}

-- of a part whose length isn't there no contents are seen
abbrev pub first_part_by : Text → ℕ → Option Header → FirstPart
first_part_by text first None = part_with text first 0 (cut_piece [])
first_part_by text first (Some header) = part_with text first (length header.rest) (piece_of header.count header.rest)

abbrev pub first_part_at : Text → List ℕ → Option FirstPart
first_part_at text [] = None
first_part_at text (first ∷ octets) = if nat_eq first 0 then None else Some (first_part_by text first (header_at (first ∷ octets)))

-- The first part. An octet 00 is none: an end of contents begins with it, and it stands alone where this is cut off.
unfoldable pub first_part : Text → Option FirstPart
first_part text = first_part_at text text.octets

-- The parts of a text in turn, and the place after the last one, where all are seen.
pub data Parts : Type 0 where
  ends : Option ℕ → Parts
  next : Part → Parts → Parts

abbrev pub is_empty : List ℕ → Bool
is_empty [] = true
is_empty (octet ∷ octets) = false

-- A begun end of contents says that no part follows, also where it is cut off.
abbrev pub closing : Text → Option ℕ
closing text = if text.whole || not (is_empty text.octets) then Some text.at else None

abbrev pub parts_by : (Text → Parts) → Text → Option FirstPart → Parts
parts_by others text None = ends (closing text)
parts_by others text (Some first_part) = next first_part.part (others first_part.rest)

unfoldable pub parts_in : ℕ → Text → Parts
parts_in zero text = ends (closing text)
parts_in (suc turns) text = parts_by (parts_in turns) text (first_part text)

unfoldable pub parts_of : Text → Parts
parts_of text = parts_in (length text.octets) text
