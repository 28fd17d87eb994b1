-- The contents of a field: which form they have, and which of these are in range (profile).
use Rattle.std.specs.Prelude.{ℕ, ◌+◌, ◌-◌, ◌*◌, ℤ, pos, negsuc, Bool, true, false, ◌&&◌, nat_eq, nat_le, nat_lt, List, [], ◌∷◌, length, take, drop, Option, None, Some, if◌then◌else◌}
use Rattle.std.specs.List.{list_all}
use Rattle.std.specs.Option.{option_and_then, option_map}
use Rattle.vf_base.specs.Calendar.{month_length}
use Rattle.vf_base.specs.Name.{is_name}
use Rattle.vf_base.specs.Oid.{is_oid}
use Rattle.vf_ber.specs.Primitive.{integer_of, boolean_of, octets_of, oid_of}
use Rattle.vf_ber.specs.Tree.{Tree}
use Rattle.vf_pdu_fields.specs.declared.limits.TheConstants.{MOST_TEXT_OCTETS, MOST_UNIT}
use Rattle.vf_pdu_fields.specs.Content.{Content, Number, Truth, Octets, Arcs}
use Rattle.vf_pdu_fields.specs.Rows.{Range, Any, FromTo, Fadu, Simple, Integer, Boolean, Text, String, Controls, Oid, Date}

abbrev pub is_digit : ℕ → Bool
is_digit octet = nat_le 48 octet && nat_le octet 57

-- fourteen digits and a Z
abbrev pub has_date_form : List ℕ → Bool
has_date_form text = nat_eq (length text) 15 && list_all is_digit (take 14 text) && list_all (nat_eq 90) (drop 14 text)

abbrev pub dated : List ℕ → Option Content
dated text = if has_date_form text then Some (Octets text) else None

-- The contents, where the value has the form. Octets may come in segments.
abbrev pub shape_of : Simple → Tree → Option Content
shape_of (Integer range) tree = option_map Number (integer_of tree)
shape_of Boolean tree = option_map Truth (boolean_of tree)
shape_of Text tree = option_map Octets (octets_of tree)
shape_of String tree = option_map Octets (octets_of tree)
shape_of (Controls count) tree = option_map Octets (octets_of tree)
shape_of Oid tree = option_map Arcs (oid_of tree)
shape_of Date tree = option_and_then dated (octets_of tree)

abbrev pub is_unit : ℤ → Bool
is_unit (pos n) = nat_le n MOST_UNIT
is_unit (negsuc n) = nat_lt n 6

abbrev pub is_from_to : ℕ → ℕ → ℤ → Bool
is_from_to low high (pos n) = nat_le low n && nat_le n high
is_from_to low high (negsuc n) = false

-- of 64 bits
abbrev pub is_long : ℤ → Bool
is_long (pos n) = nat_lt n 9223372036854775808
is_long (negsuc n) = nat_lt n 9223372036854775808

abbrev pub in_range : Range → ℤ → Bool
in_range Any n = is_long n
in_range (FromTo low high) n = is_from_to low high n
in_range Fadu n = is_unit n

abbrev pub is_control : ℕ → Bool
is_control octet = nat_le octet 3

-- two digits as a number
abbrev pub number_in : List ℕ → ℕ
number_in [] = 0
number_in (tens ∷ []) = 0
number_in (tens ∷ ones ∷ rest) = 10 * (tens - 48) + (ones - 48)

-- from this place on
abbrev pub two_at : ℕ → List ℕ → ℕ
two_at place text = number_in (drop place text)

abbrev pub year_in : List ℕ → ℕ
year_in text = 100 * two_at 0 text + two_at 2 text

-- a day from 1970 to 9999 by the calendar (ISO 8601)
abbrev pub is_day : ℕ → ℕ → ℕ → Bool
is_day year month day =
    nat_le 1970 year && nat_le 1 month && nat_le month 12 && nat_le 1 day && nat_le day (month_length year month)

abbrev pub is_moment : List ℕ → Bool
is_moment text =
    is_day (year_in text) (two_at 4 text) (two_at 6 text)
    && nat_lt (two_at 8 text) 24 && nat_lt (two_at 10 text) 60 && nat_lt (two_at 12 text) 60

abbrev pub is_date : List ℕ → Bool
is_date text = has_date_form text && is_moment text

-- contents of the form and in range
abbrev pub within : Simple → Content → Bool
within (Integer range) (Number n) = in_range range n
within Boolean (Truth b) = true
within Text (Octets name) = is_name name
within String (Octets given) = nat_le (length given) MOST_TEXT_OCTETS
within (Controls count) (Octets each) = nat_eq (length each) count && list_all is_control each
within Oid (Arcs arcs) = is_oid arcs
within Date (Octets moment) = is_date moment
within _ _ = false
