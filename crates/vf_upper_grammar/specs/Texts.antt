-- Octets that are read as values: user data, and what stands within the [0] or [1] of a PDV-list or an EXTERNAL.
use Rattle.std.specs.Prelude.{ℕ, zero, suc, ◌+◌, Bool, true, false, nat_eq, nat_lt, List, [], ◌∷◌, ◌++◌, length, take, drop, get_or, Option, None, Some, Ok, Err, if◌then◌else◌}
use Rattle.vf_ber.specs.Reader.{reading}
use Rattle.vf_ber.specs.Reading.{Reading, Read, Short, Bad, Deep, Long}
use Rattle.vf_upper_grammar.specs.Forms.{◌>>=◌, Form, Tags, in_order}
use Rattle.vf_upper_grammar.specs.Marks.{Mark, value, Found}
use Rattle.vf_upper_grammar.specs.Parts.{is_constructed, number_of, header_at, parts_of, Header, Part, Text, FirstPart, first_part, place_in}

-- ---- octets as values; places are offsets in them, and that of what is wanting at the end is their number

abbrev pub OctetForm : Type 0
OctetForm = List ℕ → List Mark → Found

-- where octets are no value: the place of the fault
abbrev pub fault_in : Reading → ℕ → ℕ
fault_in (Read tree n) len = n
fault_in Short len = len
fault_in (Bad at) len = at
fault_in (Deep at) len = at
fault_in (Long at) len = at

-- The octets before the fault of a reading of one value, whether they are a whole value, and the fault, if any.
pub record Prefix : Type 0 where
  pub octets : List ℕ
  pub whole : Bool
  pub fault : Option ℕ

-- octets after a value are a fault
abbrev pub after : ℕ → ℕ → Option ℕ
after n len = if nat_eq n len then None else Some n

abbrev pub cut_at : ℕ → List ℕ → Prefix
cut_at place octets = record { octets = take place octets; whole = false; fault = Some place }

abbrev pub prefix : List ℕ → Reading → Prefix
prefix octets (Read tree n) = record { octets = take n octets; whole = true; fault = after n (length octets) }
prefix octets other = cut_at (fault_in other (length octets)) octets

abbrev pub unless : Option ℕ → List Mark → Found
unless None found = Ok found
unless (Some place) found = Err place

-- One value with this tag, read so. Faults of its parts come before the octet at which it is no value.
abbrev pub typed_by : Tags → Form → Prefix → List Mark → Found
typed_by tags read prefix found =
    in_order (parts_of (record { octets = prefix.octets; at = 0; whole = prefix.whole })) false
    (record { tags = tags; is_required = true; read = read } ∷ []) (record { tags = tags; is_required = true; read = read } ∷ []) found
    >>= unless prefix.fault

unfoldable pub typed : Tags → Form → OctetForm
typed tags read octets found = typed_by tags read (prefix octets (reading octets)) found

-- a value and what is found after it
abbrev pub then_read : ℕ → List ℕ → (ℕ → List ℕ → List Mark → Found) → List Mark → Reading → Found
then_read at octets others found (Read tree n) = others (at + n) (drop n octets) (found ++ value tree ∷ [])
then_read at octets others found other = Err (at + fault_in other (length octets))

-- nothing more may stand at this place
abbrev pub nothing : ℕ → List ℕ → List Mark → Found
nothing at [] found = Ok found
nothing at (octet ∷ octets) found = Err at

-- one value, whatever it is
unfoldable pub one : OctetForm
one octets found = then_read 0 octets nothing found (reading octets)

abbrev pub go_on : (ℕ → List ℕ → List Mark → Found) → ℕ → List ℕ → List Mark → Found
go_on others at [] found = Ok found
go_on others at (octet ∷ octets) found = others at (octet ∷ octets) found

-- values in turn, of which the first begins at this place; turns bound their number
unfoldable pub some_in : ℕ → ℕ → List ℕ → List Mark → Found
some_in zero at octets found = Err at
some_in (suc turns) at octets found = then_read at octets (go_on (some_in turns)) found (reading octets)

-- one value or more
unfoldable pub some : OctetForm
some octets found = some_in (suc (length octets)) 0 octets found

-- ---- octets within [0] or [1]

-- Octets with the place of each, the place where they end, and whether a wrong segment stands there. Octets that are
-- cut off end where they are no longer seen.
pub record Held : Type 0 where
  pub octets : List ℕ
  pub places : List ℕ
  pub end : ℕ
  pub broken : Bool

-- the places of so many octets in turn, from this one on
abbrev pub places_from : ℕ → List ℕ → List ℕ
places_from at [] = []
places_from at (octet ∷ octets) = at ∷ places_from (at + 1) octets

abbrev pub held_in : Text → ℕ → Held
held_in text end = record { octets = text.octets; places = places_from text.at text.octets; end = end; broken = false }

abbrev pub nothing_held : ℕ → Bool → Held
nothing_held end broken = record { octets = []; places = []; end = end; broken = broken }

abbrev pub then_held : Text → Held → Held
then_held text held =
    record { octets = text.octets ++ held.octets; places = places_from text.at text.octets ++ held.places; end = held.end; broken = held.broken }

-- a text without its first octets
abbrev pub cut_to : Text → List ℕ → Text
cut_to text rest = record { octets = rest; at = place_in text (length rest); whole = text.whole }

abbrev pub primitive_segment : (Text → Held) → ℕ → Option FirstPart → Held
primitive_segment others end None = nothing_held end false
primitive_segment others end (Some first_part) = then_held first_part.part.contents (others first_part.rest)

abbrev pub constructed_segment : (Text → Held) → Text → ℕ → Option Header → Held
constructed_segment others text end None = nothing_held end false
constructed_segment others text end (Some header) = others (cut_to text header.rest)

-- What stands at a place among segments: the end of contents of one, an OCTET STRING with octets, one with segments,
-- which stand there too, or something else.
abbrev pub segment : (Text → Held) → Text → ℕ → List ℕ → Held
segment others text end [] = nothing_held end false
segment others text end (first ∷ octets) =
    if nat_eq first 0 then others (cut_to text (drop 1 octets))
    else (if nat_eq first 4 then primitive_segment others end (first_part text)
    else (if nat_eq first 36 then constructed_segment others text end (header_at (first ∷ octets))
    else nothing_held text.at true))

-- The octets of a segmented octet string (ISO 8825, 8.7.3), whose segments are OCTET STRINGs at any depth; turns bound
-- the number of segments.
unfoldable pub segments_in : ℕ → ℕ → Text → Held
segments_in zero end text = nothing_held end false
segments_in (suc turns) end text = segment (segments_in turns end) text end text.octets

unfoldable pub segments : ℕ → Text → Held
segments end text = segments_in (suc (length text.octets)) end text

-- a first octet of an end of contents alone
abbrev pub is_begun_end : List ℕ → Bool
is_begun_end [] = false
is_begun_end (first ∷ []) = nat_eq first 0
is_begun_end (first ∷ other ∷ octets) = false

-- octets without the begun end after a value
abbrev pub without_end : List ℕ → Reading → List ℕ
without_end octets (Read tree n) = if is_begun_end (drop n octets) then take n octets else octets
without_end octets other = octets

-- Contents of an explicit tag. A begun end after their value isn't of them, where they are cut off.
abbrev pub explicit_in : Text → List ℕ
explicit_in text = if text.whole then text.octets else without_end text.octets (reading text.octets)

abbrev pub explicit_held : Text → Held
explicit_held text = held_in (record { octets = explicit_in text; at = text.at; whole = text.whole }) (text.at + length (explicit_in text))

-- What is held by a part with tag [0], which is explicit, or [1], octets. The first ends after its last part, the
-- second after its value.
abbrev pub held : Part → Option Held
held part =
    if nat_eq (number_of part.first) 0
    then (if is_constructed part.first then Some (explicit_held part.contents) else None)
    else (if is_constructed part.first then Some (segments part.after part.contents) else Some (held_in part.contents part.after))

-- ---- a form within [0] or [1]

abbrev pub place_of : Held → ℕ → ℕ
place_of held offset = if nat_lt offset (length held.octets) then get_or held.places offset 0 else held.end

abbrev pub located : Held → Found → Found
located held (Ok found) = if held.broken then Err held.end else Ok found
located held (Err offset) = Err (place_of held offset)

abbrev pub carried_by : OctetForm → ℕ → List Mark → Option Held → Found
carried_by form at found None = Err at
carried_by form at found (Some held) = located held (form held.octets found)

abbrev pub carried : OctetForm → Form
carried form part found = carried_by form part.at found (held part)

-- one value in [0], one or more in [1]
abbrev pub carried_data : Form
carried_data part found = if nat_eq (number_of part.first) 0 then carried one part found else carried some part found
