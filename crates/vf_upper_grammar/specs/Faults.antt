-- Where parts and octets have faults, by the forms of their types (ISO 8824): all the places, each that of the first
-- octet of what is wrong, or that after the last part where one is missing. They are a set: their order and number say
-- nothing. Of octets that are cut off, what isn't seen is no fault.
use Rattle.std.specs.Prelude.{ℕ, zero, suc, ◌+◌, ℤ, Bool, true, false, not, ◌&&◌, ◌||◌, nat_eq, List, [], ◌∷◌, ◌++◌, length, drop, map, Option, None, Some, if◌then◌else◌}
use Rattle.std.specs.List.{list_any}
use Rattle.vf_ber.specs.Primitive.{integer_at, oid_at}
use Rattle.vf_ber.specs.Reader.{reading}
use Rattle.vf_ber.specs.Reading.{Reading, Read}
use Rattle.vf_upper_grammar.specs.Forms.{has_tag, is_allowed, is_allowed_name, Tags}
use Rattle.vf_upper_grammar.specs.Parts.{ends, is_constructed, is_empty, next, number_of, Part, Parts, parts_of}
use Rattle.vf_upper_grammar.specs.Texts.{fault_in, Held, held, place_of, Prefix, prefix}

abbrev pub Places : Type 0
Places = List ℕ

-- the places of the faults of a part, as a value of some type
abbrev pub Faults : Type 0
Faults = Part → Places

-- a place, where it is a fault
abbrev pub unless : Bool → ℕ → Places
unless right place = if right then [] else place ∷ []

-- ---- primitive types

-- a primitive part, whose contents are right as far as they are seen
abbrev pub primitive : (List ℕ → Bool) → Faults
primitive is_right part = unless (not (is_constructed part.first) && (not part.contents.whole || is_right part.contents.octets)) part.at

abbrev pub is_number : Option ℕ → Option ℤ → Bool
is_number only None = false
is_number only (Some n) = is_allowed only n

-- INTEGER of at most eight octets, which is the number that is demanded, if one is
abbrev pub integer : Option ℕ → Faults
integer only = primitive (λ octets. is_number only (integer_at octets))

abbrev pub is_name : Option (List ℕ) → Option (List ℕ) → Bool
is_name only None = false
is_name only (Some arcs) = is_allowed_name only arcs

-- OBJECT IDENTIFIER within this profile's limits
abbrev pub object_identifier : Option (List ℕ) → Faults
object_identifier only = primitive (λ octets. is_name only (oid_at octets))

-- ---- constructed types

abbrev pub constructed : (Parts → Places) → Faults
constructed faults part = if is_constructed part.first then faults (parts_of part.contents) else part.at ∷ []

-- a list of which nothing is used
abbrev pub skipped : Faults
skipped = constructed (λ parts. [])

-- a part with this tag
abbrev pub tagged : Tags → Faults → Faults
tagged tags faults part = if has_tag tags part.first then faults part else part.at ∷ []

abbrev pub each : Tags → Faults → Parts → Places
each tags faults (ends place) = []
each tags faults (next part parts) = tagged tags faults part ++ each tags faults parts

-- SEQUENCE OF
abbrev pub sequence_of : Tags → Faults → Faults
sequence_of tags faults = constructed (each tags faults)

-- a field of a SEQUENCE or SET
pub record Field : Type 0 where
  pub tags : Tags
  pub is_required : Bool
  pub faults : Faults

abbrev pub is_of : List Field → Part → Bool
is_of fields part = list_any (λ field. has_tag field.tags part.first) fields

-- The fields that may follow these parts, where the parts are fields in order, each at most once, and no required one
-- is left out before another.
abbrev pub following : List Field → List Part → Option (List Field)
following [] [] = Some []
following [] (part ∷ parts) = None
following (field ∷ fields) [] = Some (field ∷ fields)
following (field ∷ fields) (part ∷ parts) =
    if has_tag field.tags part.first then following fields parts
    else (if field.is_required then None else following fields (part ∷ parts))

-- in what order parts may stand: what may follow them, or nothing where they don't stand in order
abbrev pub Order : Type 0
Order = List Part → Option (List Field)

-- the faults of a part by the field whose tag it has
abbrev pub by_field : List Field → Faults
by_field [] part = []
by_field (field ∷ fields) part = if has_tag field.tags part.first then field.faults part else by_field fields part

-- A part that can't stand after those before it is a fault at its first octet; another has the faults of its field.
abbrev pub standing : List Field → Option (List Field) → Faults
standing fields None part = part.at ∷ []
standing fields (Some others) part = by_field fields part

-- A required field that is missing is a fault at the place after the last part, where this is seen.
abbrev pub missing : Option (List Field) → Option ℕ → Places
missing None place = []
missing (Some fields) None = []
missing (Some fields) (Some place) = unless (not (list_any (λ field. field.is_required) fields)) place

-- the faults of parts that stand after others
abbrev pub among : Order → List Field → List Part → Parts → Places
among order fields before (ends place) = missing (order before) place
among order fields before (next part parts) = standing fields (order (before ++ part ∷ [])) part ++ among order fields (before ++ part ∷ []) parts

-- those of the parts that have a tag of these fields
abbrev pub known : List Field → Parts → Parts
known fields (ends place) = ends place
known fields (next part parts) = if is_of fields part then next part (known fields parts) else known fields parts

-- the fields in order, and no other parts
abbrev pub fields_alone : List Field → Parts → Places
fields_alone fields parts = among (following fields) fields [] parts

-- the fields in order, among other parts
abbrev pub fields_among : List Field → Parts → Places
fields_among fields parts = among (following fields) fields [] (known fields parts)

-- SEQUENCE, of which other fields are skipped
abbrev pub sequence : List Field → Faults
sequence fields = constructed (fields_among fields)

-- exactly these fields: a SEQUENCE without others, or what stands within an explicit tag
abbrev pub exactly : List Field → Faults
exactly fields = constructed (fields_alone fields)

abbrev pub either : Option (List Field) → Option (List Field) → Option (List Field)
either None other = other
either (Some fields) other = Some fields

-- two fields, in one order or the other
abbrev pub in_any_order : Field → Field → Order
in_any_order one other parts = either (following (one ∷ other ∷ []) parts) (following (other ∷ one ∷ []) parts)

abbrev pub both_among : Field → Field → Parts → Places
both_among one other parts = among (in_any_order one other) (one ∷ other ∷ []) [] (known (one ∷ other ∷ []) parts)

-- SET of two fields; other fields are skipped
abbrev pub set : Field → Field → Faults
set one other = constructed (both_among one other)

-- ---- octets as values; places are offsets in them

abbrev pub OctetFaults : Type 0
OctetFaults = List ℕ → Places

abbrev pub option_places : Option ℕ → Places
option_places None = []
option_places (Some place) = place ∷ []

-- One value with this tag: the faults of its parts, and the octet at which it is no value, or after it, if any.
abbrev pub typed_by : Tags → Faults → Prefix → Places
typed_by tags faults prefix =
    fields_alone (record { tags = tags; is_required = true; faults = faults } ∷ []) (parts_of (record { octets = prefix.octets; at = 0; whole = prefix.whole }))
    ++ option_places prefix.fault

abbrev pub typed : Tags → Faults → OctetFaults
typed tags faults octets = typed_by tags faults (prefix octets (reading octets))

-- what is wrong at a place where a value is read, and after it
abbrev pub value_at : ℕ → List ℕ → (ℕ → List ℕ → Places) → Reading → Places
value_at at octets others (Read tree n) = others (at + n) (drop n octets)
value_at at octets others other = (at + fault_in other (length octets)) ∷ []

-- no octet may stand at this place
abbrev pub nothing : ℕ → List ℕ → Places
nothing at octets = unless (is_empty octets) at

-- one value, whatever it is
abbrev pub one : OctetFaults
one octets = value_at 0 octets nothing (reading octets)

abbrev pub none_or : (ℕ → List ℕ → Places) → ℕ → List ℕ → Places
none_or others at [] = []
none_or others at (octet ∷ octets) = others at (octet ∷ octets)

-- values in turn, of which the first begins at this place; turns bound their number
unfoldable pub some_in : ℕ → ℕ → List ℕ → Places
some_in zero at octets = at ∷ []
some_in (suc turns) at octets = value_at at octets (none_or (some_in turns)) (reading octets)

-- one value or more
abbrev pub some : OctetFaults
some octets = some_in (suc (length octets)) 0 octets

-- ---- within [0] or [1]

abbrev pub within : OctetFaults → ℕ → Option Held → Places
within faults at None = at ∷ []
within faults at (Some held) = map (place_of held) (faults held.octets) ++ unless (not held.broken) held.end

-- what [0] or [1] holds, by its octets, each at its place; a wrong segment is a fault
abbrev pub carried : OctetFaults → Faults
carried faults part = within faults part.at (held part)

-- one value in [0], one or more in [1]
abbrev pub carried_data : Faults
carried_data part = if nat_eq (number_of part.first) 0 then carried one part else carried some part
