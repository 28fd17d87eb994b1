-- What values mean by their types (ISO 8824): all that this profile reads in them, in order, or nothing where they
-- aren't of the type. Values are trees, whatever octets spell them.
use Rattle.std.specs.Prelude.{ℕ, zero, suc, ℤ, Bool, ◌&&◌, nat_eq, nat_le, List, [], ◌∷◌, ◌++◌, length, drop, map, Option, None, Some, if◌then◌else◌}
use Rattle.std.specs.List.{list_any}
use Rattle.std.specs.Option.{option_and_then, option_map}
use Rattle.vf_ber.specs.Primitive.{integer_of, octets_in, oid_of}
use Rattle.vf_ber.specs.Reader.{reading}
use Rattle.vf_ber.specs.Reading.{Reading, Read}
use Rattle.vf_ber.specs.Tree.{Tree, plain, built, Trees, none, more, root}
use Rattle.vf_upper_grammar.specs.declared.labels.NameLabel.{NameLabel}
use Rattle.vf_upper_grammar.specs.declared.labels.NumberLabel.{NumberLabel}
use Rattle.vf_upper_grammar.specs.Forms.{is_allowed, is_allowed_name, Tags}
use Rattle.vf_upper_grammar.specs.Marks.{Mark, number, name, value}

abbrev pub Meaning : Type 0
Meaning = Tree → Option (List Mark)

-- what two values mean, one after the other
abbrev pub in_turn : Option (List Mark) → Option (List Mark) → Option (List Mark)
in_turn None other = None
in_turn (Some marks) None = None
in_turn (Some marks) (Some others) = Some (marks ++ others)

-- ---- primitive types

abbrev pub number_meant : Option ℕ → NumberLabel → Option ℤ → Option (List Mark)
number_meant only label None = None
number_meant only label (Some n) = if is_allowed only n then Some (number label n ∷ []) else None

-- INTEGER, which is the number that is demanded, if one is
abbrev pub integer : Option ℕ → NumberLabel → Meaning
integer only label tree = number_meant only label (integer_of tree)

abbrev pub name_meant : Option (List ℕ) → NameLabel → Option (List ℕ) → Option (List Mark)
name_meant only label None = None
name_meant only label (Some arcs) = if is_allowed_name only arcs then Some (name label arcs ∷ []) else None

-- OBJECT IDENTIFIER
abbrev pub object_identifier : Option (List ℕ) → NameLabel → Meaning
object_identifier only label tree = name_meant only label (oid_of tree)

-- ---- constructed types

abbrev pub list_of : Trees → List Tree
list_of none = []
list_of (more part parts) = part ∷ list_of parts

abbrev pub constructed : (List Tree → Option (List Mark)) → Meaning
constructed meaning (plain tag octets) = None
constructed meaning (built tag parts) = meaning (list_of parts)

abbrev pub is_tagged : Tags → Tree → Bool
is_tagged tags tree = nat_eq (root tree).class tags.class && nat_le tags.from (root tree).number && nat_le (root tree).number tags.to

-- a field of a SEQUENCE or SET
pub record Field : Type 0 where
  pub tags : Tags
  pub is_required : Bool
  pub meaning : Meaning

abbrev pub is_of : List Field → Tree → Bool
is_of fields tree = list_any (λ field. is_tagged field.tags tree) fields

-- these values are the fields in order, each at most once
abbrev pub in_order : List Field → List Tree → Option (List Mark)
in_order [] [] = Some []
in_order [] (tree ∷ trees) = None
in_order (field ∷ fields) [] = if field.is_required then None else in_order fields []
in_order (field ∷ fields) (tree ∷ trees) =
    if is_tagged field.tags tree then in_turn (field.meaning tree) (in_order fields trees)
    else (if field.is_required then None else in_order fields (tree ∷ trees))

-- exactly these fields, as within an explicit tag
abbrev pub exactly : List Field → Meaning
exactly fields = constructed (in_order fields)

-- those of the values that have a tag of these fields
abbrev pub known : List Field → List Tree → List Tree
known fields [] = []
known fields (tree ∷ trees) = if is_of fields tree then tree ∷ known fields trees else known fields trees

-- values of other tags are skipped
abbrev pub fields_among : List Field → List Tree → Option (List Mark)
fields_among fields trees = in_order fields (known fields trees)

-- SEQUENCE
abbrev pub sequence : List Field → Meaning
sequence fields = constructed (fields_among fields)

abbrev pub either : Option (List Mark) → Option (List Mark) → Option (List Mark)
either None other = other
either (Some marks) other = Some marks

-- SET of two fields, in one order or the other
abbrev pub set : Field → Field → Meaning
set one other = constructed (λ trees. either (fields_among (one ∷ other ∷ []) trees) (fields_among (other ∷ one ∷ []) trees))

abbrev pub each : Tags → Meaning → List Tree → Option (List Mark)
each tags meaning [] = Some []
each tags meaning (tree ∷ trees) = if is_tagged tags tree then in_turn (meaning tree) (each tags meaning trees) else None

-- SEQUENCE OF
abbrev pub sequence_of : Tags → Meaning → Meaning
sequence_of tags meaning = constructed (each tags meaning)

-- a list of which nothing is used
abbrev pub skipped : Meaning
skipped = constructed (λ trees. Some [])

-- ---- values in octets

abbrev pub values_by : (List ℕ → Option (List Tree)) → List ℕ → Reading → Option (List Tree)
values_by others octets (Read tree n) = option_map (λ trees. tree ∷ trees) (others (drop n octets))
values_by others octets other = None

-- turns bound their number
unfoldable pub values_in : ℕ → List ℕ → Option (List Tree)
values_in turns [] = Some []
values_in zero (octet ∷ octets) = None
values_in (suc turns) (octet ∷ octets) = values_by (values_in turns) (octet ∷ octets) (reading (octet ∷ octets))

-- the values that octets are, in turn
unfoldable pub values : List ℕ → Option (List Tree)
values octets = values_in (length octets) octets

-- The values within [0], an explicit tag, or [1], an OCTET STRING, which may be in segments.
abbrev pub held : Tree → Option (List Tree)
held (plain tag octets) = if nat_eq tag.number 0 then None else values octets
held (built tag parts) = if nat_eq tag.number 0 then Some (list_of parts) else option_and_then values (octets_in parts)

abbrev pub alone : Meaning → List Tree → Option (List Mark)
alone meaning [] = None
alone meaning (tree ∷ []) = meaning tree
alone meaning (tree ∷ other ∷ trees) = None

-- one value within [0] or [1]
abbrev pub carried : Meaning → Meaning
carried meaning tree = option_and_then (alone meaning) (held tree)

-- any value
abbrev pub any : Meaning
any tree = Some (value tree ∷ [])

abbrev pub some : List Tree → Option (List Mark)
some [] = None
some (tree ∷ trees) = Some (map value (tree ∷ trees))

-- one value within [0], or one or more within [1]
abbrev pub carried_data : Meaning
carried_data tree = if nat_eq (root tree).number 0 then carried any tree else option_and_then some (held tree)

-- a value with this tag
abbrev pub tagged : Tags → Meaning → Meaning
tagged tags meaning tree = if is_tagged tags tree then meaning tree else None
