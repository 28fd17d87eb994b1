-- The forms of types (ISO 8824), each a reading of a part: what was found before it and what is found in it, or
-- the place of its first fault. A part whose tag is another, or that isn't primitive or constructed as its type is, is
-- a fault at its first octet, and so is a primitive one whose contents aren't of its type. What is cut off is no fault.
use Rattle.std.specs.Prelude.{ℕ, ℤ, pos, negsuc, Bool, true, false, not, ◌&&◌, nat_eq, nat_le, List, [], ◌∷◌, ◌++◌, Option, None, Some, Ok, Err, if◌then◌else◌}
use Rattle.std.specs.Cmp.Lexicographic.{pointwise}
use Rattle.std.specs.List.{list_any}
use Rattle.vf_ber.specs.Primitive.{integer_at, oid_at}
use Rattle.vf_upper_grammar.specs.declared.labels.NameLabel.{NameLabel}
use Rattle.vf_upper_grammar.specs.declared.labels.NumberLabel.{NumberLabel}
use Rattle.vf_upper_grammar.specs.Marks.{Mark, number, name, Found}
use Rattle.vf_upper_grammar.specs.Parts.{class_of, is_constructed, number_of, Part, Parts, ends, next, parts_of}

abbrev pub Form : Type 0
Form = Part → List Mark → Found

infixl 10 ◌>>=◌
abbrev pub ◌>>=◌ : Found → (List Mark → Found) → Found
(Ok found) >>= f = f found
(Err place) >>= f = Err place

-- ---- primitive types

-- the number that is demanded, or any
abbrev pub is_allowed : Option ℕ → ℤ → Bool
is_allowed None n = true
is_allowed (Some only) (pos n) = nat_eq n only
is_allowed (Some only) (negsuc n) = false

abbrev pub found_number : Option ℕ → NumberLabel → ℕ → List Mark → Option ℤ → Found
found_number only label at found None = Err at
found_number only label at found (Some n) = if is_allowed only n then Ok (found ++ number label n ∷ []) else Err at

-- INTEGER of at most eight octets
abbrev pub integer : Option ℕ → NumberLabel → Form
integer only label part found =
    if is_constructed part.first then Err part.at
    else (if part.contents.whole then found_number only label part.at found (integer_at part.contents.octets) else Ok found)

abbrev pub are_arcs : List ℕ → List ℕ → Bool
are_arcs a b = pointwise nat_eq a b

abbrev pub is_allowed_name : Option (List ℕ) → List ℕ → Bool
is_allowed_name None arcs = true
is_allowed_name (Some only) arcs = are_arcs arcs only

abbrev pub found_name : Option (List ℕ) → NameLabel → ℕ → List Mark → Option (List ℕ) → Found
found_name only label at found None = Err at
found_name only label at found (Some arcs) = if is_allowed_name only arcs then Ok (found ++ name label arcs ∷ []) else Err at

-- OBJECT IDENTIFIER within this profile's limits
abbrev pub object_identifier : Option (List ℕ) → NameLabel → Form
object_identifier only label part found =
    if is_constructed part.first then Err part.at
    else (if part.contents.whole then found_name only label part.at found (oid_at part.contents.octets) else Ok found)

-- ---- constructed types

-- tags of one class, their numbers from one to another
pub record Tags : Type 0 where
  pub class : ℕ
  pub from : ℕ
  pub to : ℕ

abbrev pub has_tag : Tags → ℕ → Bool
has_tag tags first = nat_eq (class_of first) tags.class && nat_le tags.from (number_of first) && nat_le (number_of first) tags.to

-- a field of a SEQUENCE or SET
pub record Field : Type 0 where
  pub tags : Tags
  pub is_required : Bool
  pub read : Form

abbrev pub is_known : List Field → ℕ → Bool
is_known fields first = list_any (λ field. has_tag field.tags first) fields

-- a field, and those that may come after it
pub record Due : Type 0 where
  pub field : Field
  pub left : List Field

-- the field of this tag, where no required one is due before it
abbrev pub due : ℕ → List Field → Option Due
due first [] = None
due first (field ∷ fields) =
    if has_tag field.tags first then Some (record { field = field; left = fields })
    else (if field.is_required then None else due first fields)

-- a required field that is missing is a fault at the place after the last part
abbrev pub lacking : Bool → Option ℕ → List Mark → Found
lacking some None found = Ok found
lacking some (Some place) found = if some then Err place else Ok found

-- whether other fields are skipped, the fields, those that may still come
abbrev pub Walk : Type 0
Walk = List Field → List Mark → Found

abbrev pub step : Bool → List Field → Part → Walk → List Field → List Mark → Option Due → Found
step skips fields part others left found (Some due) = due.field.read part found >>= others due.left
step skips fields part others left found None = if skips && not (is_known fields part.first) then others left found else Err part.at

-- The fields in order, each at most once. Other parts are skipped, or are faults.
abbrev pub in_order : Parts → Bool → List Field → Walk
in_order (ends place) skips fields left found = lacking (list_any (λ field. field.is_required) left) place found
in_order (next part parts) skips fields left found = step skips fields part (in_order parts skips fields) left found (due part.first left)

abbrev pub constructed : (Parts → List Mark → Found) → Form
constructed read part found = if is_constructed part.first then read (parts_of part.contents) found else Err part.at

-- a list of which nothing is used
abbrev pub skipped : Form
skipped = constructed (λ parts found. Ok found)

-- SEQUENCE, of which other fields are skipped
abbrev pub sequence : List Field → Form
sequence fields = constructed (λ parts. in_order parts true fields fields)

-- exactly these parts: a SEQUENCE without other fields, or what stands within an explicit tag
abbrev pub exactly : List Field → Form
exactly fields = constructed (λ parts. in_order parts false fields fields)

-- SEQUENCE OF
abbrev pub each : Parts → Tags → Form → List Mark → Found
each (ends place) tags read found = Ok found
each (next part parts) tags read found = if has_tag tags part.first then read part found >>= each parts tags read else Err part.at

abbrev pub sequence_of : Tags → Form → Form
sequence_of tags read = constructed (λ parts. each parts tags read)

-- the first part that is one of the fields
abbrev pub leading : List Field → Parts → Option Part
leading fields (ends place) = None
leading fields (next part parts) = if is_known fields part.first then Some part else leading fields parts

abbrev pub leads : Tags → Option Part → Bool
leads tags None = false
leads tags (Some part) = has_tag tags part.first

-- the two fields of a SET in the order in which they come
abbrev pub ordered : Field → Field → Parts → List Field
ordered one other parts = if leads other.tags (leading (one ∷ other ∷ []) parts) then other ∷ one ∷ [] else one ∷ other ∷ []

-- SET of two fields, in either order; other fields are skipped
abbrev pub set : Field → Field → Form
set one other = constructed (λ parts. in_order parts true (ordered one other parts) (ordered one other parts))
