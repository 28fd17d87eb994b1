-- What is written of the elements of a get (profile): the octets of its strings; of text a line a string, and of records a
-- line a record.
use Rattle.std.specs.Prelude.{ℕ, Bool, true, false, nat_eq, List, [], ◌∷◌, ◌++◌, if◌then◌else◌}
use Rattle.std.specs.List.{flat_map, list_any}
use Rattle.vf_base.specs.declared.element.Element.{Element}
use Rattle.vf_base.specs.declared.element.Element.TheVariants.{Text, Binary}
use Rattle.vf_doctype.specs.Units.{grouped}

abbrev pub string_in : Element → List ℕ
string_in (Text class octets) = octets
string_in (Binary octets) = octets
string_in element = []

abbrev pub is_string : Element → Bool
is_string (Text class octets) = true
is_string (Binary octets) = true
is_string element = false

abbrev pub strings_in : List Element → List ℕ
strings_in elements = flat_map string_in elements

abbrev pub line_of : List Element → List ℕ
line_of elements = strings_in elements ++ 10 ∷ []

-- a line a string
abbrev pub string_line : Element → List ℕ
string_line element = if is_string element then string_in element ++ 10 ∷ [] else []

-- A record begins with each descriptor. Strings before the first one are a record of their own.
abbrev pub first_record : List Element → List ℕ
first_record elements = if list_any is_string elements then line_of elements else []

abbrev pub record_lines : List Element → List ℕ
record_lines elements = let groups = grouped elements in first_record groups.0 ++ flat_map line_of groups.1

abbrev pub written : (kind : ℕ) → List Element → List ℕ
written kind elements =
    if nat_eq kind 1 then flat_map string_line elements
    else if nat_eq kind 2 then record_lines elements
    else strings_in elements
