-- The elements of a put by its input (profile): binary contents in strings of 4,096 octets, the last one shorter; text a
-- string a line, and records a record a line. The line feed of the last line may be left out.
use Rattle.std.specs.Prelude.{ℕ, ◌+◌, ◌-◌, Bool, true, ◌&&◌, nat_eq, nat_le, nat_lt, List, [], ◌∷◌, length, map, Option, None, Some, Result, Ok, Err, if◌then◌else◌}
use Rattle.std.specs.List.{flat_map}
use Rattle.vf_base.specs.declared.element.Element.{Element}
use Rattle.vf_base.specs.declared.element.Element.TheVariants.{Descriptor, Text, Binary}
use Rattle.vf_base.specs.declared.limits.TheConstants.{MOST_STRING_OCTETS}
use Rattle.vf_tree.specs.declared.limits.TheConstants.{MOST_FILE_OCTETS, MOST_FILE_PARTS}

-- ---- lines: an octet in front of the first line, or in front of none

abbrev pub with_octet : ℕ → List (List ℕ) → List (List ℕ)
with_octet octet [] = (octet ∷ []) ∷ []
with_octet octet (line ∷ lines) = (octet ∷ line) ∷ lines

-- Each line feed (10) ends a line; what stands after the last one is a line where it isn't empty.
abbrev pub lines : List ℕ → List (List ℕ)
lines [] = []
lines (octet ∷ octets) = if nat_eq octet 10 then [] ∷ lines octets else with_octet octet (lines octets)

-- ---- strings of so many octets, the last one shorter: an octet joins the string after it while that isn't full

-- where so many octets are left of the string that has begun, the octets that it still gets, and the strings after it
abbrev pub strings_after : (most left : ℕ) → List ℕ → List ℕ × List (List ℕ)
strings_after most left [] = ([], [])
strings_after most left (octet ∷ octets) =
    if nat_eq left 0 then
    (let rest = strings_after most (most - 1) octets in ([], (octet ∷ rest.0) ∷ rest.1))
    else (let rest = strings_after most (left - 1) octets in (octet ∷ rest.0, rest.1))

abbrev pub strings_of : (most : ℕ) → List ℕ → List (List ℕ)
strings_of most octets = (strings_after most 0 octets).1

-- ---- elements: text is of class 25, GraphicString

abbrev pub binary_of : List ℕ → Element
binary_of octets = Binary octets

abbrev pub text_of : List ℕ → Element
text_of octets = Text 25 octets

abbrev pub record_of : List ℕ → List Element
record_of octets = Descriptor None true ∷ Text 25 octets ∷ []

abbrev pub elements_by : (kind : ℕ) → List ℕ → List Element
elements_by kind input =
    if nat_eq kind 1 then map text_of (lines input)
    else if nat_eq kind 2 then flat_map record_of (lines input)
    else map binary_of (strings_of 4096 input)

-- ---- limits: the octet that passes one decides. A line passes the limit of a string (22) by its 65,537th octet, all strings
-- that of a file (23) by the 16,777,217th, and a line that of elements (23) as it begins. At one octet 22 goes first.

abbrev pub elements_a_line : (kind : ℕ) → ℕ
elements_a_line kind = if nat_eq kind 2 then 2 else 1

abbrev pub is_too_long : (octets : ℕ) → List ℕ → Bool
is_too_long octets line = nat_lt MOST_STRING_OCTETS (length line) && nat_le (octets + MOST_STRING_OCTETS) MOST_FILE_OCTETS

-- lines after so many octets of strings, and so many elements
abbrev pub fault_of_lines : (kind octets elements : ℕ) → List (List ℕ) → Option ℕ
fault_of_lines kind octets elements [] = None
fault_of_lines kind octets elements (line ∷ later) =
    if nat_lt MOST_FILE_PARTS (elements + elements_a_line kind) then Some 23
    else if is_too_long octets line then Some 22
    else if nat_lt MOST_FILE_OCTETS (octets + length line) then Some 23
    else fault_of_lines kind (octets + length line) (elements + elements_a_line kind) later

abbrev pub fault_of : (kind : ℕ) → List ℕ → Option ℕ
fault_of kind input =
    if nat_eq kind 3 then (if nat_lt MOST_FILE_OCTETS (length input) then Some 23 else None) else fault_of_lines kind 0 0 (lines input)

abbrev pub unless : Option ℕ → List Element → Result (List Element) ℕ
unless None elements = Ok elements
unless (Some number) elements = Err number

-- the elements of an input, or the number of the diagnostic that refuses it
abbrev pub cut : (kind : ℕ) → List ℕ → Result (List Element) ℕ
cut kind input = unless (fault_of kind input) (elements_by kind input)
