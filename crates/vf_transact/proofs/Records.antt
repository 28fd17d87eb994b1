-- What is written of records, element by element.
use Rattle.std.proofs.Common.{◌≡◌, ℕ, true, false, List, [], ◌∷◌, ◌++◌, refl, sym, ap, ◌∙◌, append_assoc}
use Rattle.std.specs.List.{flat_map}
use Rattle.vf_base.specs.declared.element.Element.{Element}
use Rattle.vf_base.specs.declared.element.Element.TheVariants.{Descriptor, Enter, Exit, Text, Binary}
use Rattle.vf_doctype.specs.Units.{grouped}
use Rattle.vf_initiator.specs.Output.{line_of, record_lines, strings_in}
use Rattle.vf_transact.specs.Writing.{records_from}

cons_feed : (s rest : List ℕ) → s ++ (10 ∷ rest) ≡ (s ++ 10 ∷ []) ++ rest
cons_feed s rest = sym (append_assoc s (10 ∷ []) rest)

-- what is written of groups: what stands before the first descriptor, with its line feed, and then each record
abbrev Begun : List Element → Type 0
Begun elements = records_from true elements ≡ strings_in (grouped elements).0 ++ (10 ∷ flat_map line_of (grouped elements).1)

other : (octets s : List ℕ) (rest rest' : List ℕ) → rest ≡ s ++ rest' → octets ++ rest ≡ (octets ++ s) ++ rest'
other octets s rest rest' is = ap (λ (l : List ℕ). octets ++ l) is ∙ sym (append_assoc octets s rest')

-- a record that has begun goes on with the strings before the next descriptor
pub from_begun : (elements : List Element) → Begun elements
from_begun [] = refl
from_begun (Descriptor name filled ∷ elements) =
    ap (λ (l : List ℕ). 10 ∷ l) (from_begun elements ∙ cons_feed (strings_in (grouped elements).0) (flat_map line_of (grouped elements).1))
from_begun (Enter ∷ elements) = from_begun elements
from_begun (Exit ∷ elements) = from_begun elements
from_begun (Text class octets ∷ elements) =
    other octets (strings_in (grouped elements).0) (records_from true elements) (10 ∷ flat_map line_of (grouped elements).1) (from_begun elements)
from_begun (Binary octets ∷ elements) =
    other octets (strings_in (grouped elements).0) (records_from true elements) (10 ∷ flat_map line_of (grouped elements).1) (from_begun elements)

line_then : (elements : List Element) → records_from true elements ≡ line_of (grouped elements).0 ++ flat_map line_of (grouped elements).1
line_then elements = from_begun elements ∙ cons_feed (strings_in (grouped elements).0) (flat_map line_of (grouped elements).1)

string_first : (octets : List ℕ) (elements : List Element) → octets ++ records_from true elements ≡ ((octets ++ strings_in (grouped elements).0) ++ 10 ∷ []) ++ flat_map line_of (grouped elements).1
string_first octets elements =
    ap (λ (l : List ℕ). octets ++ l) (line_then elements)
    ∙ sym (append_assoc octets (line_of (grouped elements).0) (flat_map line_of (grouped elements).1))
    ∙ ap (λ (l : List ℕ). l ++ flat_map line_of (grouped elements).1) (sym (append_assoc octets (strings_in (grouped elements).0) (10 ∷ [])))

-- before the first record a string begins one
pub from_none : (elements : List Element) → records_from false elements ≡ record_lines elements
from_none [] = refl
from_none (Descriptor name filled ∷ elements) = line_then elements
from_none (Enter ∷ elements) = from_none elements
from_none (Exit ∷ elements) = from_none elements
from_none (Text class octets ∷ elements) = string_first octets elements
from_none (Binary octets ∷ elements) = string_first octets elements
