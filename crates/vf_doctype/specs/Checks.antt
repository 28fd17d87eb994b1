-- Which data elements a document type takes (ISO 8571-2, document types; the sets of octets and the limits of a
-- string are profile).
use Rattle.std.specs.Prelude.{ℕ, Bool, true, false, ◌&&◌, ◌||◌, not, nat_eq, nat_le, length, Option, Some, None, if◌then◌else◌}
use Rattle.std.specs.List.{list_all}
use Rattle.vf_base.specs.declared.limits.TheConstants.{MOST_STRING_OCTETS}
use Rattle.vf_base.specs.declared.element.Element.{Element}
use Rattle.vf_base.specs.declared.element.Element.TheVariants.{Descriptor, Enter, Exit, Text, Binary}
use Rattle.vf_doctype.specs.declared.doc_type.DocType.{DocType}
use Rattle.vf_doctype.specs.declared.doc_type.Kind.{Kind}
use Rattle.vf_doctype.specs.declared.doc_type.Kind.TheVariants.{Ftam1, Ftam2, Ftam3}
use Rattle.vf_doctype.specs.declared.errors.DocError.{DocError}
use Rattle.vf_doctype.specs.declared.errors.DocError.TheVariants.{BadElement, TooLong}

-- the octets of a class: IA5 strings have seven bits, visible strings are printable, the others take any octets
abbrev pub is_octet : (class octet : ℕ) → Bool
is_octet class octet =
    if nat_eq class 22 then nat_le octet 127
    else if nat_eq class 26 then nat_le 32 octet && nat_le octet 126
    else true

-- FTAM-2 alone has units to describe, and FTAM-3 alone has no text
abbrev pub takes_descriptors : Kind → Bool
takes_descriptors Ftam1 = false
takes_descriptors Ftam2 = true
takes_descriptors Ftam3 = false

abbrev pub takes_text : Kind → Bool
takes_text Ftam1 = true
takes_text Ftam2 = true
takes_text Ftam3 = false

-- text of the file's class in FTAM-1 and FTAM-2, binary in FTAM-3, and the descriptors of FTAM-2
abbrev pub takes : DocType → Element → Bool
takes doc (Descriptor name filled) = takes_descriptors doc.kind
takes doc Enter = false
takes doc Exit = false
takes doc (Text class octets) = takes_text doc.kind && nat_eq class doc.class && list_all (is_octet class) octets
takes doc (Binary octets) = not (takes_text doc.kind)

-- a string of so many octets: none has more than 65,536, nor more than a longest that is stated, and under fixed
-- significance each has that length
abbrev pub fits : DocType → ℕ → Bool
fits doc count =
    nat_le count MOST_STRING_OCTETS && (nat_eq doc.longest 0 || nat_le count doc.longest)
    && (not doc.is_fixed || nat_eq count doc.longest)

abbrev pub has_length : DocType → Element → Bool
has_length doc (Text class octets) = fits doc (length octets)
has_length doc (Binary octets) = fits doc (length octets)
has_length doc _ = true

-- what is wrong with an element alone; its kind is looked at before its length
abbrev pub fault : DocType → Element → Option DocError
fault doc element =
    if not (takes doc element) then Some BadElement
    else if not (has_length doc element) then Some TooLong
    else None
