-- The fault of a value that means no PDU (profile): the first one from its first part on, and the lowest required
-- field that is absent where no part has one. Of one part the form goes before the range.
use Rattle.std.specs.Prelude.{ℕ, ◌+◌, Bool, true, false, ◌&&◌, ◌||◌, nat_eq, nat_le, Option, None, Some, if◌then◌else◌}
use Rattle.vf_ber.specs.Tree.{Tree, Trees, none, more, root}
use Rattle.vf_pdu_fields.specs.Content.{Content}
use Rattle.vf_pdu_fields.specs.Fault.{Fault, Field, Range, Missing}
use Rattle.vf_pdu_fields.specs.Meaning.{fits}
use Rattle.vf_pdu_fields.specs.Reading.{shape, is_field}
use Rattle.vf_pdu_fields.specs.Rows.{Need, required, optional, default, Form, Row, end, field}

-- this fault, or else that
abbrev pub or_else : Option Fault → Option Fault → Option Fault
or_else None other = other
or_else (Some fault) other = Some fault

-- the form of the field with this tag, if the row has one
abbrev pub form_of : Row → ℕ → Option Form
form_of end tag = None
form_of (field number form need row) tag = if nat_eq number tag then Some form else form_of row tag

-- not of the form, or of the form and out of range
abbrev pub judged : ℕ → ℕ → Form → Option Content → Option Fault
judged place number form None = Some (Field place)
judged place number form (Some content) = if fits form content then None else Some (Range number)

-- of a part whose tag is in the row or not
abbrev pub part_fault : ℕ → Tree → Option Form → Option Fault
part_fault place part None = Some (Field place)
part_fault place part (Some form) = judged place (root part).number form (shape form part)

-- The tags are of context class and rise: this one is at least least, and the next one above it.
abbrev pub first_fault : Row → ℕ → ℕ → Trees → Option Fault
first_fault row place least none = None
first_fault row place least (more part parts) =
    if nat_eq (root part).class 2 && nat_le least (root part).number then
    or_else (part_fault place part (form_of row (root part).number)) (first_fault row (place + 1) ((root part).number + 1) parts)
    else Some (Field place)

abbrev pub has_part : ℕ → Trees → Bool
has_part number none = false
has_part number (more part parts) = is_field number (root part) || has_part number parts

abbrev pub is_required : Need → Bool
is_required required = true
is_required optional = false
is_required (default content) = false

abbrev pub missing : Row → Trees → Option Fault
missing end parts = None
missing (field number form need row) parts =
    if is_required need then (if has_part number parts then missing row parts else Some (Missing number)) else missing row parts

abbrev pub fault_in : Row → Trees → Option Fault
fault_in row parts = or_else (first_fault row 0 0 parts) (missing row parts)
