-- The fields of changes in a record (profile).
use Rattle.std.specs.Prelude.{ℕ, ◌==◌, Bool, true, false, ◌&&◌, nat_le, nat_lt, List, Option, Some, None, if◌then◌else◌}
use Rattle.std.specs.Int.{w16, w32, w64}
use Rattle.vf_base.specs.Name.{is_name}
use Rattle.vf_base.specs.declared.access.FaduId.{FaduId}
use Rattle.vf_base.specs.declared.access.FaduId.TheVariants.{Begin, End, First, Last, Current, Next, Previous, Number}
use Rattle.vf_base.specs.declared.action.Actions.{Actions}
use Rattle.vf_base.specs.declared.action.Control.{Control}
use Rattle.vf_base.specs.declared.action.Control.TheVariants.{NotRequired, Shared, Exclusive, NoAccess}
use Rattle.vf_base.specs.declared.action.Controls.{Controls}
use Rattle.vf_base.specs.declared.term.Term.{Term}
use Rattle.vf_attr.specs.declared.stamp.Stamp.{Stamp}
use Rattle.vf_store_record.specs.Formats.{Format, number, octet, counted, both, made, shaped, optional, repeated, listed}

-- a text and a string: their octets after their number in two octets or in four
unfoldable pub text : Format (List ℕ)
text = counted w16

unfoldable pub string : Format (List ℕ)
string = counted w32

unfoldable pub number16 : Format ℕ
number16 = number w16

unfoldable pub number32 : Format ℕ
number32 = number w32

unfoldable pub number64 : Format ℕ
number64 = number w64

-- 0 or 1
abbrev pub truth_of : ℕ → Option Bool
truth_of value = if value == 0 then Some false else if value == 1 then Some true else None

abbrev pub truth_number : Bool → ℕ
truth_number false = 0
truth_number true = 1

unfoldable pub truth : Format Bool
truth = made truth_of truth_number octet

abbrev pub name_of : List ℕ → Option (List ℕ)
name_of octets = if is_name octets then Some octets else None

unfoldable pub name : Format (List ℕ)
name = made name_of (λ octets. octets) text

-- a set of actions is an octet
abbrev pub actions_from : ℕ → Actions
actions_from value = record { value = value }

abbrev pub actions_parts : Actions → ℕ
actions_parts set = set.value

unfoldable pub actions : Format Actions
actions = shaped actions_from actions_parts octet

-- not required 0, shared 1, exclusive 2, no access 3
abbrev pub control_of : ℕ → Option Control
control_of value =
    if value == 0 then Some NotRequired else if value == 1 then Some Shared else if value == 2 then Some Exclusive
    else if value == 3 then Some NoAccess else None

abbrev pub control_number : Control → ℕ
control_number NotRequired = 0
control_number Shared = 1
control_number Exclusive = 2
control_number NoAccess = 3

unfoldable pub control : Format Control
control = made control_of control_number octet

-- eight controls
abbrev pub controls_from : List Control → Controls
controls_from each = record { each = each }

abbrev pub controls_parts : Controls → List Control
controls_parts all = all.each

unfoldable pub controls : Format Controls
controls = shaped controls_from controls_parts (repeated 8 control)

-- a number of eight octets with a sign, in two's complement: begin 0, end -1, first -2, last -3, current -4, next -5,
-- previous -6, and the number of a unit, from 1 to 4,294,967,295
abbrev pub fadu_number : FaduId → ℕ
fadu_number Begin = 0
fadu_number End = 18446744073709551615
fadu_number First = 18446744073709551614
fadu_number Last = 18446744073709551613
fadu_number Current = 18446744073709551612
fadu_number Next = 18446744073709551611
fadu_number Previous = 18446744073709551610
fadu_number (Number number) = number

abbrev pub unit_of : ℕ → Option FaduId
unit_of value = if nat_le 1 value && nat_le value 4294967295 then Some (Number value) else None

abbrev pub fadu_of : ℕ → Option FaduId
fadu_of value =
    if value == 0 then Some Begin
    else if value == 18446744073709551615 then Some End
    else if value == 18446744073709551614 then Some First
    else if value == 18446744073709551613 then Some Last
    else if value == 18446744073709551612 then Some Current
    else if value == 18446744073709551611 then Some Next
    else if value == 18446744073709551610 then Some Previous
    else unit_of value

unfoldable pub fadu : Format FaduId
fadu = made fadu_of fadu_number number64

-- seconds before the year 10000
abbrev pub moment_of : ℕ → Option ℕ
moment_of seconds = if nat_lt seconds 253402300800 then Some seconds else None

unfoldable pub moment : Format ℕ
moment = made moment_of (λ seconds. seconds) number64

abbrev pub stamp_from : ℕ × List ℕ → Stamp
stamp_from pair = record { moment = pair.0; identity = pair.1 }

abbrev pub stamp_parts : Stamp → ℕ × List ℕ
stamp_parts value = (value.moment, value.identity)

unfoldable pub stamp : Format Stamp
stamp = shaped stamp_from stamp_parts (both moment name)

unfoldable pub optional_stamp : Format (Option Stamp)
optional_stamp = optional stamp

unfoldable pub optional_name : Format (Option (List ℕ))
optional_name = optional name

unfoldable pub optional_text : Format (Option (List ℕ))
optional_text = optional text

abbrev pub term_from : Option (List ℕ) × (Actions × Option (List ℕ)) → Term
term_from row = record { identity = row.0; actions = row.1.0; password = row.1.1 }

abbrev pub term_parts : Term → Option (List ℕ) × (Actions × Option (List ℕ))
term_parts value = (value.identity, (value.actions, value.password))

unfoldable pub term : Format Term
term = shaped term_from term_parts (both optional_name (both actions optional_text))

unfoldable pub terms : Format (List Term)
terms = listed term
