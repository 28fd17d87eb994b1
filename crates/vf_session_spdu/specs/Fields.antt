-- What the parts of an SPDU make of it. They are taken in order, so that of a repeated parameter the last counts and
-- of several faults the first; that a required parameter is missing comes last, the lowest identifier first.
use Rattle.std.specs.Prelude.{ℕ, ◌+◌, ◌*◌, Bool, true, false, ◌&&◌, nat_eq, nat_le, List, [], ◌∷◌, drop, slice_index, find, Option, None, Some, is_none, Result, Ok, Err, if◌then◌else◌, ◌≡◌}
use Rattle.vf_base.specs.declared.spdu_kind.SpduKind.{SpduKind}
use Rattle.vf_session_spdu.specs.declared.errors.SpduError.{SpduError}
use Rattle.vf_session_spdu.specs.declared.errors.SpduError.TheVariants.{Length, Missing, Value, NoMemory}
use Rattle.vf_session_spdu.specs.declared.spdu.Spdu.{Spdu}
use Rattle.vf_session_spdu.specs.declared.spdu.SpduFields.{SpduFields}
use Rattle.vf_session_spdu.specs.declared.table.Form.{Form}
use Rattle.vf_session_spdu.specs.declared.table.Form.TheVariants.{Fixed, Either, Octet, Pair, Digits, Reasoned, AtMost, UserData}
use Rattle.vf_session_spdu.specs.declared.table.Row.{Row}
use Rattle.vf_session_spdu.specs.Numbers.{number, last_serial}
use Rattle.vf_session_spdu.specs.Parts.{Part, parameter, cut}
use Rattle.vf_session_spdu.specs.Table.{rows, row_at, fits}

infixl 10 ◌>>=◌
abbrev pub ◌>>=◌ : {A B : Type 0} → Result A SpduError → (A → Result B SpduError) → Result B SpduError
(Ok x) >>= f = f x
(Err e) >>= f = Err e

abbrev pub no_fields : SpduFields
no_fields = record { given = None; abort = None; units = None; first = None; tokens = None; resync = None; serial = None; reason = None }

-- an SPDU without parameters
abbrev pub bare : SpduKind → Spdu
bare kind = record { kind = kind; fields = no_fields; octets = [] }

abbrev pub with_fields : Spdu → SpduFields → Spdu
with_fields spdu fields = record { kind = spdu.kind; fields = fields; octets = spdu.octets }

abbrev pub with_octets : Spdu → List ℕ → Spdu
with_octets spdu octets = record { kind = spdu.kind; fields = spdu.fields; octets = octets }

-- After the reason 2 of an RF stands its user data; after any other the octets are skipped.
abbrev pub data_after_reason : List ℕ → List ℕ
data_after_reason value = if nat_eq (slice_index value 0) 2 then drop 1 value else []

-- The form tells how a value is read, and the identifier which field it is.
abbrev pub with_octet : ℕ → ℕ → SpduFields → SpduFields
with_octet code n fields =
    if nat_eq code 16 then record fields { given = Some n }
    else if nat_eq code 17 then record fields { abort = Some n }
    else if nat_eq code 26 then record fields { tokens = Some n }
    else if nat_eq code 27 then record fields { resync = Some n }
    else fields

abbrev pub with_number : ℕ → ℕ → SpduFields → SpduFields
with_number code n fields =
    if nat_eq code 23 then record fields { first = Some n }
    else if nat_eq code 42 then record fields { serial = Some n }
    else fields

-- the SPDU with this parameter
abbrev pub with_value : Form → ℕ → List ℕ → Spdu → Spdu
with_value (Fixed octet) code value spdu = with_fields spdu (with_octet code (slice_index value 0) spdu.fields)
with_value (Either first second) code value spdu = with_fields spdu (with_octet code (slice_index value 0) spdu.fields)
with_value Octet code value spdu = with_fields spdu (with_octet code (slice_index value 0) spdu.fields)
with_value Pair code value spdu = with_fields spdu (record spdu.fields { units = Some (slice_index value 0 * 256 + slice_index value 1) })
with_value Digits code value spdu = with_fields spdu (with_number code (number value) spdu.fields)
with_value Reasoned code value spdu =
    with_octets (with_fields spdu (record spdu.fields { reason = Some (slice_index value 0) })) (data_after_reason value)
with_value (AtMost most) code value spdu = with_octets spdu value
with_value UserData code value spdu = with_octets spdu value

-- a parameter by its row, if the SPDU has one
abbrev pub with_row : Option Row → ℕ → List ℕ → Spdu → Result Spdu SpduError
with_row None code value spdu = Ok spdu
with_row (Some row) code value spdu = if fits row.form value then Ok (with_value row.form code value spdu) else Err (Value code)

abbrev pub with_part : Spdu → Part → Result Spdu SpduError
with_part spdu (parameter group code value) = with_row (row_at spdu.kind group code) code value spdu
with_part spdu (cut place) = Err (Length place)

abbrev pub with_parts : Spdu → List Part → Result Spdu SpduError
with_parts spdu [] = Ok spdu
with_parts spdu (part ∷ parts) = with_part spdu part >>= λ spdu. with_parts spdu parts

-- the field of a required parameter is absent
abbrev pub is_absent : SpduFields → ℕ → Bool
is_absent fields code =
    if nat_eq code 20 then is_none fields.units
    else if nat_eq code 27 then is_none fields.resync
    else if nat_eq code 42 then is_none fields.serial
    else if nat_eq code 50 then is_none fields.reason
    else false

-- Where several rows are required, they stand by rising identifier.
abbrev pub missing : Spdu → Option Row
missing spdu = find (λ row. row.required && is_absent spdu.fields row.code) (rows spdu.kind)

abbrev pub complete_by : Spdu → Option Row → Result Spdu SpduError
complete_by spdu None = Ok spdu
complete_by spdu (Some row) = Err (Missing row.code)

abbrev pub complete : Spdu → Result Spdu SpduError
complete spdu = complete_by spdu (missing spdu)

-- What every SPDU that is read has: serial numbers of six digits.
abbrev pub is_serial : Option ℕ → Bool
is_serial None = true
is_serial (Some n) = nat_le n last_serial

pub record IsReadable (spdu : Spdu) : Type 0 where
  pub first : is_serial spdu.fields.first ≡ true
  pub serial : is_serial spdu.fields.serial ≡ true

-- what a reader of the code answered, unless memory was wanting
abbrev pub Fails : {Y : Type 0} → SpduError → Result Y SpduError → Type 0
Fails NoMemory read = Unit {0}
Fails fault read = read ≡ Err fault

abbrev pub Gives : {X Y : Type 0} → (X → Y) → Result X SpduError → Result Y SpduError → Type 0
Gives view (Ok x) read = read ≡ Ok (view x)
Gives view (Err fault) read = Fails fault read
