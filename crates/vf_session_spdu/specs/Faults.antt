-- The fault of a TSDU, told from its parts and not by taking them in turn: of one SPDU the first part that is cut off
-- or isn't of its form, else the first row of the table that is required and that no part fills.
use Rattle.std.specs.Prelude.{ℕ, ◌+◌, Bool, true, false, ◌&&◌, List, [], ◌∷◌, length, find, Option, None, Some, Result, Ok, Err, if◌then◌else◌, ◌≡◌}
use Rattle.std.specs.List.{list_any, flat_map}
use Rattle.std.specs.Option.{option_map, option_or}
use Rattle.vf_base.specs.declared.spdu_kind.SpduKind.{SpduKind}
use Rattle.vf_session_spdu.specs.declared.errors.SpduError.{SpduError}
use Rattle.vf_session_spdu.specs.declared.errors.SpduError.TheVariants.{Code, Length, Missing, Value, NoMemory}
use Rattle.vf_session_spdu.specs.declared.table.Row.{Row}
use Rattle.vf_session_spdu.specs.Grammar.{Filled, filled_with, is_of}
use Rattle.vf_session_spdu.specs.Kinds.{first_kind, second_kind}
use Rattle.vf_session_spdu.specs.Parts.{Part, parameter, cut, Measured, short, whole, measured, parts}
use Rattle.vf_session_spdu.specs.Reading.{is_dt, is_gt}
use Rattle.vf_session_spdu.specs.Table.{rows, row_at, fits}

-- ---- one SPDU

-- a parameter that isn't of the form that its row asks for
abbrev pub form_fault : ℕ → List ℕ → Option Row → Option SpduError
form_fault code value None = None
form_fault code value (Some row) = if fits row.form value then None else Some (Value code)

abbrev pub part_fault : SpduKind → Part → Option SpduError
part_fault kind (parameter group code value) = form_fault code value (row_at kind group code)
part_fault kind (cut place) = Some (Length place)

abbrev pub first_fault : SpduKind → List Part → Option SpduError
first_fault kind [] = None
first_fault kind (part ∷ parts) = option_or (part_fault kind part) (first_fault kind parts)

-- the rows that the parts fill
abbrev pub part_filled : SpduKind → Part → List Filled
part_filled kind (parameter group code value) = filled_with value (row_at kind group code)
part_filled kind (cut place) = []

abbrev pub is_lacking : SpduKind → List Part → Row → Bool
is_lacking kind parts row = row.required && (if list_any (is_of row.code) (flat_map (part_filled kind) parts) then false else true)

abbrev pub missing_fault : SpduKind → List Part → Option SpduError
missing_fault kind parts = option_map (λ row. Missing row.code) (find (is_lacking kind parts) (rows kind))

abbrev pub parts_fault : SpduKind → List Part → Option SpduError
parts_fault kind parts = option_or (first_fault kind parts) (missing_fault kind parts)

-- an SPDU whose identifier stands at this place
abbrev pub spdu_fault : SpduKind → ℕ → Measured → Option SpduError
spdu_fault kind place short = Some (Length (place + 1))
spdu_fault kind place (whole spelled value more) = parts_fault kind (parts kind (place + 1 + spelled) value)

-- ---- a TSDU

-- octets after the last SPDU; those after a DT are its data
abbrev pub left_fault : ℕ → List ℕ → Option SpduError
left_fault place [] = None
left_fault place (octet ∷ more) = Some (Length place)

abbrev pub last_left : SpduKind → ℕ → Measured → Option SpduError
last_left kind place short = None
last_left kind place (whole spelled value more) = if is_dt kind then None else left_fault (place + 1 + spelled + length value) more

abbrev pub second_fault_by : ℕ → Option SpduKind → List ℕ → Option SpduError
second_fault_by place None octets = Some (Code place)
second_fault_by place (Some kind) octets = option_or (spdu_fault kind place (measured octets)) (last_left kind place (measured octets))

-- what stands after a GT
abbrev pub second_fault : ℕ → List ℕ → Option SpduError
second_fault place [] = None
second_fault place (code ∷ octets) = second_fault_by place (second_kind code) octets

-- after the first SPDU
abbrev pub first_left : SpduKind → ℕ → Measured → Option SpduError
first_left kind place short = None
first_left kind place (whole spelled value more) =
    if is_gt kind then second_fault (place + 1 + spelled + length value) more else last_left kind place (whole spelled value more)

abbrev pub tsdu_fault_by : Option SpduKind → List ℕ → Option SpduError
tsdu_fault_by None octets = Some (Code 0)
tsdu_fault_by (Some kind) octets = option_or (spdu_fault kind 0 (measured octets)) (first_left kind 0 (measured octets))

abbrev pub tsdu_fault : List ℕ → Option SpduError
tsdu_fault [] = Some (Code 0)
tsdu_fault (code ∷ octets) = tsdu_fault_by (first_kind code) octets

-- What a reader of the code owes of it; memory may be wanting at any fault.
abbrev pub Shows : {A : Type 0} → Result A SpduError → Option SpduError → Type 0
Shows (Ok x) found = found ≡ None
Shows (Err NoMemory) found = Unit {0}
Shows (Err fault) found = found ≡ Some fault
