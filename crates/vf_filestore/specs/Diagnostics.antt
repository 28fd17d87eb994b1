-- The diagnostics of the filestore (ISO 8571-3, diagnostic; the numbers are profile), and tables of refusals.
use Rattle.std.specs.Prelude.{ℕ, pos, Bool, List, [], ◌∷◌, Option, None, Some, if◌then◌else◌}
use Rattle.std.specs.Option.{option_or}
use Rattle.vf_base.specs.declared.diagnostic.Diagnostic.{Diagnostic}

abbrev pub plain : ℕ → Diagnostic
plain number = record { number = number; first = pos 0; second = pos 0 }

abbrev pub name_unknown : ℕ
name_unknown = 11

abbrev pub name_exists : ℕ
name_exists = 12

abbrev pub not_permitted : ℕ
not_permitted = 13

abbrev pub access_denied : ℕ
access_denied = 14

abbrev pub bad_password : ℕ
bad_password = 15

abbrev pub concurrency_conflict : ℕ
concurrency_conflict = 16

abbrev pub contents_mismatch : ℕ
contents_mismatch = 17

abbrev pub outside_constraint_set : ℕ
outside_constraint_set = 18

abbrev pub fadu_not_found : ℕ
fadu_not_found = 19

abbrev pub bad_context : ℕ
bad_context = 20

abbrev pub bad_element : ℕ
bad_element = 21

abbrev pub element_too_long : ℕ
element_too_long = 22

abbrev pub file_full : ℕ
file_full = 23

abbrev pub store_full : ℕ
store_full = 24

abbrev pub docket_unknown : ℕ
docket_unknown = 27

abbrev pub activity_in_use : ℕ
activity_in_use = 28

abbrev pub wrong_transfer : ℕ
wrong_transfer = 29

abbrev pub below_threshold : ℕ
below_threshold = 30

abbrev pub attribute_unsupported : ℕ
attribute_unsupported = 31

abbrev pub cancelled : ℕ
cancelled = 32

abbrev pub unit_not_agreed : ℕ
unit_not_agreed = 33

abbrev pub file_changed : ℕ
file_changed = 34

abbrev pub too_many_dockets : ℕ
too_many_dockets = 35

abbrev pub not_a_user : ℕ
not_a_user = 36

abbrev pub wrong_regime : ℕ
wrong_regime = 37

-- A refusal is a row of a table: the diagnostic, where its cause applies. The first row that applies decides.
abbrev pub Row : Type 0
Row = Option Diagnostic

abbrev pub row : (applies : Bool) → ℕ → Row
row applies number = if applies then Some (plain number) else None

abbrev pub first_row : List Row → Row
first_row [] = None
first_row (row ∷ rows) = option_or row (first_row rows)

-- the numbers of the aborts (profile)
abbrev pub wrong_state : ℕ
wrong_state = 102

abbrev pub too_long : ℕ
too_long = 104

abbrev pub numbers_spent : ℕ
numbers_spent = 105

abbrev pub superseded : ℕ
superseded = 106
