-- What a record of changes makes of tables (profile): each change fits the tables before it, and the tables after all of
-- them are valid.
use Rattle.std.specs.Prelude.{◌≡◌, Bool, true, false, ◌&&◌, List, Option, Some, None, if◌then◌else◌}
use Rattle.vf_tables.specs.declared.change.Change.{Change}
use Rattle.vf_tables.specs.declared.tables.Tables.{Tables}
use Rattle.vf_tables.specs.Changes.{after_all}
use Rattle.vf_tables.specs.Fitting.{all_fit}
use Rattle.vf_tables.specs.Validity.{is_valid}

-- the tables after the changes; none where one doesn't fit
abbrev pub fitted_by : Tables → List Change → Option Tables
fitted_by tables changes = if all_fit tables changes then Some (after_all tables changes) else None

-- the tables that the changes make of these; none where one doesn't fit, or the tables after them aren't valid
abbrev pub made_of : Tables → List Change → Option Tables
made_of tables changes = if all_fit tables changes && is_valid (after_all tables changes) then Some (after_all tables changes) else None

-- these are the tables that changes make, where they are made
abbrev pub MayBeMade : Option Tables → Tables → Bool → Type 0
MayBeMade made now true = made ≡ Some now
MayBeMade made now false = made ≡ None

-- these are the tables that changes make, where they are made; else they stay
abbrev pub IsMade : Option Tables → (old new : Tables) → Bool → Type 0
IsMade made old new true = made ≡ Some new
IsMade made old new false = (made ≡ None) × (new ≡ old)
