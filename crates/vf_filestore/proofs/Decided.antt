-- What is granted by rows: none of them applies.
use Rattle.std.proofs.Common.{◌≡◌, ℕ, Bool, true, false, List, ◌∷◌, None, Some, refl}
use Rattle.std.specs.Option.{option_or}
use Rattle.vf_filestore.specs.Decision.{Grants, decided, granted_unless}
use Rattle.vf_filestore.specs.Diagnostics.{Row, first_row, row}
use Rattle.vf_filestore.specs.History.{Given}

pub record AreRowsPassed (rows : List Row) (would given : Given) : Type 0 where
  pub passed : first_row rows ≡ None
  pub is : would ≡ given

pub granted : (one : Row) (would given : Given) → granted_unless one would ≡ Grants given → (one ≡ None) × (would ≡ given)
granted (Some diagnostic) would given is = absurd cc
granted None would given is = (refl, cc)

pub rows_passed : (rows : List Row) (would given : Given) → decided rows would ≡ Grants given → AreRowsPassed rows would given
rows_passed rows would given is = let both = granted (first_row rows) would given is in record { passed = both.0; is = both.1 }

or_parts : (one later : Row) → option_or one later ≡ None → (one ≡ None) × (later ≡ None)
or_parts None later is = (refl, is)
or_parts (Some diagnostic) later is = absurd cc

pub first_passed : (one : Row) (rows : List Row) → first_row (one ∷ rows) ≡ None → one ≡ None
first_passed one rows is = (or_parts one (first_row rows) is).0

pub later_passed : (one : Row) (rows : List Row) → first_row (one ∷ rows) ≡ None → first_row rows ≡ None
later_passed one rows is = (or_parts one (first_row rows) is).1

pub row_passed : (applies : Bool) (number : ℕ) → row applies number ≡ None → applies ≡ false
row_passed true number is = absurd cc
row_passed false number is = refl
