-- What is printed where a store can't be opened or written (profile).
use Rattle.std.specs.Prelude.{◌≡◌, ℕ, List, [], ◌∷◌, ◌++◌, Option, codes, decimal}
use Rattle.vf_cli_printing.specs.Printed.{Prints, Wrote, line_feed}
use Rattle.vf_journal.specs.declared.error.JournalError.{JournalError}
use Rattle.vf_journal.specs.declared.error.JournalError.TheVariants.{NotAStore, Full, DiskFault, NoMemory}

-- the octet at this place isn't that of a store
abbrev pub no_store_line : ℕ → List ℕ
no_store_line place = codes "not a store " ++ decimal place ++ line_feed ∷ []

-- a record would end at this length, past the limit
abbrev pub full_line : (length limit : ℕ) → List ℕ
full_line length limit = codes "journal full " ++ (decimal length ++ (32 ∷ (decimal limit ++ line_feed ∷ [])))

-- of a fault of the disk and of want of memory no line tells
abbrev pub PrintsError : JournalError → ℕ → Option (List ℕ) → Option (List ℕ) → Type 0
PrintsError (NotAStore place found expected) status old new = Prints (4 ∷ 9 ∷ []) (record { octets = no_store_line place; status = 8 }) status old new
PrintsError (Full length limit) status old new = Prints (4 ∷ 9 ∷ []) (record { octets = full_line length limit; status = 12 }) status old new
PrintsError DiskFault status old new = (status ≡ 5) × Wrote [] old new
PrintsError NoMemory status old new = (status ≡ 9) × Wrote [] old new
