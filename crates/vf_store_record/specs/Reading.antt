-- What a function of reading answers: what the format has, unless memory is wanting.
use Rattle.std.specs.Prelude.{◌≡◌, Option, Some, None, Result, Ok, Err}
use Rattle.vf_store_record.specs.declared.error.ReadError.{ReadError}
use Rattle.vf_store_record.specs.declared.error.ReadError.TheVariants as errors

abbrev pub IsCause : {B : Type 0} → ReadError → Option B → Type 0
IsCause errors.NoMemory read = Unit {0}
IsCause errors.Foreign read = read ≡ None

abbrev pub Gives : {A B : Type 0} → (A → B) → Result A ReadError → Option B → Type 0
Gives seen (Ok found) read = read ≡ Some (seen found)
Gives seen (Err error) read = IsCause error read
