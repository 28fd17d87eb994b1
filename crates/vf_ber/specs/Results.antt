-- What the calls answer.
use Rattle.std.specs.Prelude.{ℕ, Result, Ok, Err, List}
use Rattle.vf_ber.specs.declared.errors.BerError.{BerError}
use Rattle.vf_ber.specs.declared.errors.BerError.TheVariants as ber
use Rattle.vf_ber.specs.declared.value.Value.{Value}
use Rattle.vf_ber.specs.Reading.{IsReading, Read, Short, Bad, Deep, Long}
use Rattle.vf_ber.specs.Views.{tree_of}

-- what is answered is the reading, where memory is there
abbrev pub IsAnswer : Result (Value × ℕ) BerError → List ℕ → Type 0
IsAnswer (Ok read) octets = IsReading octets (Read (tree_of read.0) read.1)
IsAnswer (Err ber.Short) octets = IsReading octets Short
IsAnswer (Err (ber.Bad at)) octets = IsReading octets (Bad at)
IsAnswer (Err (ber.Deep at)) octets = IsReading octets (Deep at)
IsAnswer (Err (ber.Long at)) octets = IsReading octets (Long at)
IsAnswer (Err ber.NoMemory) octets = Unit {0}
