-- What the calls answer.
use Rattle.std.specs.Prelude.{◌≡◌, Option, Some, Result, Ok, Err}
use Rattle.vf_ber.specs.Views.{tag_of}
use Rattle.vf_pdu_fields.specs.Fault.{Fault, Unknown, Field, Range, Missing}
use Rattle.vf_pdu_fields.specs.declared.errors.PduError.{PduError}
use Rattle.vf_pdu_fields.specs.declared.errors.PduError.TheVariants as errors

-- this error names this fault, where memory is there
abbrev pub Names : PduError → Option Fault → Type 0
Names (errors.Unknown tag) fault = fault ≡ Some (Unknown (tag_of tag))
Names (errors.Field place) fault = fault ≡ Some (Field place)
Names (errors.Range field) fault = fault ≡ Some (Range field)
Names (errors.Missing field) fault = fault ≡ Some (Missing field)
Names errors.NoMemory fault = Unit {0}

-- this is what reading gives, where memory is there
abbrev pub Fails : {Y : Type 0} → PduError → Result Y Fault → Type 0
Fails (errors.Unknown tag) read = read ≡ Err (Unknown (tag_of tag))
Fails (errors.Field place) read = read ≡ Err (Field place)
Fails (errors.Range field) read = read ≡ Err (Range field)
Fails (errors.Missing field) read = read ≡ Err (Missing field)
Fails errors.NoMemory read = Unit {0}

abbrev pub Gives : {X Y : Type 0} → (X → Y) → Result X PduError → Result Y Fault → Type 0
Gives view (Ok x) read = read ≡ Ok (view x)
Gives view (Err error) read = Fails error read
