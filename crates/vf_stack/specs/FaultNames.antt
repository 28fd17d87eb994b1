-- Errors of the code as faults.
use Rattle.std.specs.Prelude.{◌≡◌, Option, None, Some}
use Rattle.vf_ber.specs.Views.{tag_of}
use Rattle.vf_pdu_fields.specs.Fault.{Unknown, Field, Range, Missing}
use Rattle.vf_pdu_fields.specs.declared.errors.PduError.{PduError}
use Rattle.vf_pdu_fields.specs.declared.errors.PduError.TheVariants as errors
use Rattle.vf_stack.specs.Faults.{of_value}
use Rattle.vf_stack.specs.declared.fault.Fault.{Fault}

-- the fault that an error of a value names; none where memory is wanting
abbrev pub NamesValue : PduError → Option Fault → Type 0
NamesValue (errors.Unknown tag) told = told ≡ Some (of_value (Unknown (tag_of tag)))
NamesValue (errors.Field place) told = told ≡ Some (of_value (Field place))
NamesValue (errors.Range field) told = told ≡ Some (of_value (Range field))
NamesValue (errors.Missing field) told = told ≡ Some (of_value (Missing field))
NamesValue errors.NoMemory told = told ≡ None

-- this fault is named, and memory isn't wanting
abbrev pub IsFault : PduError → Option Fault → Type 0
IsFault (errors.Unknown tag) told = told ≡ Some (of_value (Unknown (tag_of tag)))
IsFault (errors.Field place) told = told ≡ Some (of_value (Field place))
IsFault (errors.Range field) told = told ≡ Some (of_value (Range field))
IsFault (errors.Missing field) told = told ≡ Some (of_value (Missing field))
IsFault errors.NoMemory told = ⊥
