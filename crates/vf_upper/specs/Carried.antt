-- Carried values of the code as trees.
use Rattle.vf_ber.specs.Views.{tree_of}
use Rattle.vf_upper.specs.CarriedCode as code
use Rattle.vf_upper.specs.declared.values.CarriedValue.{CarriedValue}

abbrev pub carried_of : CarriedValue → code.Carried
carried_of value = record { context = value.context; tree = tree_of value.value }
