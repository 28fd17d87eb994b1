-- What the answers of this crate are in the definitions of the filestore.
use Rattle.std.specs.Prelude.{ℕ, Option, None, Some}
use Rattle.vf_filestore.specs.Ending as endings
use Rattle.vf_filestore.specs.History.{Given, Nothing, Refused, Showed, Placed}
use Rattle.vf_regime_effects.specs.declared.ending.Ending.{Ending}
use Rattle.vf_regime_effects.specs.declared.reading.Reading.{Reading}
use Rattle.vf_regime_effects.specs.declared.reading.Reading.TheVariants as readings
use Rattle.vf_regime_effects.specs.declared.requests.Writing.{Writing}
use Rattle.vf_regime_effects.specs.declared.requests.Writing.TheVariants as writings

-- a position, where one is set
abbrev pub placed_at : Option ℕ → Given
placed_at None = Nothing
placed_at (Some position) = Placed position

abbrev pub ending_of : Ending → endings.Ending
ending_of ending = record { refused = ending.refused; given = placed_at ending.position; file = ending.file }

abbrev pub given_of_reading : Reading → Given
given_of_reading (readings.Refused version number) = Refused version number
given_of_reading (readings.Showed version elements position) = Showed version elements.items position

abbrev pub given_of_writing : Writing → Given
given_of_writing (writings.Refused version number) = Refused version number
given_of_writing writings.Granted = Nothing
