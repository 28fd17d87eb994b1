-- What changes in the tables where an open begins and where it ends (ISO 8571-3, docket; profile), by the fields of its
-- docket, where it is recoverable.
use Rattle.std.specs.Prelude.{List, [], ◌∷◌, Option, None, Some}
use Rattle.vf_tables.specs.declared.change.Change.{Change}
use Rattle.vf_tables.specs.declared.change.Change.TheVariants.{PutDocket, DropDocket}
use Rattle.vf_tables.specs.declared.docket.Regime.{Regime}

abbrev pub put_of : Option Regime → List Change
put_of None = []
put_of (Some fields) = PutDocket fields ∷ []

abbrev pub drop_of : Option Regime → List Change
drop_of None = []
drop_of (Some fields) = DropDocket fields.identity fields.activity ∷ []
