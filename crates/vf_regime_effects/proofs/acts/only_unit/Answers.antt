use Rattle.std.proofs.Common.{◌≡◌, ◌<◌, List, [], ◌∷◌, length, arith}
use Rattle.std.specs.Prelude.{slice_index_or}
use Rattle.vf_filestore.specs.Opening.{only_unit}
use Rattle.vf_tree.specs.FileTree.{DataUnit}
use Rattle.vf_regime_effects.proofs.acts.only_unit.Goals as goal

-- the first unit of some
first_only : (units : List DataUnit) (unit : DataUnit) → 0 < length units → unit ≡ slice_index_or units 0 unit → unit ≡ only_unit units
first_only [] unit some is = absurd (omega arith)
first_only (other ∷ units) unit some is = is

pub returns : goal.returns
returns c = first_only c.args.units.items c.swap_remove.result (omega arith) c.swap_remove.ensures.value
