use Rattle.std.proofs.Common.{◌≡◌, ◌++◌, drop}
use Rattle.vf_tree.specs.Contexts.{described}
use Rattle.vf_tree.proofs.units.show_described.Given as goal

-- what is shown so far and what the units that are left show
abbrev pub invariant-loop-unit : goal.invariant-loop-unit
invariant-loop-unit l = l.shown.items ++ described (drop l.unit-index l.units) ≡ l.initial.shown.items ++ described l.units
