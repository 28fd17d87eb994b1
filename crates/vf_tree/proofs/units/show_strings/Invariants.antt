use Rattle.std.proofs.Common.{◌≡◌, ◌++◌, drop}
use Rattle.vf_tree.specs.FileTree.{strings}
use Rattle.vf_tree.proofs.units.show_strings.Given as goal

-- what is shown so far and the strings of the units that are left
abbrev pub invariant-loop-unit : goal.invariant-loop-unit
invariant-loop-unit l = l.shown.items ++ strings (drop l.unit-index l.units) ≡ l.initial.shown.items ++ strings l.units
