use Rattle.std.proofs.Common.{◌≡◌, ◌++◌, drop}
use Rattle.vf_tree.specs.FileTree.{strings}
use Rattle.vf_tree.proofs.tree.actions.longer.Given as goal

-- the strings so far and those of the units that are left
abbrev pub invariant-loop-unit : goal.invariant-loop-unit
invariant-loop-unit l = l.all ++ strings (drop l.unit-index l.units) ≡ strings l.units
