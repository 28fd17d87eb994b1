use Rattle.std.proofs.Common.{◌≡◌, take}
use Rattle.vf_tree.proofs.units.copied.Given as goal

abbrev pub invariant-loop-unit : goal.invariant-loop-unit
invariant-loop-unit l = l.made.items ≡ take l.unit-index l.units
