use Rattle.std.proofs.Common.{◌≡◌, ◌++◌, take}
use Rattle.vf_tree.proofs.units.show_unit.Given as goal

abbrev pub invariant-loop-element : goal.invariant-loop-element
invariant-loop-element l = l.shown.items ≡ l.initial.shown.items ++ take l.element-index l.unit
