use Rattle.std.proofs.Common.{◌≡◌, take}
use Rattle.vf_doctype.proofs.units.together.Given as goal

abbrev pub invariant-loop-element : goal.invariant-loop-element
invariant-loop-element l = l.unit ≡ take l.element-index l.elements
