use Rattle.std.proofs.Common.{◌≡◌, drop}
use Rattle.vf_doctype.specs.Units.{grouped}
use Rattle.vf_doctype.proofs.Groups.{continued}
use Rattle.vf_doctype.proofs.units.apart.Given as goal

-- the groups so far, with those of what is left
abbrev pub invariant-loop-element : goal.invariant-loop-element
invariant-loop-element l = continued l.groups.whole.items l.groups.last (grouped (drop l.element-index l.elements)) ≡ (grouped l.elements).1
